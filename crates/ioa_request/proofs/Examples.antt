-- What some command lines ask for, and the key of a number, computed from the definitions.
use Rattle.std.proofs.Common.{◌≡◌, Bool, true, false, List, [], ◌∷◌, ◌++◌, replicate, Option, Some, None, inl, inr, refl, sym, ◌∙◌, codes, option_map}
use Rattle.clap.specs.Words.{Text, fault_of, all_of, first_of, subcommand_of}
use Rattle.clap.specs.declared.error.kind.ErrorKind.{ErrorKind}
use Rattle.clap.specs.declared.error.kind.ErrorKind.TheVariants as kinds
use Rattle.clap.proofs.OnLiterals.{clap_on_literals}
use Rattle.hex.specs.Hex.{decode_pairs}
use Rattle.std.specs.Fmt.{digits}
use Rattle.ioa_arithmetic.specs.declared.arithmetic.Fault.{Fault}
use Rattle.ioa_request.specs.declared.code.Code.{Code}
use Rattle.ioa_request.specs.declared.cut.Cut.{Cut}
use Rattle.ioa_request.specs.declared.request.Request.{Request}
use Rattle.ioa_request.specs.declared.topic.Topic.{Topic}
use Rattle.ioa_request.specs.CommandLine.{IsAsked, all_given, ioac_app, is_set, mixes_json}
use Rattle.ioa_request.specs.Cuts.{cut_of}
use Rattle.ioa_request.specs.Keys.{numbered_digits, numbered_key}
use Rattle.ioa_request.specs.Pasted.{IsPasted}

-- the command, its file and its composition
asked : List Text → Option (Text × Option Text × Option Text)
asked words = option_map (λ p. (p.0, first_of (codes "FILE") p.1, first_of (codes "comp") p.1)) (subcommand_of ioac_app words)

last_one : asked (codes "ioac" ∷ codes "replay" ∷ codes "f" ∷ []) ≡ Some (codes "replay", Some (codes "f"), None)
unfolding asked clap_on_literals
last_one = refl

named_one : asked (codes "ioac" ∷ codes "replay" ∷ codes "--comp" ∷ codes "One" ∷ codes "f" ∷ []) ≡ Some (codes "replay", Some (codes "f"), Some (codes "One"))
unfolding asked clap_on_literals
named_one = refl

-- the command, and whether its standard input is a log
logged : List Text → Option (Text × Bool)
logged words = option_map (λ p. (p.0, is_set (codes "log") p.1)) (subcommand_of ioac_app words)

a_list : logged (codes "ioac" ∷ codes "replay" ∷ codes "f" ∷ []) ≡ Some (codes "replay", false)
unfolding logged clap_on_literals
a_list = refl

a_log : logged (codes "ioac" ∷ codes "replay" ∷ codes "f" ∷ codes "--log" ∷ []) ≡ Some (codes "replay", true)
unfolding logged clap_on_literals
a_log = refl

-- the command, and whether it is a replay of a log that is asked for invariants
with_invariants : List Text → Option (Text × Bool × Bool)
with_invariants words = option_map (λ p. (p.0, is_set (codes "log") p.1, is_set (codes "invariants") p.1)) (subcommand_of ioac_app words)

invariants_of_a_log : with_invariants (codes "ioac" ∷ codes "replay" ∷ codes "f" ∷ codes "--log" ∷ codes "--invariants" ∷ []) ≡ Some (codes "replay", true, true)
unfolding with_invariants clap_on_literals
invariants_of_a_log = refl

-- which is no fault of the words, and asks for nothing
invariants_of_a_list : with_invariants (codes "ioac" ∷ codes "replay" ∷ codes "f" ∷ codes "--invariants" ∷ []) ≡ Some (codes "replay", false, true)
unfolding with_invariants clap_on_literals
invariants_of_a_list = refl

monitored : asked (codes "ioac" ∷ codes "monitor" ∷ codes "f" ∷ codes "--comp" ∷ codes "Spec" ∷ []) ≡ Some (codes "monitor", Some (codes "f"), Some (codes "Spec"))
unfolding asked clap_on_literals
monitored = refl

-- the flag is none of a monitor's
no_log : fault_of ioac_app (codes "ioac" ∷ codes "monitor" ∷ codes "f" ∷ codes "--log" ∷ []) ≡ kinds.UnknownArgument ∷ []
unfolding clap_on_literals
no_log = refl

help : fault_of ioac_app (codes "ioac" ∷ codes "--help" ∷ []) ≡ kinds.DisplayHelp ∷ []
unfolding clap_on_literals
help = refl

-- it gives help, or refuses what is no command
help_of_a_command : fault_of ioac_app (codes "ioac" ∷ codes "help" ∷ codes "replay" ∷ []) ≡ kinds.DisplayHelp ∷ kinds.InvalidSubcommand ∷ []
unfolding clap_on_literals
help_of_a_command = refl

no_file : fault_of ioac_app (codes "ioac" ∷ codes "replay" ∷ []) ≡ kinds.MissingRequiredArgument ∷ []
unfolding clap_on_literals
no_file = refl

no_fault : fault_of ioac_app (codes "ioac" ∷ codes "replay" ∷ codes "f" ∷ []) ≡ []
unfolding clap_on_literals
no_fault = refl

checked : asked (codes "ioac" ∷ codes "check" ∷ codes "f" ∷ []) ≡ Some (codes "check", Some (codes "f"), None)
unfolding asked clap_on_literals
checked = refl

-- the command, and whether each composition is composed
composed : List Text → Option (Text × Bool)
composed words = option_map (λ p. (p.0, is_set (codes "compositions") p.1)) (subcommand_of ioac_app words)

checked_alone : composed (codes "ioac" ∷ codes "check" ∷ codes "f" ∷ []) ≡ Some (codes "check", false)
unfolding composed clap_on_literals
checked_alone = refl

checked_with_compositions : composed (codes "ioac" ∷ codes "check" ∷ codes "--compositions" ∷ codes "f" ∷ []) ≡ Some (codes "check", true)
unfolding composed clap_on_literals
checked_with_compositions = refl

-- the command, and the file for its object
placed : List Text → Option (Text × Option Text)
placed words = option_map (λ p. (p.0, first_of (codes "OUT") p.1)) (subcommand_of ioac_app words)

compiled : placed (codes "ioac" ∷ codes "compile" ∷ codes "f" ∷ codes "o" ∷ []) ≡ Some (codes "compile", Some (codes "o"))
unfolding placed clap_on_literals
compiled = refl

no_out : fault_of ioac_app (codes "ioac" ∷ codes "compile" ∷ codes "f" ∷ []) ≡ kinds.MissingRequiredArgument ∷ []
unfolding clap_on_literals
no_out = refl

-- the command and the words that are to be explained
pasted : List Text → Option (Text × Option (List Text))
pasted words = option_map (λ p. (p.0, all_of (codes "TEXT") p.1)) (subcommand_of ioac_app words)

explained : pasted (codes "ioac" ∷ codes "explain" ∷ codes "E7" ∷ []) ≡ Some (codes "explain", Some (codes "E7" ∷ []))
unfolding pasted clap_on_literals
explained = refl

explained_in_words : pasted (codes "ioac" ∷ codes "explain" ∷ codes "E7" ∷ codes "line" ∷ codes "3" ∷ [])
    ≡ Some (codes "explain", Some (codes "E7" ∷ codes "line" ∷ codes "3" ∷ []))
unfolding pasted clap_on_literals
explained_in_words = refl

-- what they ask for
a_code : IsPasted (codes "e7" ∷ codes "line" ∷ codes "3" ∷ []) (Topic.Code Code.E7)
a_code = ((codes "e7", Some (codes "line")), refl, inl (Code.E7, refl, refl))

a_fault : IsPasted (codes "end:" ∷ codes "fault" ∷ codes "3" ∷ codes "in" ∷ []) (Topic.Fault Fault.Empty)
a_fault = ((codes "fault", Some (codes "3")), refl, inr refl)

an_end : IsPasted (codes "monitor: not enabled at 11" ∷ []) Topic.NotEnabled
an_end = ((codes "not", Some (codes "enabled")), refl, inr refl)

version : fault_of ioac_app (codes "ioac" ∷ codes "--version" ∷ []) ≡ kinds.DisplayVersion ∷ []
unfolding clap_on_literals
version = refl

-- the version is the program's alone
no_version : fault_of ioac_app (codes "ioac" ∷ codes "check" ∷ codes "--version" ∷ []) ≡ kinds.UnknownArgument ∷ []
unfolding clap_on_literals
no_version = refl

no_code : fault_of ioac_app (codes "ioac" ∷ codes "explain" ∷ []) ≡ kinds.MissingRequiredArgument ∷ []
unfolding clap_on_literals
no_code = refl

-- words with a fault ask for nothing
faulty : (words : List Text) (kind : ErrorKind) → fault_of ioac_app words ≡ kind ∷ [] → (request : Request) → IsAsked words request → ⊥
faulty words kind fault request asks = let z : kind ∷ [] ≡ [] = sym fault ∙ asks.0 in cc

monitored_with_log : (request : Request) → IsAsked (codes "ioac" ∷ codes "monitor" ∷ codes "f" ∷ codes "--log" ∷ []) request → ⊥
monitored_with_log = faulty (codes "ioac" ∷ codes "monitor" ∷ codes "f" ∷ codes "--log" ∷ []) kinds.UnknownArgument no_log

two_files : fault_of ioac_app (codes "ioac" ∷ codes "check" ∷ codes "f" ∷ codes "g" ∷ []) ≡ kinds.UnknownArgument ∷ []
unfolding clap_on_literals
two_files = refl

checked_with_two_files : (request : Request) → IsAsked (codes "ioac" ∷ codes "check" ∷ codes "f" ∷ codes "g" ∷ []) request → ⊥
checked_with_two_files = faulty (codes "ioac" ∷ codes "check" ∷ codes "f" ∷ codes "g" ∷ []) kinds.UnknownArgument two_files

two_compositions : fault_of ioac_app (codes "ioac" ∷ codes "replay" ∷ codes "f" ∷ codes "--comp" ∷ codes "A" ∷ codes "--comp" ∷ codes "B" ∷ []) ≡ kinds.ArgumentConflict ∷ []
unfolding clap_on_literals
two_compositions = refl

replayed_in_two : (request : Request) → IsAsked (codes "ioac" ∷ codes "replay" ∷ codes "f" ∷ codes "--comp" ∷ codes "A" ∷ codes "--comp" ∷ codes "B" ∷ []) request → ⊥
replayed_in_two = faulty (codes "ioac" ∷ codes "replay" ∷ codes "f" ∷ codes "--comp" ∷ codes "A" ∷ codes "--comp" ∷ codes "B" ∷ []) kinds.ArgumentConflict two_compositions

help_beside_file : fault_of ioac_app (codes "ioac" ∷ codes "replay" ∷ codes "f" ∷ codes "--help" ∷ []) ≡ kinds.DisplayHelp ∷ []
unfolding clap_on_literals
help_beside_file = refl

replayed_with_help : (request : Request) → IsAsked (codes "ioac" ∷ codes "replay" ∷ codes "f" ∷ codes "--help" ∷ []) request → ⊥
replayed_with_help = faulty (codes "ioac" ∷ codes "replay" ∷ codes "f" ∷ codes "--help" ∷ []) kinds.DisplayHelp help_beside_file

-- ten as `printf %064d` writes it, and its key, whose last byte has both digits
ten_written : numbered_digits 10 ≡ codes "0000000000000000000000000000000000000000000000000000000000000010"
unfolding numbered_digits digits
ten_written = refl

ten_spelled : numbered_key 10 ≡ replicate 31 0 ++ (16 ∷ [])
unfolding numbered_key numbered_digits digits decode_pairs
ten_spelled = refl

-- the file and the specifications of a watch, and whether the first refusal is enough
watched : List Text → Option (Text × Option Text × Option (List Text) × Bool)
watched words = option_map (λ p. (p.0, first_of (codes "FILE") p.1, all_of (codes "comp") p.1, is_set (codes "first") p.1)) (subcommand_of ioac_app words)

watched_by_two :
    watched (codes "ioac" ∷ codes "watch" ∷ codes "f" ∷ codes "--comp" ∷ codes "A" ∷ codes "--first" ∷ codes "--comp" ∷ codes "B" ∷ [])
    ≡ Some (codes "watch", Some (codes "f"), Some (codes "A" ∷ codes "B" ∷ []), true)
unfolding watched clap_on_literals
watched_by_two = refl

two_specifications : fault_of ioac_app (codes "ioac" ∷ codes "watch" ∷ codes "f" ∷ codes "--comp" ∷ codes "A" ∷ codes "--comp" ∷ codes "B" ∷ []) ≡ []
unfolding clap_on_literals
two_specifications = refl

-- without a specification nothing is watched
watched_by_none : fault_of ioac_app (codes "ioac" ∷ codes "watch" ∷ codes "f" ∷ []) ≡ kinds.MissingRequiredArgument ∷ []
unfolding clap_on_literals
watched_by_none = refl

-- how much is taken of a list, of a log, and where no bound is given
taken : List Text → Option Cut
taken words = cut_of (subcommand_of ioac_app words)

part_of_a_list : taken (codes "ioac" ∷ codes "replay" ∷ codes "f" ∷ codes "--until" ∷ codes "12" ∷ []) ≡ Some (Cut.List 12)
unfolding taken clap_on_literals
part_of_a_list = refl

part_of_a_log : taken (codes "ioac" ∷ codes "log" ∷ codes "--until" ∷ codes "0" ∷ codes "--log" ∷ codes "f" ∷ []) ≡ Some (Cut.Log 0)
unfolding taken clap_on_literals
part_of_a_log = refl

all_of_a_log : taken (codes "ioac" ∷ codes "replay" ∷ codes "--log" ∷ codes "f" ∷ []) ≡ None
unfolding taken clap_on_literals
all_of_a_log = refl

-- the bounds of a chart and the names that it leaves out, as they are spelled
charted : List Text → Option (Text × Option Text × Option Text × Option (List Text))
charted words = option_map (λ p. (p.0, first_of (codes "from") p.1, first_of (codes "to") p.1, all_of (codes "without") p.1)) (subcommand_of ioac_app words)

charted_between :
    charted (codes "ioac" ∷ codes "chart" ∷ codes "f" ∷ codes "--from" ∷ codes "2" ∷ codes "--without" ∷ codes "a" ∷ codes "--to" ∷ codes "9" ∷ codes "--without" ∷ codes "b" ∷ [])
    ≡ Some (codes "chart", Some (codes "2"), Some (codes "9"), Some (codes "a" ∷ codes "b" ∷ []))
unfolding charted clap_on_literals
charted_between = refl

charted_whole : charted (codes "ioac" ∷ codes "chart" ∷ codes "f" ∷ []) ≡ Some (codes "chart", None, None, None)
unfolding charted clap_on_literals
charted_whole = refl

-- the numbers of the seeds of many runs, and their specifications, of which there may be none
sown : List Text → Option (Option Text × List Text)
sown words = option_map (λ p. (first_of (codes "seeds") p.1, all_given (codes "monitor") p.1)) (subcommand_of ioac_app words)

sown_by_two :
    sown (codes "ioac" ∷ codes "run" ∷ codes "f" ∷ codes "--seeds" ∷ codes "1..9" ∷ codes "--monitor" ∷ codes "A" ∷ codes "--alone" ∷ codes "--monitor" ∷ codes "B" ∷ [])
    ≡ Some (Some (codes "1..9"), codes "A" ∷ codes "B" ∷ [])
unfolding sown clap_on_literals
sown_by_two = refl

sown_by_none : sown (codes "ioac" ∷ codes "run" ∷ codes "f" ∷ codes "--alone" ∷ codes "--seeds" ∷ codes "1..9" ∷ []) ≡ Some (Some (codes "1..9"), [])
unfolding sown clap_on_literals
sown_by_none = refl

-- the file for the shortest log of runs by many seeds, which may be missing
kept : List Text → Option (Option Text)
kept words = option_map (λ p. first_of (codes "keep") p.1) (subcommand_of ioac_app words)

kept_in_a_file : kept (codes "ioac" ∷ codes "run" ∷ codes "f" ∷ codes "--seeds" ∷ codes "1..9" ∷ codes "--keep" ∷ codes "k" ∷ codes "--alone" ∷ []) ≡ Some (Some (codes "k"))
unfolding kept clap_on_literals
kept_in_a_file = refl

kept_nowhere : kept (codes "ioac" ∷ codes "run" ∷ codes "f" ∷ codes "--alone" ∷ codes "--seeds" ∷ codes "1..9" ∷ []) ≡ Some None
unfolding kept clap_on_literals
kept_nowhere = refl

-- whether a monitor is asked strictly, and for an object
answered_by : List Text → Option (Option Text × Bool × Bool)
answered_by words = option_map (λ p. (first_of (codes "FILE") p.1, is_set (codes "strict") p.1, is_set (codes "json") p.1)) (subcommand_of ioac_app words)

strict_alone : answered_by (codes "ioac" ∷ codes "monitor" ∷ codes "--strict" ∷ codes "f" ∷ []) ≡ Some (Some (codes "f"), true, false)
unfolding answered_by clap_on_literals
strict_alone = refl

object_alone : answered_by (codes "ioac" ∷ codes "monitor" ∷ codes "f" ∷ codes "--json" ∷ []) ≡ Some (Some (codes "f"), false, true)
unfolding answered_by clap_on_literals
object_alone = refl

-- whether a replay is asked for objects, and for what has none
objects_with : List Text → Option (Bool × Bool)
objects_with words = option_map (λ p. (is_set (codes "json") p.1, mixes_json p.1)) (subcommand_of ioac_app words)

objects_of_a_log : objects_with (codes "ioac" ∷ codes "replay" ∷ codes "--log" ∷ codes "f" ∷ codes "--json" ∷ []) ≡ Some (true, false)
unfolding objects_with clap_on_literals
objects_of_a_log = refl

objects_of_states : objects_with (codes "ioac" ∷ codes "replay" ∷ codes "--json" ∷ codes "--states" ∷ codes "f" ∷ []) ≡ Some (true, true)
unfolding objects_with clap_on_literals
objects_of_states = refl
