-- The command line that the program reads, in the words of the crate that parses it, and what it asks for.
use Rattle.std.specs.Prelude.{◌≡◌, ◌&&◌, ◌||◌, not, Bool, true, false, is_some, List, [], Option, Some, None, codes}
use Rattle.std.specs.Option.{option_and_then, option_copied, option_map_or}
use Rattle.std.specs.Str.{bytes_eq}
use Rattle.clap.specs.Lexer.{usize_max}
use Rattle.clap.specs.Words.{App, Row, Rule, Text, all_of, fault_of, first_of, new_app, new_rule, subcommand_of, with_rule, with_subcommand}
use Rattle.clap.specs.Simple.{on_top}
use Rattle.clap.specs.declared.builder.action.ArgAction.{ArgAction}
use Rattle.clap.specs.declared.builder.command.Command.{Command}
use Rattle.clap.specs.declared.builder.command.Command.TheViews.{out-Command}
use Rattle.ioa_request.specs.declared.request.Request.{Request}
use Rattle.ioa_request.specs.declared.seeds.Seeds.{Seeds}
use Rattle.ioa_request.specs.declared.selection.Selection.{Selection}
use Rattle.ioa_request.specs.declared.settings.Settings.{Settings}
use Rattle.ioa_request.specs.declared.shown.Shown.{Shown}
use Rattle.ioa_request.specs.Pasted.{IsPasted, texts}
use Rattle.ioa_request.specs.Seeds.{range_in}
use Rattle.ioa_request.specs.Selections.{are_in_order, bound_in, names_in}
use Rattle.ioa_request.specs.Showing.{shown_in}
use Rattle.ioa_request.specs.Settings.{source_in, source_of, turns_in}

-- a word that has to stand; a flag, which is given by its name; and an option, whose name stands before a value
abbrev pub argument_rule : Text → Rule
argument_rule name = record (new_rule name) { required = true }

abbrev pub flag_rule : Text → Rule
flag_rule name = record (new_rule name) { long = Some name; action = Some ArgAction.SetTrue }

abbrev pub option_rule : Text → Rule
option_rule name = record (new_rule name) { long = Some name; value_names = 1 }

-- words that have to stand
abbrev pub file_rule : Rule
file_rule = argument_rule (codes "FILE")

abbrev pub out_rule : Rule
out_rule = argument_rule (codes "OUT")

-- a word that has to stand, and those behind it
abbrev pub text_rule : Rule
text_rule = record (new_rule (codes "TEXT")) { required = true; range = Some (record { start_inclusive = 1; end_inclusive = usize_max }) }

-- `--comp NAME`
abbrev pub comp_rule : Rule
comp_rule = option_rule (codes "comp")

-- `--comp SPEC`, once for each specification, and for one at least
abbrev pub specification_rule : Rule
specification_rule = record (option_rule (codes "comp")) { action = Some ArgAction.Append; required = true }

-- `--first`
abbrev pub first_rule : Rule
first_rule = flag_rule (codes "first")

-- `--strict`
abbrev pub strict_rule : Rule
strict_rule = flag_rule (codes "strict")

-- `--json`
abbrev pub json_rule : Rule
json_rule = flag_rule (codes "json")

-- `--log`
abbrev pub log_rule : Rule
log_rule = flag_rule (codes "log")

-- `--invariants`
abbrev pub invariants_rule : Rule
invariants_rule = flag_rule (codes "invariants")

-- `--compositions`
abbrev pub compositions_rule : Rule
compositions_rule = flag_rule (codes "compositions")

-- `--states`
abbrev pub states_rule : Rule
states_rule = flag_rule (codes "states")

-- `--enabled`
abbrev pub enabled_rule : Rule
enabled_rule = flag_rule (codes "enabled")

-- `--coverage`
abbrev pub coverage_rule : Rule
coverage_rule = flag_rule (codes "coverage")

-- `--until N`
abbrev pub until_rule : Rule
until_rule = option_rule (codes "until")

-- `--from N`
abbrev pub from_rule : Rule
from_rule = option_rule (codes "from")

-- `--to M`
abbrev pub to_rule : Rule
to_rule = option_rule (codes "to")

-- `--without NAME`, once for each name
abbrev pub without_rule : Rule
without_rule = record (option_rule (codes "without")) { action = Some ArgAction.Append }

-- `--alone`
abbrev pub alone_rule : Rule
alone_rule = flag_rule (codes "alone")

-- `--turns N`
abbrev pub turns_rule : Rule
turns_rule = option_rule (codes "turns")

-- `--seed HEX`
abbrev pub seed_rule : Rule
seed_rule = option_rule (codes "seed")

-- `--words WFILE`
abbrev pub words_rule : Rule
words_rule = option_rule (codes "words")

-- `--seeds A..B`
abbrev pub seeds_rule : Rule
seeds_rule = option_rule (codes "seeds")

-- `--monitor SPEC`, once for each specification
abbrev pub monitor_rule : Rule
monitor_rule = record (option_rule (codes "monitor")) { action = Some ArgAction.Append }

-- `--keep KFILE`
abbrev pub keep_rule : Rule
keep_rule = option_rule (codes "keep")

-- `--inputs LFILE`
abbrev pub inputs_rule : Rule
inputs_rule = option_rule (codes "inputs")

-- `--resume RFILE`
abbrev pub resume_rule : Rule
resume_rule = option_rule (codes "resume")

-- `--reports`
abbrev pub reports_rule : Rule
reports_rule = flag_rule (codes "reports")

-- `--explain`
abbrev pub explain_rule : Rule
explain_rule = flag_rule (codes "explain")

abbrev pub check_app : App
check_app = with_rule (with_rule (with_rule (new_app (codes "check")) file_rule) compositions_rule) explain_rule

abbrev pub compile_app : App
compile_app = with_rule (with_rule (with_rule (with_rule (new_app (codes "compile")) file_rule) out_rule) comp_rule) explain_rule

abbrev pub dump_app : App
dump_app = with_rule (with_rule (new_app (codes "dump")) file_rule) explain_rule

abbrev pub explain_app : App
explain_app = with_rule (with_rule (new_app (codes "explain")) text_rule) explain_rule

abbrev pub library_app : App
library_app = with_rule (new_app (codes "library")) explain_rule

abbrev pub replay_app : App
replay_app =
    with_rule (with_rule (with_rule (with_rule (with_rule (with_rule (with_rule (with_rule (with_rule (with_rule (new_app (codes "replay")) file_rule) comp_rule) log_rule) invariants_rule) states_rule) enabled_rule)
    coverage_rule) until_rule) json_rule) explain_rule

abbrev pub log_app : App
log_app = with_rule (with_rule (with_rule (with_rule (with_rule (new_app (codes "log")) file_rule) comp_rule) log_rule) until_rule) explain_rule

abbrev pub monitor_app : App
monitor_app = with_rule (with_rule (with_rule (with_rule (with_rule (new_app (codes "monitor")) file_rule) comp_rule) strict_rule) json_rule) explain_rule

abbrev pub watch_app : App
watch_app = with_rule (with_rule (with_rule (with_rule (with_rule (new_app (codes "watch")) file_rule) specification_rule) first_rule) json_rule) explain_rule

abbrev pub chart_app : App
chart_app =
    with_rule (with_rule (with_rule (with_rule (with_rule (with_rule (new_app (codes "chart")) file_rule) comp_rule) from_rule) to_rule) without_rule) explain_rule

abbrev pub graph_app : App
graph_app = with_rule (with_rule (with_rule (new_app (codes "graph")) file_rule) comp_rule) explain_rule

abbrev pub run_app : App
run_app =
    with_rule (with_rule (with_rule (with_rule (with_rule (with_rule (with_rule (with_rule (with_rule (with_rule (with_rule (with_rule (with_rule (with_rule (with_rule (with_rule (with_rule (new_app (codes "run")) file_rule) comp_rule)
    alone_rule) turns_rule) seed_rule) words_rule) seeds_rule) monitor_rule) invariants_rule) keep_rule) json_rule) inputs_rule) resume_rule) log_rule) reports_rule) coverage_rule) explain_rule

-- a subcommand has to stand; where no word stands, help is given; there is a version, and a subcommand `help` of the crate that parses
abbrev pub bare_app : App
bare_app = on_top (λ top. record top { has_version = true; subcommand_required = true; arg_required_else_help = true }) (new_app (codes "ioac"))

abbrev pub ioac_app : App
ioac_app =
    with_subcommand
    (with_subcommand
    (with_subcommand
    (with_subcommand
    (with_subcommand
    (with_subcommand
    (with_subcommand (with_subcommand (with_subcommand (with_subcommand (with_subcommand (with_subcommand bare_app check_app.top) compile_app.top) dump_app.top) replay_app.top) log_app.top)
    run_app.top)
    monitor_app.top)
    watch_app.top)
    chart_app.top)
    graph_app.top)
    explain_app.top)
    library_app.top

-- no argument is one of the subcommands too
abbrev pub IsLocal : Command → Type 0
IsLocal command = (out-Command command).has_globals ≡ false

-- a flag stands
abbrev pub is_set : Text → List Row → Bool
is_set flag rows = option_map_or (λ value. bytes_eq value (codes "true")) (first_of flag rows) false

-- what comes of a subcommand with its values is to be explained
abbrev pub is_explained : Option (Text × List Row) → Bool
is_explained None = false
is_explained (Some found) = is_set (codes "explain") found.1

-- the bound up to which a list or a log is taken is a number, where one is given
abbrev pub is_bounded : List Row → Bool
is_bounded rows = is_some (bound_in (first_of (codes "until") rows))

-- what a subcommand's values ask to be told of states
abbrev pub shown_by : List Row → Option Shown
shown_by rows = shown_in (is_set (codes "states") rows) (is_set (codes "enabled") rows)

-- a replay's values ask for objects, and to tell of states, of which there are no objects
abbrev pub mixes_json : List Row → Bool
mixes_json rows = is_set (codes "json") rows && (is_set (codes "states") rows || is_set (codes "enabled") rows)

-- it is a replay, of a log or not, asked for invariants or not, to tell this of states, or nothing, and how often entries are performed, or not
abbrev pub IsReplayWith : Bool → Bool → Option Shown → Bool → Text × List Row → Type 0
IsReplayWith log invariants shown coverage found =
    (found.0 ≡ codes "replay") × (is_set (codes "log") found.1 ≡ log) × (is_set (codes "invariants") found.1 ≡ invariants) × (shown_by found.1 ≡ shown)
    × (is_bounded found.1 ≡ true) × (mixes_json found.1 ≡ false) × (is_set (codes "coverage") found.1 ≡ coverage)

-- it writes a log, of a log or of a list
abbrev pub IsLogWith : Bool → Text × List Row → Type 0
IsLogWith log found = (found.0 ≡ codes "log") × (is_set (codes "log") found.1 ≡ log) × (is_bounded found.1 ≡ true)

-- a monitor's values ask it strictly or not, and for an object or not
abbrev pub AreAnswered : Bool → Bool → List Row → Type 0
AreAnswered strict json rows = (is_set (codes "strict") rows ≡ strict) × (is_set (codes "json") rows ≡ json)

-- the file and the composition that a subcommand's values name
abbrev pub Names : List Row → Text → Option Text → Type 0
Names rows file composition = (first_of (codes "FILE") rows ≡ Some file) × (first_of (codes "comp") rows ≡ composition)

-- a run of these settings is what a subcommand's values ask for
pub record AreSettings (rows : List Row) (s : Settings) : Type 0 where
  pub names : Names rows s.file.now (option_copied s.composition)
  pub alone : is_set (codes "alone") rows ≡ s.alone
  pub turns : turns_in (first_of (codes "turns") rows) ≡ Some s.turns
  pub words : source_in (first_of (codes "seed") rows) (first_of (codes "words") rows) ≡ Some (source_of s.words)
  pub inputs : first_of (codes "inputs") rows ≡ option_copied s.inputs
  pub resume : first_of (codes "resume") rows ≡ option_copied s.resume
  pub log : is_set (codes "log") rows ≡ s.log
  pub reports : is_set (codes "reports") rows ≡ s.reports
  pub coverage : is_set (codes "coverage") rows ≡ s.coverage

-- runs by many seeds are asked for, or what they alone have
abbrev pub asks_seeds : List Row → Bool
asks_seeds rows =
    is_some (first_of (codes "seeds") rows) || is_some (first_of (codes "monitor") rows) || is_some (first_of (codes "keep") rows) || is_set (codes "invariants") rows
    || is_set (codes "json") rows

-- the values of an option that may stand several times, or not at all
abbrev pub all_given : Text → List Row → List Text
all_given option rows = option_map_or (λ values. values) (all_of option rows) []

-- the runs are alone, and nothing is asked for that one run has
abbrev pub admits_seeds : List Row → Bool
admits_seeds rows =
    is_set (codes "alone") rows && not (is_set (codes "log") rows) && not (is_set (codes "reports") rows) && not (is_some (first_of (codes "seed") rows))
    && not (is_some (first_of (codes "words") rows)) && not (is_some (first_of (codes "resume") rows))

-- runs of these settings by seeds of these numbers are what a subcommand's values ask for
pub record AreSeeds (rows : List Row) (s : Seeds) : Type 0 where
  pub run : AreSettings rows s.run
  pub admitted : admits_seeds rows ≡ true
  pub range : option_and_then range_in (first_of (codes "seeds") rows) ≡ Some (s.first, s.last)
  pub monitors : all_given (codes "monitor") rows ≡ texts s.monitors.now
  pub invariants : is_set (codes "invariants") rows ≡ s.invariants
  pub json : is_set (codes "json") rows ≡ s.json
  pub keep : first_of (codes "keep") rows ≡ option_copied s.keep

-- the entries of this selection are what a subcommand's values ask for
pub record AreSelected (rows : List Row) (s : Selection) : Type 0 where
  pub from : bound_in (first_of (codes "from") rows) ≡ Some s.from
  pub to : bound_in (first_of (codes "to") rows) ≡ Some s.to
  pub order : are_in_order s.from s.to ≡ true
  pub without : texts s.without.now ≡ names_in (all_of (codes "without") rows)

-- a subcommand with its values, if there is one, asks for this; a replay of a list cannot be asked for invariants, no replay for
-- two of these: invariants, to tell of states, and how often entries are performed; and none for objects and to tell of states
abbrev pub IsAskedBy : Option (Text × List Row) → Request → Type 0
IsAskedBy None request = ⊥
IsAskedBy (Some found) (Request.Replay file composition json) =
    IsReplayWith false false None false found × Names found.1 file.now (option_copied composition) × (is_set (codes "json") found.1 ≡ json)
IsAskedBy (Some found) (Request.ReplayStates file composition shown) =
    IsReplayWith false false (Some shown) false found × Names found.1 file.now (option_copied composition)
IsAskedBy (Some found) (Request.ReplayLog file composition json) =
    IsReplayWith true false None false found × Names found.1 file.now (option_copied composition) × (is_set (codes "json") found.1 ≡ json)
IsAskedBy (Some found) (Request.ReplayLogStates file composition shown) =
    IsReplayWith true false (Some shown) false found × Names found.1 file.now (option_copied composition)
IsAskedBy (Some found) (Request.ReplayInvariants file composition json) =
    IsReplayWith true true None false found × Names found.1 file.now (option_copied composition) × (is_set (codes "json") found.1 ≡ json)
IsAskedBy (Some found) (Request.ReplayCoverage file composition log json) =
    IsReplayWith log false None true found × Names found.1 file.now (option_copied composition) × (is_set (codes "json") found.1 ≡ json)
IsAskedBy (Some found) (Request.Log file composition) = IsLogWith false found × Names found.1 file.now (option_copied composition)
IsAskedBy (Some found) (Request.LogByLog file composition) = IsLogWith true found × Names found.1 file.now (option_copied composition)
IsAskedBy (Some found) (Request.Monitor file composition) =
    (found.0 ≡ codes "monitor") × Names found.1 file.now (option_copied composition) × AreAnswered false false found.1
IsAskedBy (Some found) (Request.MonitorJson file composition) =
    (found.0 ≡ codes "monitor") × Names found.1 file.now (option_copied composition) × AreAnswered false true found.1
IsAskedBy (Some found) (Request.StrictMonitor file composition json) =
    (found.0 ≡ codes "monitor") × Names found.1 file.now (option_copied composition) × AreAnswered true json found.1
IsAskedBy (Some found) (Request.Watch file compositions first counts json) =
    (found.0 ≡ codes "watch") × (first_of (codes "FILE") found.1 ≡ Some file.now) × (all_of (codes "comp") found.1 ≡ Some (texts compositions.now))
    × (is_set (codes "first") found.1 ≡ first) × (is_set (codes "explain") found.1 ≡ counts) × (is_set (codes "json") found.1 ≡ json)
IsAskedBy (Some found) (Request.Chart file composition selection) =
    (found.0 ≡ codes "chart") × Names found.1 file.now (option_copied composition) × AreSelected found.1 selection
IsAskedBy (Some found) (Request.Graph file composition) = (found.0 ≡ codes "graph") × Names found.1 file.now (option_copied composition)
IsAskedBy (Some found) (Request.Run settings) = (found.0 ≡ codes "run") × (asks_seeds found.1 ≡ false) × AreSettings found.1 settings
IsAskedBy (Some found) (Request.Seeds seeds) = (found.0 ≡ codes "run") × AreSeeds found.1 seeds
IsAskedBy (Some found) (Request.Check file compositions) =
    (found.0 ≡ codes "check") × (first_of (codes "FILE") found.1 ≡ Some file.now) × (is_set (codes "compositions") found.1 ≡ compositions)
IsAskedBy (Some found) (Request.Compile file out composition) =
    (found.0 ≡ codes "compile") × Names found.1 file.now (option_copied composition) × (first_of (codes "OUT") found.1 ≡ Some out.now)
IsAskedBy (Some found) (Request.Dump file) = (found.0 ≡ codes "dump") × (first_of (codes "FILE") found.1 ≡ Some file.now)
IsAskedBy (Some found) (Request.Explain topic) =
    (found.0 ≡ codes "explain") × ((words : List Text) × (all_of (codes "TEXT") found.1 ≡ Some words) × IsPasted words topic)
IsAskedBy (Some found) Request.Library = found.0 ≡ codes "library"

-- the words of a command line, the program's own first, have no fault: the program reads each of them, and they ask for no help or version
abbrev pub HasNoFault : List Text → Type 0
HasNoFault words = fault_of ioac_app words ≡ []

-- they ask for this
abbrev pub IsAsked : List Text → Request → Type 0
IsAsked words request = HasNoFault words × IsAskedBy (subcommand_of ioac_app words) request
