-- What is told on standard error.
use Rattle.std.specs.Prelude.{◌≡◌, ℕ, ◌⊎◌, ◌++◌, ◌∷◌, ◌&&◌, ◌||◌, Bool, if◌then◌else◌, is_some, List, [], Option, Some, None, take, codes}
use Rattle.std.specs.List.{join_by}
use Rattle.std.specs.Option.{option_map_or}
use Rattle.std.specs.Str.{bytes_eq}
use Rattle.clap.specs.Words.{Row, Text, first_of}
use Rattle.ioa_device.specs.Devices.{Change, Failed, Wrote}
use Rattle.ioa_serving.specs.declared.failure.Failure.{Failure}
use Rattle.ioa_serving.specs.declared.status.Status.{Status}
use Rattle.ioa_request.specs.Codes.{all_codes, spelling}
use Rattle.ioa_request.specs.CommandLine.{asks_seeds, is_set, mixes_json}
use Rattle.ioa_serving.specs.Printed.{failure_text}
use Rattle.ioa_request.specs.Seeds.{range_in}
use Rattle.ioa_request.specs.Selections.{bound_in}
use Rattle.ioa_request.specs.Settings.{turns_in}
use Rattle.ioa_serving.specs.Statuses.{failure_status}

-- the device failed, and has taken no more than a beginning of the text
abbrev pub IsCut : List ℕ → Change → Type 0
IsCut text errors = Failed errors × ((k : ℕ) × Wrote errors (take k text))

-- the text is told, and the status is the one that is wanted; or the device failed
abbrev pub IsPut : List ℕ → Status → Change → Status → Type 0
IsPut text wanted errors status = ((status ≡ wanted) × Wrote errors text) ⊎ ((status ≡ Status.Unable) × IsCut text errors)

-- a growth of memory was refused, which is told
abbrev pub IsShort : Change → Status → Type 0
IsShort errors status = IsPut (codes "memory\n") Status.Unable errors status

-- the text is told, or that memory was short to write it
abbrev pub IsTold : List ℕ → Status → Change → Status → Type 0
IsTold text wanted errors status = IsPut text wanted errors status ⊎ IsShort errors status

-- the failure's text is told, on a line, or that memory was short to write it; and after it the workers to which memory was refused
abbrev pub IsReported : Failure → List ℕ → Change → Status → Type 0
IsReported e wants errors status =
    IsPut (failure_text e ++ 10 ∷ wants) (failure_status e) errors status ⊎ IsPut (codes "memory\n" ++ wants) Status.Unable errors status

-- the end of what is told of a command line
abbrev pub try_help : List ℕ
try_help = codes "\n\nFor more information, try '--help'.\n"

-- of words that are no text
abbrev pub unreadable_text : List ℕ
unreadable_text = codes "error: the command line is not UTF-8" ++ try_help

-- all codes, parted by commas
abbrev pub known_codes : List ℕ
known_codes = join_by spelling (codes ", ") all_codes

-- of a word that is none of the codes that are listed, and no beginning of what is printed otherwise
abbrev pub unknown_code_text : Text → List ℕ → List ℕ
unknown_code_text word listed =
    codes "error: invalid value '" ++ (word ++ (codes "' for '<TEXT>...'\n  [possible values: "
    ++ (listed ++ (codes ", fault 1 to fault 5, done, not an action, not enabled, invariant, ok]" ++ try_help))))

-- of invariants that are asked for without a log
abbrev pub missing_log_text : List ℕ
missing_log_text =
    codes "error: the following required arguments were not provided:\n  --log\n\nUsage: ioac replay --log --invariants <FILE>" ++ try_help

-- of invariants that are asked for together with what is told of states
abbrev pub two_questions_text : List ℕ
two_questions_text = codes "error: the argument '--invariants' cannot be used with '--states' or '--enabled'" ++ try_help

-- of how often entries are performed, which is asked for together with invariants or what is told of states
abbrev pub mixed_coverage_text : List ℕ
mixed_coverage_text = codes "error: the argument '--coverage' cannot be used with '--invariants', '--states' or '--enabled'" ++ try_help

-- of objects that are asked for together with what is told of states
abbrev pub mixed_json_text : List ℕ
mixed_json_text = codes "error: the argument '--json' cannot be used with '--states' or '--enabled'" ++ try_help

-- of a value that an option does not take, with what it takes
abbrev pub invalid_value_text : Text → List ℕ → List ℕ → List ℕ
invalid_value_text word option wanted =
    codes "error: invalid value '" ++ (word ++ (codes "' for '" ++ (option ++ (codes "'\n  [wanted: " ++ (wanted ++ (codes "]" ++ try_help))))))

-- what is wanted of a seed, and of turns
abbrev pub seed_wanted : List ℕ
seed_wanted = codes "64 hexadecimal digits"

abbrev pub turns_wanted : List ℕ
turns_wanted = codes "a whole number from 0 to 100000"

-- and of the numbers of seeds
abbrev pub seeds_wanted : List ℕ
seeds_wanted = codes "two whole numbers, the first no greater, as 1..500"

-- of turns that are no number
abbrev pub bad_turns_text : Text → List ℕ
bad_turns_text word = invalid_value_text word (codes "--turns <N>") turns_wanted

-- of words that are given twice
abbrev pub two_sources_text : List ℕ
two_sources_text = codes "error: the argument '--seed <HEX>' cannot be used with '--words <WFILE>'" ++ try_help

-- of a seed that is no key, or that is given together with a file of words
abbrev pub bad_source_text : Option Text → Option Text → List ℕ
bad_source_text None file = two_sources_text
bad_source_text (Some digits) None = invalid_value_text digits (codes "--seed <HEX>") seed_wanted
bad_source_text (Some digits) (Some file) = two_sources_text

-- of turns that are no number, or else of the words' source
abbrev pub bad_settings_text : Option Text → Option Text → Option Text → List ℕ
bad_settings_text None seed file = bad_source_text seed file
bad_settings_text (Some word) seed file =
    if is_some (turns_in (Some word)) then bad_source_text seed file else bad_turns_text word

-- of runs by many seeds, which have not what one run has
abbrev pub misplaced_seeds_text : List ℕ
misplaced_seeds_text =
    codes "error: the argument '--seeds <A..B>' needs '--alone', and cannot be used with '--seed', '--words', '--resume', '--log' or '--reports'" ++ try_help

-- of turns that are no number, or else of what stands with numbers of seeds
abbrev pub bad_seeds_turns_text : Option Text → List ℕ
bad_seeds_turns_text None = misplaced_seeds_text
bad_seeds_turns_text (Some word) = if is_some (turns_in (Some word)) then misplaced_seeds_text else bad_turns_text word

-- of numbers of seeds that are none, or else of what stands with them
abbrev pub bad_seeds_text : Text → Option Text → List ℕ
bad_seeds_text word turns =
    if is_some (range_in word) then bad_seeds_turns_text turns else invalid_value_text word (codes "--seeds <A..B>") seeds_wanted

-- what stands of runs by many seeds without their numbers: specifications, or else invariants, or a file for a log, or objects
abbrev pub seeds_option : List Row → List ℕ
seeds_option rows =
    if is_some (first_of (codes "monitor") rows) then codes "--monitor <SPEC>" else if is_set (codes "invariants") rows then codes "--invariants"
    else if is_some (first_of (codes "keep") rows) then codes "--keep <KFILE>" else codes "--json"

-- of what a single run has not
abbrev pub missing_seeds_text : List Row → List ℕ
missing_seeds_text rows = codes "error: the argument '" ++ (seeds_option rows ++ (codes "' needs '--seeds <A..B>'" ++ try_help))

-- of a run, of runs by many seeds, or of what these alone have
abbrev pub bad_run_text_by : Option Text → List Row → List ℕ
bad_run_text_by None rows =
    if asks_seeds rows then missing_seeds_text rows
    else bad_settings_text (first_of (codes "turns") rows) (first_of (codes "seed") rows) (first_of (codes "words") rows)
bad_run_text_by (Some word) rows = bad_seeds_text word (first_of (codes "turns") rows)

abbrev pub bad_run_text : List Row → List ℕ
bad_run_text rows = bad_run_text_by (first_of (codes "seeds") rows) rows

-- of a last index that is no number, or less than the first
abbrev pub bad_last_text : Option Text → List ℕ
bad_last_text to = invalid_value_text (option_map_or (λ word. word) to []) (codes "--to <M>") (codes "a whole number of 64 bits, no less than N")

-- of bounds of a chart: of a first index that is no number, or else of the last
abbrev pub bad_bounds_text : Option Text → Option Text → List ℕ
bad_bounds_text None to = bad_last_text to
bad_bounds_text (Some word) to =
    if is_some (bound_in (Some word)) then bad_last_text to else invalid_value_text word (codes "--from <N>") (codes "a whole number of 64 bits")

-- invariants are asked for, and to tell of states
abbrev pub asks_both : List Row → Bool
asks_both rows = is_set (codes "invariants") rows && (is_set (codes "states") rows || is_set (codes "enabled") rows)

-- it is asked how often entries are performed, and for invariants or to tell of states
abbrev pub mixes_coverage : List Row → Bool
mixes_coverage rows = is_set (codes "coverage") rows && (is_set (codes "invariants") rows || is_set (codes "states") rows || is_set (codes "enabled") rows)

-- of a replay that is asked for objects and to tell of states, or how often entries are performed and for one of these or for invariants, or for invariants and to
-- tell of states, or of a list for invariants
abbrev pub bad_replay_text : List Row → List ℕ
bad_replay_text rows =
    if mixes_json rows then mixed_json_text else if mixes_coverage rows then mixed_coverage_text else if asks_both rows then two_questions_text else missing_log_text

-- of what there is no explanation of; or without a word, of a replay
abbrev pub bad_request_text : Option Text → List Row → List ℕ
bad_request_text None rows = bad_replay_text rows
bad_request_text (Some word) rows = unknown_code_text word known_codes

-- of a bound up to which a list or a log is taken that is no number, or else of these
abbrev pub bad_taken_text : Option Text → Option Text → List Row → List ℕ
bad_taken_text None first rows = bad_request_text first rows
bad_taken_text (Some word) first rows =
    if is_some (bound_in (Some word)) then bad_request_text first rows else invalid_value_text word (codes "--until <N>") (codes "a whole number of 64 bits")

-- of a command line without a fault that asks for nothing, by its subcommand and the values of this
abbrev pub unasked_text : Option (Text × List Row) → List ℕ
unasked_text None = missing_log_text
unasked_text (Some found) =
    if bytes_eq found.0 (codes "run") then bad_run_text found.1
    else if bytes_eq found.0 (codes "chart") then bad_bounds_text (first_of (codes "from") found.1) (first_of (codes "to") found.1)
    else bad_taken_text (first_of (codes "until") found.1) (first_of (codes "TEXT") found.1) found.1
