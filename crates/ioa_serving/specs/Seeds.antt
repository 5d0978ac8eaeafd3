-- Runs by many seeds: a line for each, as text or as a JSON object, with its end, with what each specification answers to it that is asked, and with the invariant
-- that it breaks; how many ended so, how many each specification does not accept, and how many break an invariant; which log is kept; and why they are not all told.
use Rattle.std.specs.Prelude.{◌≡◌, ◌≤◌, ◌<◌, ◌⊎◌, ◌+◌, ◌-◌, ◌++◌, ◌∷◌, ◌==◌, ◌||◌, not, ℕ, suc, All, Bool, false, true, IfSome, List, [], None, Option, Some, codes, flat_map, if◌then◌else◌, is_some, length, map, replicate, take}
use Rattle.std.specs.Fmt.{decimal}
use Rattle.std.specs.Io.KnownBytes.{Appends, Keeps}
use Rattle.std.specs.List.{AllZip, count_by, join_by, list_any, zip}
use Rattle.std.specs.Option.{option_copied, option_map_or}
use Rattle.ioa_value.specs.Actions.{Act, Name}
use Rattle.ioa_value.specs.Table.{Table}
use Rattle.ioa_tree.specs.Hosts.{Hosted, first_broken_host}
use Rattle.ioa_tree.specs.Invariants.{Broken}
use Rattle.ioa_tree.specs.Runs.{Ending}
use Rattle.ioa_compile.specs.Subjects.{Subject, its_types, of_composition, of_hosts, of_table}
use Rattle.ioa_system.specs.Endings.{ending_text}
use Rattle.ioa_system.specs.Logs.{Logged, actions_of, is_fault}
use Rattle.ioa_device.specs.declared.failure.LogErr.{LogErr}
use Rattle.ioa_monitor.specs.Monitoring.{IsSeen}
use Rattle.ioa_log.specs.LogTexts.{log_text}
use Rattle.ioa_board.specs.declared.report.Report.{Report}
use Rattle.ioa_run.specs.Alone.{NoMemory}
use Rattle.ioa_watch.specs.Json.{ending_json}
use Rattle.ioa_request.specs.Keys.{numbered_digits, numbered_key}
use Rattle.ioa_request.specs.Pasted.{texts}
use Rattle.ioa_request.specs.declared.seeds.Seeds.{Seeds}
use Rattle.ioa_request.specs.declared.settings.Settings.{Settings}
use Rattle.ioa_request.specs.declared.settings.WordsFrom.{WordsFrom}
use Rattle.ioa_serving.specs.declared.failure.Failure.{Failure}
use Rattle.ioa_serving.specs.declared.status.Status.{Status}
use Rattle.ioa_serving.specs.Alone.{CameOf, IsUnrun}
use Rattle.ioa_serving.specs.Coverage.{told_coverage}
use Rattle.ioa_serving.specs.Worlds.{Files}
use Rattle.ioa_serving.specs.Headline.{IsFileOf}
use Rattle.ioa_serving.specs.Json.{answer_json, broken_json}
use Rattle.ioa_serving.specs.Logs.{answer_text, answer_to, broken_words, performed_in}
use Rattle.ioa_serving.specs.Placing.{log_mark}
use Rattle.ioa_serving.specs.Watching.{IsUnwatched}

-- ---- what is written

-- the log of a run, what each specification answers to it, and the first invariant that its states break, if any, where they are asked for
pub record Judged : Type 0 where
  pub log : Logged
  pub answers : List (Option Ending)
  pub inspected : Option (Option Broken)

-- behind an end, the name of a specification and its answer
abbrev pub answer_behind : Name × Option Ending → List ℕ
answer_behind p = codes "; " ++ (p.0 ++ (codes ": " ++ answer_text p.1))

abbrev pub answers_behind : List Name → List (Option Ending) → List ℕ
answers_behind names answers = flat_map answer_behind (zip names answers)

-- behind that, where invariants are asked for, that none is broken, or the first that is
abbrev pub inspected_behind : Option (Option Broken) → List ℕ
inspected_behind None = []
inspected_behind (Some None) = codes "; invariants: ok"
inspected_behind (Some (Some b)) = codes "; " ++ broken_words b

-- a line with the digits of the seed of this number, to be pasted behind `--seed`, the end of its run, the answers of these specifications, and the invariant
abbrev pub seed_words : List Name → ℕ → Judged → List ℕ
seed_words names n j =
    numbered_digits n ++ (codes " end: " ++ (ending_text j.log.ending ++ (answers_behind names j.answers ++ (inspected_behind j.inspected ++ 10 ∷ []))))

-- the name of a specification and its answer, as an object in a row
abbrev pub verdict_object : Name × Option Ending → List ℕ
verdict_object p = codes "{\"specification\":\"" ++ (p.0 ++ (codes "\",\"verdict\":" ++ (answer_json p.1 ++ codes "}")))

-- behind the row, where invariants are asked for, that none is broken, or the first that is
abbrev pub inspected_json : Option (Option Broken) → List ℕ
inspected_json None = []
inspected_json (Some None) = codes ",\"invariants\":{\"verdict\":\"ok\"}"
inspected_json (Some (Some b)) = codes ",\"invariants\":{\"verdict\":" ++ (broken_json b ++ codes "}")

-- the same as an object
abbrev pub seed_object : List Name → ℕ → Judged → List ℕ
seed_object names n j =
    codes "{\"seed\":\"" ++ (numbered_digits n ++ (codes "\",\"end\":" ++ (ending_json j.log.ending ++ (codes ",\"verdicts\":["
    ++ (join_by verdict_object (codes ",") (zip names j.answers) ++ (codes "]" ++ (inspected_json j.inspected ++ codes "}\n")))))))

-- the one or the other
abbrev pub seed_line : Bool → List Name → ℕ → Judged → List ℕ
seed_line false names n j = seed_words names n j
seed_line true names n j = seed_object names n j

-- of runs by seeds with numbers in a row, from this one on
abbrev pub seed_lines : Bool → List Name → ℕ → List Judged → List ℕ
seed_lines json names n [] = []
seed_lines json names n (j ∷ js) = seed_line json names n j ++ seed_lines json names (suc n) js

-- how many ended by a fault, and how many did not
abbrev pub faults_among : List Judged → ℕ
faults_among js = count_by (λ j. is_fault j.log.ending) js

abbrev pub dones_among : List Judged → ℕ
dones_among js = count_by (λ j. not (is_fault j.log.ending)) js

-- how many break an invariant
abbrev pub is_broken : Judged → Bool
is_broken j = option_map_or is_some j.inspected false

abbrev pub broken_among : List Judged → ℕ
broken_among js = count_by is_broken js

-- for each specification a count, which is one more where it does not accept the run
abbrev pub with_refusals : List ℕ → List (Option Ending) → List ℕ
with_refusals [] answers = []
with_refusals (n ∷ ns) [] = n ∷ ns
with_refusals (n ∷ ns) (answer ∷ answers) = (if is_some answer then n + 1 else n) ∷ with_refusals ns answers

abbrev pub refusals_from : List ℕ → List Judged → List ℕ
refusals_from ns [] = ns
refusals_from ns (j ∷ js) = refusals_from (with_refusals ns j.answers) js

-- how many runs each of so many specifications does not accept
abbrev pub refusals_among : ℕ → List Judged → List ℕ
refusals_among specifications js = refusals_from (replicate specifications 0) js

-- behind the counts, the name of a specification and how many runs it does not accept
abbrev pub refusals_behind : Name × ℕ → List ℕ
refusals_behind p = codes "; " ++ (p.0 ++ (codes ": not accepted " ++ decimal p.1))

-- and how many break an invariant, where these are asked for
abbrev pub broken_behind : Bool → ℕ → List ℕ
broken_behind asked n = if asked then codes "; invariants: broken " ++ decimal n else []

-- a line with these counts
abbrev pub counts_words : List Name → Bool → ℕ → ℕ → List ℕ → ℕ → List ℕ
counts_words names asked dones faults refusals broken =
    codes "seeds " ++ (decimal (dones + faults) ++ (codes "; done " ++ (decimal dones ++ (codes "; fault " ++ (decimal faults
    ++ (flat_map refusals_behind (zip names refusals) ++ (broken_behind asked broken ++ 10 ∷ [])))))))

-- the name of a specification and how many runs it does not accept, as an object in a row
abbrev pub refusals_object : Name × ℕ → List ℕ
refusals_object p = codes "{\"specification\":\"" ++ (p.0 ++ (codes "\",\"not accepted\":" ++ (decimal p.1 ++ codes "}")))

-- and behind the row how many break an invariant
abbrev pub broken_count : Bool → ℕ → List ℕ
broken_count asked n = if asked then codes ",\"invariants\":{\"broken\":" ++ (decimal n ++ codes "}") else []

-- the same as an object
abbrev pub counts_object : List Name → Bool → ℕ → ℕ → List ℕ → ℕ → List ℕ
counts_object names asked dones faults refusals broken =
    codes "{\"seeds\":" ++ (decimal (dones + faults) ++ (codes ",\"done\":" ++ (decimal dones ++ (codes ",\"fault\":" ++ (decimal faults ++ (codes ",\"verdicts\":["
    ++ (join_by refusals_object (codes ",") (zip names refusals) ++ (codes "]" ++ (broken_count asked broken ++ codes "}\n")))))))))

-- the one or the other
abbrev pub counts_line : Bool → List Name → Bool → ℕ → ℕ → List ℕ → ℕ → List ℕ
counts_line false names asked dones faults refusals broken = counts_words names asked dones faults refusals broken
counts_line true names asked dones faults refusals broken = counts_object names asked dones faults refusals broken

-- all of it
abbrev pub seeds_text : Bool → List Name → Bool → ℕ → List Judged → List ℕ
seeds_text json names asked n js =
    seed_lines json names n js ++ counts_line json names asked (dones_among js) (faults_among js) (refusals_among (length names) js) (broken_among js)

-- that of a run that is not accepted, or breaks an invariant, or else of one that ended by a fault; where there is neither, all is done
abbrev pub counts_status : ℕ → List ℕ → ℕ → Status
counts_status faults refusals broken =
    if list_any (λ n. not (n == 0)) refusals || not (broken == 0) then Status.NotAccepted else if faults == 0 then Status.Done else Status.Faulted

abbrev pub seeds_status : List Name → List Judged → Status
seeds_status names js = counts_status (faults_among js) (refusals_among (length names) js) (broken_among js)

-- ---- what is run

-- how many seeds there are
abbrev pub seeds_count : Seeds → ℕ
seeds_count s = s.last + 1 - s.first

-- the specifications that are asked
abbrev pub monitors_of : Seeds → List Name
monitors_of s = texts s.monitors.now

-- the single run by the seed of this number, which is on one thread
abbrev pub with_seed : Settings → ℕ → Settings
with_seed s n = record s { alone = true; words = WordsFrom.Key (numbered_key n) }

-- the text is a source, all is seen that the hosts do of its composition of this name, and they answer so to the log, as a monitor does
abbrev pub IsAnswerOf : List ℕ → Logged → Name → Option Ending → Type 0
IsAnswerOf text log name answer = (h : Hosted) × IsFileOf text (Some name) (of_hosts h) × IsSeen h × (answer ≡ answer_to (of_hosts h) log)

-- where invariants are asked for, this is the first that the hosts break in a state of the log's run, as what is found in a replay of the log
abbrev pub IsInspected : Bool → Subject → Logged → Option (Option Broken) → Type 0
IsInspected false x log inspected = inspected ≡ None
IsInspected true (of_hosts h) log inspected = inspected ≡ Some (first_broken_host h (actions_of log))
IsInspected true (of_composition c) log inspected = ⊥
IsInspected true (of_table p) log inspected = ⊥

-- that log is of the single run with this seed, memory was refused to none of its workers, the answers are those of these specifications, and so it is with
-- invariants
pub record IsSeedJudged (holds : Name → List ℕ → Type 0) (s : Settings) (x : Subject) (text : List ℕ) (names : List Name) (asked : Bool) (script : List Act) (n : ℕ) (j : Judged) : Type 0 where
  pub reports : List Report
  pub came : CameOf holds (with_seed s n) x j.log reports
  pub same_script : came.script ≡ script
  pub memory : NoMemory reports
  pub answers : AllZip (IsAnswerOf text j.log) names j.answers
  pub inspected : IsInspected asked x j.log j.inspected

-- so it is of the runs by seeds with numbers in a row, from this one on
abbrev pub AreSeedsJudged : (Name → List ℕ → Type 0) → Settings → Subject → List ℕ → List Name → Bool → List Act → ℕ → List Judged → Type 0
AreSeedsJudged holds s x text names asked script n [] = Unit {0}
AreSeedsJudged holds s x text names asked script n (j ∷ js) =
    IsSeedJudged holds s x text names asked script n j × AreSeedsJudged holds s x text names asked script (suc n) js

-- ---- what is kept

-- one of the specifications does not accept the run, or it breaks an invariant
abbrev pub is_refused : Judged → Bool
is_refused j = list_any is_some j.answers || is_broken j

-- of the runs that are refused the log of this one has the fewest entries, and of those that have as few it is the first
pub record IsShortestRefused (js : List Judged) (log : Logged) : Type 0 where
  pub before : List Judged
  pub judged : Judged
  pub after : List Judged
  pub order : js ≡ before ++ judged ∷ after
  pub is_log : log ≡ judged.log
  pub refused : is_refused judged ≡ true
  pub first : All (λ j. is_refused j ≡ true → length log.entries < length j.log.entries) before
  pub least : All (λ j. is_refused j ≡ true → length log.entries ≤ length j.log.entries) after

-- or none is refused
abbrev pub IsShortest : List Judged → Option Logged → Type 0
IsShortest js None = All (λ j. is_refused j ≡ false) js
IsShortest js (Some log) = IsShortestRefused js log

-- such a log is put in the file that is named, as it is written; where there is none, or no file is named, no file is changed
abbrev pub IsKeptIn : Files → Table → Option Name → Option Logged → Type 0
IsKeptIn f types None shortest = f.kept
IsKeptIn f types (Some out) None = f.kept
IsKeptIn f types (Some out) (Some log) = f.places log_mark out (log_text types log)

-- it is not put there: the file may not be written, or there may stand what does not give way to a log; or memory is short
abbrev pub IsUnkeepable : (Name → Type 0) → Option Name → Failure → Type 0
IsUnkeepable blocks None e = ⊥
IsUnkeepable blocks (Some out) e = ((e ≡ Failure.Io) × blocks out) ⊎ (e ≡ Failure.OutOfMemory)

-- ---- what comes of it

-- what the file may hold is run by seeds with numbers in a row, from the first one on; and what may stand where a log is to be kept gives way to one
pub record AreSown (f : Files) (s : Seeds) (js : List Judged) : Type 0 where
  pub text : List ℕ
  pub held : f.holds s.run.file.now text
  pub subject : Subject
  pub gives : IsFileOf text (option_copied s.run.composition) subject
  pub script : List Act
  pub runs : AreSeedsJudged f.holds s.run subject text (monitors_of s) s.invariants script s.first js
  pub yields : IfSome (option_copied s.keep) (f.yields log_mark)

-- what each of the runs performs
abbrev pub performed_by_all : List Judged → List (List Act)
performed_by_all js = map (λ j. performed_in j.log) js

-- each of the runs is told, in their order, and then how many ended so; and a log is kept; and how often each entry is performed and each arm and body taken in all of
-- them is left to be told, where it is asked for
pub record IsSeedsServed (f : Files) (s : Seeds) (before after : Option (List ℕ)) (telling : Option (List ℕ)) (done : Status) : Type 0 where
  pub judged : List Judged
  pub count : length judged ≡ seeds_count s
  pub sown : AreSown f s judged
  pub output : Appends before after (seeds_text s.json (monitors_of s) s.invariants s.first judged)
  pub shortest : Option Logged
  pub is_shortest : IsShortest judged shortest
  pub keeps : IsKeptIn f (its_types sown.subject) (option_copied s.keep) shortest
  pub told : telling ≡ told_coverage sown.subject s.run.coverage (performed_by_all judged)
  pub status : done ≡ seeds_status (monitors_of s) judged

-- the lines of these runs; or, where they are all that there are, with their counts
abbrev pub IsSeedsText : Seeds → List Judged → List ℕ → Type 0
IsSeedsText s js text =
    (text ≡ seed_lines s.json (monitors_of s) s.first js) ⊎ ((length js ≡ seeds_count s) × (text ≡ seeds_text s.json (monitors_of s) s.invariants s.first js))

-- why they are not all told: the device failed, which has taken a beginning of their lines; or memory was short behind them, or refused to a worker
-- of the next run
abbrev pub IsSeedsCut : Seeds → List Judged → Type 0 → Option (List ℕ) → Option (List ℕ) → Failure → Type 0
IsSeedsCut s js failed before after e =
    ((e ≡ Failure.List LogErr.Io) × failed × ((text : List ℕ) × (k : ℕ) × IsSeedsText s js text × Appends before after (take k text)))
    ⊎ (((e ≡ Failure.List LogErr.OutOfMemory) ⊎ (e ≡ Failure.OutOfMemory)) × Appends before after (seed_lines s.json (monitors_of s) s.first js))

-- the first runs are told, or some of them
pub record AreSeedsCut (f : Files) (s : Seeds) (failed : Type 0) (before after : Option (List ℕ)) (e : Failure) : Type 0 where
  pub judged : List Judged
  pub few : length judged ≤ seeds_count s
  pub sown : AreSown f s judged
  pub cut : IsSeedsCut s judged failed before after e

-- all is told, and there is a log to be kept, which is not put in its file
pub record IsUnkept (f : Files) (s : Seeds) (before after : Option (List ℕ)) (e : Failure) : Type 0 where
  pub judged : List Judged
  pub count : length judged ≡ seeds_count s
  pub sown : AreSown f s judged
  pub output : Appends before after (seeds_text s.json (monitors_of s) s.invariants s.first judged)
  pub shortest : Logged
  pub is_shortest : IsShortestRefused judged shortest
  pub unkeepable : IsUnkeepable (f.blocks log_mark) (option_copied s.keep) e

-- specifications are asked, or invariants, and the file may hold an object; or a source that is refused, or of which one of the names is no specification's
abbrev pub IsUnmonitored : (Name → List ℕ → Type 0) → Seeds → Failure → Type 0
IsUnmonitored holds s e = ((monitors_of s ≡ []) × (s.invariants ≡ false) → ⊥) × ((text : List ℕ) × holds s.run.file.now text × IsUnwatched text (monitors_of s) e)

-- why nothing is run: as no single run is; or specifications or invariants cannot be asked; or no log can be kept
abbrev pub IsUnsown : Files → Seeds → Failure → Type 0
IsUnsown f s e = IsUnrun f.holds f.lacks s.run e ⊎ (IsUnmonitored f.holds s e ⊎ IsUnkeepable (f.blocks log_mark) (option_copied s.keep) e)

-- No file was changed. Nothing was run, and nothing is written; or not all is told; or all is, and the log is not kept.
abbrev pub IsSeedsUnserved : Files → Seeds → Type 0 → Option (List ℕ) → Option (List ℕ) → Failure → Type 0
IsSeedsUnserved f s failed before after e =
    f.kept × ((IsUnsown f s e × Keeps before after) ⊎ (AreSeedsCut f s failed before after e ⊎ IsUnkept f s before after e))
