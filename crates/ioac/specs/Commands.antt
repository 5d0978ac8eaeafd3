-- What a run of the program comes to: what is asked, what is written, what is told, and the exit status.
use Rattle.std.specs.Prelude.{◌≡◌, ℕ, ◌⊎◌, ◌++◌, ◌∷◌, ◌<◌, ◌≤◌, Bool, true, false, List, [], length, Option, Some, None, IfSome}
use Rattle.clap.specs.Words.{IsAmong, Text, fault_of, subcommand_of}
use Rattle.clap.specs.declared.error.kind.ErrorKind.{ErrorKind}
use Rattle.clap.specs.declared.error.kind.ErrorKind.TheVariants as kinds
use Rattle.ioa_device.specs.Devices.{Change, Failed, Passed, Seen, Untouched, Wrote, onward, until}
use Rattle.ioa_device.specs.declared.failure.LogErr.{LogErr}
use Rattle.ioa_value.specs.Actions.{Name}
use Rattle.ioa_serving.specs.declared.failure.Failure.{Failure}
use Rattle.ioa_request.specs.declared.cut.Cut.{Cut}
use Rattle.ioa_request.specs.declared.request.Request.{Request}
use Rattle.ioa_serving.specs.declared.status.Status.{Status}
use Rattle.ioa_request.specs.CommandLine.{ioac_app, is_explained, HasNoFault, IsAsked}
use Rattle.ioa_request.specs.Cuts.{cut_of}
use Rattle.ioac.specs.Refused.{IsFailureRemark}
use Rattle.ioac.specs.Remarks.{IsRemark}
use Rattle.ioa_serving.specs.Cuts.{cut_text}
use Rattle.ioa_serving.specs.Worlds.{World, world}
use Rattle.ioa_serving.specs.Serving.{IsRunning, IsServed, IsUnserved}
use Rattle.ioac.specs.Telling.{IsCut, IsPut, IsReported, IsShort, IsTold, unasked_text}

-- What is served leaves nothing to tell; or these reports, or the workers to which memory was refused, or both, in this order, whose device may fail.
-- So where nothing is told, memory was refused to no worker.
abbrev pub IsFinished : Option (List ℕ) → List ℕ → Status → Change → Status → Type 0
IsFinished None [] done errors status = (status ≡ done) × Untouched errors
IsFinished None (b ∷ bs) done errors status = IsPut (b ∷ bs) done errors status
IsFinished (Some text) wants done errors status = IsPut (text ++ wants) done errors status

-- a run alone has workers to tell of
abbrev pub AreWantsOf : Request → List ℕ → Type 0
AreWantsOf request wants = (IsRunning request → ⊥) → wants ≡ []

-- the request was served; or why it was not is told
abbrev pub IsAnswered : World → Request → Status → Type 0
IsAnswered w request status =
    (wants : List ℕ) × AreWantsOf request wants
    × (((reports : Option (List ℕ)) × (done : Status) × IsServed w.files request w.input w.output reports wants done
    × IsFinished reports wants done w.errors status)
    ⊎ ((e : Failure) × IsUnserved w.files request w.input w.output wants e × IsReported e wants w.errors status))

-- where memory is short for what there is to say, it is left out
abbrev pub MayRemark : (List ℕ → List ℕ → Type 0) → List ℕ → Type 0
MayRemark remarks text = (text ≡ []) ⊎ ((heard : List ℕ) × remarks heard text)

-- what there is to say of a request that was served to this status, and of one that was not
abbrev pub IsServedRemark : (Name → List ℕ → Type 0) → (Name → Type 0) → Request → Status → List ℕ → Type 0
IsServedRemark holds lacks request done text = MayRemark (λ heard. IsRemark holds lacks request heard done) text

abbrev pub IsUnservedRemark : (Name → List ℕ → Type 0) → (Name → Type 0) → Request → Failure → List ℕ → Type 0
IsUnservedRemark holds lacks request e text = MayRemark (λ heard. IsFailureRemark holds lacks request heard e []) text

-- Such words follow what was told, and the status is still that of the answer; or the device failed then. Where it had failed before, nothing follows.
abbrev pub IsFollowed : (List ℕ → Type 0) → Status → Change → Change → Status → Type 0
IsFollowed remarks answered telling more status =
    (Passed telling × ((text : List ℕ) × remarks text × IsPut text answered more status))
    ⊎ ((Passed telling → ⊥) × (status ≡ answered) × (more.after ≡ more.before))

-- It is answered so. Where an explanation is asked for, it follows what is told without: of the files, as they are held then, and of what was heard of
-- standard input. In between the device of what is told has shown so much.
abbrev pub IsAnsweredAs : Bool → World → Request → Status → Type 0
IsAnsweredAs false w request status = IsAnswered w request status
IsAnsweredAs true w request status =
    (between : Seen) × (answered : Status) × (between.failures ≤ w.errors.after.failures) × (wants : List ℕ) × AreWantsOf request wants
    × (((reports : Option (List ℕ)) × (done : Status) × IsServed w.files request w.input w.output reports wants done
    × IsFinished reports wants done (until w.errors between) answered
    × IsFollowed (IsServedRemark w.files.held w.files.lacked request done) answered (until w.errors between) (onward w.errors between) status)
    ⊎ ((e : Failure) × IsUnserved w.files request w.input w.output wants e
    × IsReported e wants (until w.errors between) answered
    × IsFollowed (IsUnservedRemark w.files.held w.files.lacked request e) answered (until w.errors between) (onward w.errors between) status))

-- ---- what is taken of standard input

-- a text that is at hand, in place of a device: none of its calls fails
abbrev pub at_hand : List ℕ → Option (List ℕ) → Change
at_hand text left = record { before = record { bytes = Some text; failures = 0 }; after = record { bytes = left; failures = 0 } }

-- the request is answered of this text in place of standard input
abbrev pub IsAnsweredOver : List ℕ → Bool → World → Request → Status → Type 0
IsAnsweredOver text explained w request status = (left : Option (List ℕ)) × IsAnsweredAs explained (world w.files (at_hand text left) w.output w.errors) request status

-- why nothing is taken: standard input failed, or memory was short
abbrev pub IsTakingErr : Type 0 → LogErr → Type 0
IsTakingErr failed e = ((e ≡ LogErr.Io) × failed) ⊎ (e ≡ LogErr.OutOfMemory)

-- that is told, and nothing is written
abbrev pub IsUntaken : World → Status → Type 0
IsUntaken w status = Untouched w.output × ((e : LogErr) × IsTakingErr (Failed w.input) e × IsReported (Failure.List e) [] w.errors status)

-- The request is answered of standard input; or, where no more is asked for, of what is taken of it. That is taken first, so that where
-- this fails the files are not read.
abbrev pub IsAnsweredOf : Option Cut → Bool → World → Request → Status → Type 0
IsAnsweredOf None explained w request status = IsAnsweredAs explained w request status
IsAnsweredOf (Some cut) explained w request status =
    ((text : List ℕ) × IfSome w.input.before.bytes (λ xs. text ≡ cut_text cut xs) × IsAnsweredOver text explained w request status) ⊎ IsUntaken w status

-- of a parse that gives no request, by what it tells
abbrev pub usage_status : ErrorKind → Status
usage_status kinds.DisplayHelp = Status.Done
usage_status kinds.DisplayVersion = Status.Done
usage_status kinds.OutOfMemory = Status.Unable
usage_status kinds.InvalidValue = Status.BadCommandLine
usage_status kinds.UnknownArgument = Status.BadCommandLine
usage_status kinds.InvalidSubcommand = Status.BadCommandLine
usage_status kinds.NoEquals = Status.BadCommandLine
usage_status kinds.ValueValidation = Status.BadCommandLine
usage_status kinds.TooManyValues = Status.BadCommandLine
usage_status kinds.TooFewValues = Status.BadCommandLine
usage_status kinds.WrongNumberOfValues = Status.BadCommandLine
usage_status kinds.ArgumentConflict = Status.BadCommandLine
usage_status kinds.MissingRequiredArgument = Status.BadCommandLine
usage_status kinds.MissingSubcommand = Status.BadCommandLine
usage_status kinds.DisplayHelpOnMissingArgumentOrSubcommand = Status.BadCommandLine
usage_status kinds.Io = Status.BadCommandLine
usage_status kinds.Format = Status.BadCommandLine

-- help or the version is written, and nothing is told; or the device failed, which is told
abbrev pub IsShown : List ℕ → Change → Change → Status → Type 0
IsShown text output errors status =
    ((status ≡ Status.Done) × Wrote output text × Untouched errors) ⊎ (IsCut text output × IsReported (Failure.List LogErr.Io) [] errors status)

-- what comes of words that are not served, by the status of their fault: help or the version is written; or what is wrong is told, and
-- nothing is written. Of the words of both it is said only that there are some. Or memory was short, which is told.
abbrev pub IsUsage : Status → Change → Change → Status → Type 0
IsUsage Status.Done output errors status =
    ((text : List ℕ) × (0 < length text) × IsShown text output errors status) ⊎ (Untouched output × IsShort errors status)
IsUsage Status.BadCommandLine output errors status = Untouched output × ((text : List ℕ) × (0 < length text) × IsTold text Status.BadCommandLine errors status)
IsUsage Status.Unable output errors status = Untouched output × IsShort errors status
IsUsage Status.Refused output errors status = ⊥
IsUsage Status.Faulted output errors status = ⊥
IsUsage Status.NotAccepted output errors status = ⊥

-- Nothing is served. The words have a fault, or ask for help or the version, or memory was short while they were read; or they have
-- no fault and ask for nothing, as for a code that is none, for the invariants of a list, or for a run with turns that are no number.
abbrev pub IsUnasked : List Text → Change → Change → Status → Type 0
IsUnasked words output errors status =
    ((kind : ErrorKind) × ((kind ≡ kinds.OutOfMemory) ⊎ IsAmong kind (fault_of ioac_app words)) × IsUsage (usage_status kind) output errors status)
    ⊎ (HasNoFault words × ((request : Request) → IsAsked words request → ⊥) × Untouched output
    × IsTold (unasked_text (subcommand_of ioac_app words)) Status.BadCommandLine errors status)

-- what comes of the words of a command line: they ask for nothing, or the one request that they ask for is answered
abbrev pub IsCommand : List Text → World → Status → Type 0
IsCommand words w status =
    IsUnasked words w.output w.errors status
    ⊎ ((request : Request) × IsAsked words request × IsAnsweredOf (cut_of (subcommand_of ioac_app words)) (is_explained (subcommand_of ioac_app words)) w request status)
