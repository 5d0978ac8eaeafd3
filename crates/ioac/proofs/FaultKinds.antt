-- What comes of words that are not served, by the kind of their fault.
use Rattle.std.proofs.Common.{◌≡◌, ◌≢◌, ℕ, ◌<◌, List, [], ◌∷◌, length, inl, inr, refl, arith}
use Rattle.clap.specs.declared.error.kind.ErrorKind.{ErrorKind}
use Rattle.clap.specs.declared.error.kind.ErrorKind.TheVariants as kinds
use Rattle.ioa_device.specs.Devices.{Change, Untouched}
use Rattle.ioa_serving.specs.declared.status.Status.{Status}
use Rattle.ioac.specs.Commands.{IsShown, IsUsage, usage_status}
use Rattle.ioac.specs.Telling.{IsShort, IsTold}

-- what holds of help and of the version, of a want of memory, and of each other kind, holds of all
by_kind : (P : ErrorKind → Status → Type 0) (kind : ErrorKind) → P kinds.DisplayHelp Status.Done → P kinds.DisplayVersion Status.Done → P kinds.OutOfMemory Status.Unable
    → ((other : ErrorKind) → other ≢ kinds.OutOfMemory → other ≢ kinds.DisplayHelp → other ≢ kinds.DisplayVersion → P other Status.BadCommandLine) → P kind (usage_status kind)
by_kind P kinds.DisplayHelp help version memory bad = help
by_kind P kinds.DisplayVersion help version memory bad = version
by_kind P kinds.OutOfMemory help version memory bad = memory
by_kind P kinds.InvalidValue help version memory bad = bad kinds.InvalidValue (λ e. cc) (λ e. cc) (λ e. cc)
by_kind P kinds.UnknownArgument help version memory bad = bad kinds.UnknownArgument (λ e. cc) (λ e. cc) (λ e. cc)
by_kind P kinds.InvalidSubcommand help version memory bad = bad kinds.InvalidSubcommand (λ e. cc) (λ e. cc) (λ e. cc)
by_kind P kinds.NoEquals help version memory bad = bad kinds.NoEquals (λ e. cc) (λ e. cc) (λ e. cc)
by_kind P kinds.ValueValidation help version memory bad = bad kinds.ValueValidation (λ e. cc) (λ e. cc) (λ e. cc)
by_kind P kinds.TooManyValues help version memory bad = bad kinds.TooManyValues (λ e. cc) (λ e. cc) (λ e. cc)
by_kind P kinds.TooFewValues help version memory bad = bad kinds.TooFewValues (λ e. cc) (λ e. cc) (λ e. cc)
by_kind P kinds.WrongNumberOfValues help version memory bad = bad kinds.WrongNumberOfValues (λ e. cc) (λ e. cc) (λ e. cc)
by_kind P kinds.ArgumentConflict help version memory bad = bad kinds.ArgumentConflict (λ e. cc) (λ e. cc) (λ e. cc)
by_kind P kinds.MissingRequiredArgument help version memory bad = bad kinds.MissingRequiredArgument (λ e. cc) (λ e. cc) (λ e. cc)
by_kind P kinds.MissingSubcommand help version memory bad = bad kinds.MissingSubcommand (λ e. cc) (λ e. cc) (λ e. cc)
by_kind P kinds.DisplayHelpOnMissingArgumentOrSubcommand help version memory bad = bad kinds.DisplayHelpOnMissingArgumentOrSubcommand (λ e. cc) (λ e. cc) (λ e. cc)
by_kind P kinds.Io help version memory bad = bad kinds.Io (λ e. cc) (λ e. cc) (λ e. cc)
by_kind P kinds.Format help version memory bad = bad kinds.Format (λ e. cc) (λ e. cc) (λ e. cc)

-- memory was short, which is told
pub usage_short : (kind : ErrorKind) (output errors : Change) (status : Status) → Untouched output → IsShort errors status → IsUsage (usage_status kind) output errors status
usage_short kind output errors status untouched short =
    let shown : IsUsage Status.Done output errors status = inr (untouched, short) in
    let any_text : List ℕ = 0 ∷ [] in
    let some : 0 < length any_text = omega arith in
    by_kind (λ k s. IsUsage s output errors status) kind shown shown (untouched, short) (λ k m h v. (untouched, (any_text, some, inr short)))

-- what is wrong is told: of a kind that asks for neither help nor the version
pub usage_told : (kind : ErrorKind) (output errors : Change) (status : Status) (text : List ℕ) → kind ≢ kinds.OutOfMemory → (kind ≢ kinds.DisplayHelp) × (kind ≢ kinds.DisplayVersion)
    → Untouched output → 0 < length text → IsTold text Status.BadCommandLine errors status → IsUsage (usage_status kind) output errors status
usage_told kind output errors status text no_memory faulty untouched some told =
    by_kind (λ k s. k ≢ kinds.OutOfMemory → (k ≢ kinds.DisplayHelp) × (k ≢ kinds.DisplayVersion) → IsUsage s output errors status) kind
    (λ m f. absurd (f.0 refl)) (λ m f. absurd (f.1 refl)) (λ m f. absurd (m refl)) (λ k m h v m' f. (untouched, (text, some, told))) no_memory faulty

-- what a kind asks for that asks for help or the version is shown
pub usage_shown : (kind : ErrorKind) (output errors : Change) (status : Status) (text : List ℕ) → kind ≢ kinds.OutOfMemory → ((kind ≢ kinds.DisplayHelp) × (kind ≢ kinds.DisplayVersion) → ⊥)
    → 0 < length text → IsShown text output errors status → IsUsage (usage_status kind) output errors status
usage_shown kind output errors status text no_memory asks some is_shown =
    let shown : IsUsage Status.Done output errors status = inl (text, some, is_shown) in
    by_kind (λ k s. k ≢ kinds.OutOfMemory → ((k ≢ kinds.DisplayHelp) × (k ≢ kinds.DisplayVersion) → ⊥) → IsUsage s output errors status) kind
    (λ m a. shown) (λ m a. shown) (λ m a. absurd (m refl)) (λ k m h v m' a. absurd (a (h, v))) no_memory asks
