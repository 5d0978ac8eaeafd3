-- What is told of an entry of a log that another worker performs than the log says.
use Rattle.std.specs.Prelude.{◌≡◌, ◌++◌, ◌-◌, ℕ, List, Some, codes, length, slice_get}
use Rattle.std.specs.Fmt.{decimal}
use Rattle.std.specs.Option.{option_map_or}
use Rattle.ioa_value.specs.Actions.{Act, Name}
use Rattle.ioa_value.specs.Written.{written_action}
use Rattle.ioa_compile.specs.Programs.{MemberCode, Prog}
use Rattle.ioa_compile.specs.Tables.{tabled}
use Rattle.ioa_system.specs.Logs.{Logged, worker}
use Rattle.ioa_log.specs.Begun.{IsBegun}

-- the worker of this number: a component, or the environment
abbrev pub performer : List MemberCode → ℕ → Name
performer ms k = option_map_or (λ m. m.name) (slice_get ms k) (codes "the environment")

-- who performs an action, and who the log says
abbrev pub owned_text : List ℕ → Name → ℕ → ℕ → List ℕ
owned_text action name number who = action ++ (codes " is performed by " ++ (name ++ (codes ", worker " ++ (decimal number ++ (codes ", and the log says worker " ++ decimal who)))))

abbrev pub owner_text : Prog → ℕ → Act → List ℕ
owner_text p who a = owned_text (written_action p.types a) (performer p.members (worker (tabled p) a)) (worker (tabled p) a) who

-- of the last of these entries
abbrev pub TellsLast : Prog → List (ℕ × Act) → List ℕ → Type 0
TellsLast p es words = (who : ℕ) × (a : Act) × (slice_get es (length es - 1) ≡ Some (who, a)) × (words ≡ owner_text p who a)

-- of the last entry up to this line
abbrev pub TellsOwner : Prog → List ℕ → ℕ → List ℕ → Type 0
TellsOwner p log n words = (begun : Logged) × IsBegun p.types log n begun × TellsLast p begun.entries words
