-- Streams of lines that are watched: what each line tells, and what is told of the actions.
use Rattle.std.specs.Prelude.{◌≡◌, ◌⊎◌, ◌<◌, ◌++◌, ℕ, ◌+◌, ◌==◌, Bool, true, false, if◌then◌else◌, List, [], ◌∷◌, length, take, Option, Some, None, is_some, IsSome, codes}
use Rattle.std.specs.List.{AllZip, before_first, flat_map, list_all, list_any}
use Rattle.serde_json.specs.Data.{Data}
use Rattle.std.specs.Io.KnownBytes.{Appends}
use Rattle.ioa_value.specs.Actions.{Name, Act}
use Rattle.ioa_value.specs.Lists.{lines}
use Rattle.ioa_value.specs.Reads.{Reads}
use Rattle.ioa_value.specs.Table.{Table, contains}
use Rattle.ioa_tree.specs.Runs.{Ending}
use Rattle.ioa_compile.specs.Programs.{Prog}
use Rattle.ioa_system.specs.Endings.{ending_text}
use Rattle.ioa_device.specs.declared.failure.LogErr.{LogErr}
use Rattle.ioa_json.specs.Says.{IsJson, text_at}
use Rattle.ioa_watch.specs.Json.{ending_json}
use Rattle.ioa_watch.specs.Names.{names_of}
use Rattle.ioa_watch.specs.Watchers.{news, refused_by}

-- ---- lines

-- what stands before the values of an action's text: before its first `(`, all where there is none
abbrev pub before_values : List ℕ → List ℕ
before_values text = before_first (λ b. b == 40) text

-- the action that a text stands for: the one that it reads as; or, where it reads as none, one of its name alone, if that is unknown: whatever
-- its values are
abbrev pub StandsFor : Table → (Name → Bool) → List ℕ → Act → Type 0
StandsFor types known text a =
    Reads types text a ⊎ (((b : Act) → Reads types text b → ⊥) × Reads types (before_values text) a × (known a.name ≡ false))

-- a value with a text `act`, which stands for the action, whatever else it has; or with none, and a text `end`
abbrev pub TellsAct : Table → (Name → Bool) → Data → Act → Type 0
TellsAct types known d a = (text : List ℕ) × (text_at (codes "act") d ≡ Some text) × StandsFor types known text a

abbrev pub TellsEnd : Data → Type 0
TellsEnd d = (text_at (codes "act") d ≡ None) × IsSome (text_at (codes "end") d)

-- the line tells an action; or nothing, as an end's
abbrev pub Tells : Table → (Name → Bool) → List ℕ → List Act → Type 0
Tells types known line [] = (d : Data) × IsJson line d × TellsEnd d
Tells types known line (a ∷ []) = (d : Data) × IsJson line d × TellsAct types known d a
Tells types known line (a ∷ b ∷ acts) = ⊥

-- the line is no JSON text; or it is one, and tells neither
abbrev pub IsNotJson : List ℕ → Type 0
IsNotJson line = (d : Data) → IsJson line d → ⊥

abbrev pub IsNoLine : Table → (Name → Bool) → List ℕ → Type 0
IsNoLine types known line = (d : Data) × IsJson line d × ((a : Act) → TellsAct types known d a → ⊥) × (TellsEnd d → ⊥)

-- ---- what is told

-- a name that some specification has
abbrev pub known_by : List Prog → Name → Bool
known_by ps x = list_any (λ p. contains (names_of p.members) x) ps

-- a line of what a specification tells, told as an object or not
abbrev pub verdict_line : Bool → Name → List ℕ → List ℕ → List ℕ
verdict_line true x text object = codes "{\"specification\":\"" ++ (x ++ (codes "\",\"verdict\":" ++ (object ++ codes "}\n")))
verdict_line false x text object = x ++ (codes ": " ++ (text ++ 10 ∷ []))

abbrev pub refusal_line : Bool → Name → Option Ending → List ℕ
refusal_line json x None = []
refusal_line json x (Some e) = verdict_line json x (ending_text e) (ending_json e)

abbrev pub accepted_line : Bool → Name → Option Ending → List ℕ
accepted_line json x None = verdict_line json x (codes "ok") (codes "\"ok\"")
accepted_line json x (Some e) = []

-- of an action that comes after others: a line of each specification that refuses it
abbrev pub told_at : Bool → List Act → Act → Prog → List ℕ
told_at json before a p = refusal_line json p.name (news (refused_by p before) (refused_by p (before ++ a ∷ [])))

abbrev pub told_from : Bool → List Prog → List Act → List Act → List ℕ
told_from json ps before [] = []
told_from json ps before (a ∷ acts) = flat_map (told_at json before a) ps ++ told_from json ps (before ++ a ∷ []) acts

abbrev pub told : Bool → List Prog → List Act → List ℕ
told json ps acts = told_from json ps [] acts

-- where the stream ends: a line of each that refused nothing
abbrev pub accepted : Bool → List Prog → List Act → List ℕ
accepted json ps acts = flat_map (λ p. accepted_line json p.name (refused_by p acts)) ps

-- nothing more can be told: all refused something, or one did, where the first refusal is enough
abbrev pub is_over : Bool → List Prog → List Act → Bool
is_over first ps acts =
    if first then list_any (λ p. is_some (refused_by p acts)) ps else list_all (λ p. is_some (refused_by p acts)) ps

-- ---- streams

abbrev pub joined : List (List Act) → List Act
joined items = flat_map (λ acts. acts) items

-- these lines came, and tell these actions; before none of them it was over
pub record Came (types : Table) (ps : List Prog) (first : Bool) (ls : List (List ℕ)) (acts : List Act) : Type 0 where
  pub items : List (List Act)
  pub tell : AllZip (Tells types (known_by ps)) ls items
  pub acts_are : acts ≡ joined items
  pub going : (n : ℕ) → n < length ls → is_over first ps (joined (take n items)) ≡ false

-- the stream is watched until it is over, or to its end, and this is told
pub record IsWatched (json : Bool) (types : Table) (ps : List Prog) (first : Bool) (bytes text : List ℕ) (acts : List Act) : Type 0 where
  pub before : List (List ℕ)
  pub after : List (List ℕ)
  pub parted : lines bytes ≡ before ++ after
  pub came : Came types ps first before acts
  pub all : ((is_over first ps acts ≡ true) × (text ≡ told json ps acts)) ⊎ ((is_over first ps acts ≡ false) × (after ≡ []) × (text ≡ told json ps acts ++ accepted json ps acts))

-- the line of this number is read, since it is not over, and this is wrong with it; what is told of those before it is written
pub record IsWrong (json : Bool) (types : Table) (ps : List Prog) (first : Bool) (bytes : List ℕ) (old new : Option (List ℕ)) (wrong : List ℕ → Type 0) (n : ℕ) : Type 0 where
  pub before : List (List ℕ)
  pub line : List ℕ
  pub after : List (List ℕ)
  pub parted : lines bytes ≡ before ++ line ∷ after
  pub acts : List Act
  pub came : Came types ps first before acts
  pub going : is_over first ps acts ≡ false
  pub wrong_is : wrong line
  pub number : n ≡ length before + 1
  pub written : Appends old new (told json ps acts)

-- what is told of some of the lines, and at the end of them all, is written, or a beginning of it
pub record IsBegun (json : Bool) (types : Table) (ps : List Prog) (first : Bool) (bytes : List ℕ) (old new : Option (List ℕ)) : Type 0 where
  pub before : List (List ℕ)
  pub after : List (List ℕ)
  pub parted : lines bytes ≡ before ++ after
  pub acts : List Act
  pub came : Came types ps first before acts
  pub text : List ℕ
  pub text_is : (text ≡ told json ps acts) ⊎ ((is_over first ps acts ≡ false) × (after ≡ []) × (text ≡ told json ps acts ++ accepted json ps acts))
  pub count : ℕ
  pub written : Appends old new (take count text)

-- why no more of the stream is watched, by the error
abbrev pub IsFailed : Bool → Table → List Prog → Bool → List ℕ → Option (List ℕ) → Option (List ℕ) → LogErr → Type 0
IsFailed json types ps first bytes old new (LogErr.NotJson n) = IsWrong json types ps first bytes old new IsNotJson n
IsFailed json types ps first bytes old new (LogErr.BadEntry n) = IsWrong json types ps first bytes old new (IsNoLine types (known_by ps)) n
IsFailed json types ps first bytes old new (LogErr.WrongOwner n) = ⊥
IsFailed json types ps first bytes old new (LogErr.Diverges n) = ⊥
IsFailed json types ps first bytes old new LogErr.NoEnd = ⊥
IsFailed json types ps first bytes old new LogErr.AfterEnd = ⊥
IsFailed json types ps first bytes old new LogErr.Io = IsBegun json types ps first bytes old new
IsFailed json types ps first bytes old new LogErr.OutOfMemory = IsBegun json types ps first bytes old new
