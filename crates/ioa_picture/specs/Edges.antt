-- What the edges of a graph mean: the actions that a component performs and another one takes.
use Rattle.std.specs.Prelude.{◌≡◌, ◌↔◌, ℕ, true, Option, Some, None, slice_get}
use Rattle.std.specs.List.{Contains}
use Rattle.std.specs.Option.{option_map_or}
use Rattle.ioa_value.specs.Actions.{Act, Name}
use Rattle.ioa_tree.specs.declared.tree.Kind.{Kind}
use Rattle.ioa_tree.specs.declared.tree.Kind.TheVariants.{Input, Output}
use Rattle.ioa_tree.specs.Steps as steps
use Rattle.ioa_compile.specs.Programs.{EntryCode, MemberCode, Prog}
use Rattle.ioa_compile.specs.Tables.{IsProgram, table_component, tabled}
use Rattle.ioa_picture.specs.Graphs.{is_given, takers}

-- the kind that component i has the action as, if it has it
abbrev pub kind_at : Prog → ℕ → Act → Option Kind
kind_at p i a = option_map_or (λ m. (table_component m).kind_of a) (slice_get p.members i) None

-- an action of this name is component i's own, and component j has it as input
pub record Passes (p : Prog) (i : ℕ) (x : Name) (j : ℕ) : Type 0 where
  pub action : Act
  pub named : action.name ≡ x
  pub owned : steps.owner (tabled p) action ≡ Some i
  pub taken : kind_at p j action ≡ Some Input

-- this is an entry of component i, of this kind
pub record IsEntryAt (p : Prog) (i : ℕ) (kind : Kind) (e : EntryCode) : Type 0 where
  pub member : MemberCode
  pub here : slice_get p.members i ≡ Some member
  pub place : ℕ
  pub among : slice_get member.entries place ≡ Some e
  pub is_kind : e.kind ≡ kind

-- the takers of an output of component i are those to which an action of this name passes from it
abbrev pub TakersTake : Type 0
TakersTake = (p : Prog) (i j : ℕ) (e : EntryCode) → IsProgram p → IsEntryAt p i Output e → Contains (takers p e) j ↔ Passes p i e.name j

-- an input of component j is given where an action of this name passes to it from a component
abbrev pub GivenArePassed : Type 0
GivenArePassed = (p : Prog) (j : ℕ) (e : EntryCode) → IsProgram p → IsEntryAt p j Input e → (is_given p e ≡ true) ↔ ((i : ℕ) × Passes p i e.name j)
