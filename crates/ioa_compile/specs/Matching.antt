-- A table against the automata that it was made from: the same names, types and entries, in the same order.
use Rattle.std.specs.Prelude.{◌≡◌, ℕ, List, Some, IfSome}
use Rattle.std.specs.List.{AllZip}
use Rattle.ioa_value.specs.Plain.{Val}
use Rattle.ioa_value.specs.Table.{Table, type_named}
use Rattle.ioa_value.specs.Typing.{HaveTypes}
use Rattle.ioa_tree.specs.Tree.{FieldTree, EntryTree, TransitionTree}
use Rattle.ioa_tree.specs.Meaning.{Env, eff}
use Rattle.ioa_tree.specs.Instances.{transition_for, environment}
use Rattle.ioa_tree.specs.Domains.{AreDomainsOf}
use Rattle.ioa_tree.specs.Proposing.{Words, proposed}
use Rattle.ioa_tree.specs.WellFormed.{variable_fields}
use Rattle.ioa_tree.specs.Compositions.{Member}
use Rattle.ioa_compile.specs.CodeEnds.{required, GuardEnds, EffectEnds, ProposalEnds}
use Rattle.ioa_compile.specs.Correspondence.{Corresponds}
use Rattle.ioa_compile.specs.Programs.{EntryCode, MemberCode}
use Rattle.ioa_compile.specs.Tables.{position_types}

-- the field's type has this number
abbrev pub IsTypeOf : Table → FieldTree → ℕ → Type 0
IsTypeOf types f n = type_named types f.ty ≡ Some n

abbrev pub AreTypesOf : Table → List FieldTree → List ℕ → Type 0
AreTypesOf types fs ns = AllZip (IsTypeOf types) fs ns

-- The entry of the table has the kind, the name and the positions of the automaton's. On corresponding variables, and
-- values of the positions' types, its parts end as the entry's transition says. Its proposals, which ask for no values, end with
-- what the transition proposes, whatever the words are.
pub record MatchesEntry (m : Member) (e : EntryTree) (c : EntryCode) : Type 0 where
  pub kind : c.kind ≡ e.kind
  pub name : c.name ≡ e.name
  pub positions : AreDomainsOf m.instance e.positions c.positions
  pub transition : TransitionTree
  pub found : transition_for m.instance.automaton e ≡ Some transition
  pub guard : IfSome c.pre (λ p. (env : Env) (slots args : List Val) → Corresponds m.instance env slots → HaveTypes m.instance.types args (position_types c.positions) → GuardEnds p slots args (required m.instance.types transition.pre (environment m.instance e args env)))
  pub propose : IfSome c.propose (λ p. (env : Env) (slots : List Val) (words : Words) → Corresponds m.instance env slots → ProposalEnds p slots words (proposed m.instance e env words 0))
  pub effect : (env : Env) (slots args : List Val) → Corresponds m.instance env slots → HaveTypes m.instance.types args (position_types c.positions) → EffectEnds m.instance c.effect slots args (eff m.instance.types transition.effect (environment m.instance e args env))

-- the component of the table has the name, the types, the types of variables and the entries of the composition's
pub record MatchesMember (m : Member) (c : MemberCode) : Type 0 where
  pub name : c.name ≡ m.name
  pub types : c.start.table ≡ m.instance.types
  pub variables : AreTypesOf m.instance.types (variable_fields m.instance.automaton) c.start.types
  pub entries : AllZip (MatchesEntry m) m.instance.automaton.entries c.entries
