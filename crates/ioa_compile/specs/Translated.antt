-- What the compiler makes of an entry and of a component.
use Rattle.std.specs.Prelude.{◌≡◌, ◌≤◌, ◌+◌, ℕ, List, [], ◌∷◌, length, Option, Some, None, IfSome, slice_get}
use Rattle.ioa_value.specs.Table.{Table}
use Rattle.ioa_value.specs.Typing.{OwnTypes}
use Rattle.ioa_code.specs.declared.instr.PartKind.{PartKind}
use Rattle.ioa_code.specs.declared.instr.PartKind.TheVariants.{Pre, Propose, Eff}
use Rattle.ioa_code.specs.Machine.{Listing}
use Rattle.ioa_code.specs.Parts.{IsVerified}
use Rattle.ioa_code.specs.Valid.{Part}
use Rattle.ioa_tree.specs.declared.tree.Kind.{Kind}
use Rattle.ioa_tree.specs.Tree.{Expr, Stmts, PositionTree, EntryTree, ProposalTree, TransitionTree}
use Rattle.ioa_tree.specs.Instances.{transition_for, component_of, state_of}
use Rattle.ioa_tree.specs.Domains.{AreDomainsOf}
use Rattle.ioa_tree.specs.WellFormed.{stmts_nodes}
use Rattle.ioa_tree.specs.Compositions.{Member}
use Rattle.ioa_compile.specs.Matching.{MatchesMember}
use Rattle.ioa_compile.specs.Correspondence.{Corresponds}
use Rattle.ioa_tree.specs.Likes.{IsLike}
use Rattle.ioa_compile.specs.Programs.{EntryCode, MemberCode}
use Rattle.ioa_compile.specs.Tables.{HasLocal, IsMember, table_component, position_types, parameter_types}
use Rattle.ioa_emit.specs.Emitting.{guard_nodes, proposals_nodes}
use Rattle.ioa_emit.specs.Scopes.{Scope, scope_of, scope_of_proposals}
use Rattle.ioa_emit.specs.Placed.{HasGuard, HasStmts, HasProposals}

-- the whole code is the precondition's
pub record IsGuard (code : Listing) (s : Scope) (g : Option Expr) : Type 0 where
  pub has : HasGuard code s g 0 (length code.instrs)
  pub typed : OwnTypes code.types code.consts

-- the whole code is the statements'
pub record IsEffect (code : Listing) (s : Scope) (ts : Stmts) : Type 0 where
  pub has : HasStmts code s ts 0 (length code.instrs)
  pub typed : OwnTypes code.types code.consts

-- the whole code is the proposals'
pub record IsProposing (code : Listing) (s : Scope) (rs : List ProposalTree) (ps : List PositionTree) : Type 0 where
  pub has : HasProposals code s rs ps 0 (length code.instrs)
  pub typed : OwnTypes code.types code.consts

-- an input has no code for a precondition, and none for proposals
abbrev pub IsGuardFor : Kind → Option Listing → Scope → Option Expr → Type 0
IsGuardFor k o s g = HasLocal (λ code. IsGuard code s g) k o

abbrev pub IsProposingFor : Kind → Option Listing → Scope → List ProposalTree → List PositionTree → Type 0
IsProposingFor k o s rs ps = HasLocal (λ code. IsProposing code s rs ps) k o

-- the code of a transition over a scope, and of its proposals over one that they name: all parts carry one table of constants, which
-- has at most one for each node of the trees
pub record IsTransition (e : EntryTree) (s held : Scope) (t : TransitionTree) (guard proposing : Option Listing) (code : Listing) : Type 0 where
  pub pre : IsGuardFor e.kind guard s t.pre
  pub propose : IsProposingFor e.kind proposing held t.proposals e.positions
  pub effect : IsEffect code s t.effect
  pub consts : IfSome guard (λ g. g.consts ≡ code.consts)
  pub same_consts : IfSome proposing (λ p. p.consts ≡ code.consts)
  pub few : length code.consts ≤ guard_nodes t.pre + proposals_nodes t.proposals e.positions + stmts_nodes t.effect

-- the part is verified, over the declared types, for this kind and these types
pub record IsFor (part : Part) (types : Table) (k : PartKind) (end variables values : List ℕ) : Type 0 where
  pub types_are : part.code.types ≡ types
  pub verified : IsVerified part
  pub kind : part.kind ≡ k
  pub result : part.result ≡ end
  pub slots : part.slots ≡ variables
  pub args : part.args ≡ values

abbrev pub codes_of : Option Part → Option Listing
codes_of None = None
codes_of (Some p) = Some p.code

-- the table's entry for an entry, over variables of these types
pub record IsTranslated (m : Member) (slots : List ℕ) (e : EntryTree) (c : EntryCode) : Type 0 where
  pub kind : c.kind ≡ e.kind
  pub name : c.name ≡ e.name
  pub positions : AreDomainsOf m.instance e.positions c.positions
  pub transition : (t : TransitionTree) × (transition_for m.instance.automaton e ≡ Some t) × IsTransition e (scope_of m e) (scope_of_proposals m) t (codes_of c.pre) (codes_of c.propose) c.effect.code
  pub pre : IfSome c.pre (λ p. IsFor p m.instance.types Pre (0 ∷ []) slots (position_types c.positions))
  pub propose : IfSome c.propose (λ p. IsFor p m.instance.types Propose (parameter_types c.positions) slots [])
  pub effect : IsFor c.effect m.instance.types Eff [] slots (position_types c.positions)

-- the entry is one of the automaton's
pub record IsEntryOf (m : Member) (e : EntryTree) : Type 0 where
  pub place : ℕ
  pub here : slice_get m.instance.automaton.entries place ≡ Some e

-- the component of the table is made like the composition's, does the same, starts alike, and is sound
pub record DoesSame (m : Member) (c : MemberCode) : Type 0 where
  pub matches : MatchesMember m c
  pub like : IsLike (Corresponds m.instance) (component_of m.instance) (table_component c)
  pub start : Corresponds m.instance (state_of m.instance.automaton m.starts) c.start.values
  pub sound : IsMember m.instance.types c
