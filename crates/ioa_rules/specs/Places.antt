-- Statements where they stand: in an entry of an automaton, within loops, beside the names of the source.
use Rattle.std.specs.Prelude.{◌≡◌, ℕ, nat_lt, Bool, true, false, ◌&&◌, List, ◌∷◌, length, Option, Some, Result, Ok, Err}
use Rattle.ioa_value.specs.Actions.{Name}
use Rattle.ioa_value.specs.Table.{Table, contains}
use Rattle.ioa_lex.specs.declared.refusal.Refusal.{Refusal}
use Rattle.ioa_value.specs.declared.limits.TheConstants.{LIMITS}
use Rattle.ioa_tree.specs.Tree.{Expr, Stmt, each, Stmts, Arms, EntryTree, AutomatonTree}
use Rattle.ioa_tree.specs.View.{automaton_of, entry_of}
use Rattle.ioa_tree.specs.WellFormed as well_formed
use Rattle.ioa_tree.specs.WellFormed.{Context}
use Rattle.ioa_rules.specs.declared.statements.Place.{Place}
use Rattle.ioa_rules.specs.KnownTypes as known
use Rattle.ioa_rules.specs.Reasons as reasons
use Rattle.ioa_rules.specs.Reasons.{Reasons, ◌or◌}
use Rattle.ioa_rules.specs.Loops.{loops_of}

abbrev pub whole : Place → Table
whole p = known.whole p.known

abbrev pub early : Place → Table
early p = known.early p.known

abbrev pub globals : Place → List Name
globals p = p.globals.now

abbrev pub machine : Place → AutomatonTree
machine p = automaton_of p.automaton.now

abbrev pub entry : Place → EntryTree
entry p = entry_of p.entry.now

abbrev pub loops : Place → Context
loops p = loops_of p.loops

-- ---- the tests, and why they fail

abbrev pub taken : Place → List Name
taken p = well_formed.taken (whole p) (early p) (globals p) (machine p) (entry p) (loops p)

abbrev pub item_in : Place → Expr → Option ℕ
item_in p v = well_formed.item_in (whole p) (early p) (globals p) (machine p) (entry p) (loops p) v

abbrev pub in_items : Place → Expr → Reasons
in_items p v = reasons.in_items (whole p) (early p) (globals p) (machine p) (entry p) (loops p) v

abbrev pub condition_fine : Place → Expr → Bool
condition_fine p c = well_formed.has_ty (whole p) (early p) (well_formed.scope_in (whole p) (early p) (globals p) (machine p) (entry p) (loops p)) c 0

abbrev pub in_condition : Place → Expr → Reasons
in_condition p c = reasons.in_condition (whole p) (early p) (globals p) (machine p) (entry p) (loops p) c

abbrev pub stmt_fine : Place → Stmt → Bool
stmt_fine p s = well_formed.stmt_fine (whole p) (early p) (globals p) (machine p) (entry p) (loops p) s

abbrev pub in_stmt : Place → Stmt → Reasons
in_stmt p s = reasons.in_stmt (whole p) (early p) (globals p) (machine p) (entry p) (loops p) s

abbrev pub stmts_fine : Place → Stmts → Bool
stmts_fine p ss = well_formed.stmts_fine (whole p) (early p) (globals p) (machine p) (entry p) (loops p) ss

abbrev pub in_stmts : Place → Stmts → Reasons
in_stmts p ss = reasons.in_stmts (whole p) (early p) (globals p) (machine p) (entry p) (loops p) ss

abbrev pub arms_fine : Place → Arms → Bool
arms_fine p arms = well_formed.arms_fine (whole p) (early p) (globals p) (machine p) (entry p) (loops p) arms

abbrev pub in_arms : Place → Arms → Reasons
in_arms p arms = reasons.in_arms (whole p) (early p) (globals p) (machine p) (entry p) (loops p) arms

-- a condition and the statements after it
abbrev pub arm_fine : Place → Expr × Stmts → Bool
arm_fine p a = condition_fine p a.0 && stmts_fine p a.1

abbrev pub in_arm : Place → Expr × Stmts → Reasons
in_arm p a = in_condition p a.0 or in_stmts p a.1

-- ---- within a loop

-- the second place is within one loop more than the first, whose name is new there and stands for items of the type
pub record IsWithin (p inner : Place) (x : Name) (item : ℕ) : Type 0 where
  pub new : contains (taken p) x ≡ false
  pub few : nat_lt (length (loops p)) LIMITS.loops ≡ true
  pub fine : (ss : Stmts) → stmts_fine inner ss ≡ well_formed.stmts_fine (whole p) (early p) (globals p) (machine p) (entry p) ((x, item) ∷ loops p) ss
  pub reasons : (ss : Stmts) (r : Refusal) → in_stmts inner ss r ≡ reasons.in_stmts (whole p) (early p) (globals p) (machine p) (entry p) ((x, item) ∷ loops p) ss r

-- where the statements of a loop stand, or whatever they are, why it is not fine
abbrev pub Enters : Result Place Refusal → Place → Name → Expr → Type 0
Enters (Ok inner) p x v = (item : ℕ) × (item_in p v ≡ Some item) × IsWithin p inner x item
Enters (Err r) p x v = (ss : Stmts) → (in_stmt p (each x v ss) r ≡ true) × (stmt_fine p (each x v ss) ≡ false)
