-- Code is no longer than a number for each node of the trees that it is made from.
use Rattle.std.proofs.Common.{◌≡◌, ℕ, ◌+◌, ◌*◌, ◌≤◌, Bool, true, false, cond, not, IsTrue, List, [], ◌∷◌, length, map, Option, Some, refl, sym, ap, ◌∙◌, arith}
use Rattle.std.specs.Prelude.{sum}
use Rattle.std.specs.Str.{bytes_eq}
use Rattle.std.proofs.lemmas.Bool.{and_parts, or_parts}
use Rattle.std.proofs.lemmas.List.Sums.{sum-map, sum_by-cons}
use Rattle.ioa_value.specs.Actions.{Name}
use Rattle.ioa_value.proofs.NameLemmas.{same_name}
use Rattle.ioa_code.specs.Machine.{Listing}
use Rattle.ioa_tree.specs.Tree.{Expr, Stmts, PositionTree, typed, only, expr_in, ProposalTree}
use Rattle.ioa_tree.specs.Instances.{field_names, position_fields}
use Rattle.ioa_tree.specs.WellFormed.{nodes, stmts_nodes, contains, distinct}
use Rattle.ioa_emit.specs.Scopes.{Scope, proposal_for}
use Rattle.ioa_emit.specs.Placed.{HasGuard, HasStmts, HasProposals}
use Rattle.ioa_emit.specs.Emitting.{guard_nodes, proposal_nodes, proposals_nodes}
use Rattle.ioa_emit.proofs.Lengths.{guard_long, guard_small, stmts_long, stmts_small, proposals_long, proposals_small}
use Rattle.ioa_compile.proofs.Looks.{name_same, not_true}

module _ (code : Listing) (s : Scope) where
  pub guard_short : (g : Option Expr) (p q : ℕ) → HasGuard code s g p q → q ≤ p + 4 * guard_nodes g
  guard_short g p q h = omega (arith, guard_long code s g p q h, guard_small g)

  pub stmts_short : (ts : Stmts) (p q : ℕ) → HasStmts code s ts p q → q ≤ p + 4 * stmts_nodes ts
  stmts_short ts p q h = omega (arith, stmts_long code s ts p q h, stmts_small ts)

  pub proposals_short : (rs : List ProposalTree) (ps : List PositionTree) (p q : ℕ) → HasProposals code s rs ps p q → q ≤ p + (4 * proposals_nodes rs ps + length ps)
  proposals_short rs ps p q h = omega (arith, proposals_long code s rs ps p q h, proposals_small rs ps)

-- ---- parameters of different names have no proposal in common

abbrev cost : ProposalTree → ℕ
cost r = nodes (expr_in r.choice)

none_cost : (ps : List PositionTree) → proposals_nodes [] ps ≡ 0
none_cost [] = refl
none_cost (typed f ∷ ps) = omega (arith, none_cost ps)
none_cost (only c ∷ ps) = none_cost ps

-- a proposal for none of the parameters
other_cost : (r : ProposalTree) (rs : List ProposalTree) (ps : List PositionTree) → contains (field_names (position_fields ps)) r.name ≡ false → proposals_nodes (r ∷ rs) ps ≡ proposals_nodes rs ps
other_cost r rs [] h = refl
other_cost r rs (only c ∷ ps) h = other_cost r rs ps h
other_cost r rs (typed f ∷ ps) h =
    let parts = or_parts (bytes_eq f.name r.name) (contains (field_names (position_fields ps)) r.name) h in
    go (bytes_eq r.name f.name) refl parts.0 (other_cost r rs ps parts.1)
  where
    go : (b : Bool) → bytes_eq r.name f.name ≡ b → bytes_eq f.name r.name ≡ false → proposals_nodes (r ∷ rs) ps ≡ proposals_nodes rs ps → proposal_nodes (cond b (Some r) (proposal_for rs f)) + proposals_nodes (r ∷ rs) ps ≡ proposal_nodes (proposal_for rs f) + proposals_nodes rs ps
    go true b apart rest = let alike = name_same f.name r.name (sym (same_name r.name f.name b)) in absurd (cc)
    go false b apart rest = ap (λ n. proposal_nodes (proposal_for rs f) + n) rest

-- one more proposal
more_cost : (r : ProposalTree) (rs : List ProposalTree) (ps : List PositionTree) → IsTrue (distinct (field_names (position_fields ps))) → proposals_nodes (r ∷ rs) ps ≤ cost r + proposals_nodes rs ps
more_cost r rs [] h = omega arith
more_cost r rs (only c ∷ ps) h = more_cost r rs ps h
more_cost r rs (typed f ∷ ps) h =
    let parts = and_parts (not (contains (field_names (position_fields ps)) f.name)) (distinct (field_names (position_fields ps))) h in
    go (bytes_eq r.name f.name) refl (not_true (contains (field_names (position_fields ps)) f.name) parts.0) (more_cost r rs ps parts.1)
  where
    go : (b : Bool) → bytes_eq r.name f.name ≡ b → contains (field_names (position_fields ps)) f.name ≡ false → proposals_nodes (r ∷ rs) ps ≤ cost r + proposals_nodes rs ps → proposal_nodes (cond b (Some r) (proposal_for rs f)) + proposals_nodes (r ∷ rs) ps ≤ cost r + (proposal_nodes (proposal_for rs f) + proposals_nodes rs ps)
    go true b out rest =
        let same = same_name r.name f.name b in
        let none : contains (field_names (position_fields ps)) r.name ≡ false = ap (λ (x : Name). contains (field_names (position_fields ps)) x) same ∙ out in
        omega (arith, other_cost r rs ps none)
    go false b out rest = omega (arith, rest)

pub proposals_few : (rs : List ProposalTree) (ps : List PositionTree) → IsTrue (distinct (field_names (position_fields ps))) → proposals_nodes rs ps ≤ sum (map (λ r. nodes (expr_in r.choice)) rs)
proposals_few [] ps h = omega (arith, none_cost ps)
proposals_few (r ∷ rs) ps h =
    let total : sum (map cost (r ∷ rs)) ≡ cost r + sum (map cost rs) = sum-map cost (r ∷ rs) ∙ sum_by-cons cost r rs ∙ ap (λ n. cost r + n) (sym (sum-map cost rs)) in
    omega (arith, total, more_cost r rs ps h, proposals_few rs ps h)
