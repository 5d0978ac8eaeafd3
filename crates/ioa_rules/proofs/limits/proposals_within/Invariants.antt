use Rattle.std.proofs.Common.{◌≡◌, ◌+◌, ◌≤◌, map, drop, sum}
use Rattle.ioa_tree.specs.Tree.{expr_in}
use Rattle.ioa_tree.specs.View.{proposal_of}
use Rattle.ioa_value.specs.declared.limits.TheConstants.{LIMITS}
use Rattle.ioa_tree.specs.WellFormed as well_formed
use Rattle.ioa_rules.proofs.limits.proposals_within.Given as goal

abbrev pub invariant-loop-proposal : goal.invariant-loop-proposal
invariant-loop-proposal l = (l.total ≤ LIMITS.nodes) × (l.total + sum (map (λ p. well_formed.nodes (expr_in p.choice)) (map proposal_of (drop l.proposal-index l.proposals))) ≡ sum (map (λ p. well_formed.nodes (expr_in p.choice)) (map proposal_of l.proposals)))
