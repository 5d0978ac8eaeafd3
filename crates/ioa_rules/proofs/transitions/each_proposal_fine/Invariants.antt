use Rattle.std.proofs.Common.{◌≡◌, [], map, drop}
use Rattle.std.specs.List.{list_all}
use Rattle.ioa_tree.specs.View.{automaton_of, entry_of, proposal_of}
use Rattle.ioa_tree.specs.WellFormed as well_formed
use Rattle.ioa_rules.specs.KnownTypes.{whole, early}
use Rattle.ioa_rules.proofs.transitions.each_proposal_fine.Given as goal

abbrev pub invariant-loop-proposal : goal.invariant-loop-proposal
invariant-loop-proposal l = list_all (well_formed.proposal_fine (whole l.known) (early l.known) [] (automaton_of l.automaton) (entry_of l.entry)) (map proposal_of (drop l.proposal-index l.transition.proposals.items)) ≡ list_all (well_formed.proposal_fine (whole l.known) (early l.known) [] (automaton_of l.automaton) (entry_of l.entry)) (map proposal_of l.transition.proposals.items)
