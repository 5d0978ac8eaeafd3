use Rattle.std.proofs.Common.{◌≡◌, drop}
use Rattle.std.specs.List.{list_any}
use Rattle.std.specs.Str.{bytes_eq}
use Rattle.ioa_tree.specs.View.{name_of}
use Rattle.ioa_tree.specs.declared.tree.Proposal.{Proposal}
use Rattle.ioa_causes.proofs.signatures.is_proposed.Given as goal

-- none so far is for it
abbrev pub invariant-loop-proposal : goal.invariant-loop-proposal
invariant-loop-proposal l =
    list_any (λ (p : Proposal). bytes_eq (name_of p.name) (name_of l.parameter)) (drop l.proposal-index l.transition.proposals.items)
    ≡ list_any (λ (p : Proposal). bytes_eq (name_of p.name) (name_of l.parameter)) l.transition.proposals.items
