use Rattle.std.proofs.Common.{◌≡◌, ◌++◌, map, take}
use Rattle.std.specs.String.{string_bytes}
use Rattle.ioa_value.specs.declared.terminal.Terminal.TheVariants as terminals
use Rattle.ioa_print.specs.Layout.{text_more, text_proposal}
use Rattle.ioa_tree.specs.View.{proposal_of}
use Rattle.ioa_print.proofs.automata.more_proposals.Given as goal

abbrev pub invariant-loop-proposal : goal.invariant-loop-proposal
invariant-loop-proposal l = string_bytes l.text ≡ string_bytes l.initial.text ++ text_more terminals.Comma text_proposal (map proposal_of (take l.proposal-index l.proposals))
