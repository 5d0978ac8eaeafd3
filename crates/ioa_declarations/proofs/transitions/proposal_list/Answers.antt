use Rattle.std.proofs.Common.{sym, ◌∙◌}
use Rattle.ioa_value.specs.declared.limits.TheConstants.{LIMITS}
use Rattle.ioa_value.specs.declared.terminal.Terminal.TheVariants as terminals
use Rattle.ioa_grammar.specs.Reading.{always, proposal}
use Rattle.ioa_tree.specs.View.{proposal_of}
use Rattle.ioa_grammar.proofs.Turns.{items_close}
use Rattle.ioa_declarations.proofs.transitions.proposal_list.Goals as goal

pub returns-then-not-take : goal.returns-then-not-take
returns-then-not-take c =
    sym c.loop-turn.invariant
    ∙ items_close proposal_of always terminals.Comma (proposal LIMITS.depth) _ _ _ _ _ _ _ _ c.loop-turn-test.true c.in_ok-proposal.ensures c.if-not-take.ensures.after (sym c.if-not-take.ensures.found) c.in_ok-push.ensures.items
