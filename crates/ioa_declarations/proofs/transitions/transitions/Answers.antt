use Rattle.std.proofs.Common.{sym, ◌∙◌}
use Rattle.ioa_value.specs.declared.limits.TheConstants.{LIMITS}
use Rattle.ioa_grammar.specs.Reading.{sees_kind, transition}
use Rattle.ioa_tree.specs.View.{transition_of}
use Rattle.ioa_grammar.proofs.Turns.{many_end, many_spent}
use Rattle.ioa_declarations.proofs.transitions.transitions.Goals as goal

pub returns-then-not-sees_kind : goal.returns-then-not-sees_kind
returns-then-not-sees_kind c = sym c.loop-turn.invariant ∙ many_end transition_of sees_kind (transition LIMITS.depth) _ _ _ (sym c.sees_kind.ensures ∙ c.if-not-sees_kind.true)

pub returns : goal.returns
returns c = sym c.loop-turn.invariant ∙ many_spent transition_of sees_kind (transition LIMITS.depth) _ _ _ _ c.loop-turn-test.false
