use Rattle.std.proofs.Common.{sym, ◌∙◌}
use Rattle.ioa_value.specs.declared.limits.TheConstants.{LIMITS}
use Rattle.ioa_value.specs.declared.terminal.Terminal.TheVariants as terminals
use Rattle.ioa_grammar.specs.Reading.{sees_variable, variable}
use Rattle.ioa_tree.specs.View.{variable_of}
use Rattle.ioa_grammar.proofs.Turns.{items_close, items_last}
use Rattle.ioa_declarations.proofs.states.variables.Goals as goal
use Rattle.ioa_declarations.proofs.states.variables.Goals.{then-not-take-via-then-not-take, then-not-take-via-else-not-take+then-not-sees_variable}

pub returns-then-not-take : goal.returns-then-not-take
returns-then-not-take c =
    elim c.then-not-take.branch [
      | then-not-take-via-then-not-take w ↦
          sym c.loop-turn.invariant
          ∙ items_close variable_of sees_variable terminals.Semicolon (variable LIMITS.depth) _ _ _ _ _ _ _ _ c.loop-turn-test.true c.in_ok-variable.ensures c.take.ensures.after (sym c.take.ensures.found ∙ w.if-not-take.true) c.in_ok-push.ensures.items
      | then-not-take-via-else-not-take+then-not-sees_variable w ↦
          sym c.loop-turn.invariant
          ∙ items_last variable_of sees_variable terminals.Semicolon (variable LIMITS.depth) _ _ _ _ _ _ _ _ c.loop-turn-test.true c.in_ok-variable.ensures c.take.ensures.after (sym w.sees_variable.ensures ∙ w.if-not-sees_variable.true) c.in_ok-push.ensures.items
    ]
