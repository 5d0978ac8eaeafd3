use Rattle.std.proofs.Common.{sym, ◌∙◌}
use Rattle.ioa_value.specs.declared.limits.TheConstants.{LIMITS}
use Rattle.ioa_value.specs.declared.terminal.Terminal.TheVariants as terminals
use Rattle.ioa_grammar.specs.Reading.{sees_name, instance}
use Rattle.ioa_tree.specs.View.{instance_of}
use Rattle.ioa_grammar.proofs.Turns.{items_close, items_last}
use Rattle.ioa_declarations.proofs.compositions.instances.Goals as goal
use Rattle.ioa_declarations.proofs.compositions.instances.Goals.{then-not-take-via-then-not-take, then-not-take-via-else-not-take+then-not-sees_name}

pub returns-then-not-take : goal.returns-then-not-take
returns-then-not-take c =
    elim c.then-not-take.branch [
      | then-not-take-via-then-not-take w ↦
          sym c.loop-turn.invariant
          ∙ items_close instance_of sees_name terminals.Semicolon (instance LIMITS.depth) _ _ _ _ _ _ _ _ c.loop-turn-test.true c.in_ok-instance.ensures c.take.ensures.after (sym c.take.ensures.found ∙ w.if-not-take.true) c.in_ok-push.ensures.items
      | then-not-take-via-else-not-take+then-not-sees_name w ↦
          sym c.loop-turn.invariant
          ∙ items_last instance_of sees_name terminals.Semicolon (instance LIMITS.depth) _ _ _ _ _ _ _ _ c.loop-turn-test.true c.in_ok-instance.ensures c.take.ensures.after (sym w.sees_name.ensures ∙ w.if-not-sees_name.true) c.in_ok-push.ensures.items
    ]
