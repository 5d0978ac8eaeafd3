use Rattle.std.proofs.Common.{sym, ◌∙◌}
use Rattle.ioa_value.specs.declared.terminal.Terminal.TheVariants as terminals
use Rattle.ioa_grammar.specs.Reading.{sees_kind, entry}
use Rattle.ioa_tree.specs.View.{entry_of}
use Rattle.ioa_grammar.proofs.Turns.{items_close, items_last}
use Rattle.ioa_declarations.proofs.signatures.entries.Goals as goal
use Rattle.ioa_declarations.proofs.signatures.entries.Goals.{then-not-take-via-then-not-take, then-not-take-via-else-not-take+then-not-sees_kind}

pub returns-then-not-take : goal.returns-then-not-take
returns-then-not-take c =
    elim c.then-not-take.branch [
      | then-not-take-via-then-not-take w ↦
          sym c.loop-turn.invariant
          ∙ items_close entry_of sees_kind terminals.Semicolon entry _ _ _ _ _ _ _ _ c.loop-turn-test.true c.in_ok-entry.ensures c.take.ensures.after (sym c.take.ensures.found ∙ w.if-not-take.true) c.in_ok-push.ensures.items
      | then-not-take-via-else-not-take+then-not-sees_kind w ↦
          sym c.loop-turn.invariant
          ∙ items_last entry_of sees_kind terminals.Semicolon entry _ _ _ _ _ _ _ _ c.loop-turn-test.true c.in_ok-entry.ensures c.take.ensures.after (sym w.sees_kind.ensures ∙ w.if-not-sees_kind.true) c.in_ok-push.ensures.items
    ]
