use Rattle.std.proofs.Common.{refl}
use Rattle.ioa_rules.proofs.GlobalLemmas.{added-new, added-again}
use Rattle.ioa_rules.proofs.globals.add.Goals as goal

pub returns-then-branch : goal.returns-then-branch
returns-then-branch c =
    added-new c.args.names.now c.insert.new.self c.as_str.result.now _ c.in_ok-insert.field-0 c.as_str.ensures.value c.in_ok-insert.ensures.added c.in_ok-insert.ensures.names c.if-branch.true

pub returns-else-branch : goal.returns-else-branch
returns-else-branch c =
    λ n. (refl, added-again c.args.names.now c.as_str.result.now _ c.in_ok-insert.field-0 c.as_str.ensures.value c.in_ok-insert.ensures.added c.if-branch.false)
