use Rattle.std.proofs.Common.{◌≡◌, ◌+◌, ◌-◌, ◌<◌, suc, length, sym, ap, subst, ◌∙◌, arith}
use Rattle.ioa_value.specs.Lists.{is_skipped, lines}
use Rattle.ioa_value.proofs.ListLemmas.{not_empty, shorter}
use Rattle.ioa_account.specs.Lines.{line_holding, line_of_action}
use Rattle.ioa_account.proofs.LineNumbers.{found_here, past_action, past_skipped}
use Rattle.ioa_account.proofs.lines.line_of_action.Goals as goal

pub loop-rest-smaller-then-is_skipped : goal.loop-rest-smaller-then-is_skipped
loop-rest-smaller-then-is_skipped c =
    let long = not_empty c.loop-rest.rest.now c.is_empty.result c.loop-rest-test.true c.is_empty.ensures in
    subst (λ l. length l < length c.loop-rest.rest.now) (sym c.first_line.ensures.after) (shorter c.loop-rest.rest.now long)

pub loop-rest-preserved-then-is_skipped : goal.loop-rest-preserved-then-is_skipped
loop-rest-preserved-then-is_skipped c =
    let rest = c.loop-rest.rest.now in
    let long = not_empty rest c.is_empty.result c.loop-rest-test.true c.is_empty.ensures in
    let same = ap length c.first_line.ensures.after in
    record {
      left = past_skipped rest c.loop-rest.number c.loop-rest.before long (line_of_action c.args.list.now c.args.index) c.loop-rest.invariant.left
          (ap is_skipped (sym c.first_line.ensures.line) ∙ sym c.is_skipped.ensures ∙ c.if-is_skipped.true)
          ∙ ap (λ l. line_holding (c.loop-rest.number + 1 + 1) (lines l) c.loop-rest.before) (sym c.first_line.ensures.after);
      within = omega (arith, same, shorter rest long);
    }

pub returns-then-before-eq0 : goal.returns-then-before-eq0
returns-then-before-eq0 c =
    let rest = c.loop-rest.rest.now in
    let long = not_empty rest c.is_empty.result c.loop-rest-test.true c.is_empty.ensures in
    found_here rest c.loop-rest.number c.loop-rest.before long (line_of_action c.args.list.now c.args.index) c.loop-rest.invariant.left
    (ap is_skipped (sym c.first_line.ensures.line) ∙ sym c.is_skipped.ensures ∙ c.if-is_skipped.false) c.if-before-eq0.true

pub loop-rest-smaller : goal.loop-rest-smaller
loop-rest-smaller c =
    let long = not_empty c.loop-rest.rest.now c.is_empty.result c.loop-rest-test.true c.is_empty.ensures in
    subst (λ l. length l < length c.loop-rest.rest.now) (sym c.first_line.ensures.after) (shorter c.loop-rest.rest.now long)

pub loop-rest-preserved : goal.loop-rest-preserved
loop-rest-preserved c =
    let rest = c.loop-rest.rest.now in
    let long = not_empty rest c.is_empty.result c.loop-rest-test.true c.is_empty.ensures in
    let same = ap length c.first_line.ensures.after in
    let one : c.loop-rest.before ≡ suc (c.loop-rest.before - 1) = omega arith in
    record {
      left = past_action rest c.loop-rest.number c.loop-rest.before long (line_of_action c.args.list.now c.args.index) c.loop-rest.invariant.left
          (ap is_skipped (sym c.first_line.ensures.line) ∙ sym c.is_skipped.ensures ∙ c.if-is_skipped.false) (c.loop-rest.before - 1) one
          ∙ ap (λ l. line_holding (c.loop-rest.number + 1 + 1) (lines l) (c.loop-rest.before - 1)) (sym c.first_line.ensures.after);
      within = omega (arith, same, shorter rest long);
    }
