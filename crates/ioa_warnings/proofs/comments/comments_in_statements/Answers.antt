use Rattle.std.proofs.Common.{◌+◌, ◌<◌, length, sym, ap, subst, ◌∙◌, arith}
use Rattle.ioa_value.proofs.ListLemmas.{not_empty, shorter}
use Rattle.ioa_warnings.specs.Comments.{comments_in_statements}
use Rattle.ioa_warnings.proofs.CutLines.{past, past_cut}
use Rattle.ioa_warnings.proofs.comments.comments_in_statements.Goals as goal

pub loop-rest-smaller-then-not-is_cut : goal.loop-rest-smaller-then-not-is_cut
loop-rest-smaller-then-not-is_cut c =
    let long = not_empty c.loop-rest.rest.now c.is_empty.result c.loop-rest-test.true c.is_empty.ensures in
    subst (λ l. length l < length c.loop-rest.rest.now) (sym c.first_line.ensures.after) (shorter c.loop-rest.rest.now long)

pub loop-rest-preserved-then-not-is_cut : goal.loop-rest-preserved-then-not-is_cut
loop-rest-preserved-then-not-is_cut c =
    let rest = c.loop-rest.rest.now in
    let long = not_empty rest c.is_empty.result c.loop-rest-test.true c.is_empty.ensures in
    let same = ap length c.first_line.ensures.after in
    record {
      so_far = past rest c.first_line.result.0.now c.first_line.result.1.now c.loop-rest.numbers.items (comments_in_statements c.args.text.now) (c.loop-rest.number + 1)
          long c.first_line.ensures.line c.first_line.ensures.after c.loop-rest.invariant.so_far (sym c.is_cut.ensures ∙ c.if-not-is_cut.true);
      within = omega (arith, same, shorter rest long);
    }

pub loop-rest-smaller : goal.loop-rest-smaller
loop-rest-smaller c =
    let long = not_empty c.loop-rest.rest.now c.is_empty.result c.loop-rest-test.true c.is_empty.ensures in
    subst (λ l. length l < length c.loop-rest.rest.now) (sym c.first_line.ensures.after) (shorter c.loop-rest.rest.now long)

pub loop-rest-preserved : goal.loop-rest-preserved
loop-rest-preserved c =
    let rest = c.loop-rest.rest.now in
    let long = not_empty rest c.is_empty.result c.loop-rest-test.true c.is_empty.ensures in
    let same = ap length c.first_line.ensures.after in
    record {
      so_far = past_cut rest c.first_line.result.0.now c.first_line.result.1.now c.loop-rest.numbers.items (comments_in_statements c.args.text.now) (c.loop-rest.number + 1)
          long c.first_line.ensures.line c.first_line.ensures.after c.loop-rest.invariant.so_far (sym c.is_cut.ensures ∙ c.if-not-is_cut.false) _ c.in_ok-push.ensures.items;
      within = omega (arith, same, shorter rest long);
    }
