use Rattle.std.proofs.Common.{◌∷◌, [], ◌+◌, ◌<◌, map, sym, ap, subst, ◌∙◌, length, arith}
use Rattle.std.proofs.lemmas.List.{map-append}
use Rattle.ioa_value.specs.Actions.{act_of}
use Rattle.ioa_value.specs.Lists.{is_skipped, after_line}
use Rattle.ioa_value.specs.Reads.{Reads}
use Rattle.ioa_value.proofs.ListLemmas.{ReadTo, shorter, skipped, performed, broken, finished, finished_once, not_empty, empty}
use Rattle.ioa_value.proofs.ListOnceLemmas.{no_bad_line, one_bad_line}
use Rattle.ioa_value.proofs.listing.read_list.Goals as goal

pub returns-in_default-clause-bad : goal.returns-in_default-clause-bad
returns-in_default-clause-bad c =
    broken c.args.types.now c.args.text.now c.loop-rest.count (map act_of c.loop-rest.list.items) c.loop-rest.rest.now
    c.loop-rest.invariant.read
    (not_empty c.loop-rest.rest.now c.is_empty.result c.loop-rest-test.true c.is_empty.ensures)
    (ap is_skipped (sym c.first_line.ensures.line) ∙ sym c.is_skipped.ensures ∙ c.if-is_skipped.false)
    (λ a r.
    let none = rw c.in_default.is at c.in_ok-action.ensures.none in
    none a (subst (λ l. Reads c.args.types.now l a) (sym c.first_line.ensures.line) r))

pub loop-rest-smaller-then-is_skipped : goal.loop-rest-smaller-then-is_skipped
loop-rest-smaller-then-is_skipped c =
    let long = not_empty c.loop-rest.rest.now c.is_empty.result c.loop-rest-test.true c.is_empty.ensures in
    subst (λ l. length l < length c.loop-rest.rest.now) (sym c.first_line.ensures.after) (shorter c.loop-rest.rest.now long)

pub loop-rest-preserved-then-is_skipped : goal.loop-rest-preserved-then-is_skipped
loop-rest-preserved-then-is_skipped c =
    let long = not_empty c.loop-rest.rest.now c.is_empty.result c.loop-rest-test.true c.is_empty.ensures in
    let acts = map act_of c.loop-rest.list.items in
    let same = ap length c.first_line.ensures.after in
    record {
      read = subst (λ l. ReadTo c.args.types.now c.args.text.now (c.loop-rest.count + 1) acts l) (sym c.first_line.ensures.after)
          (skipped c.args.types.now c.args.text.now c.loop-rest.count acts c.loop-rest.rest.now c.loop-rest.invariant.read long
          (ap is_skipped (sym c.first_line.ensures.line) ∙ sym c.is_skipped.ensures ∙ c.if-is_skipped.true));
      within = omega (arith, same, shorter c.loop-rest.rest.now long);
    }

pub loop-rest-smaller : goal.loop-rest-smaller
loop-rest-smaller c =
    let long = not_empty c.loop-rest.rest.now c.is_empty.result c.loop-rest-test.true c.is_empty.ensures in
    subst (λ l. length l < length c.loop-rest.rest.now) (sym c.first_line.ensures.after) (shorter c.loop-rest.rest.now long)

pub loop-rest-preserved : goal.loop-rest-preserved
loop-rest-preserved c =
    let long = not_empty c.loop-rest.rest.now c.is_empty.result c.loop-rest-test.true c.is_empty.ensures in
    let acts = map act_of c.loop-rest.list.items in
    let all = ap (map act_of) c.in_ok-push.ensures.items ∙ map-append act_of c.loop-rest.list.items (c.in-Some.action ∷ []) in
    let found = rw c.in-Some.is at c.in_ok-action.ensures.found in
    let same = ap length c.first_line.ensures.after in
    let here = performed c.args.types.now c.args.text.now c.loop-rest.count acts c.loop-rest.rest.now (act_of c.in-Some.action) c.loop-rest.invariant.read long
    (subst (λ l. Reads c.args.types.now l (act_of c.in-Some.action)) c.first_line.ensures.line found)
    (λ b r. let only = rw c.in-Some.is at (c.in_ok-action.ensures.only b (subst (λ l. Reads c.args.types.now l b) (sym c.first_line.ensures.line) r)) in sym only) in
    record {
      read = subst (λ l. ReadTo c.args.types.now c.args.text.now (c.loop-rest.count + 1) (map act_of c.push.new.self.items) l) (sym c.first_line.ensures.after)
          (subst (λ xs. ReadTo c.args.types.now c.args.text.now (c.loop-rest.count + 1) xs (after_line c.loop-rest.rest.now)) (sym all) here);
      within = omega (arith, same, shorter c.loop-rest.rest.now long);
    }

pub returns-in_default-clause-only : goal.returns-in_default-clause-only
returns-in_default-clause-only c = λ acts r. no_bad_line c.args.types.now c.args.text.now acts _ r (returns-in_default-clause-bad c)

pub returns-in_default-clause-only_bad : goal.returns-in_default-clause-only_bad
returns-in_default-clause-only_bad c = λ n b. one_bad_line c.args.types.now c.args.text.now _ n (returns-in_default-clause-bad c) b

pub returns-clause-list : goal.returns-clause-list
returns-clause-list c =
    finished c.args.types.now c.args.text.now c.loop-rest.count (map act_of c.loop-rest.list.items) c.loop-rest.rest.now
    c.loop-rest.invariant.read
    (empty c.loop-rest.rest.now c.is_empty.result c.loop-rest-test.false c.is_empty.ensures)

pub returns-clause-only : goal.returns-clause-only
returns-clause-only c =
    finished_once c.args.types.now c.args.text.now c.loop-rest.count (map act_of c.loop-rest.list.items) c.loop-rest.rest.now
    c.loop-rest.invariant.read
    (empty c.loop-rest.rest.now c.is_empty.result c.loop-rest-test.false c.is_empty.ensures)

pub returns-clause-only_bad : goal.returns-clause-only_bad
returns-clause-only_bad c = λ n b. no_bad_line c.args.types.now c.args.text.now _ n (returns-clause-list c) b
