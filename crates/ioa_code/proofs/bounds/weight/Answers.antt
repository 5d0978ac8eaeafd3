use Rattle.std.proofs.Common.{◌≤◌, length, sym, ap, ◌∙◌, subst, arith}
use Rattle.ioa_code.specs.Bound.{turns, product}
use Rattle.ioa_code.specs.Loops.{past_at}
use Rattle.ioa_code.specs.Parts.{part_for}
use Rattle.ioa_code.specs.Scan.{came}
use Rattle.ioa_code.proofs.Opened.{stands_at}
use Rattle.ioa_code.proofs.Totals.{few_round, weighs_once}
use Rattle.ioa_code.proofs.bounds.weight.Goals as goal

pub product_of-runs-requires-clause-within : goal.product_of-runs-requires-clause-within
product_of-runs-requires-clause-within c k i at =
    let before = stands_at c.args.code.now.instrs.items c.args.place i k c.args.round.now c.requires.here at in
    let within = c.requires.within in
    let long = c.requires.long in
    omega arith

pub product_of-runs-requires-clause-few : goal.product_of-runs-requires-clause-few
product_of-runs-requires-clause-few c =
    let few = few_round (part_for c.args.code.now c.args.env.now) c.requires.valid.0 c.requires.valid.1 c.args.place c.requires.within in
    subst (λ l. length l ≤ 3) (sym c.requires.here) few

pub returns-else-end-place-clause-value : goal.returns-else-end-place-clause-value
returns-else-end-place-clause-value c brought all =
    let part = part_for c.args.code.now c.args.env.now in
    let end = c.end.ensures.value ∙ ap (λ l. past_at l c.args.place) c.deref.ensures.value in
    let le = c.if-end-place.false in
    c.product_of-runs.ensures.value brought all ∙ ap (product (turns part.code.types (came brought))) c.requires.here
    ∙ sym (weighs_once part c.requires.valid.0 c.requires.valid.1 (came brought) c.args.place c.requires.within (omega arith))
