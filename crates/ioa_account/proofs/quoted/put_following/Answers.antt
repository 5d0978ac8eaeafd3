use Rattle.std.proofs.Common.{◌≡◌, ◌+◌, ◌-◌, suc, ap, sym, ◌∙◌, arith, ◌++◌}
use Rattle.std.specs.String.{string_bytes}
use Rattle.std.proofs.lemmas.List.{nil_from_length}
use Rattle.ioa_value.specs.Lists.{lines}
use Rattle.ioa_value.proofs.ListLemmas.{empty, not_empty}
use Rattle.ioa_account.specs.Quoted.{following, most_following}
use Rattle.ioa_account.proofs.Quoting.{line_put, line_stops, no_line}
use Rattle.ioa_account.proofs.quoted.put_following.Goals as goal

pub returns-then-is_empty : goal.returns-then-is_empty
returns-then-is_empty c =
    let rest = c.loop.rest.now in
    no_line _ rest _ (most_following - c.loop.counter) (nil_from_length rest (empty rest c.is_empty.result c.if-is_empty.true c.is_empty.ensures)) c.loop.invariant

pub returns-then-not-goes_on : goal.returns-then-not-goes_on
returns-then-not-goes_on c =
    let rest = c.loop.rest.now in
    line_stops _ rest c.first_line.result.0.now _ (most_following - c.loop.counter) (not_empty rest c.is_empty.result c.if-is_empty.false c.is_empty.ensures) c.first_line.ensures.line
    (sym c.goes_on.ensures ∙ c.if-not-goes_on.true) c.loop.invariant

pub loop-preserved : goal.loop-preserved
loop-preserved c =
    let rest = c.loop.rest.now in
    let one : most_following - c.loop.counter ≡ suc (most_following - (c.loop.counter + 1)) = omega arith in
    line_put _ _ rest c.first_line.result.0.now c.first_line.result.1.now _ (most_following - (c.loop.counter + 1)) (not_empty rest c.is_empty.result c.if-is_empty.false c.is_empty.ensures)
    c.first_line.ensures.line c.first_line.ensures.after (sym c.goes_on.ensures ∙ c.if-not-goes_on.false) c.in_ok-put_shown.ensures
    (sym (ap (λ k. string_bytes c.loop.text ++ following k (lines rest)) one) ∙ c.loop.invariant)
