use Rattle.std.proofs.Common.{◌≡◌, ◌<◌, true, length, drop, get_or, [], nat_lt, sym, ap, ◌∙◌, arith}
use Rattle.std.specs.Char.{digit_value}
use Rattle.std.specs.List.{list_all}
use Rattle.std.specs.Str.Parse.{digits_value, digits_value_after}
use Rattle.std.proofs.lemmas.Bool.Decides.{nat_tests}
use Rattle.std.proofs.lemmas.List.{drop_all}
use Rattle.ioa_value.proofs.NumeralLemmas.{no_digits, some_digits, not_digit, digit_here, digits_go_on, size_goes_on, size_so_far}
use Rattle.ioa_value.proofs.scanning.size.Goals as goal

pub returns-then-is_empty-clause-none : goal.returns-then-is_empty-clause-none
returns-then-is_empty-clause-none c = λ e.
    let none : length c.args.digits.now ≡ 0 = grind (arith, nat_tests) in
    absurd (no_digits c.args.digits.now none e)

pub returns-then-not-is_ascii_digit-clause-none : goal.returns-then-not-is_ascii_digit-clause-none
returns-then-not-is_ascii_digit-clause-none c = λ e.
    let ds = c.args.digits.now in
    let i = c.loop-digit.digit-index in
    absurd (not_digit (get_or ds i 0) (digit_here ds i c.loop-digit-test.true c.loop-digit.invariant.all e) (sym c.if-not-is_ascii_digit.ensures.value))

pub returns-in_err-checked_mul-clause-none : goal.returns-in_err-checked_mul-clause-none
returns-in_err-checked_mul-clause-none c =
    let far = size_so_far c.args.digits.now c.loop-digit.digit-index c.loop-digit-test.true c.loop-digit.n c.loop-digit.invariant.value in
    rw c.from_residual.ensures (λ e. omega (arith, c.in_err-checked_mul.ensures, far))

pub returns-in_err-n-clause-none : goal.returns-in_err-n-clause-none
returns-in_err-n-clause-none c =
    let far = size_so_far c.args.digits.now c.loop-digit.digit-index c.loop-digit-test.true c.loop-digit.n c.loop-digit.invariant.value in
    let digit : digit_value (get_or c.args.digits.now c.loop-digit.digit-index 0) ≡ c.from.result = grind (arith, nat_tests) in
    rw c.from_residual-in_err-n.ensures (λ e. omega (arith, c.in_err-n.ensures, c.in_ok-checked_mul.ensures.1, digit, far))

pub loop-digit-preserved : goal.loop-digit-preserved
loop-digit-preserved c =
    let ds = c.args.digits.now in
    let i = c.loop-digit.digit-index in
    let digit : digit_value (get_or ds i 0) ≡ c.from.result = grind (arith, nat_tests) in
    record {
      all = digits_go_on ds i c.loop-digit-test.true c.if-not-is_ascii_digit.ensures.bound c.loop-digit.invariant.all;
      value = size_goes_on ds i c.loop-digit-test.true c.loop-digit.n _ (omega (arith, c.in_ok-n.ensures.1, c.in_ok-checked_mul.ensures.1, digit)) c.loop-digit.invariant.value;
    }

pub returns-clause-found : goal.returns-clause-found
returns-clause-found c =
    let ds = c.args.digits.now in
    let done : drop c.loop-digit.digit-index ds ≡ [] = drop_all c.loop-digit.digit-index ds c.loop-digit-test.false in
    let some : 0 < length ds = grind (arith, nat_tests) in
    let all : list_all (λ d. nat_lt (digit_value d) 10) ds ≡ true = sym c.loop-digit.invariant.all ∙ ap (list_all (λ d. nat_lt (digit_value d) 10)) done in
    let value : c.loop-digit.n ≡ digits_value 10 ds = sym (ap (digits_value_after 10 c.loop-digit.n) done) ∙ c.loop-digit.invariant.value in
    (some_digits ds some all, value)
