use Rattle.std.proofs.Common.{◌∙◌}
use Rattle.ioa_value.proofs.NumeralLemmas.{negative, too_negative, positive, too_positive}
use Rattle.ioa_value.proofs.scanning.number.Goals as goal

pub returns-in_err-size-in-Some : goal.returns-in_err-size-in-Some
returns-in_err-size-in-Some c =
    c.from_residual.ensures ∙ too_negative c.args.word.now c.in-Some.digits.now c.in-Some.ensures.found c.in_err-size-in-Some.ensures.none

pub returns-in_ok-size-in-Some : goal.returns-in_ok-size-in-Some
returns-in_ok-size-in-Some c =
    negative c.args.word.now c.in-Some.digits.now _ _ c.in-Some.ensures.found c.in_ok-size-in-Some.ensures.found c.checked_sub_unsigned.ensures

pub returns-in_err-size-in-None : goal.returns-in_err-size-in-None
returns-in_err-size-in-None c =
    c.from_residual-in_err-size-in-None.ensures ∙ too_positive c.args.word.now c.in-None.ensures.none c.in_err-size-in-None.ensures.none

pub returns-in_ok-size-in-None : goal.returns-in_ok-size-in-None
returns-in_ok-size-in-None c =
    positive c.args.word.now _ _ c.in-None.ensures.none c.in_ok-size-in-None.ensures.found c.checked_add_unsigned.ensures
