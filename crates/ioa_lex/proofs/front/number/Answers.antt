use Rattle.std.proofs.Common.{refl}
use Rattle.ioa_value.specs.Names.{is_digit}
use Rattle.ioa_lex.proofs.Bytes.{all_of_prefix}
use Rattle.ioa_lex.proofs.FrontLemmas.{number_front, number_too_large}
use Rattle.ioa_lex.proofs.front.number.Goals as goal

pub value_of-requires : goal.value_of-requires
value_of-requires c = rw c.digits_len-len.ensures (all_of_prefix is_digit c.args.text.now)

pub returns-in-Some : goal.returns-in-Some
returns-in-Some c =
    let value = rw c.digits_len-len.ensures at c.in-Some.ensures.0 in
    rw c.digits_len-len.ensures (number_front c.args.text.now c.in-Some.value c.requires.some c.requires.digit value c.in-Some.ensures.1)

pub returns-in-None : goal.returns-in-None
returns-in-None c =
    let large = rw c.digits_len-len.ensures at c.in-None.ensures in
    (refl, number_too_large c.args.text.now c.requires.some c.requires.digit large)
