use Rattle.std.proofs.Common.{◌≡◌, length, take, min, refl, arith}
use Rattle.std.proofs.lemmas.List.{length-take-le}
use Rattle.ioa_lex.proofs.FrontLemmas.{sign_front_two, sign_front_one, no_sign}
use Rattle.ioa_lex.proofs.front.sign.Goals as goal

pub returns-in-Some : goal.returns-in-Some
returns-in-Some c =
    let text = c.args.text.now in
    let written = rw c.min.ensures at c.in-Some.ensures.found in
    let size : length (take (min (length text) 2) text) ≡ min (length text) 2 = length-take-le (min (length text) 2) text (omega arith) in
    rw (c.min.ensures, size) (sign_front_two text c.in-Some.terminal c.requires.other written)

pub returns-in-Some-find : goal.returns-in-Some-find
returns-in-Some-find c =
    let free = rw c.min.ensures at c.in_default.ensures.free in
    sign_front_one c.args.text.now c.in-Some-find.terminal c.requires.some c.requires.other free c.in-Some-find.ensures.found

pub returns-in-None : goal.returns-in-None
returns-in-None c =
    let free = rw c.min.ensures at c.in_default.ensures.free in
    (refl, no_sign c.args.text.now c.requires.other free c.in-None.ensures.free)
