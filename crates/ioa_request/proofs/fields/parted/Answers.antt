use Rattle.std.proofs.Common.{◌≡◌, rules, ◌+◌, Some, suc, drop, ap, ◌∙◌, arith}
use Rattle.std.proofs.lemmas.List.{take_rest}
use Rattle.ioa_request.proofs.Parted.{part_to, whole_part}
use Rattle.ioa_request.proofs.fields.parted.Goals as goal

pub returns-in-Some : goal.returns-in-Some
returns-in-Some c =
    let text = c.args.text.now in
    let parts = part_to c.args.sign text c.in-Some.at (search rules) (search rules) (search rules) in
    let next : c.in-Some.at + 1 ≡ suc c.in-Some.at = omega arith in
    record { before = parts.0; behind = ap Some (take_rest text _ ∙ ap (λ n. drop n text) next) ∙ parts.1 }

pub returns-in-None : goal.returns-in-None
returns-in-None c = let parts = whole_part c.args.sign c.args.text.now (search rules) in record { before = parts.0; behind = parts.1 }
