use Rattle.std.proofs.Common.{◌≡◌, ◌<◌, length, Some, None, get_or, sym, ap, ◌∙◌, arith}
use Rattle.std.specs.Option.{option_map_or}
use Rattle.std.proofs.lemmas.Option.{slice_get-get_or}
use Rattle.ioa_code.specs.Loops.{bodies, first_of}
use Rattle.ioa_code.proofs.Staying.{stays_some, stays_none, leaves}
use Rattle.ioa_code.proofs.nests.stays.Goals as goal
use Rattle.ioa_code.proofs.nests.stays.Goals.{Then-end_later}

-- what is read
found : (c : Then-end_later) → first_of (bodies c.args.instrs.now c.args.to) ≡ get_or c.args.inner.now c.args.to None
found c =
    let long = c.requires.long in
    let le = c.requires.within in
    let within : c.args.to < length c.args.inner.now = omega arith in
    let same : Some (first_of (bodies c.args.instrs.now c.args.to)) ≡ Some (get_or c.args.inner.now c.args.to None) = sym (c.requires.known c.args.to within) ∙ slice_get-get_or c.args.inner.now c.args.to None within in
    ap (λ o. option_map_or (λ x. x) o None) same

pub returns-in-Some : goal.returns-in-Some
returns-in-Some c =
    stays_some c.args.instrs.now c.args.place c.args.to c.requires.later c.in-Some.each (sym c.if-end_later.true ∙ c.end_later.ensures) (found (goal.at.returns-in-Some c).Then-end_later ∙ c.in-Some.is)

pub returns-in-None : goal.returns-in-None
returns-in-None c =
    stays_none c.args.instrs.now c.args.place c.args.to c.requires.later (sym c.if-end_later.true ∙ c.end_later.ensures) (found (goal.at.returns-in-None c).Then-end_later ∙ c.in-None.is)

pub returns-else-end_later : goal.returns-else-end_later
returns-else-end_later c =
    leaves c.args.instrs.now c.args.place c.args.to c.requires.later (sym c.if-end_later.false ∙ c.end_later.ensures)
