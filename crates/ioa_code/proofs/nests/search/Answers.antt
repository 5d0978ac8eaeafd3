use Rattle.std.proofs.Common.{◌≡◌, ◌<◌, ◌≤◌, length, get_or, Some, None, sym, ap, ◌∙◌, subst, arith}
use Rattle.std.specs.Option.{option_map_or}
use Rattle.std.proofs.lemmas.Option.{slice_get-get_or}
use Rattle.ioa_code.specs.declared.instr.Instr.TheVariants.{Const}
use Rattle.ioa_code.specs.Loops.{past as past_of, past_at, bodies, first_of}
use Rattle.ioa_code.proofs.Innermost.{NoneAfter, smaller, found_first, found_none, next_out}
use Rattle.ioa_code.proofs.nests.search.Goals as goal
use Rattle.ioa_code.proofs.nests.search.Goals.{After-past}

-- the loop that is looked at
here : (c : After-past) → NoneAfter c.args.instrs.now c.args.place (Some c.in-Some.each)
here c = subst (NoneAfter c.args.instrs.now c.args.place) c.in-Some.is c.loop-next.invariant

ends : (c : After-past) → past_at c.args.instrs.now c.in-Some.each ≡ c.past.result
ends c =
    let h = here c in
    let lt = h.0 in
    let within = c.requires.within in
    let at = slice_get-get_or c.args.instrs.now c.in-Some.each (Const 0) (omega arith) in
    ap (λ o. option_map_or past_of o 0) at ∙ sym c.past.ensures.value

-- the one round it
out : (c : After-past) → get_or c.args.inner.now c.in-Some.each None ≡ first_of (bodies c.args.instrs.now c.in-Some.each)
out c =
    let h = here c in
    let lt = h.0 in
    let long = c.requires.long in
    let within : c.in-Some.each < length c.args.inner.now = omega arith in
    let a = slice_get-get_or c.args.inner.now c.in-Some.each None within in
    let b = c.requires.known c.in-Some.each within in
    let same : Some (get_or c.args.inner.now c.in-Some.each None) ≡ Some (first_of (bodies c.args.instrs.now c.in-Some.each)) = sym a ∙ b in
    ap (λ o. option_map_or (λ x. x) o None) same

pub returns-then-place-past : goal.returns-then-place-past
returns-then-place-past c =
    let a = (goal.at.returns-then-place-past c).After-past in
    let e = ends a in
    let lt = c.if-place-past.true in
    found_first c.args.instrs.now c.args.place c.in-Some.each (here a) (omega arith)

further : (c : After-past) → c.past.result ≤ c.args.place → NoneAfter c.args.instrs.now c.args.place (get_or c.args.inner.now c.in-Some.each None)
further c le =
    let e = ends c in
    next_out c.args.instrs.now c.args.place c.in-Some.each (get_or c.args.inner.now c.in-Some.each None) (here c) (omega arith) (out c)

pub loop-next-preserved : goal.loop-next-preserved
loop-next-preserved c = further (goal.at.loop-next-preserved c).After-past c.if-place-past.false

pub loop-next-smaller : goal.loop-next-smaller
loop-next-smaller c =
    let a = (goal.at.loop-next-smaller c).After-past in
    smaller c.args.instrs.now c.in-Some.each (get_or c.args.inner.now c.in-Some.each None) c.loop-next.next c.in-Some.is (out a)

pub returns : goal.returns
returns c =
    found_none c.args.instrs.now c.args.place (subst (NoneAfter c.args.instrs.now c.args.place) c.in_default.is c.loop-next.invariant)
