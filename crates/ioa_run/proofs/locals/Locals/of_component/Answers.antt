use Rattle.std.proofs.Common.{◌≡◌, ◌∙◌, ◌<◌, ◌≤◌, Some, ap, length, map, subst, sym, rules, arith}
use Rattle.std.specs.Prelude.{slice_get}
use Rattle.std.proofs.lemmas.List.{length-map}
use Rattle.std.proofs.lemmas.Option.{slice_get-get_or, slice_get_within}
use Rattle.ioa_compile.specs.Programs.{Prog}
use Rattle.ioa_run.specs.Locals.{AreAllLocals, known, known_in, locals_of}
use Rattle.ioa_run.proofs.LocalSites.{locals_there}
use Rattle.ioa_run.proofs.locals.Locals.of_component.Goals as goal

pub returns-then-component-len : goal.returns-then-component-len
returns-then-component-len c = λ m there.
    let p = c.args.self.now in
    let all = c.self.inside.all.items in
    let own = c.index.result.now in
    let less : c.args.component < length all = search rules in
    let here : slice_get all c.args.component ≡ Some own = slice_get-get_or all c.args.component own less ∙ ap (λ v. Some v) (sym c.index.ensures) in
    ap (map known) c.as_slice.ensures.value
    ∙ locals_there p all c.args.component own m (subst (λ (x : Prog). AreAllLocals x all) c.self.view_is c.self.invariant) here there

-- there is a list for each component
pub returns-else-component-len : goal.returns-else-component-len
returns-else-component-len c = λ m there.
    let p = c.args.self.now in
    let all = c.self.inside.all.items in
    let past : length all ≤ c.args.component = search rules in
    let is = ap length (subst (λ (x : Prog). AreAllLocals x all) c.self.view_is c.self.invariant) in
    let many : length all ≡ length p.members = sym (length-map all known_in) ∙ is ∙ length-map p.members (locals_of p) in
    absurd (omega (arith, past, many, slice_get_within p.members c.args.component m there))
