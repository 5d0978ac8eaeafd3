use Rattle.std.proofs.Common.{◌≡◌, Some, None, [], map, refl, sym, ap, ◌∙◌}
use Rattle.std.specs.Prelude.{slice_get}
use Rattle.std.specs.Option.{option_map, option_map_or}
use Rattle.std.proofs.lemmas.Option.{slice_get-map, slice_get_past, slice_get_read}
use Rattle.ioa_compile.specs.Programs.{MemberCode}
use Rattle.ioa_compile.specs.Shown.{member_code}
use Rattle.ioa_account.proofs.Refusing.{member_named}
use Rattle.ioa_account.proofs.objects.name_at.Goals as goal

pub returns-in-Some : goal.returns-in-Some
returns-in-Some c =
    let found = c.in-Some.ensures.lookup in
    let m = c.in-Some.member.now in
    let at : slice_get c.members.result.now c.args.number ≡ Some m = slice_get_read c.members.result.now _ c.args.number m refl found.3.0 found.1 in
    c.as_str.ensures.value ∙ member_named c.args.program.now c.members.result.now c.args.number m c.members.ensures.value at

pub returns-in-None : goal.returns-in-None
returns-in-None c =
    let past : slice_get c.members.result.now c.args.number ≡ None = slice_get_past c.members.result.now c.args.number c.in-None.ensures.lookup.3 in
    ap (λ o. option_map_or (λ (m : MemberCode). m.name) o [])
    (sym (ap (option_map member_code) past) ∙ sym (slice_get-map member_code c.members.result.now c.args.number) ∙ ap (λ ms. slice_get ms c.args.number) c.members.ensures.value)
