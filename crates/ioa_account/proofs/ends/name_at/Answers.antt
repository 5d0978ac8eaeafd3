use Rattle.std.proofs.Common.{◌≡◌, Some, None, slice_get, refl, subst, ◌∙◌}
use Rattle.std.proofs.lemmas.Option.{slice_get_past, slice_get_read}
use Rattle.ioa_account.proofs.Telling.{named, unnamed}
use Rattle.ioa_account.proofs.ends.name_at.Goals as goal

pub returns-in-Some : goal.returns-in-Some
returns-in-Some c = λ h stands.
    let found = c.in-Some.ensures.lookup in
    let m = c.in-Some.member.now in
    let at : slice_get c.members.result.now c.args.number ≡ Some m = slice_get_read c.members.result.now _ c.args.number m refl found.3.0 found.1 in
    c.as_str.ensures.value
    ∙ named c.args.composition.now.members c.args.number m h.hosts
    (subst (λ ms. slice_get ms c.args.number ≡ Some m) c.members.ensures.value at) stands.members

pub returns-in-None : goal.returns-in-None
returns-in-None c = λ h stands.
    let at : slice_get c.members.result.now c.args.number ≡ None = slice_get_past c.members.result.now c.args.number c.in-None.ensures.lookup.3 in
    unnamed c.args.composition.now.members c.args.number h.hosts (subst (λ ms. slice_get ms c.args.number ≡ None) c.members.ensures.value at) stands.members
