use Rattle.std.proofs.Common.{◌≡◌, map, sym, subst, ap, ◌∙◌, rules}
use Rattle.std.specs.List.{AllZip}
use Rattle.ioa_value.specs.Plain.{plain, number}
use Rattle.ioa_value.specs.Typing.{HaveTypes}
use Rattle.ioa_tree.specs.View.{variable_of}
use Rattle.ioa_compose.specs.Held.{member_of}
use Rattle.ioa_compile.specs.Shown.{member_code}
use Rattle.ioa_compile.specs.Matching.{AreTypesOf}
use Rattle.ioa_compile.specs.Translated.{IsTranslated}
use Rattle.ioa_compile.proofs.Meant.{does_same}
use Rattle.ioa_compile.proofs.Fits.{fit_have}
use Rattle.ioa_compile.proofs.compiler.compile_member.Goals as goal

pub from_values-requires : goal.from_values-requires
from_values-requires c =
    let m = member_of c.args.member.now in
    let declared = m.instance.types in
    let slots = map number c.in_ok-slots.slots.items in
    let types = subst (λ l. AreTypesOf declared (map (λ v. v.field) (map variable_of l)) slots) c.deref.ensures.value c.in_ok-slots.ensures in
    let all = fit_have declared (map (λ v. v.field) m.instance.automaton.variables) m.starts slots c.requires.fine.starts types in
    subst (λ l. HaveTypes declared (map plain c.deref-3.result.now) (map number l)) (sym c.deref-2.ensures.value)
    (subst (λ l. HaveTypes declared (map plain l) slots) (sym c.deref-3.ensures.value) all)

pub returns : goal.returns
returns c =
    let m = member_of c.args.member.now in
    let declared = m.instance.types in
    let new = member_code record { name = c.in_ok-clone.field-0; start = c.in_ok-from_values.field-0; entries = c.in_ok-compile_entries.field-0 } in
    let slots = map number c.in_ok-slots.slots.items in
    let types = subst (λ l. AreTypesOf declared (map (λ v. v.field) (map variable_of l)) slots) c.deref.ensures.value c.in_ok-slots.ensures in
    let start : new.start ≡ record { table = declared; types = slots; values = m.starts } =
    c.in_ok-from_values.ensures
    ∙ ap (λ l. record { table = declared; types = map number l; values = map plain c.deref-3.result.now }) c.deref-2.ensures.value
    ∙ ap (λ l. record { table = declared; types = slots; values = map plain l }) c.deref-3.ensures.value in
    let slots-are : map number c.deref-4.result.now ≡ slots = ap (map number) c.deref-4.ensures.value in
    let entries = subst (λ l. AllZip (IsTranslated m l) m.instance.automaton.entries new.entries) slots-are c.in_ok-compile_entries.ensures in
    let name : new.name ≡ m.name = search rules in
    does_same m slots new c.requires.fine types name start entries
