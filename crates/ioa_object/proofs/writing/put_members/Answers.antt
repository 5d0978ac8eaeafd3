use Rattle.std.proofs.Common.{◌≡◌, ℕ, ◌<◌, List, map, length, get_or, ap, subst, sym, ◌∙◌, arith, string_bytes}
use Rattle.std.proofs.lemmas.List.{length-map}
use Rattle.ioa_value.specs.Plain.{plain}
use Rattle.ioa_value.specs.Table.{Table, AreTypes}
use Rattle.ioa_value.specs.Typing.{OwnTypes}
use Rattle.ioa_value.proofs.ItemLemmas.{at_map}
use Rattle.ioa_value.proofs.TypingLemmas.{HaveTypes-owns, HaveTypes-length}
use Rattle.ioa_compile.specs.Shown.{entry_code, member_code}
use Rattle.ioa_compile.specs.Tables.{AreEntries, AreMembers, IsMember}
use Rattle.ioa_compile.specs.declared.table.Member.{Member}
use Rattle.ioa_object.proofs.Tables.{member_at}
use Rattle.ioa_object.proofs.Texts.{name_short}
use Rattle.ioa_object.proofs.writing.put_members.Goals as goal

-- what is so of a component that is read
is_member : (types : Table) (ms : List Member) (i : ℕ) (m : Member) → AreMembers types (map member_code ms) → i < length ms → m ≡ get_or ms i m → IsMember types (member_code m)
is_member types ms i m h less is = member_at types (map member_code ms) i (member_code m) h (at_map member_code ms i m less is)

pub put_text-requires : goal.put_text-requires
put_text-requires c =
    let (types, are, right) = c.requires.right in
    let m = c.member-item.result in
    let h = is_member types c.args.members.now c.loop-member.member-index m right c.loop-member-test.true c.member-item.is in
    omega (arith, ap length c.as_str.ensures.value, name_short (string_bytes m.name) h.legal)

pub put_values-requires-clause-few : goal.put_values-requires-clause-few
put_values-requires-clause-few c =
    let (types, are, right) = c.requires.right in
    let m = c.member-item.result in
    let h = is_member types c.args.members.now c.loop-member.member-index m right c.loop-member-test.true c.member-item.is in
    let values : map plain c.deref.result.now ≡ m.start.values = ap (map plain) c.deref.ensures.value ∙ c.in_ok-state_values.ensures in
    omega (arith, ap length values, length-map c.deref.result.now plain, HaveTypes-length types m.start.values m.start.types h.typed, h.few_variables)

pub put_values-requires-clause-typed : goal.put_values-requires-clause-typed
put_values-requires-clause-typed c =
    let (types, are, right) = c.requires.right in
    let m = c.member-item.result in
    let h = is_member types c.args.members.now c.loop-member.member-index m right c.loop-member-test.true c.member-item.is in
    let values : map plain c.deref.result.now ≡ m.start.values = ap (map plain) c.deref.ensures.value ∙ c.in_ok-state_values.ensures in
    (types, are, subst (OwnTypes types) (sym values) (HaveTypes-owns types m.start.values m.start.types h.typed).1)

pub put_entries-requires-clause-few : goal.put_entries-requires-clause-few
put_entries-requires-clause-few c =
    let (types, are, right) = c.requires.right in
    let m = c.member-item.result in
    let h = is_member types c.args.members.now c.loop-member.member-index m right c.loop-member-test.true c.member-item.is in
    omega (arith, ap length c.deref-in-loop-member.ensures.value, length-map m.entries.items entry_code, h.few_entries)

pub put_entries-requires-clause-right : goal.put_entries-requires-clause-right
put_entries-requires-clause-right c =
    let (types, are, right) = c.requires.right in
    let m = c.member-item.result in
    let h = is_member types c.args.members.now c.loop-member.member-index m right c.loop-member-test.true c.member-item.is in
    let entries : map entry_code m.entries.items ≡ map entry_code c.deref-in-loop-member.result.now = ap (map entry_code) (sym c.deref-in-loop-member.ensures.value) in
    (member_code m, subst AreTypes (sym h.types_are) are, subst (AreEntries (member_code m)) entries h.entries)
