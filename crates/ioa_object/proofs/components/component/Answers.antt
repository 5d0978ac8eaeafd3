use Rattle.std.proofs.Common.{◌≡◌, ℕ, List, Ok, map, sym, ap, ◌∙◌, arith}
use Rattle.std.specs.String.{string_bytes}
use Rattle.ioa_value.specs.Actions.{Name}
use Rattle.ioa_value.specs.Plain.{Val, number, plain}
use Rattle.ioa_value.specs.Table.{contains}
use Rattle.ioa_value.specs.Typing.{own}
use Rattle.ioa_value.proofs.TypingLemmas.{HaveTypes-from_own}
use Rattle.ioa_parts.specs.Nodes.{Node}
use Rattle.ioa_crash.specs.Limits.{component_limits}
use Rattle.ioa_compile.specs.Programs.{MemberCode}
use Rattle.ioa_compile.specs.Shown.{entry_code, member_code}
use Rattle.ioa_object.specs.Reading.{component_at}
use Rattle.ioa_object.proofs.Entries.{values_format}
use Rattle.ioa_object.proofs.Formats.{yielded}
use Rattle.ioa_object.proofs.Names.{named_alike}
use Rattle.ioa_object.proofs.PartFormats.{own_types}
use Rattle.ioa_bytes.proofs.Readers.{reads_err, then_err, then_ok, name_free, name_taken}
use Rattle.ioa_object.proofs.Texts.{name_format}
use Rattle.ioa_object.proofs.components.component.Goals as goal

pub returns-then-is_named : goal.returns-then-is_named
unfolding component_at
returns-then-is_named c =
    then_err _ _ _ (name_taken (contains (map (λ m. m.name) (map member_code c.args.before.now))) c.args.cursor.now c.in_ok-name.name.text.now c.in_ok-name.name.at c.name.new.self c.in_ok-name.ensures.read
    (named_alike member_code (λ m. m.name) c.args.before.now _ _ _ c.is_named.ensures c.if-is_named.true))

pub returns-in_err-starts : goal.returns-in_err-starts
unfolding component_at
returns-in_err-starts c =
    let free = name_free (contains (map (λ m. m.name) (map member_code c.args.before.now))) c.args.cursor.now c.in_ok-name.name.text.now c.in_ok-name.name.at c.name.new.self c.in_ok-name.ensures.read
    (named_alike member_code (λ m. m.name) c.args.before.now _ _ _ c.is_named.ensures c.if-is_named.false) in
    reads_err _ c.from_residual-in_err-starts.result c.in_err-starts.field-0.0 _ _ _ c.from_residual-in_err-starts.ensures.1
    (λ f q. then_ok _ _ _ free ∙ then_err _ _ f q) c.in_err-starts.ensures

pub returns-in_err-entries : goal.returns-in_err-entries
unfolding component_at
returns-in_err-entries c =
    let slots : map number c.in_ok-slots.slots.items ≡ map own (map plain c.in_ok-starts.starts.items) = c.in_ok-slots.ensures ∙ ap (λ l. map own (map plain l)) c.deref.ensures.value in
    let free = name_free (contains (map (λ m. m.name) (map member_code c.args.before.now))) c.args.cursor.now c.in_ok-name.name.text.now c.in_ok-name.name.at c.name.new.self c.in_ok-name.ensures.read
    (named_alike member_code (λ m. m.name) c.args.before.now _ _ _ c.is_named.ensures c.if-is_named.false) in
    reads_err _ c.from_residual-in_err-entries.result c.in_err-entries.field-0.0 _ _ _ c.from_residual-in_err-entries.ensures.1
    (λ f q. then_ok _ _ _ free ∙ then_ok _ _ _ c.in_ok-starts.ensures ∙ then_err _ _ f q) (rw (c.deref-2.ensures.value, slots) at c.in_err-entries.ensures)

pub from_values-requires : goal.from_values-requires
from_values-requires c =
    let types = c.args.types.now in
    let vs = map plain c.in_ok-starts.starts.items in
    let slots : map number c.in_ok-slots.slots.items ≡ map own vs = c.in_ok-slots.ensures ∙ ap (λ l. map own (map plain l)) c.deref.ensures.value in
    let free = name_free (contains (map (λ m. m.name) (map member_code c.args.before.now))) c.args.cursor.now c.in_ok-name.name.text.now c.in_ok-name.name.at c.name.new.self c.in_ok-name.ensures.read
    (named_alike member_code (λ m. m.name) c.args.before.now _ _ _ c.is_named.ensures c.if-is_named.false) in
    let named = yielded _ _ c.in_ok-name.name.text.now c.name.new.self
    ((name_format (contains (map (λ m. m.name) (map member_code c.args.before.now)))).yields c.args.cursor.now c.alloc-alloc.ensures.bytes) free in
    let started = yielded _ _ vs c.values.new.cursor ((values_format types c.requires.types component_limits.variables (omega arith)).yields c.name.new.self named.after) c.in_ok-starts.ensures in
    rw (c.deref-4.ensures.value, c.deref-3.ensures.value) (HaveTypes-from_own types vs (map number c.in_ok-slots.slots.items) (sym slots) (own_types types vs started.fine.fine))

pub returns : goal.returns
unfolding component_at
returns c =
    let types = c.args.types.now in
    let d = c.entries.new.cursor in
    let vs = map plain c.in_ok-starts.starts.items in
    let es = map entry_code c.in_ok-entries.entries.items in
    let node : List ℕ → List Val → Node = λ ts vs. record { table = types; types = ts; values = vs } in
    let made : Name → Node → MemberCode = λ x s. record { name = x; start = s; entries = es } in
    let slots : map number c.in_ok-slots.slots.items ≡ map own vs = c.in_ok-slots.ensures ∙ ap (λ l. map own (map plain l)) c.deref.ensures.value in
    let start : c.in_ok-from_values.field-0 ≡ node (map own vs) vs =
    c.in_ok-from_values.ensures ∙ ap (λ l. node (map number l) (map plain c.deref-4.result.now)) c.deref-3.ensures.value
    ∙ ap (λ l. node (map number c.in_ok-slots.slots.items) (map plain l)) c.deref-4.ensures.value ∙ ap (λ ts. node ts vs) slots in
    let free = name_free (contains (map (λ m. m.name) (map member_code c.args.before.now))) c.args.cursor.now c.in_ok-name.name.text.now c.in_ok-name.name.at c.name.new.self c.in_ok-name.ensures.read
    (named_alike member_code (λ m. m.name) c.args.before.now _ _ _ c.is_named.ensures c.if-is_named.false) in
    then_ok _ _ _ free ∙ then_ok _ _ _ c.in_ok-starts.ensures ∙ then_ok _ _ _ (rw (c.deref-2.ensures.value, slots) at c.in_ok-entries.ensures)
    ∙ ap (λ x. Ok (made x (node (map own vs) vs), d)) (sym c.in_ok-text.ensures) ∙ ap (λ s. Ok (made (string_bytes c.in_ok-text.field-0) s, d)) (sym start)
