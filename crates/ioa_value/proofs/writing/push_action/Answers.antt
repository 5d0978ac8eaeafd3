use Rattle.std.proofs.Common.{◌≡◌, ◌++◌, OnOk, map, string_bytes, ap, subst, ◌∙◌, append_assoc}
use Rattle.ioa_value.specs.Plain.{plain}
use Rattle.ioa_value.specs.Written.{written_action, written_values}
use Rattle.ioa_value.proofs.writing.push_action.Goals as goal

pub returns : goal.returns
unfolding written_action
returns c =
    let types = c.args.types.now in
    let a = c.args.action.now in
    let e : string_bytes c.push_str.new.self ++ written_values types (map plain c.deref.result.now) ≡ string_bytes c.args.text.now ++ (string_bytes a.name ++ written_values types (map plain a.vals.items)) =
    ap (λ l. l ++ written_values types (map plain c.deref.result.now)) (c.in_ok-push_str.ensures.bytes ∙ ap (λ l. string_bytes c.args.text.now ++ l) c.as_str.ensures.value)
    ∙ append_assoc (string_bytes c.args.text.now) (string_bytes a.name) (written_values types (map plain c.deref.result.now))
    ∙ ap (λ l. string_bytes c.args.text.now ++ (string_bytes a.name ++ written_values types (map plain l))) c.deref.ensures.value in
    subst (λ l. OnOk c.push_values.result (string_bytes c.push_values.new.text ≡ l)) e c.push_values.ensures
