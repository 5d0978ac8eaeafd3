use Rattle.std.proofs.Common.{string_bytes, ap₂, ◌++◌, ◌∙◌}
use Rattle.ioa_value.specs.Plain.{plain}
use Rattle.ioa_compose.specs.Held.{member_of}
use Rattle.ioa_account.specs.States.{slot_line, value_line}
use Rattle.ioa_picture.proofs.Numbered.{line_more}
use Rattle.ioa_account.proofs.states.put_values.Goals as goal

pub loop-i-preserved : goal.loop-i-preserved
loop-i-preserved c =
    let types = c.args.types.now in
    let value = plain c.index-values-i.result in
    line_more (slot_line types (member_of c.args.member.now)) plain c.args.values.now c.loop-i.i c.index-values-i.result (string_bytes c.args.text.now)
    (string_bytes c.loop-i.text) (string_bytes c.put_value.new.text) c.loop-i-test.true c.index-values-i.is c.loop-i.invariant
    (c.in_ok-put_value.ensures ∙ ap₂ (λ component name. string_bytes c.loop-i.text ++ value_line types component name value) c.as_str.ensures.value c.slot_name-name.ensures)
