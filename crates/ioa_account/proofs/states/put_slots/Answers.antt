use Rattle.std.proofs.Common.{◌≡◌, string_bytes, map, ap, ◌++◌, ◌∙◌}
use Rattle.ioa_value.specs.Plain.{plain}
use Rattle.ioa_compose.specs.Held.{member_of}
use Rattle.ioa_account.specs.States.{slots_in}
use Rattle.ioa_picture.proofs.Numbered.{line_more}
use Rattle.ioa_account.proofs.states.put_slots.Goals as goal

pub loop-i-preserved : goal.loop-i-preserved
loop-i-preserved c =
    let types = c.args.types.now in
    let members = map member_of c.args.members.now in
    let so_far = string_bytes c.loop-i.text in
    let values : map plain c.deref.result.now ≡ c.index-states-i.result.values = ap (map plain) c.deref.ensures.value ∙ c.in_ok-values.ensures in
    line_more (slots_in types members) (λ n. n.values) c.args.states.now c.loop-i.i c.index-states-i.result (string_bytes c.args.text.now) so_far
    (string_bytes c.put_state.new.text) c.loop-i-test.true c.index-states-i.is c.loop-i.invariant
    (c.in_ok-put_state.ensures ∙ ap (λ vs. so_far ++ slots_in types members c.loop-i.i vs) values)
