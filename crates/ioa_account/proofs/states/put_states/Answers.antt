use Rattle.std.proofs.Common.{string_bytes, map, subst, ◌≡◌, ◌++◌, OnOk}
use Rattle.ioa_compose.specs.Held.{composed_of, member_of}
use Rattle.ioa_system.specs.Systems.{values_of}
use Rattle.ioa_picture.specs.Lines.{numbered}
use Rattle.ioa_account.specs.States.{slots_in}
use Rattle.ioa_account.proofs.StateLines.{states_told}
use Rattle.ioa_account.proofs.states.put_states.Goals as goal

pub returns : goal.returns
returns c =
    let composed = composed_of c.args.composition.now in
    let types = c.types.result.now in
    let old = string_bytes c.args.text.now in
    let new = string_bytes c.put_slots.new.text in
    let vss = values_of c.args.states.now in
    states_told c.put_slots.result types composed vss old new c.types.ensures.value c.types.ensures.sound
    (subst (λ ms. OnOk c.put_slots.result (new ≡ old ++ numbered (slots_in types (map member_of ms)) 0 vss)) c.members.ensures.value c.put_slots.ensures)
