use Rattle.std.proofs.Common.{string_bytes, map, subst, ◌≡◌, ◌++◌, OnOk}
use Rattle.ioa_compose.specs.Held.{composed_of, member_of}
use Rattle.ioa_system.specs.Systems.{values_of}
use Rattle.ioa_account.specs.States.{slots_at}
use Rattle.ioa_account.proofs.StateLines.{component_told}
use Rattle.ioa_account.proofs.states.put_component.Goals as goal

pub returns : goal.returns
returns c =
    let composed = composed_of c.args.composition.now in
    let types = c.types.result.now in
    let old = string_bytes c.args.text.now in
    let new = string_bytes c.put_slots_at.new.text in
    let vss = values_of c.args.states.now in
    component_told c.put_slots_at.result types composed vss c.args.number old new c.types.ensures.value c.types.ensures.sound
    (subst (λ ms. OnOk c.put_slots_at.result (new ≡ old ++ slots_at types (map member_of ms) vss c.args.number)) c.members.ensures.value c.put_slots_at.ensures)
