use Rattle.std.proofs.Common.{◌≡◌, map, subst}
use Rattle.std.proofs.lemmas.Result.{IfOk-weaker}
use Rattle.ioa_compose.specs.Held.{composed_of, member_of}
use Rattle.ioa_system.specs.Systems.{values_of}
use Rattle.ioa_account.specs.States.{is_down_at}
use Rattle.ioa_account.proofs.StateLines.{down_alike}
use Rattle.ioa_account.proofs.states.is_down.Goals as goal

pub returns : goal.returns
returns c =
    let vss = values_of c.args.states.now in
    IfOk-weaker c.is_down_at.result _ _
    (λ down e. down_alike (composed_of c.args.composition.now) vss c.args.number down
    (subst (λ ms. down ≡ is_down_at (map member_of ms) vss c.args.number) c.members.ensures.value e))
    c.is_down_at.ensures
