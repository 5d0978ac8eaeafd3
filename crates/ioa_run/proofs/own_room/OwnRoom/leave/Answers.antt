use Rattle.std.proofs.Common.{◌∙◌, ap, map}
use Rattle.ioa_board.specs.ProgramRooms.{ProgramRoom}
use Rattle.ioa_run.specs.Tallies.{tally_of}
use Rattle.ioa_run.proofs.Tallying.{agreeing_left}
use Rattle.ioa_run.proofs.own_room.OwnRoom.leave.Goals as goal

-- no tally is changed
pub invariant_of-self : goal.invariant_of-self
invariant_of-self g c =
    let r = c.self.inside.room in
    let rest = c.leave.ensures.rest in (
      ap (λ (x : ProgramRoom). x.program) rest ∙ c.self.invariant.0,
      ap (λ (x : ProgramRoom). x.inputs) rest ∙ c.self.invariant.1,
      ap (λ (x : ProgramRoom). x.turns) rest ∙ c.self.invariant.2,
      ap (λ (x : ProgramRoom). x.before) rest ∙ c.self.invariant.3,
      agreeing_left r c.leave.new.self c.args.who r.turns c.args.why (map tally_of c.self.inside.tallies.items) c.leave.ensures c.self.invariant.4,
    )
