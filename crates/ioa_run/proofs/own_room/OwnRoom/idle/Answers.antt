use Rattle.std.proofs.Common.{◌≡◌, ◌∙◌, ap, map, subst}
use Rattle.ioa_board.specs.ProgramRooms.{HasInputsLeft, ProgramRoom}
use Rattle.ioa_run.specs.Tallies.{tally_of}
use Rattle.ioa_run.proofs.Tallying.{agreeing_idle, follow_from, idle_either, idle_rest}
use Rattle.ioa_run.proofs.own_room.OwnRoom.idle.Goals as goal

-- the tallies follow the reports
pub invariant_of-self : goal.invariant_of-self
invariant_of-self g c =
    let r = c.self.inside.room in
    let r' = c.idle.new.self in
    let either = idle_either r r' c.args.who c.idle.ensures.left c.idle.ensures.idle in
    let rest = idle_rest r r' c.args.who either in
    let ts = map tally_of c.self.inside.tallies.items in
    let us = map tally_of c.follow.new.tallies.items in (
      ap (λ (x : ProgramRoom). x.program) rest ∙ c.self.invariant.0,
      ap (λ (x : ProgramRoom). x.inputs) rest ∙ c.self.invariant.1,
      ap (λ (x : ProgramRoom). x.turns) rest ∙ c.self.invariant.2,
      ap (λ (x : ProgramRoom). x.before) rest ∙ c.self.invariant.3,
      agreeing_idle r r' c.args.who c.args.pick ts us either (follow_from c.args.pick c.args.who r r' c.report_of-before.result ts us c.follow.ensures c.report_of-before.ensures) c.self.invariant.4,
    )

pub returns-clause-left : goal.returns-clause-left
returns-clause-left g c = subst (λ (r : ProgramRoom). HasInputsLeft r c.args.who → c.idle.new.self ≡ r) c.self.view_is c.idle.ensures.left
