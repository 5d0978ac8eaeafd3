use Rattle.std.proofs.Common.{◌∙◌, ap, map}
use Rattle.ioa_board.specs.ProgramRooms.{ProgramRoom}
use Rattle.ioa_run.specs.Tallies.{tally_of}
use Rattle.ioa_run.proofs.Tallying.{agreeing_committed, follow_from}
use Rattle.ioa_run.proofs.own_room.OwnRoom.commit.Goals as goal

-- the tallies follow the reports
pub invariant_of-self : goal.invariant_of-self
invariant_of-self g c =
    let r = c.self.inside.room in
    let r' = c.commit-verdict.new.self in
    let rest = c.commit-verdict.ensures.rest in
    let ts = map tally_of c.self.inside.tallies.items in
    let us = map tally_of c.follow.new.tallies.items in (
      ap (λ (x : ProgramRoom). x.program) rest ∙ c.self.invariant.0,
      ap (λ (x : ProgramRoom). x.inputs) rest ∙ c.self.invariant.1,
      ap (λ (x : ProgramRoom). x.turns) rest ∙ c.self.invariant.2,
      ap (λ (x : ProgramRoom). x.before) rest ∙ c.self.invariant.3,
      agreeing_committed r r' c.args.who c.args.plan c.commit-verdict.result c.args.pick ts us c.requires.who c.commit-verdict.ensures
          (follow_from c.args.pick c.args.who r r' c.report_of-before.result ts us c.follow.ensures c.report_of-before.ensures) c.self.invariant.4,
    )
