use Rattle.std.proofs.Common.{List, map, subst, sym}
use Rattle.ioa_compile.specs.Programs.{Prog}
use Rattle.ioa_board.specs.declared.report.Report.{Report}
use Rattle.ioa_run.specs.Tallies.{AreAgreeing, tally_of}
use Rattle.ioa_run.proofs.own_room.OwnRoom.finish.Goals as goal

pub returns-clause-tallied : goal.returns-clause-tallied
returns-clause-tallied g c =
    let r = c.self.inside.room in
    let ts = map tally_of c.self.inside.tallies.items in
    subst (λ (rs : List Report). AreAgreeing g.T.Terms.program.members rs ts) (sym c.finish.ensures.reports)
    (subst (λ (p : Prog). AreAgreeing p.members r.reports ts) c.self.invariant.0 c.self.invariant.4)
