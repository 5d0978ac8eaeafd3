use Rattle.std.proofs.Common.{◌∙◌, ap, map, subst, sym}
use Rattle.ioa_compile.specs.Programs.{Prog}
use Rattle.ioa_board.specs.ProgramRooms.{ProgramRoom}
use Rattle.ioa_run.specs.TalliedRuns.{IsTallied}
use Rattle.ioa_run.specs.Tallies.{blank}
use Rattle.ioa_run.proofs.alone.run_alone.Goals as goal

pub run_in-requires-clause-blank : goal.run_in-requires-clause-blank
run_in-requires-clause-blank g c =
    c.in_ok-tallies.ensures ∙ ap (map blank) (c.members.ensures.value ∙ ap (λ (p : Prog). p.members) (sym (ap (λ (x : ProgramRoom). x.program) c.in_ok-room.ensures)))

pub returns-clause-tallied : goal.returns-clause-tallied
returns-clause-tallied g c =
    subst (λ (r : ProgramRoom). IsTallied r.program r.board.history c.in_ok-outcome.outcome c.run_in.new.tallies.items) c.in_ok-room.ensures c.in_ok-outcome.ensures.tallied
