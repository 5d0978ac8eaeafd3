use Rattle.std.proofs.Common.{◌≡◌, Bool, true, false, sym, ◌∙◌, arith, rules}
use Rattle.std.proofs.lemmas.Grind.{common_steps}
use Rattle.ioa_compile.specs.Programs.{Prog}
use Rattle.ioa_compile.specs.Subjects.{RunsAs, Subject}
use Rattle.ioa_monitor.specs.Monitoring.{IsOpen, hides}
use Rattle.ioa_monitor.proofs.Subjects.{closed_as, open_as}
use Rattle.ioa_monitor.proofs.monitors.hides_actions.Goals as goal

-- what is answered, where it is that nothing is hidden
unhidden : (p : Prog) (b : Bool) → b ≡ false → b ≡ hides p → (s : Subject) → RunsAs p s → IsOpen s
unhidden p b e t s runs = open_as p (sym t ∙ e) s runs

pub returns-then-has_internal-clause-closed : goal.returns-then-has_internal-clause-closed
returns-then-has_internal-clause-closed c = λ e s runs.
    let t : true ≡ hides c.args.program.now = search rules in
    closed_as c.args.program.now (sym t) s runs

pub returns-else-has_internal-clause-open : goal.returns-else-has_internal-clause-open
returns-else-has_internal-clause-open c = λ e s runs. unhidden c.args.program.now _ e (grind (arith, common_steps)) s runs
