use Rattle.std.proofs.Common.{subst}
use Rattle.std.proofs.lemmas.Option.{IfSome_then}
use Rattle.std.proofs.lemmas.Result.{IfErr-weaker, IfOk-weaker}
use Rattle.ioa_tree.specs.Compositions.{Composed}
use Rattle.ioa_compile.specs.Programs.{Prog}
use Rattle.ioa_compose.specs.Held.{composed_of}
use Rattle.ioa_log.proofs.AgreeingLogs.{why_as}
use Rattle.ioa_inspect.specs.LogInspections.{IsTableInspected}
use Rattle.ioa_inspect.proofs.Breaking.{runs_through}
use Rattle.ioa_inspect.proofs.LogInspections.{inspected_as}
use Rattle.ioa_inspect.proofs.log_inspections.inspect_log.Goals as goal

pub returns-clause-ok : goal.returns-clause-ok
returns-clause-ok g c =
    let d : Composed = composed_of c.args.composition.now in
    let p : Prog = c.in_ok-program.program in
    IfOk-weaker c.inspect_lines.result _ _ (λ x k s stands.
    IfSome_then (g.R.Read.remaining c.args.input.now) k (λ bytes r. inspected_as p d c.in_ok-program.ensures s stands bytes x (subst (λ a. IsTableInspected p (composed_of a) bytes x) c.in_ok-asked.ensures r))) c.inspect_lines.ensures.ok

pub returns-clause-refused : goal.returns-clause-refused
returns-clause-refused g c =
    let d : Composed = composed_of c.args.composition.now in
    let p : Prog = c.in_ok-program.program in
    IfErr-weaker c.inspect_lines.result _ _ (λ e k s stands.
    IfSome_then (g.R.Read.remaining c.args.input.now) k (λ bytes r. why_as p s (runs_through p d c.in_ok-program.ensures s stands) bytes e r)) c.inspect_lines.ensures.refused
