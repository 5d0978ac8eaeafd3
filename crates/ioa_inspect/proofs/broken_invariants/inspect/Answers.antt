use Rattle.std.proofs.Common.{◌≡◌, IfOk, sym, subst}
use Rattle.std.specs.Option.{option_map}
use Rattle.std.proofs.lemmas.Result.{IfErr-weaker}
use Rattle.ioa_tree.specs.Compositions.{Composed}
use Rattle.ioa_tree.specs.Invariants.{first_broken}
use Rattle.ioa_compose.specs.Held.{composed_of}
use Rattle.ioa_compile.specs.Programs.{Prog}
use Rattle.ioa_system.specs.Logs.{Logged, actions_of, logged}
use Rattle.ioa_log.specs.Judging.{TellsVerdict}
use Rattle.ioa_log.proofs.AgreeingLogs.{judged_as}
use Rattle.ioa_inspect.specs.Breaking.{broken_of}
use Rattle.ioa_inspect.proofs.Breaking.{runs_through}
use Rattle.ioa_inspect.proofs.Inspected.{inspected_as}
use Rattle.ioa_inspect.proofs.broken_invariants.inspect.Goals as goal

pub returns-clause-ok : goal.returns-clause-ok
returns-clause-ok c =
    let log : Logged = logged c.args.log.now in
    inspected_as c.in_ok-program.program (composed_of c.args.composition.now) log c.inspect_table.result c.in_ok-program.ensures c.inspect_table.ensures.run
    (subst (λ h. IfOk c.inspect_table.result (λ i. option_map broken_of i.broken ≡ first_broken (composed_of h) (actions_of log))) c.in_ok-asked.ensures c.inspect_table.ensures.first)

pub returns-clause-refused : goal.returns-clause-refused
returns-clause-refused c =
    let log : Logged = logged c.args.log.now in
    let d : Composed = composed_of c.args.composition.now in
    let p : Prog = c.in_ok-program.program in
    IfErr-weaker c.inspect_table.result _ _ (λ e t s stands. subst (TellsVerdict e) (sym (judged_as p s (runs_through p d c.in_ok-program.ensures s stands) log)) t) c.inspect_table.ensures.verdict
