-- What is found in the states of a log's run, said of what the composition stands for.
use Rattle.std.proofs.Common.{◌≡◌, Result, Ok, Err, IfOk, ◌∙◌}
use Rattle.std.specs.Option.{option_map}
use Rattle.ioa_tree.specs.Compositions.{Composed}
use Rattle.ioa_tree.specs.Invariants.{first_broken}
use Rattle.ioa_compile.specs.Implements.{Implements}
use Rattle.ioa_compile.specs.Programs.{Prog}
use Rattle.ioa_compile.specs.Subjects.{Subject}
use Rattle.ioa_system.specs.Logs.{Logged, actions_of}
use Rattle.ioa_system.proofs.Subjects.{run_of}
use Rattle.ioa_log.proofs.Judged.{IsReplay}
use Rattle.ioa_log.proofs.AgreeingLogs.{judged_as}
use Rattle.ioa_inspect.specs.declared.broken_invariants.Inspection.{Inspection}
use Rattle.ioa_inspect.specs.Breaking.{IsInspectionOf, SimulatesAs, broken_of}
use Rattle.ioa_inspect.proofs.Breaking.{broken_as, runs_through}

pub inspected_as : {E : Type 0} (p : Prog) (c : Composed) (log : Logged) (r : Result Inspection E) → Implements p c → IfOk r (λ i. IsReplay p log i.run)
    → IfOk r (λ i. option_map broken_of i.broken ≡ first_broken c (actions_of log)) → IfOk r (λ i. (s : Subject) → SimulatesAs c s → IsInspectionOf c s log i)
inspected_as p c log (Ok i) m k first = λ s stands.
    let runs = runs_through p c m s stands in
    record {
      agreed = judged_as p s runs log ∙ k.0;
      program = p;
      means = m;
      run = run_of p s runs (actions_of log) i.run k.1;
      first = first ∙ broken_as c s stands (actions_of log);
    }
inspected_as p c log (Err e) m k first = tt
