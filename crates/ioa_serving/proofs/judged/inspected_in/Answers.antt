use Rattle.std.proofs.Common.{Some, refl, sym, ap, ◌∙◌}
use Rattle.std.specs.Option.{option_copied}
use Rattle.ioa_compose.specs.Held.{composed_of}
use Rattle.ioa_compile.specs.Subjects.{of_composition}
use Rattle.ioa_system.specs.Logs.{logged}
use Rattle.ioa_serving.specs.SeedRuns.{broken_in}
use Rattle.ioa_serving.proofs.judged.inspected_in.Goals as goal

pub returns-in-Ok : goal.returns-in-Ok
returns-in-Ok c =
    ap Some (c.in-Ok.ensures.ok (of_composition (composed_of c.in-Some.composition.now)) refl).1
    ∙ ap (λ o. broken_in (option_copied o) (logged c.args.log.now)) (sym c.in-Some.is)
