use Rattle.std.proofs.Common.{◌≡◌, All, false, take}
use Rattle.std.specs.List.{AllZip}
use Rattle.ioa_tree.specs.View.{tree_of}
use Rattle.ioa_monitor.specs.Monitoring.{hides}
use Rattle.ioa_request.specs.Pasted.{texts}
use Rattle.ioa_serving.specs.Watching.{Specifies}
use Rattle.ioa_serving.proofs.specifications.specifications.Given as goal

abbrev pub invariant-loop-composition : goal.invariant-loop-composition
invariant-loop-composition l = record {
  each : AllZip (Specifies (tree_of l.checked)) (texts (take l.composition-index l.compositions)) l.programs.items;
  seen : All (λ p. hides p ≡ false) l.programs.items;
}
