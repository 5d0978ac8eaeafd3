use Rattle.std.proofs.Common.{take}
use Rattle.std.specs.List.{AllZip}
use Rattle.ioa_tree.specs.View.{tree_of, instance_of}
use Rattle.ioa_compose.specs.Bindings.{Binds}
use Rattle.ioa_compose.proofs.binding.bind_all.Given as goal

abbrev pub invariant-loop-index : goal.invariant-loop-index
invariant-loop-index l = AllZip (λ i b. Binds (tree_of l.declarations) (instance_of i) b) (take l.index l.instances) l.bindings.items
