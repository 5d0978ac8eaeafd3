use Rattle.std.proofs.Common.{◌≡◌, ◌++◌, map, drop}
use Rattle.ioa_tree.specs.View.{tree_of, invariant_of}
use Rattle.ioa_tree.specs.Compositions as spec
use Rattle.ioa_compose.proofs.invariants.declared_invariants.Given as goal

abbrev pub invariant-loop-declaration : goal.invariant-loop-declaration
invariant-loop-declaration l = map invariant_of l.invariants.items ++ spec.invariants (tree_of (drop l.declaration-index l.declarations)) ≡ spec.invariants (tree_of l.declarations)
