use Rattle.std.proofs.Common.{drop}
use Rattle.ioa_tree.specs.View.{tree_of}
use Rattle.ioa_rules.proofs.TypeLemmas.{Making}
use Rattle.ioa_rules.proofs.types.source_types.Given as goal

abbrev pub invariant-loop-declaration : goal.invariant-loop-declaration
invariant-loop-declaration l = Making (tree_of l.declarations) l.types (tree_of (drop l.declaration-index l.declarations))
