use Rattle.std.proofs.Common.{All, take}
use Rattle.ioa_tree.specs.Compositions.{compositions}
use Rattle.ioa_tree.specs.View.{tree_of}
use Rattle.ioa_serving.specs.Checks.{Composes}
use Rattle.ioa_serving.proofs.check.compose_each.Given as goal

-- those that are passed compose
abbrev pub invariant-loop-declaration : goal.invariant-loop-declaration
invariant-loop-declaration l = All (Composes (tree_of l.checked)) (compositions (tree_of (take l.declaration-index l.declarations)))
