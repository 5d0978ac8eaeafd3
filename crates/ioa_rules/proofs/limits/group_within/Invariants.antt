use Rattle.std.proofs.Common.{◌≡◌, ◌+◌, ◌≤◌, filter, drop, length}
use Rattle.ioa_tree.specs.View.{tree_of}
use Rattle.ioa_rules.specs.Sizes.{is_among}
use Rattle.ioa_rules.proofs.limits.group_within.Given as goal

abbrev pub invariant-loop-declaration : goal.invariant-loop-declaration
invariant-loop-declaration l =
    (l.count ≤ l.most)
    × (l.count + length (filter (is_among l.group) (tree_of (drop l.declaration-index l.declarations)))
    ≡ length (filter (is_among l.group) (tree_of l.declarations)))
