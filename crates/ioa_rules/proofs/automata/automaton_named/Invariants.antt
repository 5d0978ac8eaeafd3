use Rattle.std.proofs.Common.{◌≡◌, drop}
use Rattle.ioa_tree.specs.Compositions as compositions
use Rattle.ioa_tree.specs.View.{name_of, tree_of}
use Rattle.ioa_rules.proofs.automata.automaton_named.Given as goal

abbrev pub invariant-loop-declaration : goal.invariant-loop-declaration
invariant-loop-declaration l =
    compositions.automaton_named (tree_of (drop l.declaration-index l.declarations)) (name_of l.name)
    ≡ compositions.automaton_named (tree_of l.declarations) (name_of l.name)
