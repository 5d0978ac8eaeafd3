use Rattle.std.proofs.Common.{◌≡◌, drop, None}
use Rattle.std.specs.Prelude.{option_map}
use Rattle.ioa_tree.specs.View.{tree_of, assembly_of}
use Rattle.ioa_tree.specs.Compositions as spec
use Rattle.ioa_compose.proofs.PickLemmas.{last_or}
use Rattle.ioac.proofs.remarks.sources.last_composition.Given as goal

abbrev pub invariant-loop-declaration : goal.invariant-loop-declaration
invariant-loop-declaration l = last_or (option_map (λ c. assembly_of c.now) l.last) (spec.compositions (tree_of (drop l.declaration-index l.declarations))) ≡ last_or None (spec.compositions (tree_of l.declarations))
