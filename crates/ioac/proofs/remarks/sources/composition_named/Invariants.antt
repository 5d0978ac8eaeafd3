use Rattle.std.proofs.Common.{◌≡◌, drop, find}
use Rattle.std.specs.Str.{bytes_eq}
use Rattle.ioa_tree.specs.View.{tree_of}
use Rattle.ioa_tree.specs.Compositions as spec
use Rattle.ioac.proofs.remarks.sources.composition_named.Given as goal

abbrev pub invariant-loop-declaration : goal.invariant-loop-declaration
invariant-loop-declaration l = find (λ c. bytes_eq c.name l.name) (spec.compositions (tree_of (drop l.declaration-index l.declarations))) ≡ find (λ c. bytes_eq c.name l.name) (spec.compositions (tree_of l.declarations))
