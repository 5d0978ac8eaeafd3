use Rattle.std.proofs.Common.{◌≡◌, map, drop}
use Rattle.ioa_value.specs.Table.{Table}
use Rattle.ioa_tree.specs.View.{name_of}
use Rattle.ioa_tree.specs.Compositions as spec
use Rattle.ioa_compose.specs.Bindings.{plain_in}
use Rattle.ioa_compose.proofs.hidden.is_output_of.Given as goal

abbrev pub invariant-loop-binding : goal.invariant-loop-binding
invariant-loop-binding l =
    (types : Table) → spec.is_output_of (map (plain_in types) (drop l.binding-index l.bindings)) (name_of l.name)
    ≡ spec.is_output_of (map (plain_in types) l.bindings) (name_of l.name)
