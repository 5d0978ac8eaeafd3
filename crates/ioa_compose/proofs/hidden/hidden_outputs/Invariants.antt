use Rattle.std.proofs.Common.{◌≡◌, true, map, take}
use Rattle.std.specs.List.{list_all}
use Rattle.std.specs.String.{string_bytes}
use Rattle.ioa_value.specs.Table.{Table}
use Rattle.ioa_tree.specs.View.{name_of}
use Rattle.ioa_tree.specs.Compositions as spec
use Rattle.ioa_compose.specs.Bindings.{plain_in}
use Rattle.ioa_compose.proofs.hidden.hidden_outputs.Given as goal

abbrev pub invariant-loop-name : goal.invariant-loop-name
invariant-loop-name l = record {
  names : map string_bytes l.names.items ≡ map name_of (take l.name-index l.hidden);
  outputs : (types : Table) → list_all (spec.is_output_of (map (plain_in types) l.bindings)) (take l.name-index (map name_of l.hidden)) ≡ true;
}
