use Rattle.std.proofs.Common.{Ok, map, take}
use Rattle.std.specs.List.{flat_map}
use Rattle.ioa_value.specs.Table.{basic}
use Rattle.ioa_tree.specs.View.{tree_of}
use Rattle.ioa_tree.specs.WellFormed.{declared_names}
use Rattle.ioa_rules.specs.Globals.{Adds}
use Rattle.ioa_rules.proofs.globals.global_names.Given as goal

abbrev pub invariant-loop-declaration : goal.invariant-loop-declaration
invariant-loop-declaration l =
    Adds {T = Unit {0}} (Ok tt) (map (λ d. d.name) basic) (flat_map declared_names (tree_of (take l.declaration-index l.declarations))) l.names
