use Rattle.std.proofs.Common.{◌≡◌, map, drop}
use Rattle.std.specs.List.{list_all}
use Rattle.ioa_value.specs.declared.limits.TheConstants.{LIMITS}
use Rattle.ioa_tree.specs.View.{declaration_of}
use Rattle.ioa_tree.specs.WellFormed as well_formed
use Rattle.ioa_rules.proofs.limits.each_declaration_within.Given as goal

abbrev pub invariant-loop-declaration : goal.invariant-loop-declaration
invariant-loop-declaration l = list_all (well_formed.declaration_within LIMITS) (map declaration_of (drop l.declaration-index l.declarations)) ≡ list_all (well_formed.declaration_within LIMITS) (map declaration_of l.declarations)
