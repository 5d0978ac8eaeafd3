use Rattle.std.proofs.Common.{◌≡◌, true, false, [], map, drop}
use Rattle.std.specs.List.{list_all}
use Rattle.std.specs.Option.{option_map_or}
use Rattle.ioa_tree.specs.View.{expr_of}
use Rattle.ioa_tree.specs.WellFormed as well_formed
use Rattle.ioa_rules.specs.KnownTypes.{whole, early}
use Rattle.ioa_rules.proofs.declarations.arguments_fine.Given as goal

abbrev pub invariant-loop-argument : goal.invariant-loop-argument
invariant-loop-argument l = list_all (λ e. option_map_or (λ ty. true) (well_formed.type_of (whole l.known) (early l.known) [] e) false) (map expr_of (drop l.argument-index l.arguments)) ≡ list_all (λ e. option_map_or (λ ty. true) (well_formed.type_of (whole l.known) (early l.known) [] e) false) (map expr_of l.arguments)
