use Rattle.std.proofs.Common.{◌≡◌, map, drop}
use Rattle.std.specs.List.{list_all}
use Rattle.ioa_value.specs.declared.limits.TheConstants.{LIMITS}
use Rattle.ioa_tree.specs.View.{entry_of}
use Rattle.ioa_tree.specs.WellFormed as well_formed
use Rattle.ioa_rules.proofs.limits.entries_within.Given as goal

abbrev pub invariant-loop-entry : goal.invariant-loop-entry
invariant-loop-entry l = list_all (well_formed.entry_within LIMITS) (map entry_of (drop l.entry-index l.entries)) ≡ list_all (well_formed.entry_within LIMITS) (map entry_of l.entries)
