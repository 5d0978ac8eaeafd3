use Rattle.std.proofs.Common.{Ok, map, take}
use Rattle.ioa_tree.specs.View.{name_of}
use Rattle.ioa_rules.specs.Globals.{Adds}
use Rattle.ioa_rules.proofs.globals.add_all.Given as goal

abbrev pub invariant-loop-name : goal.invariant-loop-name
invariant-loop-name l = Adds {T = Unit {0}} (Ok tt) l.fn.names (map name_of (take l.name-index l.added)) l.names
