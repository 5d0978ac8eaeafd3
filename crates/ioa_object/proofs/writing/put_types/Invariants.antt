use Rattle.std.proofs.Common.{◌≡◌, ◌++◌, ◌-◌, drop, take}
use Rattle.std.specs.List.{flat_map}
use Rattle.ioa_object.specs.Spelling.{declaration}
use Rattle.ioa_object.proofs.writing.put_types.Given as goal

abbrev pub invariant-loop-number : goal.invariant-loop-number
invariant-loop-number l = l.out.items ≡ l.initial.out.items ++ flat_map declaration (take (l.number - 2) (drop 2 l.types))
