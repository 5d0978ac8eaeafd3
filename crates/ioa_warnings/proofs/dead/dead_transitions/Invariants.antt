use Rattle.std.proofs.Common.{◌≡◌, map, take}
use Rattle.std.specs.List.{flat_map}
use Rattle.ioa_warnings.specs.Dead.{dead_of_declaration}
use Rattle.ioa_warnings.specs.Shown.{dead_of}
use Rattle.ioa_warnings.proofs.dead.dead_transitions.Given as goal

-- those of the declarations so far
abbrev pub invariant-loop-declaration : goal.invariant-loop-declaration
invariant-loop-declaration l = map dead_of l.found.items ≡ flat_map dead_of_declaration (take l.declaration-index l.declarations)
