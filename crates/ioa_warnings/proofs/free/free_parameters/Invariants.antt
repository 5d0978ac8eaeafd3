use Rattle.std.proofs.Common.{◌≡◌, map, take}
use Rattle.std.specs.List.{flat_map}
use Rattle.ioa_warnings.specs.Free.{free_of_declaration}
use Rattle.ioa_warnings.specs.Shown.{free_of}
use Rattle.ioa_warnings.proofs.free.free_parameters.Given as goal

-- those of the declarations so far
abbrev pub invariant-loop-declaration : goal.invariant-loop-declaration
invariant-loop-declaration l = map free_of l.found.items ≡ flat_map free_of_declaration (take l.declaration-index l.declarations)
