use Rattle.std.proofs.Common.{map, take}
use Rattle.ioa_value.specs.Shapes.{declaration, FindsConstants}
use Rattle.ioa_value.proofs.declarations.constants_of.Given as goal

abbrev pub invariant-loop-i : goal.invariant-loop-i
invariant-loop-i l = FindsConstants l.constants (map declaration (take l.i l.declared))
