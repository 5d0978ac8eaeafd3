use Rattle.std.proofs.Common.{map, take, string_bytes}
use Rattle.ioa_value.specs.Shapes.{FindsMore}
use Rattle.ioa_value.proofs.declarations.add_names.Given as goal

abbrev pub invariant-loop-n : goal.invariant-loop-n
invariant-loop-n l = FindsMore l.fn.constants l.constants l.ty.0 (map string_bytes (take l.n l.names))
