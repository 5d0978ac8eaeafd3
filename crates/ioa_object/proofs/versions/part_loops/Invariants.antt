use Rattle.std.proofs.Common.{◌≡◌, drop}
use Rattle.std.specs.List.{list_any}
use Rattle.ioa_code.specs.Loops.{of_loops}
use Rattle.ioa_object.proofs.versions.part_loops.Given as goal

abbrev pub invariant-loop-instr : goal.invariant-loop-instr
invariant-loop-instr l = list_any of_loops (drop l.instr-index l.instr-items) ≡ list_any of_loops l.instr-items
