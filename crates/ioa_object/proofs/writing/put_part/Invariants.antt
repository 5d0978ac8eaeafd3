use Rattle.std.proofs.Common.{◌≡◌, ◌++◌, take}
use Rattle.std.specs.List.{flat_map}
use Rattle.ioa_object.specs.Spelling.{instruction}
use Rattle.ioa_object.proofs.writing.put_part.Given as goal

abbrev pub invariant-loop-instr : goal.invariant-loop-instr
invariant-loop-instr l = l.out.items ≡ l.initial.out.items ++ flat_map instruction (take l.instr-index l.instrs)
