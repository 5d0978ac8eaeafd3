use Rattle.std.proofs.Common.{◌≡◌, ◌-◌, ◌<◌}
use Rattle.ioa_object.specs.Reading.{instrs_at, instr_at}
use Rattle.ioa_bytes.specs.Items.{items_at}
use Rattle.ioa_object.proofs.parts.instructions.Given as goal

abbrev pub invariant-loop : goal.invariant-loop
invariant-loop l = record {
  read : instrs_at l.loops l.fn.cursor ≡ items_at (instr_at l.loops l.part) l.found.items (l.count - l.counter) l.cursor;
  further : l.fn.cursor.place < l.cursor.place;
  parts : l.cursor.parts ≡ l.fn.cursor.parts;
}
