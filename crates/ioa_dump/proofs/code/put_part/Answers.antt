use Rattle.std.proofs.Common.{string_bytes, arith}
use Rattle.std.proofs.lemmas.Option.{slice_get-get_or}
use Rattle.ioa_dump.specs.Dumps.{instruction_line}
use Rattle.ioa_picture.proofs.Numbered.{line_at}
use Rattle.ioa_dump.proofs.code.put_part.Goals as goal

pub loop-place-preserved : goal.loop-place-preserved
loop-place-preserved c =
    let instrs = c.instrs-instrs.result.now in
    let i = c.loop-place.place in
    line_at (instruction_line c.args.types.now c.args.part.now) 0 instrs i _ i (string_bytes c.writeln.new.self) (string_bytes c.loop-place.text)
    (string_bytes c.put_instruction.new.text) (slice_get-get_or instrs i _ c.loop-place-test.true) (omega arith) c.loop-place.invariant c.in_ok-put_instruction.ensures
