use Rattle.std.proofs.Common.{arith, ◌∙◌}
use Rattle.ioa_object.specs.Reading.{instr_at}
use Rattle.ioa_bytes.proofs.Readers.{amid_fails, amid_more, amid_done}
use Rattle.ioa_object.proofs.parts.instructions.Goals as goal

pub returns-in_err-instruction-clause-read : goal.returns-in_err-instruction-clause-read
returns-in_err-instruction-clause-read c =
    amid_fails (instr_at c.args.loops c.parts-part.result) _ c.from_residual-in_err-instruction.result c.in_err-instruction.field-0.0 _ c.in_ok-count.field-0 c.loop.counter c.loop.found.items c.loop.cursor _
    c.from_residual-in_err-instruction.ensures.1 c.loop-test.true c.loop.invariant.read (rw c.deref.ensures.value at c.in_err-instruction.ensures.read)

pub loop-preserved : goal.loop-preserved
loop-preserved c = record {
  read = amid_more (instr_at c.args.loops c.parts-part.result) _ c.in_ok-count.field-0 c.loop.counter c.loop.found.items _ c.loop.cursor c.instruction.new.cursor c.in_ok-instruction.field-0
      c.loop-test.true c.loop.invariant.read (rw c.deref.ensures.value at c.in_ok-instruction.ensures.read) c.in_ok-push.ensures.items;
  further = let h = c.in_ok-instruction.ensures.further in omega arith;
  parts = c.in_ok-instruction.ensures.further.1 ∙ c.loop.invariant.parts;
}

pub returns : goal.returns
returns c = record {
  read = amid_done (instr_at c.args.loops c.parts-part.result) _ c.in_ok-count.field-0 c.loop.counter c.loop.found.items c.loop.cursor c.loop-test.false c.loop.invariant.read;
  further = (c.loop.invariant.further, c.loop.invariant.parts);
}
