use Rattle.std.proofs.Common.{map, ap}
use Rattle.ioa_compile.specs.Shown.{entry_code}
use Rattle.ioa_value.specs.Plain.{number}
use Rattle.ioa_crash.specs.Limits.{component_limits}
use Rattle.ioa_object.specs.Reading.{entry_at}
use Rattle.ioa_bytes.proofs.Readers.{seen_more, amid_fails, amid_more, amid_done, list_begun, list_fails}
use Rattle.ioa_object.proofs.components.entries.Goals as goal

pub returns-in_err-count : goal.returns-in_err-count
returns-in_err-count c =
    list_fails (entry_at c.args.loops c.args.types.now (map number c.args.slots.now)) _ c.from_residual.result c.in_err-count.field-0.0 1 component_limits.entries c.args.cursor.now _ c.from_residual.ensures.1 c.in_err-count.ensures.read

pub loop-init : goal.loop-init
loop-init c =
    list_begun (entry_at c.args.loops c.args.types.now (map number c.args.slots.now)) 1 component_limits.entries c.in_ok-count.count c.args.cursor.now c.count.new.self (map entry_code c.new-found.result.items)
    c.in_ok-count.ensures.read (ap (map entry_code) c.new-found.ensures.items)

pub returns-in_err-entry : goal.returns-in_err-entry
returns-in_err-entry c =
    amid_fails (entry_at c.args.loops c.args.types.now (map number c.args.slots.now)) _ c.from_residual-in_err-entry.result c.in_err-entry.field-0.0 _ c.in_ok-count.count c.loop.counter (map entry_code c.loop.found.items) c.loop.cursor _
    c.from_residual-in_err-entry.ensures.1 c.loop-test.true c.loop.invariant (rw c.deref.ensures.value at c.in_err-entry.ensures)

pub loop-preserved : goal.loop-preserved
loop-preserved c =
    amid_more (entry_at c.args.loops c.args.types.now (map number c.args.slots.now)) _ c.in_ok-count.count c.loop.counter (map entry_code c.loop.found.items) (map entry_code c.push.new.self.items) c.loop.cursor c.entry.new.cursor
    (entry_code c.in_ok-entry.field-0) c.loop-test.true c.loop.invariant (rw c.deref.ensures.value at c.in_ok-entry.ensures)
    (seen_more entry_code c.loop.found.items c.push.new.self.items c.in_ok-entry.field-0 c.in_ok-push.ensures.items)

pub returns : goal.returns
returns c =
    amid_done (entry_at c.args.loops c.args.types.now (map number c.args.slots.now)) _ c.in_ok-count.count c.loop.counter (map entry_code c.loop.found.items) c.loop.cursor c.loop-test.false c.loop.invariant
