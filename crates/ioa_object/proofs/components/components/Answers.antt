use Rattle.std.proofs.Common.{map, ap}
use Rattle.ioa_compile.specs.Shown.{member_code}
use Rattle.ioa_value.specs.declared.limits.TheConstants.{LIMITS as most}
use Rattle.ioa_object.specs.Reading.{component_at}
use Rattle.ioa_bytes.proofs.Readers.{seen_more, amid_fails, amid_more, amid_done, list_begun, list_fails}
use Rattle.ioa_object.proofs.components.components.Goals as goal

pub returns-in_err-count : goal.returns-in_err-count
returns-in_err-count c =
    list_fails (component_at c.args.loops c.args.types.now) _ c.from_residual.result c.in_err-count.field-0.0 1 most.components c.args.cursor.now _ c.from_residual.ensures.1 c.in_err-count.ensures.read

pub loop-init : goal.loop-init
loop-init c =
    list_begun (component_at c.args.loops c.args.types.now) 1 most.components c.in_ok-count.count c.args.cursor.now c.count.new.self (map member_code c.new-found.result.items)
    c.in_ok-count.ensures.read (ap (map member_code) c.new-found.ensures.items)

pub returns-in_err-component : goal.returns-in_err-component
returns-in_err-component c =
    amid_fails (component_at c.args.loops c.args.types.now) _ c.from_residual-in_err-component.result c.in_err-component.field-0.0 _ c.in_ok-count.count c.loop.counter (map member_code c.loop.found.items) c.loop.cursor _
    c.from_residual-in_err-component.ensures.1 c.loop-test.true c.loop.invariant (rw c.deref.ensures.value at c.in_err-component.ensures)

pub loop-preserved : goal.loop-preserved
loop-preserved c =
    amid_more (component_at c.args.loops c.args.types.now) _ c.in_ok-count.count c.loop.counter (map member_code c.loop.found.items) (map member_code c.push.new.self.items) c.loop.cursor c.component.new.cursor
    (member_code c.in_ok-component.field-0) c.loop-test.true c.loop.invariant (rw c.deref.ensures.value at c.in_ok-component.ensures)
    (seen_more member_code c.loop.found.items c.push.new.self.items c.in_ok-component.field-0 c.in_ok-push.ensures.items)

pub returns : goal.returns
returns c =
    amid_done (component_at c.args.loops c.args.types.now) _ c.in_ok-count.count c.loop.counter (map member_code c.loop.found.items) c.loop.cursor c.loop-test.false c.loop.invariant
