use Rattle.std.proofs.Common.{map, ap}
use Rattle.ioa_value.specs.Shapes.{tuple_field}
use Rattle.ioa_value.specs.declared.limits.TheConstants.{LIMITS as most}
use Rattle.ioa_object.specs.Reading.{field_at}
use Rattle.ioa_bytes.proofs.Readers.{seen_more, amid_fails, amid_more, amid_done, list_begun, list_fails}
use Rattle.ioa_object.proofs.types.fields.Goals as goal

pub returns-in_err-length : goal.returns-in_err-length
returns-in_err-length c =
    list_fails (field_at c.args.count) _ c.from_residual.result c.in_err-length.field-0.0 1 most.fields c.args.cursor.now _ c.from_residual.ensures.1 c.in_err-length.ensures.read

pub loop-init : goal.loop-init
loop-init c =
    list_begun (field_at c.args.count) 1 most.fields c.in_ok-length.length c.args.cursor.now c.count.new.self (map tuple_field c.new-found.result.items)
    c.in_ok-length.ensures.read (ap (map tuple_field) c.new-found.ensures.items)

pub returns-in_err-field : goal.returns-in_err-field
returns-in_err-field c =
    amid_fails (field_at c.args.count) _ c.from_residual-in_err-field.result c.in_err-field.field-0.0 _ c.in_ok-length.length c.loop.counter (map tuple_field c.loop.found.items) c.loop.cursor _
    c.from_residual-in_err-field.ensures.1 c.loop-test.true c.loop.invariant (rw c.deref.ensures.value at c.in_err-field.ensures)

pub loop-preserved : goal.loop-preserved
loop-preserved c =
    amid_more (field_at c.args.count) _ c.in_ok-length.length c.loop.counter (map tuple_field c.loop.found.items) (map tuple_field c.push.new.self.items) c.loop.cursor c.field.new.cursor
    (tuple_field c.in_ok-field.field-0) c.loop-test.true c.loop.invariant (rw c.deref.ensures.value at c.in_ok-field.ensures)
    (seen_more tuple_field c.loop.found.items c.push.new.self.items c.in_ok-field.field-0 c.in_ok-push.ensures.items)

pub returns : goal.returns
returns c =
    amid_done (field_at c.args.count) _ c.in_ok-length.length c.loop.counter (map tuple_field c.loop.found.items) c.loop.cursor c.loop-test.false c.loop.invariant
