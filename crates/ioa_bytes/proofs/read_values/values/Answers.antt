use Rattle.std.proofs.Common.{map, ap}
use Rattle.ioa_value.specs.Plain.{plain}
use Rattle.ioa_bytes.specs.Items.{value_at}
use Rattle.ioa_bytes.proofs.Readers.{seen_more, amid_fails, amid_more, amid_done, list_begun, list_fails}
use Rattle.ioa_bytes.proofs.read_values.values.Goals as goal

pub returns-in_err-count : goal.returns-in_err-count
returns-in_err-count c =
    list_fails (λ _. value_at c.args.types.now) _ c.from_residual.result c.in_err-count.field-0.0 0 c.args.most c.args.cursor.now _ c.from_residual.ensures.1 c.in_err-count.ensures.read

pub loop-init : goal.loop-init
loop-init c =
    list_begun (λ _. value_at c.args.types.now) 0 c.args.most c.in_ok-count.count c.args.cursor.now c.count.new.self (map plain c.new-found.result.items) c.in_ok-count.ensures.read
    (ap (map plain) c.new-found.ensures.items)

pub returns-in_err-value : goal.returns-in_err-value
returns-in_err-value c =
    amid_fails (λ _. value_at c.args.types.now) _ c.from_residual-in_err-value.result c.in_err-value.field-0.0 _ c.in_ok-count.count c.loop.counter (map plain c.loop.found.items) c.loop.cursor _
    c.from_residual-in_err-value.ensures.1 c.loop-test.true c.loop.invariant c.in_err-value.ensures

pub loop-preserved : goal.loop-preserved
loop-preserved c =
    amid_more (λ _. value_at c.args.types.now) _ c.in_ok-count.count c.loop.counter (map plain c.loop.found.items) (map plain c.push.new.self.items) c.loop.cursor c.value.new.cursor
    (plain c.in_ok-value.field-0) c.loop-test.true c.loop.invariant c.in_ok-value.ensures
    (seen_more plain c.loop.found.items c.push.new.self.items c.in_ok-value.field-0 c.in_ok-push.ensures.items)

pub returns : goal.returns
returns c = amid_done (λ _. value_at c.args.types.now) _ c.in_ok-count.count c.loop.counter (map plain c.loop.found.items) c.loop.cursor c.loop-test.false c.loop.invariant
