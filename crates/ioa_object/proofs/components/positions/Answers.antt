use Rattle.std.proofs.Common.{map, ap}
use Rattle.ioa_value.specs.Positions.{domain_of}
use Rattle.ioa_value.specs.declared.limits.TheConstants.{LIMITS as most}
use Rattle.ioa_object.specs.Reading.{position_at}
use Rattle.ioa_bytes.proofs.Readers.{seen_more, amid_fails, amid_more, amid_done, list_begun, list_fails}
use Rattle.ioa_object.proofs.components.positions.Goals as goal

pub returns-in_err-count : goal.returns-in_err-count
returns-in_err-count c =
    list_fails (λ _. position_at c.args.types.now) _ c.from_residual.result c.in_err-count.field-0.0 0 most.parameters c.args.cursor.now _ c.from_residual.ensures.1 c.in_err-count.ensures.read

pub loop-init : goal.loop-init
loop-init c =
    list_begun (λ _. position_at c.args.types.now) 0 most.parameters c.in_ok-count.count c.args.cursor.now c.count.new.self (map domain_of c.new-found.result.items)
    c.in_ok-count.ensures.read (ap (map domain_of) c.new-found.ensures.items)

pub returns-in_err-position : goal.returns-in_err-position
returns-in_err-position c =
    amid_fails (λ _. position_at c.args.types.now) _ c.from_residual-in_err-position.result c.in_err-position.field-0.0 _ c.in_ok-count.count c.loop.counter (map domain_of c.loop.found.items) c.loop.cursor _
    c.from_residual-in_err-position.ensures.1 c.loop-test.true c.loop.invariant c.in_err-position.ensures

pub loop-preserved : goal.loop-preserved
loop-preserved c =
    amid_more (λ _. position_at c.args.types.now) _ c.in_ok-count.count c.loop.counter (map domain_of c.loop.found.items) (map domain_of c.push.new.self.items) c.loop.cursor c.position.new.cursor
    (domain_of c.in_ok-position.field-0) c.loop-test.true c.loop.invariant c.in_ok-position.ensures
    (seen_more domain_of c.loop.found.items c.push.new.self.items c.in_ok-position.field-0 c.in_ok-push.ensures.items)

pub returns : goal.returns
returns c =
    amid_done (λ _. position_at c.args.types.now) _ c.in_ok-count.count c.loop.counter (map domain_of c.loop.found.items) c.loop.cursor c.loop-test.false c.loop.invariant
