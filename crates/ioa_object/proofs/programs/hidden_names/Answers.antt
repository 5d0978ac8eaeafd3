use Rattle.std.proofs.Common.{map, ap}
use Rattle.std.specs.String.{string_bytes}
use Rattle.ioa_compile.specs.Shown.{member_code}
use Rattle.ioa_value.specs.declared.limits.TheConstants.{LIMITS as most}
use Rattle.ioa_object.specs.Reading.{hidden_at}
use Rattle.ioa_bytes.proofs.Readers.{seen_more, amid_fails, amid_more, amid_done, list_begun, list_fails}
use Rattle.ioa_object.proofs.programs.hidden_names.Goals as goal

pub returns-in_err-count : goal.returns-in_err-count
returns-in_err-count c =
    list_fails (hidden_at (map member_code c.args.members.now)) _ c.from_residual.result c.in_err-count.field-0.0 0 most.hidden c.args.cursor.now _ c.from_residual.ensures.1 c.in_err-count.ensures.read

pub loop-init : goal.loop-init
loop-init c =
    list_begun (hidden_at (map member_code c.args.members.now)) 0 most.hidden c.in_ok-count.count c.args.cursor.now c.count.new.self (map string_bytes c.new-found.result.items)
    c.in_ok-count.ensures.read (ap (map string_bytes) c.new-found.ensures.items)

pub returns-in_err-hidden_name : goal.returns-in_err-hidden_name
returns-in_err-hidden_name c =
    amid_fails (hidden_at (map member_code c.args.members.now)) _ c.from_residual-in_err-hidden_name.result c.in_err-hidden_name.field-0.0 _ c.in_ok-count.count c.loop.counter (map string_bytes c.loop.found.items) c.loop.cursor _
    c.from_residual-in_err-hidden_name.ensures.1 c.loop-test.true c.loop.invariant (rw c.deref.ensures.value at c.in_err-hidden_name.ensures)

pub loop-preserved : goal.loop-preserved
loop-preserved c =
    amid_more (hidden_at (map member_code c.args.members.now)) _ c.in_ok-count.count c.loop.counter (map string_bytes c.loop.found.items) (map string_bytes c.push.new.self.items) c.loop.cursor c.hidden_name.new.cursor
    (string_bytes c.in_ok-hidden_name.field-0) c.loop-test.true c.loop.invariant (rw c.deref.ensures.value at c.in_ok-hidden_name.ensures)
    (seen_more string_bytes c.loop.found.items c.push.new.self.items c.in_ok-hidden_name.field-0 c.in_ok-push.ensures.items)

pub returns : goal.returns
returns c =
    amid_done (hidden_at (map member_code c.args.members.now)) _ c.in_ok-count.count c.loop.counter (map string_bytes c.loop.found.items) c.loop.cursor c.loop-test.false c.loop.invariant
