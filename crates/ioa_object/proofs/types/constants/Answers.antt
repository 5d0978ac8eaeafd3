use Rattle.std.proofs.Common.{◌≡◌, List, ◌∷◌, [], ◌++◌, map, sym, ap, ◌∙◌, append-nil, append_assoc}
use Rattle.std.specs.String.{string_bytes}
use Rattle.ioa_value.specs.Actions.{Name}
use Rattle.ioa_value.specs.Table.{contains}
use Rattle.ioa_value.specs.declared.limits.TheConstants.{LIMITS as most}
use Rattle.ioa_bytes.specs.Items.{Reader, name_at}
use Rattle.ioa_bytes.proofs.Readers.{seen_more, amid_fails, amid_more, amid_done, list_begun, list_fails}
use Rattle.ioa_object.proofs.types.constants.Goals as goal

abbrev item : List Name → List Name → Reader Name
item taken before = name_at (contains (taken ++ before))

pub returns-in_err-count-clause-read : goal.returns-in_err-count-clause-read
returns-in_err-count-clause-read c =
    list_fails (item c.args.taken.now) _ c.from_residual.result c.in_err-count.field-0.0 1 most.names c.args.cursor.now _ c.from_residual.ensures.1 c.in_err-count.ensures.read

pub loop-init : goal.loop-init
loop-init c =
    let none : map string_bytes c.new-names.result.items ≡ [] = ap (map string_bytes) c.new-names.ensures.items in
    record {
      read = list_begun (item c.args.taken.now) 1 most.names c.in_ok-count.count c.args.cursor.now c.count.new.self (map string_bytes c.new-names.result.items) c.in_ok-count.ensures.read none;
      taken = sym (append-nil c.args.taken.now) ∙ ap (λ l. c.args.taken.now ++ l) (sym none);
    }

pub returns-in_err-new_name-clause-read : goal.returns-in_err-new_name-clause-read
returns-in_err-new_name-clause-read c =
    amid_fails (item c.args.taken.now) _ c.from_residual-in_err-new_name.result c.in_err-new_name.field-0.0 _ c.in_ok-count.count c.loop.counter (map string_bytes c.loop.names.items)
    c.loop.cursor _ c.from_residual-in_err-new_name.ensures.1 c.loop-test.true c.loop.invariant.read (rw c.loop.invariant.taken at c.in_err-new_name.ensures.read)

pub loop-preserved : goal.loop-preserved
loop-preserved c =
    let x = c.in_ok-new_name.field-0.now in
    let more : map string_bytes c.push.new.self.items ≡ map string_bytes c.loop.names.items ++ x ∷ [] =
    seen_more string_bytes c.loop.names.items c.push.new.self.items c.in_ok-from_str.field-0 c.in_ok-push.ensures.items
    ∙ ap (λ y. map string_bytes c.loop.names.items ++ y ∷ []) c.in_ok-from_str.ensures.ok in
    record {
      read = amid_more (item c.args.taken.now) _ c.in_ok-count.count c.loop.counter (map string_bytes c.loop.names.items) (map string_bytes c.push.new.self.items) c.loop.cursor
          c.new_name.new.cursor x c.loop-test.true c.loop.invariant.read (rw c.loop.invariant.taken at c.in_ok-new_name.ensures.read) more;
      taken = c.in_ok-new_name.ensures.names ∙ ap (λ l. l ++ x ∷ []) c.loop.invariant.taken ∙ append_assoc c.args.taken.now (map string_bytes c.loop.names.items) (x ∷ [])
          ∙ ap (λ l. c.args.taken.now ++ l) (sym more);
    }

pub returns : goal.returns
returns c = record {
  read = amid_done (item c.args.taken.now) _ c.in_ok-count.count c.loop.counter (map string_bytes c.loop.names.items) c.loop.cursor c.loop-test.false c.loop.invariant.read;
  names = c.loop.invariant.taken;
}
