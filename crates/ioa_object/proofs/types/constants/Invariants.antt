use Rattle.std.proofs.Common.{◌≡◌, ◌-◌, ◌++◌, map}
use Rattle.std.specs.String.{string_bytes}
use Rattle.ioa_value.specs.Table.{contains}
use Rattle.ioa_value.specs.declared.limits.TheConstants.{LIMITS as most}
use Rattle.ioa_bytes.specs.Items.{list_at, items_at, name_at}
use Rattle.ioa_object.proofs.types.constants.Given as goal

abbrev pub invariant-loop : goal.invariant-loop
invariant-loop l = record {
  read : list_at 1 most.names (λ before. name_at (contains (l.fn.taken ++ before))) l.fn.cursor
      ≡ items_at (λ before. name_at (contains (l.fn.taken ++ before))) (map string_bytes l.names.items) (l.count - l.counter) l.cursor;
  taken : l.taken ≡ l.fn.taken ++ map string_bytes l.names.items;
}
