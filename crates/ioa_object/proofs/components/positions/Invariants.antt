use Rattle.std.proofs.Common.{◌≡◌, ◌-◌, map}
use Rattle.ioa_value.specs.Positions.{domain_of}
use Rattle.ioa_value.specs.declared.limits.TheConstants.{LIMITS as most}
use Rattle.ioa_bytes.specs.Items.{list_at, items_at}
use Rattle.ioa_object.specs.Reading.{position_at}
use Rattle.ioa_object.proofs.components.positions.Given as goal

abbrev pub invariant-loop : goal.invariant-loop
invariant-loop l = list_at 0 most.parameters (λ _. position_at l.types) l.fn.cursor ≡ items_at (λ _. position_at l.types) (map domain_of l.found.items) (l.count - l.counter) l.cursor
