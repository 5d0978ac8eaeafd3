use Rattle.std.proofs.Common.{◌≡◌, ◌+◌, ◌-◌, ◌*◌, length, drop}
use Rattle.ioa_value.specs.Plain.{plain_all}
use Rattle.ioa_value.specs.Shapes.{shape}
use Rattle.ioa_value.specs.Scanning.{row_types, scan_first, scan_row, scan_of}
use Rattle.ioa_value.proofs.RowLemmas.{joined}
use Rattle.ioa_value.proofs.scanning.+scanning.Given as goal

abbrev pub decreases-row_of_values : goal.decreases-row_of_values
decreases-row_of_values l = 3 * l.ty.0

abbrev pub decreases-composite : goal.decreases-composite
decreases-composite l = 3 * l.ty.0 + 1

abbrev pub decreases-value_of_type : goal.decreases-value_of_type
decreases-value_of_type l = 3 * l.ty.0 + 2

abbrev pub invariant-row_of_values-loop-next : goal.invariant-row_of_values-loop-next
invariant-row_of_values-loop-next l =
    joined (plain_all l.values.items) (scan_first (scan_of l.types) (shape l.form) (drop (length l.values.items) (row_types (shape l.form))) l.rest)
    ≡ scan_row (scan_of l.types) (shape l.form) l.text

abbrev pub decreases-row_of_values-loop-next : goal.decreases-row_of_values-loop-next
decreases-row_of_values-loop-next l = length (row_types (shape l.form)) - length l.values.items
