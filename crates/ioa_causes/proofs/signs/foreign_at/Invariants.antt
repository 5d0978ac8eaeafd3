use Rattle.ioa_causes.proofs.signs.foreign_at.Given as goal

-- there are more rows to come, or none
abbrev pub invariant-loop-row : goal.invariant-loop-row
invariant-loop-row l =
    (goal.iterator-loop-row).can_next l.row-iterator ×
    (goal.iterator-loop-row).is_finite l.row-iterator
