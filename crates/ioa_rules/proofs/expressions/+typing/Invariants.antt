use Rattle.std.proofs.Common.{◌≡◌, ◌≤◌, true, drop, length, is_none}
use Rattle.ioa_value.specs.Table.{field_types}
use Rattle.ioa_tree.specs.View.{exprs_of}
use Rattle.ioa_rules.specs.KnownTypes.{whole, early}
use Rattle.ioa_rules.specs.Scopes.{context}
use Rattle.ioa_rules.proofs.TupleLemmas.{agree}
use Rattle.ioa_rules.proofs.expressions.+typing.Given as goal

abbrev pub invariant-fields_fine-loop-i : goal.invariant-fields_fine-loop-i
invariant-fields_fine-loop-i l =
    (is_none l.odd ≡ true → l.i ≤ length (field_types (whole l.scope.known) l.tuple.0))
    × (agree (whole l.scope.known) (early l.scope.known) (context l.scope) (is_none l.odd) (exprs_of (drop l.i l.fields)) (drop l.i (field_types (whole l.scope.known) l.tuple.0))
    ≡ agree (whole l.scope.known) (early l.scope.known) (context l.scope) true (exprs_of l.fields) (field_types (whole l.scope.known) l.tuple.0))
