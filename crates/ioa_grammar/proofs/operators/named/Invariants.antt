use Rattle.std.proofs.Common.{◌≡◌, drop, find}
use Rattle.ioa_grammar.specs.Operators.{operator_word}
use Rattle.ioa_tree.specs.declared.tree.Infix.TheVariants.{Operator}
use Rattle.ioa_grammar.specs.Reading as reading
use Rattle.ioa_grammar.proofs.operators.named.Given as goal

abbrev pub invariant-loop-operator : goal.invariant-loop-operator
invariant-loop-operator l = find (λ o. reading.same_terminal (operator_word (Operator o)) l.terminal) (drop l.operator-index l.operators) ≡ find (λ o. reading.same_terminal (operator_word (Operator o)) l.terminal) l.operators
