use Rattle.ioa_rules.proofs.DeclarationLemmas.{Reached}
use Rattle.ioa_rules.proofs.declarations.declarations_fine.Given as goal

abbrev pub invariant-loop-i : goal.invariant-loop-i
invariant-loop-i l = Reached l.types l.globals l.declarations l.i l.known
