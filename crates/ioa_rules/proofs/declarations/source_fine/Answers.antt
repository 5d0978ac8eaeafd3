use Rattle.ioa_tree.specs.View.{tree_of}
use Rattle.ioa_rules.proofs.SayLemmas.{memory-passed}
use Rattle.ioa_rules.proofs.SourceLemmas.{types_told}
use Rattle.ioa_rules.proofs.declarations.source_fine.Goals as goal

pub returns-in_err-types-clause-fine : goal.returns-in_err-types-clause-fine
returns-in_err-types-clause-fine c =
    memory-passed c.source_types.result c.from_residual-in_err-types.result _ _ _ _ _ c.in_err-types.was c.from_residual-in_err-types.ensures.1 c.source_types.ensures.says (types_told (tree_of c.args.declarations.now))
