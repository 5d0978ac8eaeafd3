use Rattle.ioa_rules.proofs.TypeLemmas.{tuple-fails, tuple-fine}
use Rattle.ioa_rules.proofs.types.form_of.Goals as goal

pub returns-in_err-distinct-in-Tuple-clause-says : goal.returns-in_err-distinct-in-Tuple-clause-says
returns-in_err-distinct-in-Tuple-clause-says c =
    tuple-fails c.distinct.result c.from_residual-in_err-distinct-in-Tuple.result _ c.args.types.now c.args.form.now c.in-Tuple.fields _ c.in-Tuple.is c.deref-in-Tuple.ensures.value
    c.in_err-distinct-in-Tuple.was c.from_residual-in_err-distinct-in-Tuple.ensures.1 c.distinct.ensures

pub returns-in_ok-fields_of-in-Tuple-clause-says : goal.returns-in_ok-fields_of-in-Tuple-clause-says
returns-in_ok-fields_of-in-Tuple-clause-says c =
    tuple-fine c.args.types.now c.args.form.now c.in-Tuple.fields _ _ c.in-Tuple.is c.deref-in-Tuple.ensures.value c.deref-in-Tuple-2.ensures.value
    c.in_ok-distinct-in-Tuple.ensures c.in_ok-fields_of-in-Tuple.ensures.says
