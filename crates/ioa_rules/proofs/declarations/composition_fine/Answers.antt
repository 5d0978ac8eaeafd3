use Rattle.ioa_tree.specs.View.{tree_of}
use Rattle.ioa_rules.specs.KnownTypes.{whole, early}
use Rattle.ioa_rules.proofs.FineLemmas.{composition-says}
use Rattle.ioa_rules.proofs.declarations.composition_fine.Goals as goal

pub returns : goal.returns
returns c =
    composition-says _ (whole c.args.known.now) (early c.args.known.now) (tree_of c.args.before.now) _ _ _ _ c.deref.ensures.value c.deref-2.ensures.value
    c.in_ok-distinct.ensures c.in_ok-distinct-2.ensures c.each_instance_fine.ensures
