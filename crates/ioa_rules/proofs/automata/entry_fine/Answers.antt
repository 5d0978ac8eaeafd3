use Rattle.std.proofs.Common.{ap}
use Rattle.ioa_tree.specs.View.{automaton_of}
use Rattle.ioa_rules.specs.KnownTypes.{whole, early}
use Rattle.ioa_rules.proofs.FineLemmas.{entry-says}
use Rattle.ioa_rules.proofs.automata.entry_fine.Goals as goal

pub returns : goal.returns
returns c =
    entry-says _ (whole c.args.known.now) (early c.args.known.now) _ c.args.globals.now (automaton_of c.args.automaton.now) _ c.args.entry.now _ _ _
    (ap early c.of_starts.ensures.known) c.of_starts.ensures.names c.deref.ensures.value c.deref-2.ensures.value c.deref-3.ensures.value
    c.in_ok-parameters_distinct.ensures c.in_ok-parameters_apart.ensures c.positions_fine.ensures
