use Rattle.std.proofs.Common.{[], map, refl}
use Rattle.std.specs.List.{list_all}
use Rattle.ioa_value.specs.Plain.{plain}
use Rattle.ioa_value.proofs.ItemLemmas.{passes_at}
use Rattle.ioa_tree.specs.Tree.{EntryTree}
use Rattle.ioa_tree.specs.View.{automaton_of, entry_of}
use Rattle.ioa_tree.specs.Domains.{AreDomainsOf}
use Rattle.ioa_tree.specs.WellFormed.{position_fine, formals}
use Rattle.ioa_compose.specs.Bindings.{instance_with}
use Rattle.ioa_compose.specs.Signatures.{domains_in}
use Rattle.ioa_clash.proofs.ZipLemmas.{zip-push}
use Rattle.ioa_compose.proofs.domains.all_positions.Goals as goal

pub positions-requires-clause-fine : goal.positions-requires-clause-fine
positions-requires-clause-fine c =
    let types = c.args.types.now in
    let fine = λ (e : EntryTree). list_all (position_fine types (formals types types [] (automaton_of c.args.automaton.now))) e.positions in
    passes_at fine entry_of c.args.entries.now c.loop-entry.entry-index c.entry-item.result c.requires.fine c.loop-entry-test.true c.entry-item.is

pub loop-entry-preserved : goal.loop-entry-preserved
loop-entry-preserved c =
    let i = instance_with c.args.types.now (automaton_of c.args.automaton.now) (map plain c.args.arguments.now) in
    zip-push (λ e ds. AreDomainsOf i e.positions ds) entry_of domains_in c.args.entries.now c.args.entries.now c.loop-entry.entry-index c.entry-item.result
    c.loop-entry.all.items _ c.in_ok-positions.field-0 refl c.loop-entry-test.true c.entry-item.is c.in_ok-push.ensures.items c.loop-entry.invariant
    c.in_ok-positions.ensures
