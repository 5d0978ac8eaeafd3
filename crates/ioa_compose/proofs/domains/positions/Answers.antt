use Rattle.std.proofs.Common.{◌≡◌, List, [], map, true, sym, subst}
use Rattle.std.specs.List.{list_all}
use Rattle.ioa_value.specs.Plain.{plain}
use Rattle.ioa_value.specs.Positions.{domain_of}
use Rattle.ioa_value.proofs.ItemLemmas.{passes_at}
use Rattle.ioa_tree.specs.declared.tree.Position.{Position}
use Rattle.ioa_tree.specs.View.{automaton_of, position_of}
use Rattle.ioa_tree.specs.Domains.{IsDomainOf}
use Rattle.ioa_tree.specs.WellFormed.{position_fine, formals}
use Rattle.ioa_compose.specs.Bindings.{instance_with}
use Rattle.ioa_clash.proofs.ZipLemmas.{zip-push}
use Rattle.ioa_compose.proofs.domains.positions.Goals as goal

pub known-requires-clause-fine : goal.known-requires-clause-fine
known-requires-clause-fine c =
    let fine = position_fine c.args.types.now (formals c.args.types.now c.args.types.now [] (automaton_of c.args.automaton.now)) in
    passes_at fine position_of c.deref-position-items.result.now _ c.position-item.result
    (subst (λ (ps : List Position). list_all fine (map position_of ps) ≡ true) (sym c.deref-position-items.ensures.value) c.requires.fine)
    c.loop-position-test.true c.position-item.is

pub loop-position-preserved : goal.loop-position-preserved
loop-position-preserved c =
    let i = instance_with c.args.types.now (automaton_of c.args.automaton.now) (map plain c.args.arguments.now) in
    let items = c.args.entry.now.positions.items in
    zip-push (IsDomainOf i) position_of domain_of items c.deref-position-items.result.now c.loop-position.position-index c.position-item.result
    c.loop-position.positions.items _ c.in_ok-known.field-0 c.deref-position-items.ensures.value c.loop-position-test.true c.position-item.is
    c.in_ok-push.ensures.items c.loop-position.invariant c.in_ok-known.ensures
