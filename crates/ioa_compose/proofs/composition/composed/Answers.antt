use Rattle.std.proofs.Common.{map, refl, sym, subst, ◌∙◌, rules}
use Rattle.ioa_tree.specs.View.{tree_of}
use Rattle.ioa_value.specs.Table.{AreTypes}
use Rattle.ioa_compose.specs.Bindings.{plain_in, AllStartable, AllSound, AllApart, AllOwn, AllPositioned}
use Rattle.ioa_compose.proofs.FineLemmas.{all-startable, all-sound, all-apart, all-own, all-positioned}
use Rattle.ioa_compose.proofs.ComposeLemmas.{parts-of, parts-sound, parts-hosts, parts-hosted, parts-stand, unbound-refuses, clash-refuses, hiding-refuses, start-refuses}
use Rattle.ioa_compose.proofs.PositionLemmas.{all_hold}
use Rattle.ioa_compose.proofs.composition.composed.Goals as goal

pub returns-in_err-bindings-clause-refused : goal.returns-in_err-bindings-clause-refused
returns-in_err-bindings-clause-refused c = unbound-refuses c.from_residual-in_err-bindings.result (tree_of c.args.declarations.now) c.args.assembly.now c.deref.result.now c.deref.ensures.value (search rules)

pub compatible-requires-clause-sound : goal.compatible-requires-clause-sound
compatible-requires-clause-sound c =
    subst (λ bs. AllSound (map (plain_in c.in_ok-shared.shared) bs)) (sym c.deref-2.ensures.value)
    (all-sound (tree_of c.args.declarations.now) c.in_ok-shared.shared c.requires.well_formed (c.in_ok-shared.ensures.same ∙ c.requires.types) c.deref.result.now _ c.in_ok-bindings.ensures.bound)

pub compatible-requires-clause-startable : goal.compatible-requires-clause-startable
compatible-requires-clause-startable c =
    subst (λ bs. AllStartable (map (plain_in c.in_ok-shared.shared) bs)) (sym c.deref-2.ensures.value)
    (all-startable (tree_of c.args.declarations.now) c.in_ok-shared.shared c.requires.well_formed (c.in_ok-shared.ensures.same ∙ c.requires.types) c.deref.result.now _ c.in_ok-bindings.ensures.bound)

pub compatible-requires-clause-apart : goal.compatible-requires-clause-apart
compatible-requires-clause-apart c =
    subst AllApart (sym c.deref-2.ensures.value) (all-apart (tree_of c.args.declarations.now) c.deref.result.now _ c.in_ok-bindings.ensures.bound)

pub compatible-requires-clause-positions : goal.compatible-requires-clause-positions
compatible-requires-clause-positions c =
    subst (AllPositioned c.in_ok-shared.shared) (sym c.deref-2.ensures.value)
    (all-positioned (tree_of c.args.declarations.now) c.in_ok-shared.shared c.deref.result.now _ (c.in_ok-shared.ensures.same ∙ c.requires.types) c.in_ok-bindings.ensures.bound)

pub compatible-requires-clause-own : goal.compatible-requires-clause-own
compatible-requires-clause-own c =
    subst AllOwn (sym c.deref-2.ensures.value) (all-own (tree_of c.args.declarations.now) c.deref.result.now _ c.in_ok-bindings.ensures.bound)

pub returns-in_err-compatible-clause-refused : goal.returns-in_err-compatible-clause-refused
returns-in_err-compatible-clause-refused c =
    clash-refuses (tree_of c.args.declarations.now) c.in_ok-shared.shared c.args.assembly.now _ _ (c.in_ok-shared.ensures.same ∙ c.requires.types) c.in_ok-bindings.ensures.bound c.deref.ensures.value
    c.from_residual-in_err-compatible.result _ c.deref-2.ensures.value (search rules)

pub returns-in_err-hidden-clause-refused : goal.returns-in_err-hidden-clause-refused
returns-in_err-hidden-clause-refused c =
    hiding-refuses (tree_of c.args.declarations.now) c.in_ok-shared.shared c.args.assembly.now _ _ (c.in_ok-shared.ensures.same ∙ c.requires.types) c.in_ok-bindings.ensures.bound c.deref.ensures.value
    _ c.in_ok-compatible.ensures.ok c.deref-2.ensures.value c.from_residual-in_err-hidden.result _ _ c.deref-3.ensures.value c.deref-4.ensures.value
    (let h = c.hidden_outputs.ensures.refused c.in_ok-shared.shared in search rules)

pub start_all-requires-clause-startable : goal.start_all-requires-clause-startable
start_all-requires-clause-startable c =
    (all-startable (tree_of c.args.declarations.now) c.in_ok-shared.shared c.requires.well_formed (c.in_ok-shared.ensures.same ∙ c.requires.types) c.deref.result.now _ c.in_ok-bindings.ensures.bound)

pub start_all-requires-clause-own : goal.start_all-requires-clause-own
start_all-requires-clause-own c = all-own (tree_of c.args.declarations.now) c.deref.result.now _ c.in_ok-bindings.ensures.bound

pub returns-in_err-members-clause-refused : goal.returns-in_err-members-clause-refused
returns-in_err-members-clause-refused c =
    start-refuses (tree_of c.args.declarations.now) c.in_ok-shared.shared c.args.assembly.now _ _ (c.in_ok-shared.ensures.same ∙ c.requires.types) c.in_ok-bindings.ensures.bound c.deref.ensures.value
    _ c.in_ok-compatible.ensures.ok c.deref-2.ensures.value _ _ (c.in_ok-hidden.ensures.outputs c.in_ok-shared.shared) c.deref-3.ensures.value c.deref-4.ensures.value
    c.from_residual-in_err-members.result _ refl (search rules)

pub invariant_of-result : goal.invariant_of-result
invariant_of-result c =
    let s = tree_of c.args.declarations.now in
    let same = c.in_ok-shared.ensures.same ∙ c.requires.types in
    let parts = parts-of s c.in_ok-shared.shared c.args.assembly.now c.deref.result.now c.in_ok-bindings.bindings.items same c.in_ok-bindings.ensures.bound c.deref.ensures.value
    _ c.in_ok-compatible.ensures.ok c.deref-2.ensures.value _ _ (c.in_ok-hidden.ensures.outputs c.in_ok-shared.shared) c.deref-3.ensures.value c.deref-4.ensures.value
    c.in_ok-members.members.items _ _ _ refl c.in_ok-hidden.ensures.names c.in_ok-members.ensures.started c.in_ok-invariants.ensures in
    record {
      sound = parts-sound s c.in_ok-shared.shared c.args.assembly.now c.in_ok-bindings.bindings.items c.in_ok-members.members.items _ _ parts _ same
          (c.in_ok-name.ensures.ok ∙ c.as_str.ensures.value)
          (subst AreTypes same (subst AreTypes (sym c.in_ok-shared.ensures.same) c.in_ok-shared.ensures.types)) c.requires.well_formed c.requires.legal c.requires.composable;
      positions = all_hold s c.in_ok-shared.shared c.requires.well_formed c.requires.legal same c.deref.result.now c.in_ok-bindings.bindings.items c.in_ok-members.members.items
          c.in_ok-bindings.ensures.bound c.in_ok-members.ensures.started c.in_ok-members.ensures.positions;
    }

pub returns-clause-composed : goal.returns-clause-composed
returns-clause-composed c =
    let s = tree_of c.args.declarations.now in
    let same = c.in_ok-shared.ensures.same ∙ c.requires.types in
    let named = c.in_ok-name.ensures.ok ∙ c.as_str.ensures.value in
    let parts = parts-of s c.in_ok-shared.shared c.args.assembly.now c.deref.result.now c.in_ok-bindings.bindings.items same c.in_ok-bindings.ensures.bound c.deref.ensures.value
    _ c.in_ok-compatible.ensures.ok c.deref-2.ensures.value _ _ (c.in_ok-hidden.ensures.outputs c.in_ok-shared.shared) c.deref-3.ensures.value c.deref-4.ensures.value
    c.in_ok-members.members.items _ _ _ refl c.in_ok-hidden.ensures.names c.in_ok-members.ensures.started c.in_ok-invariants.ensures in (
      parts-hosts s c.in_ok-shared.shared c.args.assembly.now c.in_ok-bindings.bindings.items c.in_ok-members.members.items _ _ parts _ same named,
      parts-hosted s c.in_ok-shared.shared c.args.assembly.now c.in_ok-bindings.bindings.items c.in_ok-members.members.items _ _ parts _ same named,
      parts-stand s c.in_ok-shared.shared c.args.assembly.now c.in_ok-bindings.bindings.items c.in_ok-members.members.items _ _ parts _ same named c.requires.well_formed c.requires.legal,
    )
