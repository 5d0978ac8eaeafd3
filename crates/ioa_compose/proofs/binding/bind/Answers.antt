use Rattle.std.proofs.Common.{◌≡◌, Bool, true, List, [], map, refl, sym, ap, subst, ◌∙◌}
use Rattle.std.specs.List.{list_all}
use Rattle.ioa_value.specs.declared.value.Value.{Value}
use Rattle.ioa_value.specs.Plain.{plain}
use Rattle.ioa_value.specs.Positions.{Domain}
use Rattle.ioa_value.specs.Table.{Table}
use Rattle.ioa_tree.specs.declared.tree.Entry.{Entry}
use Rattle.ioa_tree.specs.declared.tree.Field.{Field}
use Rattle.ioa_tree.specs.Tree.{EntryTree, AutomatonTree}
use Rattle.ioa_tree.specs.View.{expr_of, field_of, entry_of, instance_of, automaton_of, tree_of}
use Rattle.ioa_tree.specs.Types.{types_of}
use Rattle.ioa_tree.specs.Instances.{Fit, argument_values}
use Rattle.ioa_tree.specs.WellFormed.{position_fine, formals}
use Rattle.ioa_compose.specs.Bindings.{fit, instance_with, values_in}
use Rattle.ioa_compose.specs.Signatures.{domains_in, ArePositionsOf}
use Rattle.ioa_compose.proofs.BindingLemmas.{misfit-at, fit-Fit, crash-lent}
use Rattle.ioa_compose.proofs.FineLemmas.{own-fine}
use Rattle.ioa_compose.proofs.binding.bind.Goals as goal

-- values that pass the test fit the formals
fitting : (types : Table) (fs gs : List Field) (vs ws : List Value) (b : Bool) → gs ≡ fs → ws ≡ vs → b ≡ fit types (map field_of gs) (map plain ws) → b ≡ true
    → Fit types (map field_of fs) (map plain vs)
fitting types fs gs vs ws b p q told holds =
    fit-Fit types (map field_of fs) (map plain vs)
    (ap (λ us. fit types (map field_of us) (map plain vs)) (sym p) ∙ ap (λ us. fit types (map field_of gs) (map plain us)) (sym q) ∙ sym told ∙ holds)

-- what is read of lists is what is made of them
placed : (t u : Table) (a : AutomatonTree) (vs ws : List Value) (es fs : List Entry) (dss : List (List Domain)) → t ≡ u → ws ≡ vs → fs ≡ es
    → ArePositionsOf (instance_with t a (map plain ws)) (map entry_of fs) dss → ArePositionsOf (instance_with u a (map plain vs)) (map entry_of es) dss
placed t u a vs ws es fs dss p q r h =
    subst (λ us. ArePositionsOf (instance_with u a (map plain vs)) (map entry_of us) dss) r
    (subst (λ us. ArePositionsOf (instance_with u a (map plain us)) (map entry_of fs) dss) q
    (subst (λ x. ArePositionsOf (instance_with x a (map plain ws)) (map entry_of fs) dss) p h))

pub returns-then-not-fits-clause-refused : goal.returns-then-not-fits-clause-refused
returns-then-not-fits-clause-refused c =
    let types = types_of (tree_of c.args.declarations.now) in (
      refl,
      misfit-at (tree_of c.args.declarations.now) (instance_of c.args.instance.now) (automaton_of c.declared-automaton.result.now) (map plain c.in-Ok.arguments.items) c.declared-automaton.ensures
          (ap (λ es. argument_values types (map expr_of es)) (sym c.deref.ensures.value) ∙ ap (λ t. argument_values t (map expr_of c.deref.result.now)) (sym c.requires.types) ∙ sym c.in_ok-fault.ensures ∙ ap values_in c.in-Ok.is)
          (ap (λ fs. fit types (map field_of fs) (map plain c.in-Ok.arguments.items)) (sym c.deref-in-Ok.ensures.value) ∙ ap (λ vs. fit types (map field_of c.deref-in-Ok.result.now) (map plain vs)) (sym c.deref-in-Ok-2.ensures.value)
          ∙ ap (λ t. fit t (map field_of c.deref-in-Ok.result.now) (map plain c.deref-in-Ok-2.result.now)) (sym c.requires.types) ∙ sym c.fits.ensures ∙ c.if-not-fits.true),
    )

pub returns-then-not-crashes_apart-clause-refused : goal.returns-then-not-crashes_apart-clause-refused
returns-then-not-crashes_apart-clause-refused c =
    let types = types_of (tree_of c.args.declarations.now) in
    let a = automaton_of c.declared-automaton.result.now in (
      refl,
      record {
        automaton = a;
        declared = c.declared-automaton.ensures;
        arguments = map plain c.in-Ok.arguments.items;
        valued = ap (λ es. argument_values types (map expr_of es)) (sym c.deref.ensures.value) ∙ ap (λ t. argument_values t (map expr_of c.deref.result.now)) (sym c.requires.types) ∙ sym c.in_ok-fault.ensures ∙ ap values_in c.in-Ok.is;
        fit = subst (λ t. Fit t a.formals (map plain c.in-Ok.arguments.items)) c.requires.types
            (fitting c.args.types.now _ _ _ _ _ c.deref-in-Ok.ensures.value c.deref-in-Ok-2.ensures.value c.fits.ensures c.if-not-fits.false);
        unfine = sym c.crashes_apart.ensures ∙ c.if-not-crashes_apart.true;
      },
    )

pub all_positions-requires-clause-fit : goal.all_positions-requires-clause-fit
all_positions-requires-clause-fit c =
    let formals = (automaton_of c.declared-automaton.result.now).formals in
    subst (λ vs. Fit c.args.types.now formals (map plain vs)) (sym c.deref-in-Ok-3.ensures.value)
    (fitting c.args.types.now _ _ _ _ _ c.deref-in-Ok.ensures.value c.deref-in-Ok-2.ensures.value c.fits.ensures c.if-not-fits.false)

pub all_positions-requires-clause-fine : goal.all_positions-requires-clause-fine
all_positions-requires-clause-fine c =
    let types = c.args.types.now in
    let a = automaton_of c.declared-automaton.result.now in
    let fine = λ (e : EntryTree). list_all (position_fine types (formals types types [] a)) e.positions in
    ap (λ es. list_all fine (map entry_of es)) c.deref-in-Ok-4.ensures.value
    ∙ own-fine (tree_of c.args.declarations.now) types c.requires.well_formed c.requires.types _ a (automaton_of c.in_ok-own-in-Ok.own) _ c.declared-automaton.ensures
    c.in_ok-own-in-Ok.ensures

pub returns-in_ok-positions-in-Ok-clause-bound : goal.returns-in_ok-positions-in-Ok-clause-bound
returns-in_ok-positions-in-Ok-clause-bound c =
    let types = types_of (tree_of c.args.declarations.now) in
    let a = automaton_of c.declared-automaton.result.now in
    record {
      name = refl;
      automaton = c.declared-automaton.ensures;
      arguments = ap (λ es. argument_values types (map expr_of es)) (sym c.deref.ensures.value) ∙ ap (λ t. argument_values t (map expr_of c.deref.result.now)) (sym c.requires.types) ∙ sym c.in_ok-fault.ensures ∙ ap values_in c.in-Ok.is;
      fit = subst (λ t. Fit t a.formals (map plain c.in-Ok.arguments.items)) c.requires.types
          (fitting c.args.types.now _ _ _ _ _ c.deref-in-Ok.ensures.value c.deref-in-Ok-2.ensures.value c.fits.ensures c.if-not-fits.false);
      crash = crash-lent c.as_ref-crash.result c.args.instance.now.crash c.as_ref-crash.ensures.value;
      fine = sym c.crashes_apart.ensures ∙ c.if-not-crashes_apart.false;
      own = c.in_ok-own-in-Ok.ensures;
      positions = placed c.args.types.now types a c.in-Ok.arguments.items c.deref-in-Ok-3.result.now c.in_ok-own-in-Ok.own.entries.items c.deref-in-Ok-4.result.now
          (map domains_in c.in_ok-positions-in-Ok.positions.items) c.requires.types c.deref-in-Ok-3.ensures.value c.deref-in-Ok-4.ensures.value c.in_ok-positions-in-Ok.ensures;
    }
