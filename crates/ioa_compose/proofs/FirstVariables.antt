-- The first variables of an automaton, where no text spells the names of the others.
use Rattle.std.proofs.Common.{◌≡◌, ℕ, zero, suc, Bool, true, false, not, cond, ◌||◌, List, [], ◌∷◌, ◌++◌, map, take, drop, length, Option, Some, refl, sym, ap, ◌∙◌, arith}
use Rattle.std.specs.List.{list_all}
use Rattle.std.specs.Str.{bytes_eq}
use Rattle.std.proofs.lemmas.Bool.{and_parts}
use Rattle.ioa_value.specs.Actions.{Name}
use Rattle.ioa_value.specs.Plain.{Val}
use Rattle.ioa_value.specs.Table.{Table, contains}
use Rattle.ioa_value.proofs.NameLemmas.{same_name, not_true}
use Rattle.ioa_tree.specs.Names.{names_of_expr}
use Rattle.ioa_tree.specs.Tree.{Expr, VariableTree}
use Rattle.ioa_tree.specs.Meaning.{or_else, values_of, over, val}
use Rattle.ioa_tree.specs.Instances.{Instance, formal_values, state_of}
use Rattle.ioa_tree.specs.WellFormed.{type_in, typed_field, context_of, held, is_some_of, has_ty}
use Rattle.ioa_tree.proofs.Agreement.{val_same}
use Rattle.ioa_tree.proofs.TypeAgreement.{type_same}
use Rattle.ioa_compose.specs.Questions.{first_of}
use Rattle.ioa_crash.specs.Rewriting.{spelled}
use Rattle.ioa_crash.proofs.SpelledNames.{not_both, absent}
use Rattle.ioa_crash.proofs.RewrittenTypes.{in_both, foreign, names_of_fields}

-- no text spells the variable's name
abbrev pub is_added : VariableTree → Bool
is_added v = not (spelled v.field.name)

abbrev names_of : List VariableTree → List Name
names_of vs = map (λ v. v.field.name) vs

other_name : (y x : Name) → not (spelled y) ≡ true → spelled x ≡ true → bytes_eq y x ≡ false
other_name y x h s = go (bytes_eq y x) refl
  where
    go : (b : Bool) → bytes_eq y x ≡ b → bytes_eq y x ≡ false
    go true e = not_both (spelled y) (ap spelled (same_name y x e) ∙ s) (not_true (spelled y) h)
    go false e = e

-- they have no name that a text can spell
none_added : (vs : List VariableTree) (x : Name) → list_all is_added vs ≡ true → spelled x ≡ true → contains (names_of vs) x ≡ false
none_added [] x h s = refl
none_added (v ∷ vs) x h s =
    let p = and_parts (is_added v) (list_all is_added vs) h in
    ap (λ b. b || contains (names_of vs) x) (other_name v.field.name x p.0 s) ∙ none_added vs x p.1 s

values_front : (vs : List VariableTree) (d : ℕ) (ws more : List Val) (x : Name) → length ws ≡ length (take d vs) → list_all is_added (drop d vs) ≡ true → spelled x ≡ true
    → values_of (names_of vs) (ws ++ more) x ≡ values_of (names_of (take d vs)) ws x
values_front [] zero ws more x l h s = refl
values_front [] (suc d) ws more x l h s = refl
values_front (v ∷ vs) zero [] more x l h s = absent (names_of (v ∷ vs)) more x (none_added (v ∷ vs) x h s)
values_front (v ∷ vs) zero (w ∷ ws) more x l h s = absurd (omega (arith, l))
values_front (v ∷ vs) (suc d) [] more x l h s = absurd (omega (arith, l))
values_front (v ∷ vs) (suc d) (w ∷ ws) more x l h s =
    ap (λ o. cond (bytes_eq v.field.name x) (Some w) o) (values_front vs d ws more x (omega (arith, l)) h s)

-- variables that are added behind stand in front of none of the others
pub values_before : (vs more : List VariableTree) (ws us : List Val) (x : Name) → length ws ≡ length vs → list_all is_added more ≡ true → spelled x ≡ true
    → values_of (names_of (vs ++ more)) (ws ++ us) x ≡ values_of (names_of vs) ws x
values_before [] more [] us x l h s = absent (names_of more) us x (none_added more x h s)
values_before [] more (w ∷ ws) us x l h s = absurd (omega (arith, l))
values_before (v ∷ vs) more [] us x l h s = absurd (omega (arith, l))
values_before (v ∷ vs) more (w ∷ ws) us x l h s =
    ap (λ o. cond (bytes_eq v.field.name x) (Some w) o) (values_before vs more ws us x (omega (arith, l)) h s)

types_front : (types : Table) (vs : List VariableTree) (d : ℕ) (x : Name) → list_all is_added (drop d vs) ≡ true → spelled x ≡ true
    → type_in (context_of types (map (λ v. v.field) vs)) x ≡ type_in (context_of types (map (λ v. v.field) (take d vs))) x
types_front types [] zero x h s = refl
types_front types [] (suc d) x h s = refl
types_front types (v ∷ vs) zero x h s =
    foreign types (map (λ u. u.field) (v ∷ vs)) x (ap (λ (ns : List Name). contains ns x) (names_of_fields (v ∷ vs)) ∙ none_added (v ∷ vs) x h s)
types_front types (v ∷ vs) (suc d) x h s =
    in_both (typed_field types v.field) (context_of types (map (λ u. u.field) vs)) x
    ∙ ap (λ o. or_else (type_in (typed_field types v.field) x) o) (types_front types vs d x h s)
    ∙ sym (in_both (typed_field types v.field) (context_of types (map (λ u. u.field) (take d vs))) x)

module _ (n : Instance) (d : ℕ) (added : list_all is_added (drop d n.automaton.variables) ≡ true) (e : Expr) (spells : list_all spelled (names_of_expr e) ≡ true) where
  -- an expression of spelled names has its type over them
  pub typed_front : has_ty n.types n.types (held n.types n.types [] n.automaton) e 0 ≡ true → has_ty n.types n.types (held n.types n.types [] (first_of d n.automaton)) e 0 ≡ true
  typed_front h =
      sym (ap (λ (o : Option ℕ). is_some_of o 0)
      (type_same n.types n.types spelled (held n.types n.types [] n.automaton) (held n.types n.types [] (first_of d n.automaton)) same e spells)) ∙ h
    where
      same : (x : Name) → spelled x ≡ true → type_in (held n.types n.types [] n.automaton) x ≡ type_in (held n.types n.types [] (first_of d n.automaton)) x
      same x s =
          let behind = context_of n.types n.automaton.formals in
          in_both (context_of n.types (map (λ v. v.field) n.automaton.variables)) behind x
          ∙ ap (λ o. or_else o (type_in behind x)) (types_front n.types n.automaton.variables d x added s)
          ∙ sym (in_both (context_of n.types (map (λ v. v.field) (take d n.automaton.variables))) behind x)

  -- and it answers the same whatever the values of the others are
  pub val_front : (ws more : List Val) → length ws ≡ length (take d n.automaton.variables)
      → val n.types e (over (state_of (first_of d n.automaton) ws) (formal_values n)) ≡ val n.types e (over (state_of n.automaton (ws ++ more)) (formal_values n))
  val_front ws more l =
      val_same n.types spelled (over (state_of (first_of d n.automaton) ws) (formal_values n)) (over (state_of n.automaton (ws ++ more)) (formal_values n)) same e spells
    where
      same : (x : Name) → spelled x ≡ true → or_else (state_of (first_of d n.automaton) ws x) (formal_values n x) ≡ or_else (state_of n.automaton (ws ++ more) x) (formal_values n x)
      same x s = ap (λ o. or_else o (formal_values n x)) (sym (values_front n.automaton.variables d ws more x l added s))
