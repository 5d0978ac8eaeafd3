-- Types of names: where lists of fields follow one another.
use Rattle.std.proofs.Common.{◌≡◌, ℕ, Bool, true, false, cond, List, [], ◌∷◌, ◌++◌, Option, Some, None, map, drop, length, get_or, ◌+◌, ◌<◌, refl, sym, ap, ◌∙◌}
use Rattle.std.specs.Option.{option_map_or, option_or}
use Rattle.std.specs.Str.{bytes_eq}
use Rattle.ioa_value.specs.Actions.{Name}
use Rattle.ioa_tree.specs.Tree.{FieldTree}
use Rattle.ioa_tree.specs.View.{field_of}
use Rattle.ioa_value.specs.Table.{Table, type_named}
use Rattle.ioa_tree.specs.WellFormed.{Context, type_in, context_of}
use Rattle.ioa_rules.specs.declared.scope.Scope.{Scope}
use Rattle.ioa_rules.specs.Loops.{loops_of}
use Rattle.ioa_rules.specs.Scopes.{context}
use Rattle.ioa_rules.specs.Fields.{parameters, type_under}
use Rattle.ioa_tree.specs.View.{variable_of}
use Rattle.ioa_rules.specs.KnownTypes.{early}
use Rattle.ioa_rules.proofs.ViewLemmas.{fields-of_variables}
use Rattle.ioa_value.proofs.ItemLemmas.{drop_item}

pub type_in-append : (c d : Context) (x : Name) → type_in (c ++ d) x ≡ option_or (type_in c x) (type_in d x)
type_in-append [] d x = refl
type_in-append (p ∷ c) d x = split (bytes_eq p.0 x) (type_in-append c d x)
  where
    split : (b : Bool) → type_in (c ++ d) x ≡ option_or (type_in c x) (type_in d x) → cond b (Some p.1) (type_in (c ++ d) x) ≡ option_or (cond b (Some p.1) (type_in c x)) (type_in d x)
    split true h = refl
    split false h = h

-- the first field's type, where it has the name and a type, and else that of the later ones
pub type_in-field : (t : Table) (f : FieldTree) (fs : List FieldTree) (x : Name) → type_in (context_of t (f ∷ fs)) x ≡ option_or (type_under t f x) (type_in (context_of t fs) x)
type_in-field t f fs x = split (type_named t f.ty) (bytes_eq f.name x) refl
  where
    split : (o : Option ℕ) (b : Bool) → bytes_eq f.name x ≡ b → type_in (option_map_or (λ n. (f.name, n) ∷ []) o [] ++ context_of t fs) x ≡ option_or (cond b o None) (type_in (context_of t fs) x)
    split None true e = refl
    split None false e = refl
    split (Some n) true e = ap (λ c. cond c (Some n) (type_in (context_of t fs) x)) e
    split (Some n) false e = ap (λ c. cond c (Some n) (type_in (context_of t fs) x)) e

-- a loop over fields goes on past one that has not this name, or no type
pub types-go-on : {T : Type 0} (t : Table) (tree : T → FieldTree) (xs : List T) (i : ℕ) (y : T) (x : Name) → i < length xs → y ≡ get_or xs i y → type_in (context_of t (map tree (drop i xs))) x ≡ type_in (context_of t (map tree xs)) x → type_under t (tree y) x ≡ None → type_in (context_of t (map tree (drop (i + 1) xs))) x ≡ type_in (context_of t (map tree xs)) x
types-go-on t tree xs i y x l e h k =
    sym (ap (λ zs. type_in (context_of t (map tree zs)) x) (drop_item xs i y l e) ∙ type_in-field t (tree y) (map tree (drop (i + 1) xs)) x ∙ ap (λ o. option_or o (type_in (context_of t (map tree (drop (i + 1) xs))) x)) k) ∙ h

pub types-stop : {T : Type 0} (t : Table) (tree : T → FieldTree) (xs : List T) (i : ℕ) (y : T) (x : Name) (n : ℕ) → i < length xs → y ≡ get_or xs i y → type_in (context_of t (map tree (drop i xs))) x ≡ type_in (context_of t (map tree xs)) x → type_under t (tree y) x ≡ Some n → Some n ≡ type_in (context_of t (map tree xs)) x
types-stop t tree xs i y x n l e h k =
    sym (ap (λ zs. type_in (context_of t (map tree zs)) x) (drop_item xs i y l e) ∙ type_in-field t (tree y) (map tree (drop (i + 1) xs)) x ∙ ap (λ o. option_or o (type_in (context_of t (map tree (drop (i + 1) xs))) x)) k) ∙ h

chained : (l a b c : Context) (x : Name) → type_in (l ++ ((a ++ b) ++ c)) x ≡ option_or (type_in l x) (option_or (option_or (type_in a x) (type_in b x)) (type_in c x))
chained l a b c x =
    type_in-append l ((a ++ b) ++ c) x
    ∙ ap (option_or (type_in l x)) (type_in-append (a ++ b) c x ∙ ap (λ o. option_or o (type_in c x)) (type_in-append a b x))

module _ (s : Scope) (x : Name) where
  abbrev at_loop : Option ℕ
  at_loop = type_in (loops_of s.loops) x

  abbrev at_variable : Option ℕ
  at_variable = type_in (context_of (early s.known) (map (λ v. field_of v.field) s.variables.now)) x

  abbrev at_formal : Option ℕ
  at_formal = type_in (context_of (early s.known) (map field_of s.formals.now)) x

  abbrev at_parameter : Option ℕ
  at_parameter = type_in (context_of (early s.known) (parameters s.positions.now)) x

  -- a name of a scope is a loop's, or else a variable, or else a formal, or else a parameter
  lookup-is : type_in (context s) x ≡ option_or at_loop (option_or (option_or at_variable at_formal) at_parameter)
  lookup-is =
      let k = early s.known in
      chained (loops_of s.loops) (context_of k (map (λ v. v.field) (map variable_of s.variables.now))) (context_of k (map field_of s.formals.now))
      (context_of k (parameters s.positions.now)) x
      ∙ ap (λ fs. option_or at_loop (option_or (option_or (type_in (context_of k fs) x) at_formal) at_parameter)) (fields-of_variables s.variables.now)

  pub lookup-loop : (n : ℕ) → Some n ≡ at_loop → Some n ≡ type_in (context s) x
  lookup-loop n h = ap (λ o. option_or o (option_or (option_or at_variable at_formal) at_parameter)) h ∙ sym lookup-is

  pub lookup-variable : (n : ℕ) → None ≡ at_loop → Some n ≡ at_variable → Some n ≡ type_in (context s) x
  lookup-variable n l h =
      ap (λ o. option_or None (option_or (option_or o at_formal) at_parameter)) h
      ∙ ap (λ o. option_or o (option_or (option_or at_variable at_formal) at_parameter)) l ∙ sym lookup-is

  pub lookup-formal : (n : ℕ) → None ≡ at_loop → None ≡ at_variable → Some n ≡ at_formal → Some n ≡ type_in (context s) x
  lookup-formal n l g h =
      ap (λ o. option_or None (option_or (option_or None o) at_parameter)) h
      ∙ ap (λ o. option_or None (option_or (option_or o at_formal) at_parameter)) g
      ∙ ap (λ o. option_or o (option_or (option_or at_variable at_formal) at_parameter)) l ∙ sym lookup-is

  pub lookup-parameter : (r : Option ℕ) → None ≡ at_loop → None ≡ at_variable → None ≡ at_formal → r ≡ at_parameter → r ≡ type_in (context s) x
  lookup-parameter r l f g h =
      h ∙ ap (λ o. option_or None (option_or (option_or None o) at_parameter)) g
      ∙ ap (λ o. option_or None (option_or (option_or o at_formal) at_parameter)) f
      ∙ ap (λ o. option_or o (option_or (option_or at_variable at_formal) at_parameter)) l ∙ sym lookup-is
