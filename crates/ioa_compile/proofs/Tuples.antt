-- The types that tuples, fields of tuples and items of sequences are made of.
use Rattle.std.proofs.Common.{◌≡◌, ℕ, List, [], ◌∷◌, ◌++◌, Some, option_and_then, ap, ◌∙◌}
use Rattle.std.specs.Option.{option_map_or}
use Rattle.ioa_value.specs.declared.operator.Op.TheVariants.{Make, Field}
use Rattle.ioa_value.specs.Actions.{Name}
use Rattle.ioa_value.specs.Operators.{nothing, op_type, operate}
use Rattle.ioa_value.specs.Plain.{Val}
use Rattle.ioa_value.specs.Table.{Table, type_named, item_type, field_place}
use Rattle.ioa_value.specs.Typing.{own}
use Rattle.ioa_tree.specs.Meaning.{made, selected}
use Rattle.ioa_tree.specs.Tree.{Expr, make, select, Exprs}
use Rattle.ioa_tree.specs.WellFormed.{Context, type_of, types_of_all, made_type, selected_type}
use Rattle.ioa_tree.proofs.ValTyped.{type_there}
use Rattle.ioa_emit.specs.Scopes.{Scope, item_of, place_of}

module _ (types : Table) (c : Context) where
  -- a tuple, where its name is a type's and its fields have types that this takes
  pub of_make : (x : Name) (es : Exprs) (ty : ℕ) → type_of types types c (make x es) ≡ Some ty → (n : ℕ) × (tys : List ℕ) × (type_named types x ≡ Some n) × (types_of_all types types c es ≡ Some tys) × (op_type types (Make (record { 0 = n })) tys ≡ Some ty)
  of_make x es ty t =
      let fields = type_there (made_type types (type_named types x)) (types_of_all types types c es) ty t in
      let name = type_there (λ n. op_type types (Make (record { 0 = n })) fields.0) (type_named types x) ty fields.2 in
      (name.0, fields.0, name.1, fields.1, name.2)

  -- a field, where the type of what it is selected from has one of this name
  pub of_select : (e : Expr) (x : Name) (ty : ℕ) → type_of types types c (select e x) ≡ Some ty → (a : ℕ) × (j : ℕ) × (type_of types types c e ≡ Some a) × (field_place types a x ≡ Some j) × (op_type types (Field j) (a ∷ []) ≡ Some ty)
  of_select e x ty t =
      let operand = type_there (selected_type types x) (type_of types types c e) ty t in
      let place = type_there (λ j. op_type types (Field j) (operand.0 ∷ [])) (field_place types operand.0 x) ty operand.2 in
      (operand.0, place.0, operand.1, place.1, place.2)

  -- a scope of these types and this context finds the field where the type has it
  pub place_is : (s : Scope) (e : Expr) (x : Name) (a : ℕ) → s.types ≡ types → (s.loops ++ s.context) ≡ c → type_of types types c e ≡ Some a → place_of s e x ≡ field_place types a x
  place_is s e x a over within t =
      ap (λ l. option_and_then (λ ty. field_place l ty x) (type_of l l (s.loops ++ s.context) e)) over
      ∙ ap (λ d. option_and_then (λ ty. field_place types ty x) (type_of types types d e)) within
      ∙ ap (option_and_then (λ ty. field_place types ty x)) t

  -- and it finds the type of a sequence's items
  pub item_is : (s : Scope) (e : Expr) (a : ℕ) → s.types ≡ types → (s.loops ++ s.context) ≡ c → type_of types types c e ≡ Some a → item_of s e ≡ item_type types a
  item_is s e a over within t =
      ap (λ l. option_and_then (item_type l) (type_of l l (s.loops ++ s.context) e)) over
      ∙ ap (λ d. option_and_then (item_type types) (type_of types types d e)) within
      ∙ ap (option_and_then (item_type types)) t

-- what the tuple is, by its type's number
pub made_is : (types : Table) (x : Name) (n : ℕ) (vs : List Val) → type_named types x ≡ Some n → made types x vs ≡ operate types (Make (record { 0 = n })) vs
made_is types x n vs e = ap (λ o. option_map_or (λ ty. operate types (Make (record { 0 = ty })) vs) o nothing) e

-- what the field is, by its place in the tuple's type
pub selected_is : (types : Table) (x : Name) (v : Val) (a j : ℕ) → own v ≡ a → field_place types a x ≡ Some j → selected types x v ≡ operate types (Field j) (v ∷ [])
selected_is types x v a j e f =
    ap (λ ty. option_map_or (λ k. operate types (Field k) (v ∷ [])) (field_place types ty x) nothing) e
    ∙ ap (λ o. option_map_or (λ k. operate types (Field k) (v ∷ [])) o nothing) f
