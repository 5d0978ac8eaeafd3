-- Scopes as plain data in a row, so that models can hold scopes.
use Rattle.std.specs.Prelude.{◌≡◌, ◌⊎◌, ℕ, Bool, List}
use Rattle.std.specs.Coded.{Coded, code_by, coded×, coded⊎, coded_ℕ, coded_bool, coded_list}
use mathlib.Core.Logic.{inl, inr}
use mathlib.Core.Path.{refl}
use Rattle.ioa_value.specs.Actions.{Name}
use Rattle.ioa_value.specs.Plain.{Val}
use Rattle.ioa_value.specs.Table.{Table}
use Rattle.ioa_value.specs.Coded.{coded_vals, coded_table}
use Rattle.ioa_tree.specs.Tree.{FieldTree, ConstantTree, positive, negative, truth_literal, reference, PositionTree, typed, only}
use Rattle.ioa_tree.specs.WellFormed.{Context}
use Rattle.ioa_emit.specs.Scopes.{Scope}

abbrev pub coded_name : Coded Name
coded_name = coded_list coded_ℕ

abbrev pub coded_field : Coded FieldTree
coded_field =
    code_by (Name × Name) (coded× coded_name coded_name) (λ f. (f.name, f.ty)) (λ p. record { name = p.0; ty = p.1 }) (λ _. refl)

-- a constant's number, truth value or name
abbrev pub Literal : Type 0
Literal = (ℕ ⊎ ℕ) ⊎ (Bool ⊎ Name)

abbrev pub literal_of : ConstantTree → Literal
literal_of (positive n) = inl (inl n)
literal_of (negative n) = inl (inr n)
literal_of (truth_literal b) = inr (inl b)
literal_of (reference x) = inr (inr x)

abbrev pub constant_from : Literal → ConstantTree
constant_from (inl (inl n)) = positive n
constant_from (inl (inr n)) = negative n
constant_from (inr (inl b)) = truth_literal b
constant_from (inr (inr x)) = reference x

pub constant_from-literal_of : (c : ConstantTree) → constant_from (literal_of c) ≡ c
constant_from-literal_of (positive n) = refl
constant_from-literal_of (negative n) = refl
constant_from-literal_of (truth_literal b) = refl
constant_from-literal_of (reference x) = refl

abbrev pub coded_constant : Coded ConstantTree
coded_constant =
    code_by Literal (coded⊎ (coded⊎ coded_ℕ coded_ℕ) (coded⊎ coded_bool coded_name)) literal_of constant_from constant_from-literal_of

abbrev pub position_parts : PositionTree → FieldTree ⊎ ConstantTree
position_parts (typed f) = inl f
position_parts (only c) = inr c

abbrev pub position_from : FieldTree ⊎ ConstantTree → PositionTree
position_from (inl f) = typed f
position_from (inr c) = only c

pub position_from-position_parts : (p : PositionTree) → position_from (position_parts p) ≡ p
position_from-position_parts (typed f) = refl
position_from-position_parts (only c) = refl

abbrev pub coded_position : Coded PositionTree
coded_position =
    code_by (FieldTree ⊎ ConstantTree) (coded⊎ coded_field coded_constant) position_parts position_from position_from-position_parts

abbrev pub coded_scope : Coded Scope
coded_scope =
    code_by (Table × (Context × (List Name × (List Name × (List Val × (List PositionTree × Context))))))
    (coded× coded_table (coded× (coded_list (coded× coded_name coded_ℕ)) (coded× (coded_list coded_name) (coded× (coded_list coded_name) (coded× coded_vals (coded× (coded_list coded_position) (coded_list (coded× coded_name coded_ℕ))))))))
    (λ s. (s.types, (s.loops, (s.variables, (s.formals, (s.arguments, (s.parameters, s.context)))))))
    (λ p. record { types = p.0; loops = p.1.0; variables = p.1.1.0; formals = p.1.1.1.0; arguments = p.1.1.1.1.0; parameters = p.1.1.1.1.1.0; context = p.1.1.1.1.1.1 }) (λ _. refl)
