-- Values as plain data in a row, so that models can hold values: each value as its parts in prefix order.
use Rattle.std.specs.Prelude.{◌≡◌, ◌⊎◌, ℕ, ℤ, Bool, true, false, List, [], ◌∷◌}
use Rattle.std.specs.Coded.{Coded, code_by, coded×, coded⊎, coded_ℕ, coded_ℤ, coded_bool, coded_list}
use Rattle.ioa_value.specs.Plain.{Val, Vals, truth, num, name, tuple, items, none, more}
use Rattle.ioa_value.specs.Positions.{Domain, every, single}
use Rattle.ioa_value.specs.Table.{TupleField, Shape, truths, numbers, names, fields, sequence, Declaration, Table}
use base.Stored.{coded_unit}
use mathlib.Core.Logic.{inl, inr}
use mathlib.Core.Path.{refl, ap, ◌∙◌}

-- a truth value, a number, a name, a tuple or a sequence of a type, or the end of a row of values
abbrev pub Part : Type 0
Part = Bool ⊎ (ℤ ⊎ ((ℕ × ℕ) ⊎ (ℕ ⊎ (ℕ ⊎ Unit {0}))))

abbrev mutual
  -- the value's parts, before further parts
  pub parts : Val → List Part → List Part
  parts (truth b) rest = inl b ∷ rest
  parts (num z) rest = inr (inl z) ∷ rest
  parts (name ty n) rest = inr (inr (inl (ty, n))) ∷ rest
  parts (tuple ty vs) rest = inr (inr (inr (inl ty))) ∷ parts_all vs rest
  parts (items ty vs) rest = inr (inr (inr (inr (inl ty)))) ∷ parts_all vs rest

  pub parts_all : Vals → List Part → List Part
  parts_all none rest = inr (inr (inr (inr (inr tt)))) ∷ rest
  parts_all (more v vs) rest = parts v (parts_all vs rest)

-- the value at the front of the first row
abbrev pub front : Val → List Vals → List Vals
front v (vs ∷ rows) = more v vs ∷ rows
front v [] = []

-- the value that the first row makes, at the front of the second
abbrev pub filled : (Vals → Val) → List Vals → List Vals
filled make (vs ∷ rows) = front (make vs) rows
filled make [] = []

-- the rows of values that begin in the parts
abbrev pub rows : List Part → List Vals
rows [] = []
rows (inl b ∷ ps) = front (truth b) (rows ps)
rows (inr (inl z) ∷ ps) = front (num z) (rows ps)
rows (inr (inr (inl p)) ∷ ps) = front (name p.0 p.1) (rows ps)
rows (inr (inr (inr (inl ty))) ∷ ps) = filled (tuple ty) (rows ps)
rows (inr (inr (inr (inr (inl ty)))) ∷ ps) = filled (items ty) (rows ps)
rows (inr (inr (inr (inr (inr u)))) ∷ ps) = none ∷ rows ps

mutual
  pub rows-parts : (v : Val) (rest : List Part) → rows (parts v rest) ≡ front v (rows rest)
  rows-parts (truth b) rest = refl
  rows-parts (num z) rest = refl
  rows-parts (name ty n) rest = refl
  rows-parts (tuple ty vs) rest = ap (filled (tuple ty)) (rows-parts_all vs rest)
  rows-parts (items ty vs) rest = ap (filled (items ty)) (rows-parts_all vs rest)

  pub rows-parts_all : (vs : Vals) (rest : List Part) → rows (parts_all vs rest) ≡ vs ∷ rows rest
  rows-parts_all none rest = refl
  rows-parts_all (more v vs) rest = rows-parts v (parts_all vs rest) ∙ ap (front v) (rows-parts_all vs rest)

abbrev pub end : List Part
end = inr (inr (inr (inr (inr tt)))) ∷ []

abbrev pub parts_of : Val → List Part
parts_of v = parts v end

abbrev pub leading : List Vals → Val
leading [] = truth false
leading (none ∷ rows) = truth false
leading (more v vs ∷ rows) = v

abbrev pub value_of : List Part → Val
value_of ps = leading (rows ps)

pub value_of-parts_of : (v : Val) → value_of (parts_of v) ≡ v
value_of-parts_of v = ap leading (rows-parts v end)

abbrev pub coded_part : Coded Part
coded_part =
    coded⊎ coded_bool (coded⊎ coded_ℤ (coded⊎ (coded× coded_ℕ coded_ℕ) (coded⊎ coded_ℕ (coded⊎ coded_ℕ coded_unit))))

-- the code of a value
abbrev pub coded_val : Coded Val
coded_val = code_by (List Part) (coded_list coded_part) parts_of value_of value_of-parts_of

-- the code of values in a list
abbrev pub coded_vals : Coded (List Val)
coded_vals = coded_list coded_val

abbrev pub domain_parts : Domain → ℕ ⊎ Val
domain_parts (every ty) = inl ty
domain_parts (single v) = inr v

abbrev pub domain_from : ℕ ⊎ Val → Domain
domain_from (inl ty) = every ty
domain_from (inr v) = single v

pub domain_from-domain_parts : (d : Domain) → domain_from (domain_parts d) ≡ d
domain_from-domain_parts (every ty) = refl
domain_from-domain_parts (single v) = refl

-- the code of a position's domain
abbrev pub coded_domain : Coded Domain
coded_domain = code_by (ℕ ⊎ Val) (coded⊎ coded_ℕ coded_val) domain_parts domain_from domain_from-domain_parts

-- the code of a declaration, and of a table of them
abbrev pub coded_tuple_field : Coded TupleField
coded_tuple_field =
    code_by (List ℕ × ℕ) (coded× (coded_list coded_ℕ) coded_ℕ) (λ e. (e.name, e.ty)) (λ p. record { name = p.0; ty = p.1 }) (λ _. refl)

abbrev pub Form : Type 0
Form = Bool ⊎ (List (List ℕ) ⊎ (List TupleField ⊎ (ℕ × ℕ)))

abbrev pub form_of : Shape → Form
form_of truths = inl true
form_of numbers = inl false
form_of (names ns) = inr (inl ns)
form_of (fields fs) = inr (inr (inl fs))
form_of (sequence most of) = inr (inr (inr (most, of)))

abbrev pub shape_from : Form → Shape
shape_from (inl true) = truths
shape_from (inl false) = numbers
shape_from (inr (inl ns)) = names ns
shape_from (inr (inr (inl fs))) = fields fs
shape_from (inr (inr (inr p))) = sequence p.0 p.1

pub shape_from-form_of : (s : Shape) → shape_from (form_of s) ≡ s
shape_from-form_of truths = refl
shape_from-form_of numbers = refl
shape_from-form_of (names ns) = refl
shape_from-form_of (fields fs) = refl
shape_from-form_of (sequence most of) = refl

abbrev pub coded_shape : Coded Shape
coded_shape =
    code_by Form (coded⊎ coded_bool (coded⊎ (coded_list (coded_list coded_ℕ)) (coded⊎ (coded_list coded_tuple_field) (coded× coded_ℕ coded_ℕ)))) form_of shape_from shape_from-form_of

abbrev pub coded_declaration : Coded Declaration
coded_declaration =
    code_by (List ℕ × Shape) (coded× (coded_list coded_ℕ) coded_shape) (λ d. (d.name, d.shape)) (λ p. record { name = p.0; shape = p.1 }) (λ _. refl)

abbrev pub coded_table : Coded Table
coded_table = coded_list coded_declaration
