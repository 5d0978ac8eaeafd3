-- Fields of a tuple, one by one: their names.
use Rattle.std.proofs.Common.{◌≡◌, ℕ, zero, suc, ◌+◌, ◌<◌, ◌≤◌, Some, None, refl, List, [], ◌∷◌, map, take, get_or, length, All, string_bytes, subst, arith}
use Rattle.std.proofs.lemmas.List.Elements.{All-head, All-tail, All-cons, All-nil}
use Rattle.ioa_value.specs.declared.types.Field.{Field}
use Rattle.ioa_value.specs.Names.{IsName}
use Rattle.ioa_value.specs.Actions.{Name}
use Rattle.std.specs.Prelude.{slice_get}
use Rattle.ioa_value.specs.Table.{field_names, types_of}
use Rattle.ioa_value.specs.Scanning.{repeated}
use Rattle.ioa_value.specs.Shapes.{tuple_field}

abbrev names : List Field → List Name
names fs = field_names (map tuple_field fs)

legal_suc : (fs : List Field) (i : ℕ) (d : Field) → i < length fs → All IsName (names (take i fs)) → IsName (string_bytes (get_or fs i d).name) → All IsName (names (take (suc i) fs))
legal_suc [] i d lt h k = absurd (omega arith)
legal_suc (f ∷ fs) zero d lt h k = All-cons IsName (string_bytes f.name) [] k (All-nil IsName)
legal_suc (f ∷ fs) (suc i) d lt h k =
    All-cons IsName (string_bytes f.name) (names (take (suc i) fs)) (All-head IsName (string_bytes f.name) (names (take i fs)) h)
    (legal_suc fs i d (omega arith) (All-tail IsName (string_bytes f.name) (names (take i fs)) h) k)

pub legal_more : (fs : List Field) (i : ℕ) (d : Field) → i < length fs → All IsName (names (take i fs)) → IsName (string_bytes (get_or fs i d).name) → All IsName (names (take (i + 1) fs))
legal_more fs i d lt h k =
    let up : suc i ≡ i + 1 = omega arith in
    subst (λ m. All IsName (names (take m fs))) up (legal_suc fs i d lt h k)

pub legal_at : (fs : List Field) (i : ℕ) (d : Field) → i < length fs → All IsName (names fs) → IsName (string_bytes (get_or fs i d).name)
legal_at [] i d lt h = absurd (omega arith)
legal_at (f ∷ fs) zero d lt h = All-head IsName (string_bytes f.name) (names fs) h
legal_at (f ∷ fs) (suc i) d lt h = legal_at fs i d (omega arith) (All-tail IsName (string_bytes f.name) (names fs) h)

-- ---- types of values in their places

pub type_there : (fs : List Field) (i : ℕ) (d : Field) → i < length fs → slice_get (types_of (map tuple_field fs)) i ≡ Some (get_or fs i d).ty.0
type_there [] i d lt = absurd (omega arith)
type_there (f ∷ fs) zero d lt = refl
type_there (f ∷ fs) (suc i) d lt = type_there fs i d (omega arith)

pub type_past : (fs : List Field) (i : ℕ) → length fs ≤ i → slice_get (types_of (map tuple_field fs)) i ≡ None
type_past [] i le = refl
type_past (f ∷ fs) zero le = absurd (omega arith)
type_past (f ∷ fs) (suc i) le = type_past fs i (omega arith)

pub repeated_there : (most i of : ℕ) → i < most → slice_get (repeated most of) i ≡ Some of
repeated_there zero i of lt = absurd (omega arith)
repeated_there (suc most) zero of lt = refl
repeated_there (suc most) (suc i) of lt = repeated_there most i of (omega arith)

pub repeated_past : (most i of : ℕ) → most ≤ i → slice_get (repeated most of) i ≡ None
repeated_past zero i of le = refl
repeated_past (suc most) zero of le = absurd (omega arith)
repeated_past (suc most) (suc i) of le = repeated_past most i of (omega arith)
