-- The types of a tuple's fields, as the code has them.
use Rattle.std.proofs.Common.{◌≡◌, ℕ, suc, ◌<◌, false, List, [], ◌∷◌, length, map, get_or, Some, refl, ap, ◌∙◌}
use Rattle.std.specs.Prelude.{slice_get}
use Rattle.std.specs.Option.{option_map}
use Rattle.std.proofs.lemmas.Option.{slice_get-map, slice_get_read}
use Rattle.ioa_value.specs.declared.types.Field.{Field}
use Rattle.ioa_value.specs.declared.value.Ty.{Ty}
use Rattle.ioa_value.specs.Plain.{number}
use Rattle.ioa_value.specs.Table.{types_of}
use Rattle.ioa_value.specs.Shapes.{tuple_field}
use Rattle.ioa_value.specs.Operators.{are_these}
use Rattle.ioa_value.proofs.SameLemmas.{both_false}

-- there are as many types as fields
pub uneven_types : (xs : List Ty) (fs : List Field) → (length xs ≡ length fs → ⊥) → false ≡ are_these (map number xs) (types_of (map tuple_field fs))
uneven_types [] [] e = absurd (e refl)
uneven_types [] (f ∷ fs) e = refl
uneven_types (x ∷ xs) [] e = refl
uneven_types (x ∷ xs) (f ∷ fs) e = both_false _ _ (uneven_types xs fs (λ q. e (ap suc q)))

-- the type of a field that is read
pub field_there : (fs : List Field) (j : ℕ) (f : Field) → j < length fs → f ≡ get_or fs j f → slice_get (types_of (map tuple_field fs)) j ≡ Some f.ty.0
field_there fs j f lt e =
    slice_get-map (λ d. d.ty) (map tuple_field fs) j
    ∙ ap (option_map (λ d. d.ty)) (slice_get-map tuple_field fs j ∙ ap (option_map tuple_field) (slice_get_read fs (length fs) j f refl lt e))
