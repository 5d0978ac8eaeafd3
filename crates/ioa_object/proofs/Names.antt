-- Names that are taken.
use Rattle.std.proofs.Common.{◌≡◌, ℕ, Bool, true, false, not, List, map, refl, sym, ap, ◌∙◌}
use Rattle.std.proofs.lemmas.Simd.{map-map}
use Rattle.ioa_value.specs.Table.{contains}

-- whether a name was taken, by what putting it in answered
pub was_taken : (taken added : Bool) → added ≡ not taken → taken ≡ not added
was_taken true true h = h
was_taken true false h = refl
was_taken false true h = refl
was_taken false false h = h

-- whether things seen in one way have the name, by whether they have it seen in another
pub named_alike : {A B : Type 0} (view : A → B) (name : B → List ℕ) (xs : List A) (x : List ℕ) (b c : Bool) → b ≡ contains (map (λ y. name (view y)) xs) x → b ≡ c
    → contains (map name (map view xs)) x ≡ c
named_alike view name xs x b c h is = ap (λ l. contains l x) (map-map name view xs) ∙ sym h ∙ is
