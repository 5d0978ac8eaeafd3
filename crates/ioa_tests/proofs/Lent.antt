-- The participants' states, found by their numbers.
use Rattle.std.proofs.Common.{◌≡◌, ℕ, ◌+◌, ◌<◌, List, [], ◌∷◌, ◌++◌, length, take, get_or, Option, Some, None, refl, sym, ap, ◌∙◌}
use Rattle.std.specs.Prelude.{slice_get}
use Rattle.std.specs.Option.{option_map_or}
use Rattle.std.proofs.lemmas.List.{take_more}
use Rattle.std.proofs.lemmas.List.Elements.{filter_map-append}
use Rattle.ioa_system.specs.Participants.{taken}

taken_one : {X : Type 0} (xs : List X) (i : ℕ) (o : Option X) → slice_get xs i ≡ o → taken (i ∷ []) xs ≡ option_map_or (λ x. x ∷ []) o []
taken_one xs i (Some x) e = rw e refl
taken_one xs i None e = rw e refl

-- one number more, of which there is this item or none
pub found_more : {X : Type 0} (xs ys ys' : List X) (is : List ℕ) (n i : ℕ) (o : Option X) → n < length is → i ≡ get_or is n 0 → slice_get xs i ≡ o
    → ys ≡ taken (take n is) xs → ys' ≡ ys ++ option_map_or (λ x. x ∷ []) o [] → ys' ≡ taken (take (n + 1) is) xs
found_more xs ys ys' is n i o lt is-i here before after =
    let one : take (n + 1) is ≡ take n is ++ i ∷ [] = take_more is n 0 lt ∙ ap (λ w. take n is ++ w ∷ []) (sym is-i) in
    after ∙ ap (λ l. l ++ option_map_or (λ x. x ∷ []) o []) before
    ∙ ap (λ l. taken (take n is) xs ++ l) (sym (taken_one xs i o here))
    ∙ sym (filter_map-append (slice_get xs) (take n is) (i ∷ []))
    ∙ ap (λ ns. taken ns xs) (sym one)
