-- The last of a list's items.
use Rattle.std.proofs.Common.{◌≡◌, List, [], ◌∷◌, ◌++◌, Option, Some, None, refl, sym, ap, ◌∙◌}
use Rattle.std.specs.Prelude.{reverse}
use Rattle.std.proofs.lemmas.List.{reverse-append}
use Rattle.ioa_tree.specs.Compositions.{first_item}

-- the last item of a list, and this where there is none
abbrev pub last_or : {X : Type 0} → Option X → List X → Option X
last_or o [] = o
last_or o (x ∷ xs) = last_or (Some x) xs

abbrev pub or_before : {X : Type 0} → Option X → Option X → Option X
or_before (Some x) o = Some x
or_before None o = o

first-append : {X : Type 0} (xs ys : List X) → first_item (xs ++ ys) ≡ or_before (first_item xs) (first_item ys)
first-append [] ys = refl
first-append (x ∷ xs) ys = refl

absorbed : {X : Type 0} (o p : Option X) (x : X) → or_before (or_before o (Some x)) p ≡ or_before o (Some x)
absorbed (Some y) p x = refl
absorbed None p x = refl

last-is : {X : Type 0} (o : Option X) (xs : List X) → last_or o xs ≡ or_before (first_item (reverse xs)) o
last-is o [] = refl
last-is o (x ∷ xs) =
    last-is (Some x) xs ∙ sym (absorbed (first_item (reverse xs)) o x)
    ∙ ap (λ p. or_before p o) (sym (first-append (reverse xs) (x ∷ [])))
    ∙ ap (λ ys. or_before (first_item ys) o) (sym (reverse-append (x ∷ []) xs))

unless : {X : Type 0} (o : Option X) → or_before o None ≡ o
unless (Some x) = refl
unless None = refl

pub last-first : {X : Type 0} (xs : List X) → last_or None xs ≡ first_item (reverse xs)
last-first xs = last-is None xs ∙ unless (first_item (reverse xs))
