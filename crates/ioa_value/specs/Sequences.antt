-- What is taken from sequences, put on them and sought in them, by lists of their items.
use Rattle.std.specs.Prelude.{ℤ, pos, negsuc, List, [], ◌∷◌, Option, Some, None, if◌then◌else◌, slice_get}
use Rattle.std.specs.Option.{option_map}
use Rattle.ioa_value.specs.Plain.{Val}
use Rattle.ioa_value.specs.Same.{same}

abbrev pub first_item : List Val → Option Val
first_item xs = slice_get xs 0

abbrev pub last_item : List Val → Option Val
last_item [] = None
last_item (x ∷ []) = Some x
last_item (x ∷ y ∷ xs) = last_item (y ∷ xs)

abbrev pub all_but_first : List Val → Option (List Val)
all_but_first [] = None
all_but_first (x ∷ xs) = Some xs

abbrev pub all_but_last : List Val → Option (List Val)
all_but_last [] = None
all_but_last (x ∷ []) = Some []
all_but_last (x ∷ y ∷ xs) = option_map (λ ys. x ∷ ys) (all_but_last (y ∷ xs))

-- the item at a place, from 0
abbrev pub item_at : List Val → ℤ → Option Val
item_at xs (pos i) = slice_get xs i
item_at xs (negsuc i) = None

-- less the first item that equals x, or as it is, where there is none
abbrev pub without_first : Val → List Val → List Val
without_first x [] = []
without_first x (y ∷ ys) = if same x y then ys else y ∷ without_first x ys
