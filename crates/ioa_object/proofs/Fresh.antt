-- Items that may stand behind others: in other words, two conditions together, and names that differ from those before.
use Rattle.std.proofs.Common.{◌≡◌, true, false, List, [], ◌∷◌, ◌++◌, map, refl, sym, ap, ◌∙◌}
use Rattle.std.proofs.lemmas.Bool.{false_from_ne_true, false≢true}
use Rattle.std.proofs.lemmas.List.{map-append, append_assoc, append-nil}
use Rattle.ioa_value.specs.Actions.{Name}
use Rattle.ioa_value.specs.Table.{contains, distinct}
use Rattle.ioa_value.proofs.NameLemmas.{distinct-again, distinct-append}
use Rattle.ioa_object.proofs.Lists.{AreFine}

pub fine_weaker : {A : Type 0} (F G : List A → A → Type 0) → ((before : List A) (x : A) → F before x → G before x) → (before xs : List A) → AreFine F before xs → AreFine G before xs
fine_weaker F G f before [] h = tt
fine_weaker F G f before (x ∷ xs) h = (f before x h.0, fine_weaker F G f (before ++ x ∷ []) xs h.1)

pub fine_both : {A : Type 0} (F G H : List A → A → Type 0) → ((before : List A) (x : A) → F before x → G before x → H before x) → (before xs : List A)
    → AreFine F before xs → AreFine G before xs → AreFine H before xs
fine_both F G H f before [] h k = tt
fine_both F G H f before (x ∷ xs) h k = (f before x h.0 k.0, fine_both F G H f (before ++ x ∷ []) xs h.1 k.1)

-- its name is none of those before
abbrev pub IsNew : {A : Type 0} → (A → Name) → List A → A → Type 0
IsNew name before x = contains (map name before) (name x) ≡ false

pub distinct_push : (ns : List Name) (n : Name) → distinct ns ≡ true → contains ns n ≡ false → distinct (ns ++ n ∷ []) ≡ true
distinct_push ns n d new = distinct-append ns (n ∷ []) ∙ rw (d, new) refl

pub new_name : (ns : List Name) (n : Name) (more : List Name) → distinct (ns ++ n ∷ more) ≡ true → contains ns n ≡ false
new_name ns n more d = false_from_ne_true (contains ns n) (λ h. false≢true (sym (distinct-again ns n more h) ∙ d))

module _ {A : Type 0} (name : A → Name) where
  names_push : (before : List A) (x : A) → map name (before ++ x ∷ []) ≡ map name before ++ name x ∷ []
  names_push before x = map-append name before (x ∷ [])

  pub distinct_new : (before xs : List A) → distinct (map name (before ++ xs)) ≡ true → AreFine (IsNew name) before xs
  distinct_new before [] d = tt
  distinct_new before (x ∷ xs) d = (
    new_name (map name before) (name x) (map name xs) (sym (ap distinct (map-append name before (x ∷ xs))) ∙ d),
    distinct_new (before ++ x ∷ []) xs (ap (λ l. distinct (map name l)) (append_assoc before (x ∷ []) xs) ∙ d),
  )

  pub new_distinct : (before xs : List A) → distinct (map name before) ≡ true → AreFine (IsNew name) before xs → distinct (map name (before ++ xs)) ≡ true
  new_distinct before [] d h = ap (λ l. distinct (map name l)) (append-nil before) ∙ d
  new_distinct before (x ∷ xs) d h =
      sym (ap (λ l. distinct (map name l)) (append_assoc before (x ∷ []) xs))
      ∙ new_distinct (before ++ x ∷ []) xs (ap distinct (names_push before x) ∙ distinct_push (map name before) (name x) d h.0) h.1
