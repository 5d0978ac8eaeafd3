-- Names that a text can spell, those that the rewriting adds, and what lists of them stand for.
use Rattle.std.proofs.Common.{◌≡◌, ℕ, Bool, true, false, not, cond, ◌||◌, ◌==◌, List, [], ◌∷◌, ◌++◌, map, length, find, Option, Some, None, All, refl, sym, ap, subst, ◌∙◌, arith, true≢false}
use Rattle.std.specs.List.{list_all}
use Rattle.std.specs.Str.{bytes_eq}
use Rattle.std.proofs.lemmas.Bool.{and_parts, and_from, eqb-true}
use Rattle.std.proofs.lemmas.List.Elements.{All-head, All-tail}
use Rattle.ioa_value.specs.Actions.{Name}
use Rattle.ioa_value.specs.Names.{IsName, is_name, is_letter, begins_with_letter}
use Rattle.ioa_value.specs.Plain.{Val}
use Rattle.ioa_value.specs.Table.{contains, apart}
use Rattle.ioa_value.proofs.NameLemmas.{same_name, own_name, not_true}
use Rattle.ioa_tree.specs.Meaning.{values_of, or_else}
use Rattle.ioa_crash.specs.Rewriting.{spelled, up_name, start_name}

pub not_both : {X : Type 0} (b : Bool) → b ≡ true → b ≡ false → X
not_both b h k = absurd (true≢false (sym h ∙ k))

pub other_way : (x y : Name) → bytes_eq x y ≡ false → bytes_eq y x ≡ false
other_way x y h = go (bytes_eq y x) refl
  where
    go : (b : Bool) → bytes_eq y x ≡ b → bytes_eq y x ≡ false
    go true e = let same : y ≡ x = same_name y x e in not_both (bytes_eq x y) (ap (bytes_eq x) same ∙ own_name x) h
    go false e = e

pub or_none : {X : Type 0} (o : Option X) → or_else o None ≡ o
or_none (Some v) = refl
or_none None = refl

pub or_false : (b : Bool) → (b || false) ≡ b
or_false true = refl
or_false false = refl

-- ---- values of names

pub absent : (ns : List Name) (vs : List Val) (x : Name) → contains ns x ≡ false → values_of ns vs x ≡ None
absent [] vs x h = refl
absent (n ∷ ns) [] x h = refl
absent (n ∷ ns) (v ∷ vs) x h = go (bytes_eq n x) h (absent ns vs x)
  where
    go : (b : Bool) → (b || contains ns x) ≡ false → (contains ns x ≡ false → values_of ns vs x ≡ None) → cond b (Some v) (values_of ns vs x) ≡ None
    go true k more = absurd (true≢false k)
    go false k more = more k

pub known : (ns : List Name) (vs : List Val) (x : Name) → length ns ≡ length vs → contains ns x ≡ true → (v : Val) × (values_of ns vs x ≡ Some v)
known [] vs x l h = absurd (true≢false (sym h))
known (n ∷ ns) [] x l h = absurd (omega arith)
known (n ∷ ns) (v ∷ vs) x l h = go (bytes_eq n x) h (known ns vs x (omega arith))
  where
    go : (b : Bool) → (b || contains ns x) ≡ true → (contains ns x ≡ true → (w : Val) × (values_of ns vs x ≡ Some w))
        → (w : Val) × (cond b (Some v) (values_of ns vs x) ≡ Some w)
    go true k more = (v, refl)
    go false k more = more k

pub appended : (ns ms : List Name) (vs ws : List Val) (x : Name) → length ns ≡ length vs
    → values_of (ns ++ ms) (vs ++ ws) x ≡ or_else (values_of ns vs x) (values_of ms ws x)
appended [] ms [] ws x l = refl
appended [] ms (v ∷ vs) ws x l = absurd (omega arith)
appended (n ∷ ns) ms [] ws x l = absurd (omega arith)
appended (n ∷ ns) ms (v ∷ vs) ws x l = go (bytes_eq n x) (appended ns ms vs ws x (omega arith))
  where
    go : (b : Bool) → values_of (ns ++ ms) (vs ++ ws) x ≡ or_else (values_of ns vs x) (values_of ms ws x)
        → cond b (Some v) (values_of (ns ++ ms) (vs ++ ws) x) ≡ or_else (cond b (Some v) (values_of ns vs x)) (values_of ms ws x)
    go true k = refl
    go false k = k

-- ---- tests of names

pub all_of : (p : Name → Bool) (ns : List Name) (x : Name) → list_all p ns ≡ true → contains ns x ≡ true → p x ≡ true
all_of p [] x h k = absurd (true≢false (sym k))
all_of p (n ∷ ns) x h k = go (bytes_eq n x) refl k (all_of p ns x (and_parts (p n) (list_all p ns) h).1)
  where
    go : (b : Bool) → bytes_eq n x ≡ b → (b || contains ns x) ≡ true → (contains ns x ≡ true → p x ≡ true) → p x ≡ true
    go true e q more = subst (λ (y : Name). p y ≡ true) (same_name n x e) (and_parts (p n) (list_all p ns) h).0
    go false e q more = more q

pub apart_from : (ns ms : List Name) (x : Name) → apart ns ms ≡ true → contains ms x ≡ true → contains ns x ≡ false
apart_from ns ms x h k = go (contains ns x) refl
  where
    go : (b : Bool) → contains ns x ≡ b → contains ns x ≡ false
    go true e = not_both (contains ms x) k (not_true (contains ms x) (all_of (λ n. not (contains ms n)) ns x h e))
    go false e = e

-- what is found has its name among those of all
pub found_among : {X : Type 0} (f : X → Name) (q : X → Bool) (xs : List X) (x : X) → find q xs ≡ Some x → contains (map f xs) (f x) ≡ true
found_among f q [] x h = absurd (cc)
found_among {X} f q (y ∷ ys) x h = go (q y) h (found_among f q ys x)
  where
    either : (b c : Bool) → c ≡ true → (b || c) ≡ true
    either true c k = refl
    either false c k = k

    go : (b : Bool) → cond b (Some y) (find q ys) ≡ Some x → (find q ys ≡ Some x → contains (map f ys) (f x) ≡ true)
        → (bytes_eq (f y) (f x) || contains (map f ys) (f x)) ≡ true
    go true e more = let same : y ≡ x = cc in subst (λ (z : X). (bytes_eq (f z) (f x) || contains (map f ys) (f x)) ≡ true) (sym same) (ap (λ b. b || contains (map f ys) (f x)) (own_name (f x)))
    go false e more = either (bytes_eq (f y) (f x)) (contains (map f ys) (f x)) (more e)

-- ---- names of texts

letter_spelled : (b : ℕ) → is_letter b ≡ true → not (b == 35) ≡ true
letter_spelled b h = go (b == 35) refl
  where
    go : (c : Bool) → (b == 35) ≡ c → not c ≡ true
    go true e = let same : b ≡ 35 = eqb-true b 35 e in absurd (true≢false (sym h ∙ ap is_letter same))
    go false e = refl

begun_spelled : (x : Name) → begins_with_letter x ≡ true → spelled x ≡ true
begun_spelled [] h = refl
begun_spelled (b ∷ bs) h = letter_spelled b h

pub legal_spelled : (x : Name) → IsName x → spelled x ≡ true
unfolding is_name
legal_spelled x h = begun_spelled x (and_parts _ _ (and_parts _ _ (and_parts _ _ h).0).0).0

pub all_spelled : (ns : List Name) → All IsName ns → list_all spelled ns ≡ true
all_spelled [] h = refl
all_spelled (n ∷ ns) h = and_from (spelled n) (list_all spelled ns) (legal_spelled n (All-head IsName n ns h)) (all_spelled ns (All-tail IsName n ns h))

-- ---- names that no text spells

pub unspelled : (y x : Name) → spelled x ≡ true → bytes_eq (35 ∷ y) x ≡ false
unspelled y x h = go (bytes_eq (35 ∷ y) x) refl
  where
    go : (b : Bool) → bytes_eq (35 ∷ y) x ≡ b → bytes_eq (35 ∷ y) x ≡ false
    go true e = let same : 35 ∷ y ≡ x = same_name (35 ∷ y) x e in not_both (spelled x) h (sym (ap spelled same))
    go false e = e

pub unspelled_too : (y x : Name) → spelled x ≡ true → bytes_eq x (35 ∷ y) ≡ false
unspelled_too y x h = other_way (35 ∷ y) x (unspelled y x h)

pub none_unspelled : (ns : List Name) (y : Name) → list_all spelled ns ≡ true → contains ns (35 ∷ y) ≡ false
none_unspelled [] y h = refl
none_unspelled (n ∷ ns) y h =
    let k = and_parts (spelled n) (list_all spelled ns) h in
    rw (unspelled_too y n k.0) (none_unspelled ns y k.1)

pub starts_unspelled : (ns : List Name) (x : Name) → spelled x ≡ true → contains (map start_name ns) x ≡ false
starts_unspelled [] x h = refl
starts_unspelled (n ∷ ns) x h = rw (unspelled (35 ∷ n) x h) (starts_unspelled ns x h)

pub starts_not_up : (ns : List Name) → contains (map start_name ns) up_name ≡ false
starts_not_up [] = refl
starts_not_up (n ∷ ns) = starts_not_up ns

-- a start's name stands for what its variable's name stands for
pub start_of : (ns : List Name) (ws : List Val) (x : Name) → values_of (map start_name ns) ws (start_name x) ≡ values_of ns ws x
start_of [] ws x = refl
start_of (n ∷ ns) [] x = refl
start_of (n ∷ ns) (w ∷ ws) x = rw (start_of ns ws x) refl
