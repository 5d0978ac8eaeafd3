-- What an answer says about tests that are joined.
use Rattle.std.proofs.Common.{◌≡◌, ℕ, ◌+◌, ◌<◌, Bool, true, false, ◌&&◌, List, ◌∷◌, map, drop, length, get_or, take, ◌++◌, Result, Ok, Err, sym, ap, subst, ◌∙◌, take-append-drop}
use Rattle.std.proofs.lemmas.List.{map-append}
use Rattle.std.proofs.lemmas.List.Folds.{list_any-append}
use Rattle.std.specs.List.{list_all, list_any}
use Rattle.std.specs.Result.{IsErrAnd}
use Rattle.std.proofs.lemmas.Bool.{and_left, and_right, and_from, or_left, or_right, not_from_false}
use Rattle.ioa_lex.specs.declared.refusal.Refusal.{Refusal}
use Rattle.ioa_rules.specs.Codes.{Code, tells}
use Rattle.ioa_rules.specs.Reasons.{Reasons, ◌or◌, broken, in_any}
use Rattle.ioa_rules.specs.Verdicts.{Says, SaysOrMemory}
use Rattle.ioa_value.proofs.ItemLemmas.{drop_item, all_fails}

-- the last of two tests decides
pub says-last : {T : Type 0} (r : Result T Refusal) (a b : Bool) (w : Reasons) → a ≡ true → Says r b w → Says r (a && b) w
says-last (Ok x) a b w e h = and_from a b e h
says-last (Err x) a b w e h = (h.0, and_right a b h.1)

-- the first of two tests decides
pub says-first : {T : Type 0} (r : Result T Refusal) (a b : Bool) (w : Reasons) → b ≡ true → Says r a w → Says r (a && b) w
says-first (Ok x) a b w e h = and_from a b h e
says-first (Err x) a b w e h = (h.0, and_left a b h.1)

-- the same test
pub says-at : {T : Type 0} (r : Result T Refusal) (a b : Bool) (w : Reasons) → a ≡ b → Says r a w → Says r b w
says-at {T} r a b w e h = let P : Bool → Type 0 = λ c. Says r c w in subst P e h

-- a refusal that tells one fault tells one of more
pub says-more : {T : Type 0} (r : Result T Refusal) (b : Bool) (w v : Reasons) → ((x : Refusal) → w x ≡ true → v x ≡ true) → Says r b w → Says r b v
says-more (Ok x) b w v f h = h
says-more (Err x) b w v f h = (f x h.0, h.1)

-- a refusal that tells a rule, where the rule is broken
pub says-broken : {T : Type 0} (r : Result T Refusal) (k : Code) (b : Bool) → Says r b (tells k) → Says r b (broken k b)
says-broken (Ok x) k b h = h
says-broken (Err x) k b h = (and_from _ _ h.0 (not_from_false b h.1), h.1)

pub split-at : {X : Type 0} (xs : List X) (i : ℕ) (x : X) → i < length xs → x ≡ get_or xs i x → take i xs ++ x ∷ drop (i + 1) xs ≡ xs
split-at xs i x l e = ap (λ ys. take i xs ++ ys) (sym (drop_item xs i x l e)) ∙ take-append-drop i xs

-- one item of a list has what one of them has
pub any-at : {X Y : Type 0} (f : Y → Bool) (v : X → Y) (xs : List X) (i : ℕ) (x : X) → i < length xs → x ≡ get_or xs i x → f (v x) ≡ true → list_any f (map v xs) ≡ true
any-at f v xs i x l e h =
    ap (λ ys. list_any f (map v ys)) (sym (split-at xs i x l e)) ∙ ap (list_any f) (map-append v (take i xs) (x ∷ drop (i + 1) xs))
    ∙ list_any-append f (map v (take i xs)) (v x ∷ map v (drop (i + 1) xs)) ∙ or_right _ _ (or_left _ _ h)

-- an error that `?` hands on
pub says-passed : {T U : Type 0} (q : Result T Refusal) (r : Result U Refusal) (e : Refusal) (b : Bool) (w : Reasons) → q ≡ Err e → IsErrAnd r (λ x. x ≡ e) → Says q b w → Says r b w
says-passed {T} q (Ok y) e b w p h k = absurd h
says-passed {T} q (Err y) e b w p h k =
    let P : Result T Refusal → Type 0 = λ o. Says o b w in
    let at : Says {T = T} (Err e) b w = subst P p k in
    (ap w h ∙ at.0, at.1)

-- an error that `?` hands on, at the second of two tests
pub second-passed : {T U : Type 0} (q : Result T Refusal) (r : Result U Refusal) (e : Refusal) (a b : Bool) (w v : Reasons) → q ≡ Err e → IsErrAnd r (λ x. x ≡ e) → Says q b w → Says r (a && b) (w or v)
second-passed q (Ok y) e a b w v p h k = absurd h
second-passed {T} q (Err y) e a b w v p h k =
    let P : Result T Refusal → Type 0 = λ o. Says o b w in
    let at : P (Err y) = subst P (p ∙ ap Err (sym h)) k in
    (or_left (w y) (v y) at.0, and_right a b at.1)

-- an error at one item is one for the list
pub says-in-list : {T U X Y : Type 0} (q : Result T Refusal) (r : Result U Refusal) (e : Refusal) (f : Y → Bool) (w : Y → Reasons) (v : X → Y) (xs ys : List X) (i : ℕ) (x : X) → ys ≡ xs → i < length ys → x ≡ get_or ys i x → list_all f (map v (drop i xs)) ≡ list_all f (map v xs) →
    q ≡ Err e → IsErrAnd r (λ y. y ≡ e) → Says q (f (v x)) (w (v x)) → Says r (list_all f (map v xs)) (in_any w (map v xs))
says-in-list q r e f w v xs ys i x at l is h was bad k = fails r bad (says-passed q r e _ _ was bad k)
  where
    fails : {U : Type 0} (r : Result U Refusal) → IsErrAnd r (λ y. y ≡ e) → Says r (f (v x)) (w (v x)) → Says r (list_all f (map v xs)) (in_any w (map v xs))
    fails (Ok y) bad k = absurd bad
    fails (Err y) bad k =
        (ap (λ zs. list_any (λ z. w z y) (map v zs)) (sym at) ∙ any-at (λ z. w z y) v ys i x l is k.0, all_fails f v xs ys i x _ at l is h k.1)

-- ---- where memory may be short

pub says-memory : {T : Type 0} (r : Result T Refusal) (b : Bool) (w : Reasons) → Says r b w → SaysOrMemory r b w
says-memory (Ok x) b w h = h
says-memory (Err x) b w h = λ n. h

-- an error that `?` hands on, for a test that joins others
pub memory-passed : {T U : Type 0} (q : Result T Refusal) (o : Result U Refusal) (e : Refusal) (b c : Bool) (w v : Reasons) → q ≡ Err e → IsErrAnd o (λ y. y ≡ e) → SaysOrMemory q b w
    → ((r : Refusal) → w r ≡ true → b ≡ false → (v r ≡ true) × (c ≡ false)) → SaysOrMemory o c v
memory-passed q (Ok y) e b c w v was bad h f = absurd bad
memory-passed {T} q (Err y) e b c w v was bad h f = λ n.
    let P : Result T Refusal → Type 0 = λ o. SaysOrMemory o b w in
    let k : SaysOrMemory {T = T} (Err y) b w = subst P (was ∙ ap Err (sym bad)) h in
    let r = k n in
    f y r.0 r.1
