-- How readings go on: with the next item, or not.
use Rattle.std.proofs.Common.{◌≡◌, ℕ, zero, suc, ◌+◌, ◌-◌, ◌<◌, ◌≤◌, Bool, true, false, not, List, [], ◌∷◌, ◌++◌, length, map, drop, slice_get, Some, Result, Ok, Err, refl, sym, ap, subst, ◌∙◌, arith}
use Rattle.std.proofs.lemmas.List.{map-append, drop_all}
use Rattle.std.specs.Result.{IsErrAnd}
use Rattle.ioa_value.specs.Actions.{Name}
use Rattle.ioa_value.specs.Plain.{Val}
use Rattle.ioa_value.proofs.RowLemmas.{drop_there}
use Rattle.ioa_bytes.specs.Spots.{Spot}
use Rattle.ioa_bytes.specs.Items.{Outcome, Reader, Fails, ReadsItem, named_at, name_at, ◌>>=◌, ◌>>◌, built, right, count_at, items_at, list_at, parts_at}
use Rattle.ioa_bytes.specs.declared.failure.ObjErr.{ObjErr}
use Rattle.ioa_bytes.specs.declared.failure.ObjErr.TheVariants as errors

-- ---- a refusal is passed on

-- what refuses as the one does
pub fails_on : {X Y : Type 0} (e : ObjErr) (r : Result X ObjErr) (s : Result Y ObjErr) → ((f : ObjErr) → r ≡ Err f → s ≡ Err f) → Fails e r → Fails e s
fails_on errors.Magic r s on h = on errors.Magic h
fails_on errors.Version r s on h = on errors.Version h
fails_on errors.Truncated r s on h = on errors.Truncated h
fails_on errors.Trailing r s on h = on errors.Trailing h
fails_on (errors.BadTable at) r s on h = on (errors.BadTable at) h
fails_on (errors.BadCode part at) r s on h = on (errors.BadCode part at) h
fails_on errors.Clash r s on h = on errors.Clash h
fails_on errors.OutOfMemory r s on h = tt

-- what returned the refusal of a step
pub reads_err : {Y W Z : Type 0} (view : W → Z) (r : Result W ObjErr) (e : ObjErr) (step : Outcome Y) (read : Outcome Z) (d : Spot) → IsErrAnd r (λ f. f ≡ e)
    → ((f : ObjErr) → step ≡ Err f → read ≡ Err f) → Fails e step → ReadsItem view read r d
reads_err view (Ok x) e step read d h on fails = absurd h
reads_err view (Err f) e step read d h on fails = fails_on f step read on (subst (λ g. Fails g step) (sym h) fails)

-- ---- one step after another

pub then_err : {A B : Type 0} (r : Result A ObjErr) (f : A → Result B ObjErr) (e : ObjErr) → r ≡ Err e → (r >>= f) ≡ Err e
then_err r f e h = ap (λ x. x >>= f) h

pub then_ok : {A B : Type 0} (r : Result A ObjErr) (f : A → Result B ObjErr) (x : A) → r ≡ Ok x → (r >>= f) ≡ f x
then_ok r f x h = ap (λ y. y >>= f) h

-- the outcome of a step that is built on
pub built_err : {A B : Type 0} (f : A → B) (r : Outcome A) (e : ObjErr) → r ≡ Err e → built f r ≡ Err e
built_err f r e h = ap (built f) h

pub built_ok : {A B : Type 0} (f : A → B) (r : Outcome A) (x : A) (d : Spot) → r ≡ Ok (x, d) → built f r ≡ Ok (f x, d)
built_ok f r x d h = ap (built f) h

-- what built an outcome
pub built_failed : {A B : Type 0} (f : A → B) (r : Outcome A) (e : ObjErr) → built f r ≡ Err e → r ≡ Err e
built_failed f (Ok x) e h = absurd (cc)
built_failed f (Err g) e h = cc

pub built_was : {A B : Type 0} (f : A → B) (r : Outcome A) (y : B) (d : Spot) → built f r ≡ Ok (y, d) → (x : A) × (r ≡ Ok (x, d)) × (y ≡ f x)
built_was {A} {B} f (Ok x) y d h =
    let same : ◌≡◌ {A = B × Spot} (f x.0, x.1) (y, d) = cc in
    (x.0, ap (λ g. Ok (x.0, g)) (ap (λ p. p.1) same), sym (ap (λ p. p.0) same))
built_was f (Err g) y d h = absurd (cc)

-- a thing more, seen without the memory that holds it
pub seen_more : {A B : Type 0} (view : A → B) (xs ys : List A) (x : A) → ys ≡ xs ++ x ∷ [] → map view ys ≡ map view xs ++ view x ∷ []
seen_more view xs ys x h = ap (map view) h ∙ map-append view xs (x ∷ [])

-- ---- names that are taken, or not

module _ (taken : Name → Bool) (c : Spot) where
  pub name_fails : {W : Type 0} (view : W → Name) (r : Result W ObjErr) (e : ObjErr) (d : Spot) → IsErrAnd r (λ f. f ≡ e) → Fails e (named_at c) → ReadsItem view (name_at taken c) r d
  unfolding name_at
  name_fails view r e d err fails = reads_err view r e (named_at c) (name_at taken c) d err (λ f q. then_err (named_at c) _ f q) fails

  pub name_free : (x : Name) (at : ℕ) (d : Spot) → named_at c ≡ Ok ((x, at), d) → taken x ≡ false → name_at taken c ≡ Ok (x, d)
  unfolding name_at
  name_free x at d h free = then_ok (named_at c) _ ((x, at), d) h ∙ ap (λ b. right (not b) at >> Ok (x, d)) free

  pub name_taken : (x : Name) (at : ℕ) (d : Spot) → named_at c ≡ Ok ((x, at), d) → taken x ≡ true → name_at taken c ≡ Err (errors.BadTable at)
  unfolding name_at
  name_taken x at d h used = then_ok (named_at c) _ ((x, at), d) h ∙ ap (λ b. right (not b) at >> Ok (x, d)) used

-- ---- items

module _ {A : Type 0} (item : List A → Reader A) where
  pub items_none : (before : List A) (n : ℕ) (c : Spot) → n ≡ 0 → items_at item before n c ≡ Ok (before, c)
  unfolding items_at
  items_none before zero c h = refl
  items_none before (suc n) c h = absurd (omega arith)

  pub items_err : (before : List A) (n : ℕ) (c : Spot) (e : ObjErr) → 0 < n → item before c ≡ Err e → items_at item before n c ≡ Err e
  unfolding items_at
  items_err before zero c e h r = absurd (omega arith)
  items_err before (suc n) c e h r = then_err (item before c) (λ x. items_at item (before ++ x.0 ∷ []) n x.1) e r

  pub items_more : (before : List A) (n k : ℕ) (c d : Spot) (x : A) → n ≡ k + 1 → item before c ≡ Ok (x, d) → items_at item before n c ≡ items_at item (before ++ x ∷ []) k d
  unfolding items_at
  items_more before zero k c d x h r = absurd (omega arith)
  items_more before (suc n) k c d x h r =
      then_ok (item before c) (λ x. items_at item (before ++ x.0 ∷ []) n x.1) (x, d) r
      ∙ ap (λ m. items_at item (before ++ x ∷ []) m d) (omega arith)

  -- a reading of n items, of which i are read
  pub amid_fails : {W : Type 0} (view : W → List A) (r : Result W ObjErr) (e : ObjErr) (whole : Outcome (List A)) (n i : ℕ) (before : List A) (c d : Spot)
      → IsErrAnd r (λ f. f ≡ e) → i < n → whole ≡ items_at item before (n - i) c → Fails e (item before c) → ReadsItem view whole r d
  amid_fails view r e whole n i before c d err h w fails =
      reads_err view r e (item before c) whole d err (λ g q. w ∙ items_err before (n - i) c g (omega arith) q) fails

  pub amid_more : (whole : Outcome (List A)) (n i : ℕ) (before after : List A) (c d : Spot) (x : A) → i < n → whole ≡ items_at item before (n - i) c
      → item before c ≡ Ok (x, d) → after ≡ before ++ x ∷ [] → whole ≡ items_at item after (n - (i + 1)) d
  amid_more whole n i before after c d x h w r a =
      w ∙ items_more before (n - i) (n - (i + 1)) c d x (omega arith) r ∙ ap (λ l. items_at item l (n - (i + 1)) d) (sym a)

  pub amid_done : (whole : Outcome (List A)) (n i : ℕ) (before : List A) (c : Spot) → n ≤ i → whole ≡ items_at item before (n - i) c → whole ≡ Ok (before, c)
  amid_done whole n i before c h w = w ∙ items_none before (n - i) c (omega arith)

  -- a list begins with how many items there are
  pub list_begun : (least most n : ℕ) (c d : Spot) (before : List A) → count_at least most c ≡ Ok (n, d) → before ≡ [] → list_at least most item c ≡ items_at item before (n - 0) d
  unfolding list_at
  list_begun least most n c d before h none =
      then_ok (count_at least most c) (λ n. items_at item [] n.0 n.1) (n, d) h ∙ ap (λ m. items_at item [] m d) (omega arith) ∙ ap (λ l. items_at item l (n - 0) d) (sym none)

  pub list_fails : {W : Type 0} (view : W → List A) (r : Result W ObjErr) (e : ObjErr) (least most : ℕ) (c d : Spot) → IsErrAnd r (λ f. f ≡ e) → Fails e (count_at least most c)
      → ReadsItem view (list_at least most item c) r d
  unfolding list_at
  list_fails view r e least most c d err fails =
      reads_err view r e (count_at least most c) (list_at least most item c) d err (λ g q. then_err (count_at least most c) (λ n. items_at item [] n.0 n.1) g q) fails

-- ---- values of given types

module _ (inner : ℕ → Reader Val) where
  pub parts_none : (before : List Val) (tys : List ℕ) (i : ℕ) (c : Spot) → length tys ≤ i → parts_at inner before (drop i tys) c ≡ Ok (before, c)
  unfolding parts_at
  parts_none before tys i c h = ap (λ l. parts_at inner before l c) (drop_all i tys h)

  pub parts_fails : {W : Type 0} (view : W → List Val) (r : Result W ObjErr) (e : ObjErr) (whole : Outcome (List Val)) (before : List Val) (tys : List ℕ) (i ty : ℕ) (c d : Spot)
      → IsErrAnd r (λ f. f ≡ e) → slice_get tys i ≡ Some ty → whole ≡ parts_at inner before (drop i tys) c → Fails e (inner ty c) → ReadsItem view whole r d
  unfolding parts_at
  parts_fails view r e whole before tys i ty c d err at w fails =
      reads_err view r e (inner ty c) whole d err
      (λ g q. w ∙ ap (λ l. parts_at inner before l c) (drop_there tys i ty at) ∙ then_err (inner ty c) (λ v. parts_at inner (before ++ v.0 ∷ []) (drop (i + 1) tys) v.1) g q) fails

  pub parts_more : (whole : Outcome (List Val)) (before after : List Val) (tys : List ℕ) (i ty : ℕ) (c d : Spot) (v : Val) → slice_get tys i ≡ Some ty
      → whole ≡ parts_at inner before (drop i tys) c → inner ty c ≡ Ok (v, d) → after ≡ before ++ v ∷ [] → whole ≡ parts_at inner after (drop (i + 1) tys) d
  unfolding parts_at
  parts_more whole before after tys i ty c d v at w q a =
      w ∙ ap (λ l. parts_at inner before l c) (drop_there tys i ty at) ∙ then_ok (inner ty c) (λ v. parts_at inner (before ++ v.0 ∷ []) (drop (i + 1) tys) v.1) (v, d) q
      ∙ ap (λ l. parts_at inner l (drop (i + 1) tys) d) (sym a)
