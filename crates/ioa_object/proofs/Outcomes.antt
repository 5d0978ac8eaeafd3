-- What is said of readers: how they answer with more bytes behind what they read.
use Rattle.std.proofs.Common.{◌≡◌, ℕ, ◌<◌, ◌⊎◌, inl, inr, Bool, true, false, List, ◌++◌, refl, sym, ap, ◌∙◌, subst, Ok, Err, if◌then◌else◌, length, arith}
use Rattle.std.proofs.lemmas.List.{length-append}
use Rattle.ioa_bytes.specs.Items.{Outcome, Reader, ◌>>=◌, ◌>>◌, built, right}
use Rattle.ioa_bytes.specs.Spots.{Spot}
use Rattle.ioa_bytes.specs.declared.failure.ObjErr.{ObjErr}
use Rattle.ioa_bytes.specs.declared.failure.ObjErr.TheVariants as errors

-- ---- more bytes behind

-- the place, with these bytes behind the others
abbrev pub longer : List ℕ → Spot → Spot
longer more c = record { place = c.place; rest = c.rest ++ more; parts = c.parts }

-- what stands in a place, or the code of a part, is wrong
abbrev pub IsWrong : ObjErr → Type 0
IsWrong errors.Magic = ⊥
IsWrong errors.Version = ⊥
IsWrong errors.Truncated = ⊥
IsWrong errors.Trailing = ⊥
IsWrong (errors.BadTable at) = Unit {0}
IsWrong (errors.BadCode part at) = Unit {0}
IsWrong errors.Clash = ⊥
IsWrong errors.OutOfMemory = ⊥

-- the same as this outcome, with these bytes behind, unless it ended inside an item
abbrev pub StaysAs : {A : Type 0} → List ℕ → Outcome A → Outcome A → Type 0
StaysAs more (Ok x) after = after ≡ Ok (x.0, longer more x.1)
StaysAs more (Err e) after = (e ≡ errors.Truncated) ⊎ (IsWrong e × (after ≡ Err e))

pub record Stays {A : Type 0} (more : List ℕ) (o after : Outcome A) : Type 0 where
  pub same : StaysAs more o after

-- more bytes behind what it reads change nothing, and nothing is wrong with the whole
pub record IsLocal {A : Type 0} (read : Reader A) : Type 0 where
  pub stays : (c : Spot) (more : List ℕ) → Stays more (read c) (read (longer more c))

pub stays_ok : {A : Type 0} (more : List ℕ) (x : A) (d : Spot) → Stays more (Ok (x, d)) (Ok (x, longer more d))
stays_ok more x d = record { same = refl }

pub stays_wrong : {A : Type 0} (more : List ℕ) (e : ObjErr) → IsWrong e → Stays {A = A} more (Err e) (Err e)
stays_wrong more e w = record { same = inr (w, refl) }

-- the same reader in the same place, with and without more bytes behind
pub stays_on : {A B : Type 0} (more : List ℕ) (o p : Outcome A) (f g : A × Spot → Outcome B) → Stays more o p
    → ((x : A) (d : Spot) → Stays more (f (x, d)) (g (x, longer more d))) → Stays more (o >>= f) (p >>= g)
stays_on {A} {B} more o p f g h each = go o h.same
  where
    go : (o : Outcome A) → StaysAs more o p → Stays more (o >>= f) (p >>= g)
    go (Ok x) h = subst (λ (p : Outcome A). Stays more (f x) (p >>= g)) (sym h) (each x.0 x.1)
    go (Err e) (inl t) = record { same = inl t }
    go (Err e) (inr w) = record { same = inr (w.0, ap (λ p. p >>= g) w.1) }

pub stays_right : {A : Type 0} (more : List ℕ) (ok : Bool) (place : ℕ) (o p : Outcome A) → Stays more o p → Stays more (right ok place >> o) (right ok place >> p)
stays_right more true place o p h = h
stays_right more false place o p h = record { same = inr (tt, refl) }

pub stays_if : {A : Type 0} (more : List ℕ) (b : Bool) (o p o' p' : Outcome A) → Stays more o o' → Stays more p p' → Stays more (if b then o else p) (if b then o' else p')
stays_if more true o p o' p' h k = h
stays_if more false o p o' p' h k = k

pub stays_built : {A B : Type 0} (more : List ℕ) (f : A → B) (o p : Outcome A) → Stays more o p → Stays more (built f o) (built f p)
stays_built more f o p h = stays_on more o p (λ x. Ok (f x.0, x.1)) (λ x. Ok (f x.0, x.1)) h (λ x d. stays_ok more (f x) d)

-- what is wrong with an answer: the bytes end inside an item, or something is wrong
pub ended_or_wrong : {A : Type 0} (more : List ℕ) (o after : Outcome A) (e : ObjErr) → Stays more o after → o ≡ Err e → (e ≡ errors.Truncated) ⊎ IsWrong e
ended_or_wrong {A} more o after e h is = elim (subst (λ (o : Outcome A). StaysAs more o after) is h.same) [ inl t ↦ inl t | inr w ↦ inr w.0 ]

-- where the whole is found within the bytes behind, those before end inside an item
pub cut_inside : {A : Type 0} (more : List ℕ) (o after : Outcome A) (x : A) (d : Spot) → Stays more o after → after ≡ Ok (x, d) → length d.rest < length more → o ≡ Err errors.Truncated
cut_inside {A} more o after x d h is short = go o h.same
  where
    go : (o : Outcome A) → StaysAs more o after → o ≡ Err errors.Truncated
    go (Ok y) k =
        let same : ◌≡◌ {A = A × Spot} (y.0, longer more y.1) (x, d) = let both : Ok (y.0, longer more y.1) ≡ Ok (x, d) = sym k ∙ is in cc in
        let left : y.1.rest ++ more ≡ d.rest = ap (λ p. p.1.rest) same in
        absurd (omega (arith, length-append y.1.rest more, ap length left))
    go (Err e) (inl t) = ap Err t
    go (Err e) (inr w) = let both : ◌≡◌ {A = Outcome A} (Err e) (Ok (x, d)) = sym w.1 ∙ is in absurd (cc)
