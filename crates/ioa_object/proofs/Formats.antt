-- Formats: a reader, and how what it reads is spelled. It finds what is spelled, whatever follows, and what it finds was spelled so.
use Rattle.std.proofs.Common.{◌≡◌, ℕ, ◌+◌, ◌<◌, Bool, true, false, List, ◌++◌, length, refl, sym, ap, ◌∙◌, subst, Ok, Err, if◌then◌else◌, All, arith}
use Rattle.std.proofs.lemmas.List.{length-append, append_assoc, get_or-append-add, get_or_append_left}
use Rattle.ioa_bytes.specs.Items.{Outcome, Reader, ◌>>=◌, ◌>>◌, built, right}
use Rattle.ioa_bytes.specs.Spots.{Spot}
use Rattle.ioa_bytes.specs.declared.failure.ObjErr.{ObjErr}

abbrev pub AreBytes : List ℕ → Type 0
AreBytes bytes = All (λ b. b < 256) bytes

-- ---- what is found

-- it found the thing, and these bytes are left
pub record Finds {A : Type 0} (o : Outcome A) (x : A) (more : List ℕ) : Type 0 where
  pub behind : Spot
  pub is : o ≡ Ok (x, behind)
  pub left : behind.rest ≡ more

pub finds_ok : {A : Type 0} (x : A) (d : Spot) (more : List ℕ) → d.rest ≡ more → Finds (Ok (x, d)) x more
finds_ok x d more e = record { behind = d; is = refl; left = e }

pub finds_step : {A B : Type 0} (o : Outcome A) (f : A × Spot → Outcome B) (x : A) (more : List ℕ) (y : B) (rest : List ℕ) (h : Finds o x more)
    → Finds (f (x, h.behind)) y rest → Finds (o >>= f) y rest
finds_step {A} {B} o f x more y rest h next = subst (λ (o : Outcome A). Finds (o >>= f) y rest) (sym h.is) next

pub finds_on : {A B : Type 0} (o : Outcome A) (f : A × Spot → Outcome B) (x : A) (more : List ℕ) (y : B) (rest : List ℕ) → Finds o x more
    → ((d : Spot) → d.rest ≡ more → Finds (f (x, d)) y rest) → Finds (o >>= f) y rest
finds_on o f x more y rest h next = finds_step o f x more y rest h (next h.behind h.left)

pub finds_right : {A : Type 0} (ok : Bool) (place : ℕ) (o : Outcome A) (x : A) (more : List ℕ) → ok ≡ true → Finds o x more → Finds (right ok place >> o) x more
finds_right {A} ok place o x more e h = subst (λ (b : Bool). Finds (right b place >> o) x more) (sym e) h

pub finds_built : {A B : Type 0} (f : A → B) (o : Outcome A) (x : A) (more : List ℕ) → Finds o x more → Finds (built f o) (f x) more
finds_built f o x more h = finds_on o (λ x. Ok (f x.0, x.1)) x more (f x) more h (λ d e. finds_ok (f x) d more e)

-- ---- what it was

abbrev pub HoldsOf : {A : Type 0} → Outcome A → (A → List ℕ → Type 0) → Type 0
HoldsOf (Ok x) P = P x.0 x.1.rest
HoldsOf (Err e) P = Unit {0}

-- of what it found, and what is left, this holds
pub record Yields {A : Type 0} (o : Outcome A) (P : A → List ℕ → Type 0) : Type 0 where
  pub holds : HoldsOf o P

pub yields_ok : {A : Type 0} (x : A) (d : Spot) (P : A → List ℕ → Type 0) → P x d.rest → Yields (Ok (x, d)) P
yields_ok x d P h = record { holds = h }

pub yields_none : {A : Type 0} (e : ObjErr) (P : A → List ℕ → Type 0) → Yields (Err e) P
yields_none e P = record { holds = tt }

pub yields_on : {A B : Type 0} (o : Outcome A) (f : A × Spot → Outcome B) (P : A → List ℕ → Type 0) (Q : B → List ℕ → Type 0) → Yields o P
    → ((x : A) (d : Spot) → P x d.rest → Yields (f (x, d)) Q) → Yields (o >>= f) Q
yields_on {A} {B} o f P Q h next = go o h.holds
  where
    go : (o : Outcome A) → HoldsOf o P → Yields (o >>= f) Q
    go (Ok x) h = next x.0 x.1 h
    go (Err e) h = record { holds = tt }

pub yields_right : {A : Type 0} (ok : Bool) (place : ℕ) (o : Outcome A) (P : A → List ℕ → Type 0) → (ok ≡ true → Yields o P) → Yields (right ok place >> o) P
yields_right true place o P h = h refl
yields_right false place o P h = record { holds = tt }

pub yields_if : {A : Type 0} (b : Bool) (o p : Outcome A) (P : A → List ℕ → Type 0) → (b ≡ true → Yields o P) → (b ≡ false → Yields p P) → Yields (if b then o else p) P
yields_if true o p P h k = h refl
yields_if false o p P h k = k refl

pub yields_weaker : {A : Type 0} (o : Outcome A) (P Q : A → List ℕ → Type 0) → Yields o P → ((x : A) (rest : List ℕ) → P x rest → Q x rest) → Yields o Q
yields_weaker {A} o P Q h next = go o h.holds
  where
    go : (o : Outcome A) → HoldsOf o P → Yields o Q
    go (Ok x) h = record { holds = next x.0 x.1.rest h }
    go (Err e) h = record { holds = tt }

-- what an outcome that is known was
pub yielded : {A : Type 0} (o : Outcome A) (P : A → List ℕ → Type 0) (x : A) (d : Spot) → Yields o P → o ≡ Ok (x, d) → P x d.rest
yielded o P x d h e = (subst (λ o. Yields o P) e h).holds

-- ---- formats

-- of the bytes these were taken, which are bytes: they spell the thing, which may be so
pub record Taken {A : Type 0} (spelled : A → List ℕ) (Fine : A → Type 0) (bytes : List ℕ) (x : A) (rest : List ℕ) : Type 0 where
  pub fine : Fine x
  pub front : bytes ≡ spelled x ++ rest
  pub after : AreBytes rest

pub record IsFormat {A : Type 0} (read : Reader A) (spelled : A → List ℕ) (Fine : A → Type 0) : Type 0 where
  pub finds : (x : A) → Fine x → (c : Spot) (more : List ℕ) → c.rest ≡ spelled x ++ more → Finds (read c) x more
  pub yields : (c : Spot) → AreBytes c.rest → Yields (read c) (Taken spelled Fine c.rest)

pub bytes_behind : (a b bytes : List ℕ) → AreBytes bytes → bytes ≡ a ++ b → AreBytes b
bytes_behind a b bytes h e =
    let all : AreBytes (a ++ b) = subst (λ (bs : List ℕ). All (λ b. b < 256) bs) e h in
    λ k d less. subst (λ (n : ℕ). n < 256) (get_or-append-add a b k d) (all (length a + k) d (omega (arith, length-append a b)))

pub bytes_before : (a b bytes : List ℕ) → AreBytes bytes → bytes ≡ a ++ b → AreBytes a
bytes_before a b bytes h e =
    let all : AreBytes (a ++ b) = subst (λ (bs : List ℕ). All (λ b. b < 256) bs) e h in
    λ k d less. subst (λ (n : ℕ). n < 256) (get_or_append_left a b d k less) (all k d (omega (arith, length-append a b)))

pub taken : {A : Type 0} (spelled : A → List ℕ) (Fine : A → Type 0) (bytes : List ℕ) (x : A) (rest : List ℕ) → AreBytes bytes → bytes ≡ spelled x ++ rest → Fine x → Taken spelled Fine bytes x rest
taken spelled Fine bytes x rest h e f = record { fine = f; front = e; after = bytes_behind (spelled x) rest bytes h e }

-- one behind the other
pub chained : (c a d b e : List ℕ) → c ≡ a ++ d → d ≡ b ++ e → c ≡ (a ++ b) ++ e
chained c a d b e h k = h ∙ ap (λ l. a ++ l) k ∙ sym (append_assoc a b e)

-- the same reader, with what is spelled and may be so in other words
pub same_format : {A : Type 0} (read : Reader A) (s t : A → List ℕ) (F G : A → Type 0) → IsFormat read s F → ((x : A) → G x → F x) → ((x : A) → F x → G x) → ((x : A) → F x → s x ≡ t x) → IsFormat read t G
same_format {A} read s t F G f to back same = record {
  finds = λ x g c more e. f.finds x (to x g) c more (e ∙ ap (λ l. l ++ more) (sym (same x (to x g))));
  yields = λ c bytes. yields_weaker (read c) (Taken s F c.rest) (Taken t G c.rest) (f.yields c bytes)
      (λ x rest h. record { fine = back x h.fine; front = h.front ∙ ap (λ l. l ++ rest) (same x h.fine); after = h.after });
}
