-- Outcomes: their parts, the tokens that they leave, and how they hang on the tokens read.
use Rattle.std.proofs.Common.{◌≡◌, ℕ, ◌<◌, ◌≤◌, ◌⊎◌, inl, inr, Bool, true, false, List, [], ◌∷◌, ◌++◌, length, refl, sym, ap, ◌∙◌, subst, arith, Result, Ok, Err, if◌then◌else◌, length-append}
use Rattle.ioa_lex.specs.Tokens.{Tok}
use Rattle.ioa_grammar.specs.declared.fault.Fault.{Fault}
use Rattle.ioa_grammar.specs.declared.fault.Fault.TheVariants.{Syntax, TooDeep}
use Rattle.ioa_grammar.specs.Grammar.{SameHead}
use Rattle.ioa_grammar.specs.Reading.{Outcome, Reader, ◌>>=◌, rest}

pub bind_ok : {A B : Type 0} (r : Result A Fault) (f : A → Result B Fault) (y : B) → (r >>= f) ≡ Ok y → (x : A) × (r ≡ Ok x) × (f x ≡ Ok y)
bind_ok (Ok x) f y h = (x, refl, h)
bind_ok (Err e) f y h = absurd (cc)

pub bind_err : {A B : Type 0} (r : Result A Fault) (f : A → Result B Fault) (e : Fault) → (r >>= f) ≡ Err e → (r ≡ Err e) ⊎ ((x : A) × (r ≡ Ok x) × (f x ≡ Err e))
bind_err (Ok x) f e h = inr (x, refl, h)
bind_err (Err g) f e h = let same : g ≡ e = cc in inl (ap Err same)

pub ok_pair : {A B : Type 0} (x x' : A) (y y' : B) → ◌≡◌ {A = Result (A × B) Fault} (Ok (x, y)) (Ok (x', y')) → (x ≡ x') × (y ≡ y')
ok_pair {A} {B} x x' y y' h = let e : ◌≡◌ {A = A × B} (x, y) (x', y') = cc in (ap (λ p. p.0) e, ap (λ p. p.1) e)

pub guard_ok : {A : Type 0} (c : Bool) (r : Result A Fault) (e : Fault) (y : A) → (if c then r else Err e) ≡ Ok y → (c ≡ true) × (r ≡ Ok y)
guard_ok true r e y h = (refl, h)
guard_ok false r e y h = absurd (cc)

-- ---- no more tokens are left than so many

abbrev pub AtMost : {A : Type 0} → ℕ → Outcome A → Type 0
AtMost n (Ok p) = length p.1 ≤ n
AtMost n (Err (Syntax l)) = l ≤ n
AtMost n (Err TooDeep) = Unit {0}

pub at_most_more : {A : Type 0} (n m : ℕ) (out : Outcome A) → n ≤ m → AtMost n out → AtMost m out
at_most_more n m (Ok p) le h = omega arith
at_most_more n m (Err (Syntax l)) le h = omega arith
at_most_more n m (Err TooDeep) le h = tt

pub at_most_then : {A B : Type 0} (n : ℕ) (out : Outcome A) (f : A × List Tok → Outcome B) → AtMost n out → ((p : A × List Tok) → length p.1 ≤ n → AtMost n (f p)) → AtMost n (out >>= f)
at_most_then n (Ok p) f h g = g p h
at_most_then n (Err (Syntax l)) f h g = h
at_most_then n (Err TooDeep) f h g = tt

abbrev pub Shrinks : {A : Type 0} → Reader A → Type 0
Shrinks p = (ts : List Tok) → AtMost (length ts) (p ts)

pub rest_length : (ts : List Tok) → length (rest ts) ≤ length ts
rest_length [] = omega arith
rest_length (x ∷ ts) = omega arith

-- ---- two texts that are alike up to one token: what comes behind the front is s in the one, and s' in the other

-- it came past the tokens that are alike, or went too deep
abbrev pub Past : {A : Type 0} → List Tok → Outcome A → Type 0
Past s (Ok p) = length p.1 < length s
Past s (Err (Syntax l)) = l < length s
Past s (Err TooDeep) = Unit {0}

pub record Refused {A : Type 0} (s s' : List Tok) (out out' : Outcome A) : Type 0 where
  pub left : ℕ
  pub left' : ℕ
  pub was : out ≡ Err (Syntax left)
  pub low : length s ≤ left
  pub is : out' ≡ Err (Syntax left')

pub record Goes {A : Type 0} (s s' : List Tok) (out out' : Outcome A) : Type 0 where
  pub found : A
  pub front : List Tok
  pub was : out ≡ Ok (found, front ++ s)
  pub is : out' ≡ Ok (found, front ++ s')

abbrev pub Alike : {A : Type 0} → List Tok → List Tok → Outcome A → Outcome A → Type 0
Alike s s' out out' = Past s out ⊎ (Refused s s' out out' ⊎ Goes s s' out out')

pub past_at_most : {A : Type 0} (s : List Tok) (n : ℕ) (out : Outcome A) → n < length s → AtMost n out → Past s out
past_at_most s n (Ok p) le h = omega arith
past_at_most s n (Err (Syntax l)) le h = omega arith
past_at_most s n (Err TooDeep) le h = tt

pub past_then : {A B : Type 0} (s : List Tok) (out : Outcome A) (f : A × List Tok → Outcome B) → Past s out → ((p : A × List Tok) → length p.1 < length s → Past s (f p)) → Past s (out >>= f)
past_then s (Ok p) f h g = g p h
past_then s (Err (Syntax l)) f h g = h
past_then s (Err TooDeep) f h g = tt

pub alike_then : {A B : Type 0} (s s' : List Tok) (out out' : Outcome A) (f f' : A × List Tok → Outcome B) → Alike s s' out out' →
    ((p : A × List Tok) → length p.1 < length s → Past s (f p)) →
    ((x : A) (c : List Tok) → out ≡ Ok (x, c ++ s) → out' ≡ Ok (x, c ++ s') → Alike s s' (f (x, c ++ s)) (f' (x, c ++ s'))) → Alike s s' (out >>= f) (out' >>= f')
alike_then s s' out out' f f' a past same =
    elim a [
      | inl p ↦ inl (past_then s out f p past)
      | inr (inl r) ↦ inr (inl (record { left = r.left; left' = r.left'; was = ap (λ o. o >>= f) r.was; low = r.low; is = ap (λ o. o >>= f') r.is }))
      | inr (inr g) ↦ subst (λ o. Alike s s' (o >>= f) (out' >>= f')) (sym g.was) (subst (λ o. Alike s s' (Ok (g.found, g.front ++ s) >>= f) (o >>= f')) (sym g.is) (same g.found g.front g.was g.is))
    ]

pub refused_at : {A : Type 0} (s s' : List Tok) (l l' : ℕ) → length s ≤ l → Alike {A = A} s s' (Err (Syntax l)) (Err (Syntax l'))
refused_at s s' l l' h = inr (inl (record { left = l; left' = l'; was = refl; low = h; is = refl }))

pub went : {A : Type 0} (s s' : List Tok) (x : A) (c : List Tok) → Alike s s' (Ok (x, c ++ s)) (Ok (x, c ++ s'))
went s s' x c = inr (inr (record { found = x; front = c; was = refl; is = refl }))

pub front_length : (c s : List Tok) → length s ≤ length (c ++ s)
front_length c s = omega (arith, length-append c s)

-- ---- tests of the next token

pub same_head : (s s' : List Tok) → SameHead s s' → (c : List Tok) → SameHead (c ++ s) (c ++ s')
same_head s s' h [] = h
same_head s s' h (x ∷ c) = refl

-- it looks at the next token alone
abbrev pub LooksAhead : {X : Type 0} → (List Tok → X) → Type 0
LooksAhead f = (s s' : List Tok) → SameHead s s' → f s ≡ f s'

pub head_alike : {X : Type 0} (f : List Tok → X) (none : X) (some : Tok → X) → f [] ≡ none → ((x : Tok) (ts : List Tok) → f (x ∷ ts) ≡ some x) → LooksAhead f
head_alike f none some e g [] [] h = refl
head_alike f none some e g [] (y ∷ s') h = absurd h
head_alike f none some e g (x ∷ s) [] h = absurd h
head_alike f none some e g (x ∷ s) (y ∷ s') h = g x s ∙ ap some h ∙ sym (g y s')

-- the same reader behind the next token
pub alike_rest : {A : Type 0} (s s' : List Tok) (p p' : Reader A) → SameHead s s' → Shrinks p → ((c : List Tok) → Alike s s' (p (c ++ s)) (p' (c ++ s'))) →
    (c : List Tok) → 0 < length (c ++ s) → Alike s s' (p (rest (c ++ s))) (p' (rest (c ++ s')))
alike_rest [] s' p p' h shrinks inner [] some = absurd (omega arith)
alike_rest (x ∷ s) s' p p' h shrinks inner [] some = inl (past_at_most (x ∷ s) (length s) (p s) (omega arith) (shrinks s))
alike_rest s s' p p' h shrinks inner (x ∷ c) some = inner c
