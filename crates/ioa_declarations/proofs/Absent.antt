-- Readers of what may be absent.
use Rattle.std.proofs.Common.{◌≡◌, ℕ, ◌<◌, ◌≤◌, ◌⊎◌, inl, inr, false, List, [], ◌∷◌, ◌++◌, length, refl, sym, ap, ◌∙◌, subst, arith, Option, Some, None, Ok, Err}
use Rattle.ioa_value.specs.declared.terminal.Terminal.{Terminal}
use Rattle.ioa_lex.specs.Tokens.{Tok}
use Rattle.ioa_grammar.specs.declared.fault.Fault.TheVariants.{TooDeep}
use Rattle.ioa_grammar.specs.Grammar as grammar
use Rattle.ioa_grammar.specs.Grammar.{Language, ◌▹◌, word, nothing, empty}
use Rattle.ioa_grammar.specs.Reading.{Outcome, Reader, ◌>>=◌, built, sees, optional, optional_list}
use Rattle.ioa_declarations.proofs.Outcomes.{bind_ok, bind_err, ok_pair, at_most_then, alike_then, went}
use Rattle.ioa_declarations.proofs.Exact.{Found, ExactFor, flat, said_as}
use Rattle.ioa_declarations.proofs.Singles.{introduced_exact}

-- what was read becomes a part of a larger type
module _ {I : Type 0} {size : I → ℕ} {A B : Type 0} (to : A → B) {L : A → Language} {D : A → ℕ} {F : Language} {P : I → Reader A} (p : ExactFor size L D F P) (M : B → Language) (E : B → ℕ)
    (of : (y : B) (ts : List Tok) → M y ts → (x : A) × (to x ≡ y) × L x ts) (into : (x : A) (ts : List Tok) → L x ts → M (to x) ts) (deep : (x : A) → E (to x) ≡ D x) where
  abbrev shown : A × List Tok → Outcome B
  shown x = Ok (to x.0, x.1)

  into_complete : (b : I) (y : B) (ts left : List Tok) → M y ts → E y ≤ size b → F left → built to (P b) (ts ++ left) ≡ Ok (y, left)
  into_complete b y ts left s d f =
      let x = of y ts s in
      let small : D x.0 ≤ size b = let same = deep x.0 in let other : E (to x.0) ≡ E y = ap E x.1 in omega arith in
      ap (λ o. o >>= shown) (p.complete b x.0 ts left x.2 small f) ∙ ap (λ z. Ok (z, left)) x.1

  into_sound : (b : I) (ts : List Tok) (y : B) (left : List Tok) → built to (P b) ts ≡ Ok (y, left) → Found M E (size b) ts y left
  into_sound b ts y left h =
      let one = bind_ok (P b ts) shown (y, left) h in
      let same = ok_pair (to one.0.0) y one.0.1 left one.2 in
      let f = p.sound b ts one.0.0 one.0.1 one.1 in
      record {
        front = f.front;
        spells = subst (λ y. M y f.front) same.0 (into one.0.0 f.front f.spells);
        apart = f.apart ∙ ap (λ z. f.front ++ z) same.1;
        within = let here : E y ≡ D one.0.0 = ap E (sym same.0) ∙ deep one.0.0 in omega (arith, f.within);
      }

  into_long : (b : I) (ts : List Tok) → built to (P b) ts ≡ Err TooDeep → size b < length ts
  into_long b ts h = elim (bind_err (P b ts) shown TooDeep h) [ inl deep ↦ p.long b ts deep | inr never ↦ absurd (cc (never.2)) ]

  pub into_exact : ExactFor size M E F (λ b. built to (P b))
  into_exact = record {
    complete = into_complete;
    sound = into_sound;
    shrinks = λ b ts. at_most_then (length ts) (P b ts) shown (p.shrinks b ts) (λ x h. h);
    alike = λ b b' le s s' h c. alike_then s s' (P b (c ++ s)) (P b' (c ++ s')) shown shown (p.alike b b' le s s' h c) (λ x short. short) (λ x d was is. went s s' (to x) d);
    long = into_long;
  }

-- the same, where no shorter way to say what is spelled is at hand
abbrev pub Image : {A B : Type 0} → (A → B) → (A → Language) → B → Language
Image {A} to L y = λ ts. (x : A) × (to x ≡ y) × L x ts

pub image_exact : {I : Type 0} {size : I → ℕ} {A B : Type 0} {L : A → Language} {D : A → ℕ} {F : Language} {P : I → Reader A} (to : A → B) (E : B → ℕ) → ((x : A) → E (to x) ≡ D x) → ExactFor size L D F P →
    ExactFor size (Image to L) E F (λ b. built to (P b))
image_exact {L = L} to E deep p = into_exact to p (Image to L) E (λ y ts s. s) (λ x ts s. (x, refl, s)) deep

abbrev pub deep_some : {A : Type 0} → (A → ℕ) → Option A → ℕ
deep_some D None = 0
deep_some D (Some x) = D x

pub deep_some_flat : {A : Type 0} (x : Option A) → deep_some flat x ≡ 0
deep_some_flat None = refl
deep_some_flat (Some x) = refl

module _ {I : Type 0} {size : I → ℕ} {A : Type 0} (t : Terminal) {L : A → Language} {D : A → ℕ} {F : Language} {P : I → Reader A} (p : ExactFor size L D F P) where
  abbrev There : Option A → Language
  There None = empty
  There (Some x) = L x

  there_of : (y : Option A) (ts : List Tok) → There y ts → (x : A) × (Some x ≡ y) × L x ts
  there_of None ts s = absurd s
  there_of (Some x) ts s = (x, refl, s)

  abbrev Unseen : Language
  Unseen ts = F ts × (sees t ts ≡ false)

  there_exact : ExactFor size There (deep_some D) F (λ b. built Some (P b))
  there_exact = into_exact Some p There (deep_some D) there_of (λ x ts s. s) (λ x. refl)

  optional_of : (x : Option A) (ts : List Tok) → grammar.optional t L x ts → ((word t ▹ There x) ts) ⊎ ((x ≡ None) × nothing ts)
  optional_of None ts s = inr (refl, s)
  optional_of (Some x) ts s = inl s

  optional_to : (x : Option A) (ts : List Tok) → ((word t ▹ There x) ts) ⊎ ((x ≡ None) × nothing ts) → grammar.optional t L x ts
  optional_to None ts (inr s) = s.1
  optional_to None ts (inl s) = absurd (s.3)
  optional_to (Some x) ts (inr s) = absurd (cc (s.0))
  optional_to (Some x) ts (inl s) = s

  pub optional_exact : ExactFor size (grammar.optional t L) (deep_some D) Unseen (λ b. optional t (P b))
  unfolding optional
  optional_exact = said_as (grammar.optional t L) optional_of optional_to (introduced_exact t None there_exact refl)

module _ {I : Type 0} {size : I → ℕ} {A : Type 0} (t : Terminal) {L : List A → Language} {D : List A → ℕ} {F : Language} {P : I → Reader (List A)}
    (p : ExactFor size L D F P) (bare : (ts : List Tok) → L [] ts → ⊥) (shallow : D [] ≡ 0) where
  abbrev UnseenList : Language
  UnseenList ts = F ts × (sees t ts ≡ false)

  list_of : (xs : List A) (ts : List Tok) → grammar.optional_list t L xs ts → ((word t ▹ L xs) ts) ⊎ ((xs ≡ []) × nothing ts)
  list_of [] ts s = inr (refl, s)
  list_of (x ∷ xs) ts s = inl s

  list_to : (xs : List A) (ts : List Tok) → ((word t ▹ L xs) ts) ⊎ ((xs ≡ []) × nothing ts) → grammar.optional_list t L xs ts
  list_to [] ts (inr s) = s.1
  list_to [] ts (inl s) = absurd (bare s.1 s.3)
  list_to (x ∷ xs) ts (inr s) = absurd (cc (s.0))
  list_to (x ∷ xs) ts (inl s) = s

  pub optional_list_exact : ExactFor size (grammar.optional_list t L) D UnseenList (λ b. optional_list t (P b))
  unfolding optional_list
  optional_list_exact = said_as (grammar.optional_list t L) list_of list_to (introduced_exact t [] p shallow)
