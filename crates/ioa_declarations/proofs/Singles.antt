-- Readers of one token, and of what may be absent.
use Rattle.std.proofs.Common.{◌≡◌, ℕ, suc, ◌<◌, ◌≤◌, ◌⊎◌, inl, inr, Bool, true, false, List, [], ◌∷◌, ◌++◌, length, refl, sym, ap, ◌∙◌, subst, arith, Option, Some, None, Ok, Err, if◌then◌else◌}
use denote.Enum.Bare.{same_true, true_same}
use Rattle.ioa_value.specs.contracts.terminal.Terminal.{the_type}
use Rattle.ioa_value.specs.declared.terminal.Terminal.{Terminal}
use Rattle.ioa_value.specs.declared.terminal.Terminal.TheVariants as terminals
use Rattle.ioa_lex.specs.Tokens as tokens
use Rattle.ioa_lex.specs.Tokens.{Tok, terminal}
use Rattle.ioa_value.specs.Actions as actions
use Rattle.ioa_tree.specs.declared.tree.Kind.{Kind}
use Rattle.ioa_tree.specs.declared.tree.Kind.TheVariants.{Input, Output, Internal}
use Rattle.ioa_grammar.specs.declared.fault.Fault.TheVariants.{Syntax, TooDeep}
use Rattle.ioa_grammar.specs.Grammar as grammar
use Rattle.ioa_grammar.specs.Grammar.{Language, SameHead, ◌▹◌, single, word, called, nothing, kind_word}
use Rattle.ioa_grammar.specs.Reading.{Outcome, Reader, rest, taken, begun, perhaps, flag, a_number, sees, after, is_terminal, same_terminal, sign, a_name, a_kind, kind_at, kind_of, kind_in, terminal_at, terminal_in}
use Rattle.ioa_declarations.proofs.Outcomes.{ok_pair, AtMost, at_most_more, Shrinks, Alike, alike_rest, refused_at, went, front_length, same_head, LooksAhead, head_alike, rest_length}
use Rattle.ioa_declarations.proofs.Exact.{Found, ExactFor, Exact, any, flat, read_as, before, said_as}

-- ---- tests

pub sees_word : (t : Terminal) (ts : List Tok) → sees t (terminal t ∷ ts) ≡ true
unfolding sees same_terminal
sees_word t ts = true_same the_type t t refl

pub seen : (t : Terminal) (ts : List Tok) → sees t ts ≡ true → ts ≡ terminal t ∷ rest ts
unfolding sees same_terminal
seen t [] h = absurd (cc)
seen t (tokens.number n ∷ ts) h = absurd (cc)
seen t (tokens.name n ∷ ts) h = absurd (cc)
seen t (terminal u ∷ ts) h = ap (λ u. terminal u ∷ ts) (same_true the_type tt u t h)

pub sees_alike : (t : Terminal) → LooksAhead (sees t)
unfolding sees
sees_alike t = head_alike (sees t) false (is_terminal t) refl (λ x ts. refl)

pub after_seen : (t : Terminal) (ts : List Tok) → sees t ts ≡ true → after t ts ≡ rest ts
unfolding after
after_seen t ts h = rw h refl

pub after_unseen : (t : Terminal) (ts : List Tok) → sees t ts ≡ false → after t ts ≡ ts
unfolding after
after_unseen t ts h = rw h refl

pub after_word : (t : Terminal) (ts : List Tok) → after t (terminal t ∷ ts) ≡ ts
after_word t ts = after_seen t (terminal t ∷ ts) (sees_word t ts)

pub after_length : (t : Terminal) (ts : List Tok) → length (after t ts) ≤ length ts
after_length t ts = by (sees t ts) refl
  where
    by : (v : Bool) → sees t ts ≡ v → length (after t ts) ≤ length ts
    by true h = omega (arith, ap length (after_seen t ts h), rest_length ts)
    by false h = omega (arith, ap length (after_unseen t ts h))

pub seen_some : (t : Terminal) (ts : List Tok) → sees t ts ≡ true → 0 < length ts
seen_some t ts h = omega (arith, ap length (seen t ts h))

-- ---- one token, as f sees it: V holds of all that it can see

taken_shrinks : {X : Type 0} (ts : List Tok) (x : Option X) → AtMost (length ts) (taken ts x)
taken_shrinks ts None = omega arith
taken_shrinks ts (Some x) = rest_length ts

module _ {X : Type 0} (f : List Tok → Option X) (of : X → Tok) (V : X → Type 0) (P : Reader X)
    (takes : (ts : List Tok) → P ts ≡ taken ts (f ts)) (look : LooksAhead f) (none : f [] ≡ None)
    (is : (x : X) (ts : List Tok) → V x → f (of x ∷ ts) ≡ Some x) (only : (ts : List Tok) (x : X) → f ts ≡ Some x → (ts ≡ of x ∷ rest ts) × V x) where
  abbrev One : X → Language
  One x = λ ts. V x × single (of x) ts

  token_sound : (b : ℕ) (ts : List Tok) (x : X) (left : List Tok) → P ts ≡ Ok (x, left) → Found One flat b ts x left
  token_sound b ts x left h = by (f ts) refl (sym (takes ts) ∙ h)
    where
      by : (o : Option X) → f ts ≡ o → taken ts o ≡ Ok (x, left) → Found One flat b ts x left
      by None e h = absurd (cc)
      by (Some y) e h =
          let same = ok_pair y x (rest ts) left h in
          let at = only ts y e in
          record { front = of x ∷ []; spells = (subst V same.0 at.1, refl); apart = at.0 ∙ ap (λ y. of y ∷ rest ts) same.0 ∙ ap (λ r. of x ∷ r) same.1; within = omega arith }

  taken_alike : (s s' : List Tok) → SameHead s s' → (c : List Tok) (o : Option X) → f (c ++ s) ≡ o → Alike s s' (taken (c ++ s) o) (taken (c ++ s') o)
  taken_alike s s' h c None e = refused_at s s' (length (c ++ s)) (length (c ++ s')) (front_length c s)
  taken_alike s s' h c (Some x) e =
      alike_rest s s' (λ ts. Ok (x, ts)) (λ ts. Ok (x, ts)) h (λ ts. omega arith) (λ c. went s s' x c) c (omega (arith, ap length (only (c ++ s) x e).0))

  token_alike : (s s' : List Tok) → SameHead s s' → (c : List Tok) → Alike s s' (P (c ++ s)) (P (c ++ s'))
  token_alike s s' h c =
      let same : f (c ++ s) ≡ f (c ++ s') = look (c ++ s) (c ++ s') (same_head s s' h c) in
      let other : P (c ++ s') ≡ taken (c ++ s') (f (c ++ s)) = takes (c ++ s') ∙ ap (taken (c ++ s')) (sym same) in
      subst (λ o. Alike s s' o (P (c ++ s'))) (sym (takes (c ++ s))) (subst (λ o. Alike s s' (taken (c ++ s) (f (c ++ s))) o) (sym other) (taken_alike s s' h c (f (c ++ s)) refl))

  token_long : (b : ℕ) (ts : List Tok) → P ts ≡ Err TooDeep → b < length ts
  token_long b ts h = by (f ts) (sym (takes ts) ∙ h)
    where
      by : (o : Option X) → taken ts o ≡ Err TooDeep → b < length ts
      by None h = absurd (cc)
      by (Some y) h = absurd (cc)

  pub token_of : {I : Type 0} {size : I → ℕ} → ExactFor size One flat any (λ b. P)
  token_of {size = size} = record {
    complete = λ b x ts left s d h. ap (λ z. P (z ++ left)) s.1 ∙ takes (of x ∷ left) ∙ ap (taken (of x ∷ left)) (is x left s.0);
    sound = λ b. token_sound (size b);
    shrinks = λ b ts. subst (AtMost (length ts)) (sym (takes ts)) (taken_shrinks ts (f ts));
    alike = λ b b' le s s' h c. token_alike s s' h c;
    long = λ b. token_long (size b);
  }

pub token : {I X : Type 0} {size : I → ℕ} (f : List Tok → Option X) (of : X → Tok) (P : Reader X) → ((ts : List Tok) → P ts ≡ taken ts (f ts)) → LooksAhead f → f [] ≡ None →
    ((x : X) (ts : List Tok) → f (of x ∷ ts) ≡ Some x) → ((ts : List Tok) (x : X) → f ts ≡ Some x → ts ≡ of x ∷ rest ts) → ExactFor size (λ x. single (of x)) flat any (λ b. P)
token f of P takes look none is only =
    said_as (λ x. single (of x)) (λ x ts s. (tt, s)) (λ x ts s. s.1) (token_of f of (λ x. Unit {0}) P takes look none (λ x ts v. is x ts) (λ ts x h. (only ts x h, tt)))

-- ---- one token, and what comes after it, as the token says

module _ {I X A : Type 0} {size : I → ℕ} (f : List Tok → Option X) (of : X → Tok) (V : X → Type 0) (look : LooksAhead f) (none : f [] ≡ None)
    (is : (x : X) (ts : List Tok) → V x → f (of x ∷ ts) ≡ Some x) (only : (ts : List Tok) (x : X) → f ts ≡ Some x → (ts ≡ of x ∷ rest ts) × V x)
    {L : X → A → Language} {D : A → ℕ} {F : Language} {P : I → X → Reader A} (each : (x : X) → V x → ExactFor size (L x) D F (λ b. P b x))
    (E : A → ℕ) (deep : (y : A) → E y ≡ suc (D y)) where
  abbrev pub Begun : A → Language
  Begun y = λ ts. (x : X) × V x × (single (of x) ▹ L x y) ts

  abbrev reads : I → Reader A
  reads b ts = begun (P b) ts (f ts)

  begun_some : (b : I) (ts : List Tok) (x : X) → f ts ≡ Some x → reads b ts ≡ P b x (rest ts)
  begun_some b ts x e = ap (begun (P b) ts) e

  begun_none : (b : I) (ts : List Tok) → f ts ≡ None → reads b ts ≡ Err (Syntax (length ts))
  begun_none b ts e = ap (begun (P b) ts) e

  begun_complete : (b : I) (y : A) (ts left : List Tok) → Begun y ts → E y ≤ suc (size b) → F left → reads b (ts ++ left) ≡ Ok (y, left)
  begun_complete b y ts left s d g =
      let x = s.0 in
      let m = s.2 in
      let apart : ts ++ left ≡ of x ∷ (m.1 ++ left) = ap (λ z. z ++ left) (m.4 ∙ ap (λ z. z ++ m.1) m.2) in
      ap (reads b) apart ∙ begun_some b (of x ∷ (m.1 ++ left)) x (is x (m.1 ++ left) s.1) ∙ (each x s.1).complete b y m.1 left m.3 (omega (arith, deep y)) g

  begun_sound : (b : I) (ts : List Tok) (y : A) (left : List Tok) → reads b ts ≡ Ok (y, left) → Found Begun E (suc (size b)) ts y left
  begun_sound b ts y left h = by (f ts) refl
    where
      by : (o : Option X) → f ts ≡ o → Found Begun E (suc (size b)) ts y left
      by None e = let never = sym (begun_none b ts e) ∙ h in absurd (cc)
      by (Some x) e =
          let at = only ts x e in
          let m = (each x at.1).sound b (rest ts) y left (sym (begun_some b ts x e) ∙ h) in
          record {
            front = of x ∷ m.front;
            spells = (x, at.1, (of x ∷ [], m.front, refl, m.spells, refl));
            apart = at.0 ∙ ap (λ z. of x ∷ z) m.apart;
            within = omega (arith, deep y, m.within);
          }

  begun_shrinks : (b : I) → Shrinks (reads b)
  begun_shrinks b ts = by (f ts) refl
    where
      by : (o : Option X) → f ts ≡ o → AtMost (length ts) (reads b ts)
      by None e = subst (AtMost (length ts)) (sym (begun_none b ts e)) (omega arith)
      by (Some x) e = subst (AtMost (length ts)) (sym (begun_some b ts x e)) (at_most_more (length (rest ts)) (length ts) (P b x (rest ts)) (rest_length ts) ((each x (only ts x e).1).shrinks b (rest ts)))

  begun_alike : (b b' : I) → size b ≤ size b' → (s s' : List Tok) → SameHead s s' → (c : List Tok) → Alike s s' (reads b (c ++ s)) (reads b' (c ++ s'))
  begun_alike b b' le s s' h c = by (f (c ++ s)) refl
    where
      same : f (c ++ s) ≡ f (c ++ s')
      same = look (c ++ s) (c ++ s') (same_head s s' h c)

      from : (o o' : Outcome A) → reads b (c ++ s) ≡ o → reads b' (c ++ s') ≡ o' → Alike s s' o o' → Alike s s' (reads b (c ++ s)) (reads b' (c ++ s'))
      from o o' e e' a = subst (λ z. Alike s s' z (reads b' (c ++ s'))) (sym e) (subst (λ z. Alike s s' o z) (sym e') a)

      by : (o : Option X) → f (c ++ s) ≡ o → Alike s s' (reads b (c ++ s)) (reads b' (c ++ s'))
      by None e =
          from (Err (Syntax (length (c ++ s)))) (Err (Syntax (length (c ++ s')))) (begun_none b (c ++ s) e) (begun_none b' (c ++ s') (sym same ∙ e))
          (refused_at s s' (length (c ++ s)) (length (c ++ s')) (front_length c s))
      by (Some x) e =
          let at = only (c ++ s) x e in
          let p = each x at.1 in
          from (P b x (rest (c ++ s))) (P b' x (rest (c ++ s'))) (begun_some b (c ++ s) x e) (begun_some b' (c ++ s') x (sym same ∙ e))
          (alike_rest s s' (P b x) (P b' x) h (p.shrinks b) (p.alike b b' le s s' h) c (omega (arith, ap length at.0)))

  begun_long : (b : I) (ts : List Tok) → reads b ts ≡ Err TooDeep → suc (size b) < length ts
  begun_long b ts h = by (f ts) refl
    where
      by : (o : Option X) → f ts ≡ o → suc (size b) < length ts
      by None e = let never = sym (begun_none b ts e) ∙ h in absurd (cc)
      by (Some x) e =
          let at = only ts x e in
          let far = (each x at.1).long b (rest ts) (sym (begun_some b ts x e) ∙ h) in
          omega (arith, ap length at.0)

  pub begun_exact : ExactFor (λ b. suc (size b)) Begun E F reads
  begun_exact = record {
    complete = begun_complete;
    sound = begun_sound;
    shrinks = begun_shrinks;
    alike = λ b b' le. begun_alike b b' (omega arith);
    long = begun_long;
  }

-- ---- a word or sign, a name, a kind

abbrev sign_at : Terminal → List Tok → Option (Unit {0})
sign_at t ts = if sees t ts then Some tt else None

sign_takes : (t : Terminal) (ts : List Tok) → sign t ts ≡ taken ts (sign_at t ts)
unfolding sign
sign_takes t ts = by (sees t ts) refl
  where
    by : (v : Bool) → sees t ts ≡ v → sign t ts ≡ taken ts (sign_at t ts)
    by true h = rw h refl
    by false h = rw h refl

sign_only : (t : Terminal) (ts : List Tok) (x : Unit {0}) → sign_at t ts ≡ Some x → ts ≡ terminal t ∷ rest ts
sign_only t ts x h = by (sees t ts) refl h
  where
    by : (v : Bool) → sees t ts ≡ v → (if v then Some tt else None) ≡ Some x → ts ≡ terminal t ∷ rest ts
    by true e h = seen t ts e
    by false e h = absurd (cc)

sign_none : (t : Terminal) → sign_at t [] ≡ None
unfolding sees
sign_none t = refl

pub sign_for : {I : Type 0} {size : I → ℕ} (t : Terminal) → ExactFor size (λ (u : Unit {0}). word t) flat any (λ b. sign t)
sign_for t =
    token (sign_at t) (λ u. terminal t) (sign t) (sign_takes t) (λ s s' h. ap (λ (v : Bool). if v then Some tt else None) (sees_alike t s s' h)) (sign_none t)
    (λ x ts. rw (sees_word t ts) refl) (sign_only t)

pub sign_exact : (t : Terminal) → Exact (λ (u : Unit {0}). word t) flat any (λ b. sign t)
sign_exact t = sign_for t

abbrev name_in : Tok → Option actions.Name
name_in (tokens.number n) = None
name_in (tokens.name n) = Some n
name_in (terminal t) = None

abbrev name_at : List Tok → Option actions.Name
name_at [] = None
name_at (x ∷ ts) = name_in x

name_takes : (ts : List Tok) → a_name ts ≡ taken ts (name_at ts)
unfolding a_name
name_takes [] = refl
name_takes (tokens.number n ∷ ts) = refl
name_takes (tokens.name n ∷ ts) = refl
name_takes (terminal t ∷ ts) = refl

name_only : (ts : List Tok) (n : actions.Name) → name_at ts ≡ Some n → ts ≡ tokens.name n ∷ rest ts
name_only [] n h = absurd (cc)
name_only (tokens.number m ∷ ts) n h = absurd (cc)
name_only (tokens.name m ∷ ts) n h = let same : m ≡ n = cc in ap (λ m. tokens.name m ∷ ts) same
name_only (terminal t ∷ ts) n h = absurd (cc)

pub name_for : {I : Type 0} {size : I → ℕ} → ExactFor size called flat any (λ b. a_name)
name_for = token name_at tokens.name a_name name_takes (head_alike name_at None name_in refl (λ x ts. refl)) refl (λ x ts. refl) name_only

pub name_exact : Exact called flat any (λ b. a_name)
name_exact = name_for

abbrev number_in : Tok → Option ℕ
number_in (tokens.number n) = Some n
number_in (tokens.name n) = None
number_in (terminal t) = None

abbrev number_at : List Tok → Option ℕ
number_at [] = None
number_at (x ∷ ts) = number_in x

number_takes : (ts : List Tok) → a_number ts ≡ taken ts (number_at ts)
unfolding a_number
number_takes [] = refl
number_takes (tokens.number n ∷ ts) = refl
number_takes (tokens.name n ∷ ts) = refl
number_takes (terminal t ∷ ts) = refl

number_only : (ts : List Tok) (n : ℕ) → number_at ts ≡ Some n → ts ≡ tokens.number n ∷ rest ts
number_only [] n h = absurd (cc)
number_only (tokens.number m ∷ ts) n h = let same : m ≡ n = cc in ap (λ m. tokens.number m ∷ ts) same
number_only (tokens.name m ∷ ts) n h = absurd (cc)
number_only (terminal t ∷ ts) n h = absurd (cc)

pub number_exact : Exact (λ n. single (tokens.number n)) flat any (λ b. a_number)
number_exact = token number_at tokens.number a_number number_takes (head_alike number_at None number_in refl (λ x ts. refl)) refl (λ x ts. refl) number_only

kind_only-terminal : (t : Terminal) (k : Kind) → kind_of t ≡ Some k → t ≡ kind_word k
unfolding kind_of
kind_only-terminal terminals.Input k h = let same : Input ≡ k = cc in ap kind_word same
kind_only-terminal terminals.Output k h = let same : Output ≡ k = cc in ap kind_word same
kind_only-terminal terminals.Internal k h = let same : Internal ≡ k = cc in ap kind_word same
kind_only-terminal _ k h = absurd (cc)

kind_only : (ts : List Tok) (k : Kind) → kind_at ts ≡ Some k → ts ≡ terminal (kind_word k) ∷ rest ts
unfolding kind_at terminal_at
kind_only [] k h = absurd (cc)
kind_only (tokens.number m ∷ ts) k h = absurd (cc)
kind_only (tokens.name m ∷ ts) k h = absurd (cc)
kind_only (terminal t ∷ ts) k h = ap (λ t. terminal t ∷ ts) (kind_only-terminal t k h)

kind_takes : (ts : List Tok) → a_kind ts ≡ taken ts (kind_at ts)
unfolding a_kind
kind_takes ts = refl

pub kind_is : (k : Kind) (ts : List Tok) → kind_at (terminal (kind_word k) ∷ ts) ≡ Some k
unfolding kind_at terminal_at kind_of
kind_is Input ts = refl
kind_is Output ts = refl
kind_is Internal ts = refl

kind_none : kind_at [] ≡ None
unfolding kind_at terminal_at
kind_none = refl

abbrev kind_within : Tok → Option Kind
kind_within x = kind_in (terminal_in x)

pub kind_alike : LooksAhead kind_at
unfolding kind_at terminal_at
kind_alike = head_alike kind_at None kind_within refl (λ x ts. refl)

pub kind_exact : Exact (λ k. word (kind_word k)) flat any (λ b. a_kind)
kind_exact = token kind_at (λ k. terminal (kind_word k)) a_kind kind_takes kind_alike kind_none kind_is kind_only

-- ---- what a word introduces, or else something that does not begin with it

module _ {I : Type 0} {size : I → ℕ} {A : Type 0} (t : Terminal) {L M : A → Language} {D : A → ℕ} {F G : Language} {P Q : I → Reader A} (p : ExactFor size L D F P) (q : ExactFor size M D G Q) (H : Language)
    (first : (left : List Tok) → H left → F left) (second : (left : List Tok) → H left → G left) (unseen : (x : A) (ts left : List Tok) → M x ts → H left → sees t (ts ++ left) ≡ false) where
  abbrev Either : A → Language
  Either x = λ ts. ((word t ▹ L x) ts) ⊎ M x ts

  abbrev pub either : I → Reader A
  either b ts = if sees t ts then P b (after t ts) else Q b (after t ts)

  where_seen : (b : I) (ts : List Tok) → sees t ts ≡ true → either b ts ≡ P b (rest ts)
  where_seen b ts h = let e : either b ts ≡ P b (after t ts) = rw h refl in e ∙ ap (P b) (after_seen t ts h)

  where_unseen : (b : I) (ts : List Tok) → sees t ts ≡ false → either b ts ≡ Q b ts
  where_unseen b ts h = let e : either b ts ≡ Q b (after t ts) = rw h refl in e ∙ ap (Q b) (after_unseen t ts h)

  either_complete : (b : I) (x : A) (ts left : List Tok) → Either x ts → D x ≤ size b → H left → either b (ts ++ left) ≡ Ok (x, left)
  either_complete b x ts left (inl s) d f =
      let apart : ts ++ left ≡ terminal t ∷ (s.1 ++ left) = ap (λ z. z ++ left) (s.4 ∙ ap (λ z. z ++ s.1) s.2) in
      ap (either b) apart ∙ where_seen b (terminal t ∷ (s.1 ++ left)) (sees_word t (s.1 ++ left)) ∙ p.complete b x s.1 left s.3 d (first left f)
  either_complete b x ts left (inr s) d f = where_unseen b (ts ++ left) (unseen x ts left s f) ∙ q.complete b x ts left s d (second left f)

  either_sound : (b : I) (ts : List Tok) (x : A) (left : List Tok) → either b ts ≡ Ok (x, left) → Found Either D (size b) ts x left
  either_sound b ts x left h = by (sees t ts) refl
    where
      by : (v : Bool) → sees t ts ≡ v → Found Either D (size b) ts x left
      by true e =
          let f = p.sound b (rest ts) x left (sym (where_seen b ts e) ∙ h) in
          record { front = terminal t ∷ f.front; spells = inl (terminal t ∷ [], f.front, refl, f.spells, refl); apart = seen t ts e ∙ ap (λ z. terminal t ∷ z) f.apart; within = f.within }
      by false e =
          let f = q.sound b ts x left (sym (where_unseen b ts e) ∙ h) in
          record { front = f.front; spells = inr f.spells; apart = f.apart; within = f.within }

  either_shrinks : (b : I) (ts : List Tok) → AtMost (length ts) (either b ts)
  either_shrinks b ts = by (sees t ts) refl
    where
      by : (v : Bool) → sees t ts ≡ v → AtMost (length ts) (either b ts)
      by true e = subst (AtMost (length ts)) (sym (where_seen b ts e)) (at_most_more (length (rest ts)) (length ts) (P b (rest ts)) (rest_length ts) (p.shrinks b (rest ts)))
      by false e = subst (AtMost (length ts)) (sym (where_unseen b ts e)) (q.shrinks b ts)

  either_alike : (b b' : I) → size b ≤ size b' → (s s' : List Tok) → SameHead s s' → (c : List Tok) → Alike s s' (either b (c ++ s)) (either b' (c ++ s'))
  either_alike b b' le s s' h c = by (sees t (c ++ s)) refl
    where
      same : sees t (c ++ s) ≡ sees t (c ++ s')
      same = sees_alike t (c ++ s) (c ++ s') (same_head s s' h c)

      by : (v : Bool) → sees t (c ++ s) ≡ v → Alike s s' (either b (c ++ s)) (either b' (c ++ s'))
      by true e =
          subst (λ o. Alike s s' o (either b' (c ++ s'))) (sym (where_seen b (c ++ s) e))
          (subst (λ o. Alike s s' (P b (rest (c ++ s))) o) (sym (where_seen b' (c ++ s') (sym same ∙ e)))
          (alike_rest s s' (P b) (P b') h (p.shrinks b) (p.alike b b' le s s' h) c (seen_some t (c ++ s) e)))
      by false e =
          subst (λ o. Alike s s' o (either b' (c ++ s'))) (sym (where_unseen b (c ++ s) e))
          (subst (λ o. Alike s s' (Q b (c ++ s)) o) (sym (where_unseen b' (c ++ s') (sym same ∙ e))) (q.alike b b' le s s' h c))

  either_long : (b : I) (ts : List Tok) → either b ts ≡ Err TooDeep → size b < length ts
  either_long b ts h = by (sees t ts) refl
    where
      by : (v : Bool) → sees t ts ≡ v → size b < length ts
      by true e = let far = p.long b (rest ts) (sym (where_seen b ts e) ∙ h) in omega (arith, rest_length ts)
      by false e = q.long b ts (sym (where_unseen b ts e) ∙ h)

  pub either_exact : ExactFor size Either D H either
  either_exact = record { complete = either_complete; sound = either_sound; shrinks = either_shrinks; alike = either_alike; long = either_long }

-- ---- nothing at all, which stands for one value

module _ {A : Type 0} (absent : A) (D : A → ℕ) (shallow : D absent ≡ 0) where
  abbrev pub Absent : A → Language
  Absent x = λ ts. (x ≡ absent) × nothing ts

  absent_sound : (b : ℕ) (ts : List Tok) (x : A) (left : List Tok) → ◌≡◌ {A = Outcome A} (Ok (absent, ts)) (Ok (x, left)) → Found Absent D b ts x left
  absent_sound b ts x left h =
      let same = ok_pair absent x ts left h in
      record { front = []; spells = (sym same.0, refl); apart = same.1; within = let small : D x ≡ 0 = ap D (sym same.0) ∙ shallow in omega arith }

  pub absent_exact : {I : Type 0} {size : I → ℕ} → ExactFor size Absent D any (λ b ts. Ok (absent, ts))
  absent_exact {size = size} = record {
    complete = λ b x ts left s d f. ap (λ z. Ok (absent, z ++ left)) s.1 ∙ ap (λ y. Ok (y, left)) (sym s.0);
    sound = λ b. absent_sound (size b);
    shrinks = λ b ts. omega arith;
    alike = λ b b' le s s' h c. went s s' absent c;
    long = λ b ts h. absurd (cc (h));
  }

module _ {I : Type 0} {size : I → ℕ} {A : Type 0} (t : Terminal) (absent : A) {L : A → Language} {D : A → ℕ} {F : Language} {P : I → Reader A} (p : ExactFor size L D F P) (shallow : D absent ≡ 0) where
  abbrev pub Introduced : A → Language
  Introduced x = λ ts. ((word t ▹ L x) ts) ⊎ ((x ≡ absent) × nothing ts)

  abbrev Unseen : Language
  Unseen ts = F ts × (sees t ts ≡ false)

  pub introduced_exact : ExactFor size Introduced D Unseen (λ b ts. if sees t ts then P b (after t ts) else Ok (absent, after t ts))
  introduced_exact = either_exact t p (absent_exact absent D shallow) Unseen (λ left f. f.0) (λ left f. tt) (λ x ts left s f. ap (λ z. sees t (z ++ left)) s.1 ∙ f.1)

-- ---- a word or sign that may be absent

pub perhaps_exact : {I : Type 0} {size : I → ℕ} (t : Terminal) → ExactFor size (λ (u : Unit {0}). grammar.perhaps t) flat (λ left. sees t left ≡ false) (λ b. perhaps t)
unfolding perhaps
perhaps_exact t =
    before (λ left. sees t left ≡ false) (λ left f. (tt, f))
    (said_as (λ u. grammar.perhaps t) of to (read_as (λ b. perhaps t) (λ b ts. same ts (sees t ts)) (introduced_exact t tt (absent_exact tt flat refl) refl)))
  where
    of : (u : Unit {0}) (ts : List Tok) → grammar.perhaps t ts → ((word t ▹ Absent tt flat refl u) ts) ⊎ ((u ≡ tt) × nothing ts)
    of u ts (inl s) = inl (terminal t ∷ [], [], refl, (refl, refl), s)
    of u ts (inr s) = inr (refl, s)

    to : (u : Unit {0}) (ts : List Tok) → ((word t ▹ Absent tt flat refl u) ts) ⊎ ((u ≡ tt) × nothing ts) → grammar.perhaps t ts
    to u ts (inl s) = inl (s.4 ∙ ap (λ a. a ++ s.1) s.2 ∙ ap (λ b. terminal t ∷ b) s.3.1)
    to u ts (inr s) = inr s.1

    same : (ts : List Tok) (v : Bool) → ◌≡◌ {A = Outcome (Unit {0})} (Ok (tt, after t ts)) (if v then Ok (tt, after t ts) else Ok (tt, after t ts))
    same ts true = refl
    same ts false = refl

-- ---- whether a word or sign comes next

pub flag_exact : {I : Type 0} {size : I → ℕ} (t : Terminal) → ExactFor size (grammar.flagged t) flat (λ left. sees t left ≡ false) (λ b. flag t)
unfolding flag
flag_exact t =
    before (λ left. sees t left ≡ false) (λ left f. (tt, f))
    (said_as (grammar.flagged t) of to (read_as (λ b. flag t) (λ b ts. same ts (sees t ts)) (introduced_exact t false (absent_exact true flat refl) refl)))
  where
    of : (v : Bool) (ts : List Tok) → grammar.flagged t v ts → ((word t ▹ Absent true flat refl v) ts) ⊎ ((v ≡ false) × nothing ts)
    of true ts s = inl (terminal t ∷ [], [], refl, (refl, refl), s)
    of false ts s = inr (refl, s)

    to : (v : Bool) (ts : List Tok) → ((word t ▹ Absent true flat refl v) ts) ⊎ ((v ≡ false) × nothing ts) → grammar.flagged t v ts
    to true ts (inl s) = s.4 ∙ ap (λ a. a ++ s.1) s.2 ∙ ap (λ b. terminal t ∷ b) s.3.1
    to true ts (inr s) = absurd (cc (s.0))
    to false ts (inl s) = absurd (cc (s.3.0))
    to false ts (inr s) = s.1

    same : (ts : List Tok) (v : Bool) → ◌≡◌ {A = Outcome Bool} (Ok (v, after t ts)) (if v then Ok (true, after t ts) else Ok (false, after t ts))
    same ts true = refl
    same ts false = refl
