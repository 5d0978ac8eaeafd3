-- A reader against its language: what is spelled is read, what is read is spelled, a fault hangs on the tokens up to the
-- one that it names, and only more tokens than the depth allows go too deep.
use Rattle.std.proofs.Common.{◌≡◌, ℕ, ◌<◌, ◌≤◌, inl, inr, List, ◌++◌, length, max, refl, sym, ap, ◌∙◌, subst, arith, Ok, Err, length-append, append_assoc}
use Rattle.ioa_lex.specs.Tokens.{Tok}
use Rattle.ioa_grammar.specs.declared.fault.Fault.TheVariants.{TooDeep}
use Rattle.ioa_grammar.specs.Grammar.{Language, SameHead, ◌▹◌}
use Rattle.ioa_grammar.specs.Reading.{Outcome, Reader, ◌>>=◌, ◌▸◌, built}
use Rattle.ioa_declarations.proofs.Outcomes.{bind_ok, bind_err, ok_pair, AtMost, at_most_more, at_most_then, Shrinks, Alike, past_at_most, alike_then, went}

-- a front of the tokens spells it
pub record Found {A : Type 0} (L : A → Language) (D : A → ℕ) (b : ℕ) (ts : List Tok) (x : A) (left : List Tok) : Type 0 where
  pub front : List Tok
  pub spells : L x front
  pub apart : ts ≡ front ++ left
  pub within : D x ≤ b

-- Readers for limits of the type I, each of which allows so much depth. F: what may follow
pub record ExactFor {I : Type 0} (size : I → ℕ) {A : Type 0} (L : A → Language) (D : A → ℕ) (F : Language) (P : I → Reader A) : Type 0 where
  pub complete : (b : I) (x : A) (ts left : List Tok) → L x ts → D x ≤ size b → F left → P b (ts ++ left) ≡ Ok (x, left)
  pub sound : (b : I) (ts : List Tok) (x : A) (left : List Tok) → P b ts ≡ Ok (x, left) → Found L D (size b) ts x left
  pub shrinks : (b : I) → Shrinks (P b)
  pub alike : (b b' : I) → size b ≤ size b' → (s s' : List Tok) → SameHead s s' → (c : List Tok) → Alike s s' (P b (c ++ s)) (P b' (c ++ s'))
  pub long : (b : I) (ts : List Tok) → P b ts ≡ Err TooDeep → size b < length ts

abbrev pub depth_itself : ℕ → ℕ
depth_itself n = n

-- where a limit is the depth itself
abbrev pub Exact : {A : Type 0} → (A → Language) → (A → ℕ) → Language → (ℕ → Reader A) → Type 0
Exact L D F P = ExactFor depth_itself L D F P

-- limits below n
abbrev pub Below : ℕ → Type 0
Below n = (b : ℕ) × (b < n)

abbrev pub any : Language
any = λ ts. Unit {0}

abbrev pub flat : {A : Type 0} → A → ℕ
flat x = 0

-- another way to say how deep it is
pub deep_as : {I : Type 0} {size : I → ℕ} {A : Type 0} {L : A → Language} {D : A → ℕ} {F : Language} {P : I → Reader A} (D' : A → ℕ) → ((x : A) → D' x ≡ D x) → ExactFor size L D F P → ExactFor size L D' F P
deep_as {size = size} {L = L} {D = D} {F = F} {P = P} D' same e = record {
  complete = λ b x ts left s d f. e.complete b x ts left s (subst (λ n. n ≤ size b) (same x) d) f;
  sound = λ b ts x left h. let f = e.sound b ts x left h in record { front = f.front; spells = f.spells; apart = f.apart; within = subst (λ n. n ≤ size b) (sym (same x)) f.within };
  shrinks = e.shrinks;
  alike = e.alike;
  long = e.long;
}

-- the same reader, in another way
pub read_as : {I : Type 0} {size : I → ℕ} {A : Type 0} {L : A → Language} {D : A → ℕ} {F : Language} {P : I → Reader A} (Q : I → Reader A) → ((b : I) (ts : List Tok) → Q b ts ≡ P b ts) → ExactFor size L D F P → ExactFor size L D F Q
read_as {size = size} {P = P} Q same e = record {
  complete = λ b x ts left s d f. same b (ts ++ left) ∙ e.complete b x ts left s d f;
  sound = λ b ts x left h. e.sound b ts x left (sym (same b ts) ∙ h);
  shrinks = λ b ts. subst (AtMost (length ts)) (sym (same b ts)) (e.shrinks b ts);
  alike = λ b b' le s s' h c. subst (λ o. Alike s s' o (Q b' (c ++ s'))) (sym (same b (c ++ s))) (subst (Alike s s' (P b (c ++ s))) (sym (same b' (c ++ s'))) (e.alike b b' le s s' h c));
  long = λ b ts h. e.long b ts (sym (same b ts) ∙ h);
}

-- less may follow
pub before : {I : Type 0} {size : I → ℕ} {A : Type 0} {L : A → Language} {D : A → ℕ} {F : Language} {P : I → Reader A} (F' : Language) → ((ts : List Tok) → F' ts → F ts) → ExactFor size L D F P → ExactFor size L D F' P
before {size = size} {L = L} {D = D} {F = F} {P = P} F' less e = record {
  complete = λ b x ts left s d f. e.complete b x ts left s d (less left f);
  sound = e.sound;
  shrinks = e.shrinks;
  alike = e.alike;
  long = e.long;
}

-- one after the other: what comes second may follow the first
module _ {I : Type 0} {size : I → ℕ} {A B : Type 0} {L : A → Language} {M : B → Language} {D : A → ℕ} {E : B → ℕ} {F G : Language} {P : I → Reader A} {Q : I → Reader B}
    (p : ExactFor size L D F P) (q : ExactFor size M E G Q) (follows : (y : B) (ts left : List Tok) → M y ts → G left → F (ts ++ left)) where
  abbrev Both : A × B → Language
  Both x = L x.0 ▹ M x.1

  abbrev deep_both : A × B → ℕ
  deep_both x = max (D x.0) (E x.1)

  abbrev second : I → A × List Tok → Outcome (A × B)
  second b x = Q b x.1 >>= λ y. Ok ((x.0, y.0), y.1)

  both_complete : (b : I) (x : A × B) (ts left : List Tok) → Both x ts → deep_both x ≤ size b → G left → (P b ▸ Q b) (ts ++ left) ≡ Ok (x, left)
  both_complete b x ts left s d f =
      let apart : ts ++ left ≡ s.0 ++ (s.1 ++ left) = ap (λ z. z ++ left) s.4 ∙ append_assoc s.0 s.1 left in
      let one : P b (s.0 ++ (s.1 ++ left)) ≡ Ok (x.0, s.1 ++ left) = p.complete b x.0 s.0 (s.1 ++ left) s.2 (omega arith) (follows x.1 s.1 left s.3 f) in
      let two : Q b (s.1 ++ left) ≡ Ok (x.1, left) = q.complete b x.1 s.1 left s.3 (omega arith) f in
      ap (P b ▸ Q b) apart ∙ ap (λ o. o >>= second b) one ∙ ap (λ (o : Outcome B). o >>= λ y. Ok ((x.0, y.0), y.1)) two

  both_sound : (b : I) (ts : List Tok) (x : A × B) (left : List Tok) → (P b ▸ Q b) ts ≡ Ok (x, left) → Found Both deep_both (size b) ts x left
  both_sound b ts x left h =
      let one = bind_ok (P b ts) (second b) (x, left) h in
      let two = bind_ok (Q b one.0.1) (λ y. Ok ((one.0.0, y.0), y.1)) (x, left) one.2 in
      let same = ok_pair (one.0.0, two.0.0) x two.0.1 left two.2 in
      let f = p.sound b ts one.0.0 one.0.1 one.1 in
      let g = q.sound b one.0.1 two.0.0 two.0.1 two.1 in
      let found : Found Both deep_both (size b) ts (one.0.0, two.0.0) two.0.1 = record {
        front = f.front ++ g.front;
        spells = (f.front, g.front, f.spells, g.spells, refl);
        apart = f.apart ∙ ap (λ z. f.front ++ z) g.apart ∙ sym (append_assoc f.front g.front two.0.1);
        within = omega (arith, f.within, g.within);
      } in
      subst (λ y. Found Both deep_both (size b) ts y left) same.0 (subst (λ z. Found Both deep_both (size b) ts (one.0.0, two.0.0) z) same.1 found)

  second_shrinks : (b : I) (x : A × List Tok) → AtMost (length x.1) (second b x)
  second_shrinks b x = at_most_then (length x.1) (Q b x.1) (λ y. Ok ((x.0, y.0), y.1)) (q.shrinks b x.1) (λ y h. h)

  both_alike : (b b' : I) → size b ≤ size b' → (s s' : List Tok) → SameHead s s' → (c : List Tok) → Alike s s' ((P b ▸ Q b) (c ++ s)) ((P b' ▸ Q b') (c ++ s'))
  both_alike b b' le s s' h c =
      alike_then s s' (P b (c ++ s)) (P b' (c ++ s')) (second b) (second b') (p.alike b b' le s s' h c)
      (λ x short. past_at_most s (length x.1) (second b x) short (second_shrinks b x))
      (λ x d was is. alike_then s s' (Q b (d ++ s)) (Q b' (d ++ s')) (λ y. Ok ((x, y.0), y.1)) (λ y. Ok ((x, y.0), y.1)) (q.alike b b' le s s' h d) (λ y short. short) (λ y r was is. went s s' (x, y) r))

  both_long : (b : I) (ts : List Tok) → (P b ▸ Q b) ts ≡ Err TooDeep → size b < length ts
  both_long b ts h =
      elim (bind_err (P b ts) (second b) TooDeep h) [
        | inl one ↦ p.long b ts one
        | inr two ↦ elim (bind_err (Q b two.0.1) (λ y. Ok ((two.0.0, y.0), y.1)) TooDeep two.2) [
          | inl deep ↦
              let far = q.long b two.0.1 deep in
              let f = p.sound b ts two.0.0 two.0.1 two.1 in
              omega (arith, ap length f.apart, length-append f.front two.0.1)
          | inr never ↦ absurd (cc (never.2))
        ]
      ]

  pub then : ExactFor size Both deep_both G (λ b. P b ▸ Q b)
  then = record {
    complete = both_complete;
    sound = both_sound;
    shrinks = λ b ts. at_most_then (length ts) (P b ts) (second b) (p.shrinks b ts) (λ x h. at_most_more (length x.1) (length ts) (second b x) h (second_shrinks b x));
    alike = both_alike;
    long = both_long;
  }

-- the same, as another type says it
module _ {I : Type 0} {size : I → ℕ} {A B : Type 0} (to : A → B) (of : B → A) (to_of : (y : B) → to (of y) ≡ y) (of_to : (x : A) → of (to x) ≡ x)
    {L : A → Language} {D : A → ℕ} {F : Language} {P : I → Reader A} (p : ExactFor size L D F P) where
  abbrev As : B → Language
  As y = L (of y)

  abbrev deep_of : B → ℕ
  deep_of y = D (of y)

  abbrev shown : A × List Tok → Outcome B
  shown x = Ok (to x.0, x.1)

  as_sound : (b : I) (ts : List Tok) (y : B) (left : List Tok) → built to (P b) ts ≡ Ok (y, left) → Found As deep_of (size b) ts y left
  as_sound b ts y left h =
      let one = bind_ok (P b ts) shown (y, left) h in
      let same = ok_pair (to one.0.0) y one.0.1 left one.2 in
      let f = p.sound b ts one.0.0 one.0.1 one.1 in
      let is : one.0.0 ≡ of y = sym (of_to one.0.0) ∙ ap of same.0 in
      record { front = f.front; spells = subst (λ x. L x f.front) is f.spells; apart = f.apart ∙ ap (λ z. f.front ++ z) same.1; within = subst (λ x. D x ≤ size b) is f.within }

  as_long : (b : I) (ts : List Tok) → built to (P b) ts ≡ Err TooDeep → size b < length ts
  as_long b ts h = elim (bind_err (P b ts) shown TooDeep h) [ inl deep ↦ p.long b ts deep | inr never ↦ absurd (cc (never.2)) ]

  pub built_as : ExactFor size As deep_of F (λ b. built to (P b))
  built_as = record {
    complete = λ b y ts left s d f. ap (λ o. o >>= shown) (p.complete b (of y) ts left s d f) ∙ ap (λ z. Ok (z, left)) (to_of y);
    sound = as_sound;
    shrinks = λ b ts. at_most_then (length ts) (P b ts) shown (p.shrinks b ts) (λ x h. h);
    alike = λ b b' le s s' h c. alike_then s s' (P b (c ++ s)) (P b' (c ++ s')) shown shown (p.alike b b' le s s' h c) (λ x short. short) (λ x d was is. went s s' (to x) d);
    long = as_long;
  }

-- the same tokens, said in another way
pub said_as : {I : Type 0} {size : I → ℕ} {A : Type 0} {L : A → Language} {D : A → ℕ} {F : Language} {P : I → Reader A} (M : A → Language) → ((x : A) (ts : List Tok) → M x ts → L x ts) → ((x : A) (ts : List Tok) → L x ts → M x ts) → ExactFor size L D F P → ExactFor size M D F P
said_as {size = size} {L = L} {D = D} {F = F} {P = P} M of to e = record {
  complete = λ b x ts left s d f. e.complete b x ts left (of x ts s) d f;
  sound = λ b ts x left h. let f = e.sound b ts x left h in record { front = f.front; spells = to x f.front f.spells; apart = f.apart; within = f.within };
  shrinks = e.shrinks;
  alike = e.alike;
  long = e.long;
}
