-- A list text is read line by line.
use Rattle.std.proofs.Common.{◌≡◌, ◌⊎◌, ℕ, ◌+◌, ◌<◌, ◌≤◌, Bool, true, false, ◌==◌, List, [], ◌∷◌, ◌++◌, length, All, refl, sym, ap, ap₂, subst, ◌∙◌, append_assoc, append-nil, length-append, arith, inl, inr}
use Rattle.std.specs.List.{onto_first}
use Rattle.std.proofs.lemmas.List.Elements.{All-nil, All-cons}
use Rattle.std.proofs.lemmas.Bool.{false≢true}
use Rattle.std.proofs.lemmas.Bool.Decides.{nat_tests}
use Rattle.std.proofs.lemmas.List.{nil_from_length}
use Rattle.ioa_value.specs.Table.{Table}
use Rattle.ioa_value.specs.Actions.{Act}
use Rattle.ioa_value.specs.Reads.{Reads}
use Rattle.ioa_value.specs.Lists.{lines, is_skipped, ReadsLines, ReadsList, IsLine, BadLine, first_line, after_line}
use Rattle.ioa_value.proofs.SkippedLemmas.{unread}

abbrev IsCut : ℕ → List ℕ → Type 0
IsCut b bs = lines (b ∷ bs) ≡ first_line (b ∷ bs) ∷ lines (after_line (b ∷ bs))

cut_at : (b : ℕ) (bs : List ℕ) (t : Bool) → (b == 10) ≡ t → (lines bs ≡ first_line bs ∷ lines (after_line bs)) ⊎ (bs ≡ []) → IsCut b bs
cut_at b bs true e h = rw e refl
cut_at b bs false e (inl h) = rw e (ap (onto_first b) h)
cut_at b bs false e (inr h) = subst (IsCut b) (sym h) (rw e refl)

-- a text that is not empty is its first line, and the lines after it
cut : (b : ℕ) (bs : List ℕ) → IsCut b bs
cut b [] = cut_at b [] (b == 10) refl (inr refl)
cut b (x ∷ xs) = cut_at b (x ∷ xs) (b == 10) refl (inl (cut x xs))

shorter_at : (b : ℕ) (bs : List ℕ) (t : Bool) → (b == 10) ≡ t → length (after_line bs) ≤ length bs → length (after_line (b ∷ bs)) < length (b ∷ bs)
shorter_at b bs true e h = rw e (omega arith)
shorter_at b bs false e h = rw e (omega arith)

no_longer : (text : List ℕ) → length (after_line text) ≤ length text
no_longer [] = omega arith
no_longer (b ∷ bs) = omega (arith, shorter_at b bs (b == 10) refl (no_longer bs))

pub shorter : (text : List ℕ) → 0 < length text → length (after_line text) < length text
shorter [] h = absurd (omega arith)
shorter (b ∷ bs) h = shorter_at b bs (b == 10) refl (no_longer bs)

pub cut_lines : (text : List ℕ) → 0 < length text → lines text ≡ first_line text ∷ lines (after_line text)
cut_lines [] h = absurd (omega arith)
cut_lines (b ∷ bs) h = cut b bs

-- the lines up to a place have been read
pub record ReadTo (types : Table) (text : List ℕ) (count : ℕ) (acts : List Act) (rest : List ℕ) : Type 0 where
  pub before : List (List ℕ)
  pub whole : lines text ≡ before ++ lines rest
  pub counted : length before ≡ count
  pub read : ReadsLines types before acts
  pub once : (ys : List Act) → ReadsLines types before ys → ys ≡ acts

pub nothing_read : (types : Table) (text : List ℕ) → ReadTo types text 0 [] text
nothing_read types text = record { before = []; whole = refl; counted = refl; read = refl; once = λ ys e. e }

pub one_more : (types : Table) (ls ks : List (List ℕ)) (xs ys : List Act) → ReadsLines types ls xs → ReadsLines types ks ys → ReadsLines types (ls ++ ks) (xs ++ ys)
one_more types [] ks xs ys e r = subst (λ zs. ReadsLines types ks (zs ++ ys)) (sym e) r
one_more types (l ∷ ls) ks xs ys (inl h) r = inl (h.0, one_more types ls ks xs ys h.1 r)
one_more types (l ∷ ls) ks xs ys (inr (a, more, h, m, e)) r =
    inr (a, more ++ ys, h, one_more types ls ks more ys m r, ap (λ zs. zs ++ ys) e)

-- the actions of lines are those of the first ones, and those of the others
record Parts (types : Table) (ls ks : List (List ℕ)) (zs : List Act) : Type 0 where
  xs : List Act
  ys : List Act
  whole : zs ≡ xs ++ ys
  first : ReadsLines types ls xs
  others : ReadsLines types ks ys

parts : (types : Table) (ls ks : List (List ℕ)) (zs : List Act) → ReadsLines types (ls ++ ks) zs → Parts types ls ks zs
parts types [] ks zs r = record { xs = []; ys = zs; whole = refl; first = refl; others = r }
parts types (l ∷ ls) ks zs (inl h) =
    let p = parts types ls ks zs h.1 in
    record { xs = p.xs; ys = p.ys; whole = p.whole; first = inl (h.0, p.first); others = p.others }
parts types (l ∷ ls) ks zs (inr (a, rest, h, m, e)) =
    let p = parts types ls ks rest m in
    record { xs = a ∷ p.xs; ys = p.ys; whole = e ∙ ap (λ xs. a ∷ xs) p.whole; first = inr (a, p.xs, h, p.first, refl); others = p.others }

pub good : (types : Table) (ls : List (List ℕ)) (acts : List Act) → ReadsLines types ls acts → All (IsLine types) ls
good types [] acts r = All-nil (IsLine types)
good types (l ∷ ls) acts (inl h) = All-cons (IsLine types) l ls (inl h.0) (good types ls acts h.1)
good types (l ∷ ls) acts (inr (a, more, h, m, e)) = All-cons (IsLine types) l ls (inr (a, h)) (good types ls more m)

module _ (types : Table) (text : List ℕ) (count : ℕ) (acts : List Act) (rest : List ℕ) where
  next : ReadTo types text count acts rest → 0 < length rest → (more : List Act) → ReadsLines types (first_line rest ∷ []) more → ((ys : List Act) → ReadsLines types (first_line rest ∷ []) ys → ys ≡ more) → ReadTo types text (count + 1) (acts ++ more) (after_line rest)
  next h long more r only =
      let line = first_line rest in
      let whole : lines text ≡ h.before ++ (line ∷ lines (after_line rest)) = h.whole ∙ ap (λ l. h.before ++ l) (cut_lines rest long) in
      record {
        before = h.before ++ line ∷ [];
        whole = whole ∙ sym (append_assoc h.before (line ∷ []) (lines (after_line rest)));
        counted = length-append h.before (line ∷ []) ∙ ap (λ n. n + 1) h.counted;
        read = one_more types h.before (line ∷ []) acts more h.read r;
        once = λ ys k. let p = parts types h.before (line ∷ []) ys k in p.whole ∙ ap (λ xs. xs ++ p.ys) (h.once p.xs p.first) ∙ ap (λ zs. acts ++ zs) (only p.ys p.others);
      }

  pub skipped : ReadTo types text count acts rest → 0 < length rest → is_skipped (first_line rest) ≡ true → ReadTo types text (count + 1) acts (after_line rest)
  skipped h long s =
      subst (λ xs. ReadTo types text (count + 1) xs (after_line rest)) (append-nil acts) (next h long [] (inl (s, refl)) only)
    where
      only : (ys : List Act) → ReadsLines types (first_line rest ∷ []) ys → ys ≡ []
      only ys (inl k) = k.1
      only ys (inr (a, more, r, m, e)) = absurd (unread types (first_line rest) a s r)

  pub performed : (a : Act) → ReadTo types text count acts rest → 0 < length rest → Reads types (first_line rest) a → ((b : Act) → Reads types (first_line rest) b → b ≡ a) → ReadTo types text (count + 1) (acts ++ a ∷ []) (after_line rest)
  performed a h long r one = next h long (a ∷ []) (inr (a, [], r, refl, refl)) only
    where
      only : (ys : List Act) → ReadsLines types (first_line rest ∷ []) ys → ys ≡ a ∷ []
      only ys (inl k) = absurd (unread types (first_line rest) a k.0 r)
      only ys (inr (b, more, q, m, e)) = e ∙ ap₂ (λ x xs. x ∷ xs) (one b q) m

  pub finished : ReadTo types text count acts rest → length rest ≡ 0 → ReadsList types text acts
  finished h e =
      let whole : lines text ≡ h.before = h.whole ∙ ap (λ l. h.before ++ lines l) (nil_from_length rest e) ∙ append-nil h.before in
      subst (λ ls. ReadsLines types ls acts) (sym whole) h.read

  pub finished_once : ReadTo types text count acts rest → length rest ≡ 0 → (ys : List Act) → ReadsList types text ys → acts ≡ ys
  finished_once h e ys r =
      let whole : lines text ≡ h.before = h.whole ∙ ap (λ l. h.before ++ lines l) (nil_from_length rest e) ∙ append-nil h.before in
      sym (h.once ys (subst (λ ls. ReadsLines types ls ys) whole r))

  pub broken : ReadTo types text count acts rest → 0 < length rest → is_skipped (first_line rest) ≡ false → ((a : Act) → Reads types (first_line rest) a → ⊥) → BadLine types text (count + 1)
  broken h long s none =
      let whole : lines text ≡ h.before ++ (first_line rest ∷ lines (after_line rest)) = h.whole ∙ ap (λ l. h.before ++ l) (cut_lines rest long) in
      (h.before, first_line rest, lines (after_line rest), good types h.before acts h.read, bad, whole, ap (λ n. n + 1) (sym h.counted))
    where
      bad : IsLine types (first_line rest) → ⊥
      bad (inl t) = false≢true (sym s ∙ t)
      bad (inr (a, r)) = none a r

pub not_empty : (xs : List ℕ) (r : Bool) → r ≡ false → r ≡ (length xs == 0) → 0 < length xs
not_empty [] r e f = absurd (false≢true (sym e ∙ f))
not_empty (x ∷ xs) r e f = omega arith

zero_at : (n : ℕ) → (n == 0) ≡ true → n ≡ 0
zero_at n e = grind (arith, nat_tests)

pub empty : (xs : List ℕ) (r : Bool) → r ≡ true → r ≡ (length xs == 0) → length xs ≡ 0
empty xs r e f = zero_at (length xs) (sym f ∙ e)
