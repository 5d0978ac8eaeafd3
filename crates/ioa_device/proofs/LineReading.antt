-- A text that is parted into lines as it is read.
use Rattle.std.proofs.Common.{arith, nat_lt, true, false, min, take, drop, length-append, length-take, length-drop, ◌≡◌, ◌==◌, ◌<◌, ◌≤◌, ◌-◌, ℕ, ◌+◌, Bool, List, [], ◌∷◌, ◌++◌, ◌⊎◌, inl, inr, append_assoc, append-nil, length, Option, Some, None, IfSome, refl, sym, ap, subst, ◌∙◌}
use Rattle.std.proofs.lemmas.List.{take-append-drop}
use Rattle.std.proofs.lemmas.Bool.Decides.{nat_tests}
use Rattle.std.proofs.Math.Seq.{drop-append_seam, take-append_seam}
use Rattle.ioa_value.specs.Lists.{lines, first_line, after_line}
use Rattle.ioa_value.proofs.ListLemmas.{cut_lines}
use Rattle.ioa_device.specs.declared.failure.LogErr.{LogErr}
use Rattle.ioa_device.specs.declared.line_reader.LineReader.{LineReader}
use Rattle.ioa_device.specs.LineReading.{rest, to_come, AreTaken, HasByte, HasLine, IsLineText}

-- ---- lines and their bytes

-- the first byte of a line's text is no LF
pub starts : (b : ℕ) (bs : List ℕ) → IsLineText (b ∷ bs) → ((b == 10) ≡ false) × IsLineText bs
starts b bs h = by (b == 10) refl
  where
    by : (c : Bool) → (b == 10) ≡ c → ((b == 10) ≡ false) × IsLineText bs
    by true e = let never : [] ≡ b ∷ bs = rw e at h in absurd (cc)
    by false e = let more : b ∷ first_line bs ≡ b ∷ bs = rw e at h in (e, cc)

pub lines_line : (l rest : List ℕ) → IsLineText l → lines (l ++ (10 ∷ rest)) ≡ l ∷ lines rest
lines_line [] rest h = refl
lines_line (b ∷ bs) rest h = let s = starts b bs h in rw (s.0, lines_line bs rest s.1) refl

pub joined : (xs ys : List ℕ) → IsLineText xs → IsLineText ys → IsLineText (xs ++ ys)
joined [] ys h k = k
joined (c ∷ cs) ys h k = let s = starts c cs h in rw (s.0, joined cs ys s.1 k) refl

pub first_whole : (xs : List ℕ) → IsLineText (first_line xs)
first_whole [] = refl
first_whole (b ∷ bs) = by (b == 10) refl (first_whole bs)
  where
    by : (c : Bool) → (b == 10) ≡ c → IsLineText (first_line bs) → IsLineText (first_line (b ∷ bs))
    by true e h = rw e refl
    by false e h = rw (e, e) (ap (λ l. b ∷ l) h)

-- ---- lines that are taken

pub nothing_taken : (known : Option (List ℕ)) (r : LineReader) → rest r ≡ [] → IfSome known (λ bytes. AreTaken bytes [] (to_come known r))
nothing_taken None r e = tt
nothing_taken (Some bytes) r e = (bytes, ap (λ xs. Some (xs ++ bytes)) e, refl)

-- what is said of the bytes to come, of lines that are taken
at_left : (bytes : List ℕ) (ls : List (List ℕ)) (left : Option (List ℕ)) (t : AreTaken bytes ls left) (P : List ℕ → Type 0) → IfSome left P → P t.0
at_left bytes ls left t P h = subst (λ o. IfSome o P) t.1 h

module _ (bytes : List ℕ) (ls : List (List ℕ)) (left mid new : Option (List ℕ)) (line : List ℕ) (t : AreTaken bytes ls left)
    (some : IfSome left (λ all. (0 < length all) × (mid ≡ Some all))) (came : IfSome mid (λ all. (line ≡ first_line all) × (new ≡ Some (after_line all)))) where
  here : (0 < length t.0) × (mid ≡ Some t.0)
  here = at_left bytes ls left t (λ all. (0 < length all) × (mid ≡ Some all)) some

  next : (line ≡ first_line t.0) × (new ≡ Some (after_line t.0))
  next = subst (λ o. IfSome o (λ all. (line ≡ first_line all) × (new ≡ Some (after_line all)))) here.1 came

  pub parted : lines bytes ≡ ls ++ line ∷ lines (after_line t.0)
  parted = t.2 ∙ ap (λ xs. ls ++ xs) (cut_lines t.0 here.0) ∙ ap (λ l. ls ++ l ∷ lines (after_line t.0)) (sym next.0)

  pub one_taken : AreTaken bytes (ls ++ line ∷ []) new
  one_taken = (after_line t.0, next.1, parted ∙ sym (append_assoc ls (line ∷ []) (lines (after_line t.0))))

-- no byte is to come
pub all_taken : (bytes : List ℕ) (ls : List (List ℕ)) (left mid : Option (List ℕ)) (t : AreTaken bytes ls left) → IfSome left (λ all. (all ≡ []) × (mid ≡ Some all)) → lines bytes ≡ ls
all_taken bytes ls left mid t none =
    let l = at_left bytes ls left t (λ all. (all ≡ []) × (mid ≡ Some all)) none in
    t.2 ∙ ap (λ xs. ls ++ lines xs) l.0 ∙ append-nil ls

pub line_taken : (known left mid new : Option (List ℕ)) (ls : List (List ℕ)) (line : List ℕ) → IfSome known (λ bytes. AreTaken bytes ls left)
    → IfSome left (λ all. (0 < length all) × (mid ≡ Some all)) → IfSome mid (λ all. (line ≡ first_line all) × (new ≡ Some (after_line all)))
    → IfSome known (λ bytes. AreTaken bytes (ls ++ line ∷ []) new)
line_taken None left mid new ls line t some came = tt
line_taken (Some bytes) left mid new ls line t some came = one_taken bytes ls left mid new line t some came

-- ---- what is said of a text of which these lines are taken

module _ (known left mid : Option (List ℕ)) (ls : List (List ℕ)) (taken : IfSome known (λ bytes. AreTaken bytes ls left)) (Q : List ℕ → Type 0) where
  -- no byte is to come: they are all
  pub of_all : IfSome left (λ all. (all ≡ []) × (mid ≡ Some all)) → ((bytes : List ℕ) → lines bytes ≡ ls → Q bytes) → IfSome known Q
  of_all none k = by known taken
    where
      by : (o : Option (List ℕ)) → IfSome o (λ bytes. AreTaken bytes ls left) → IfSome o Q
      by None t = tt
      by (Some bytes) t = k bytes (all_taken bytes ls left mid t none)

  -- this one comes next
  pub of_line : (new : Option (List ℕ)) (line : List ℕ) → IfSome left (λ all. (0 < length all) × (mid ≡ Some all))
      → IfSome mid (λ all. (line ≡ first_line all) × (new ≡ Some (after_line all)))
      → ((bytes : List ℕ) (after : List (List ℕ)) → lines bytes ≡ ls ++ line ∷ after → Q bytes) → IfSome known Q
  of_line new line some came k = by known taken
    where
      by : (o : Option (List ℕ)) → IfSome o (λ bytes. AreTaken bytes ls left) → IfSome o Q
      by None t = tt
      by (Some bytes) t = k bytes (lines (after_line t.0)) (parted bytes ls left mid new line t some came)

  -- some byte is to come, and so a line
  pub of_more : IfSome left (λ all. (0 < length all) × (mid ≡ Some all)) → ((bytes next : List ℕ) (after : List (List ℕ)) → lines bytes ≡ ls ++ next ∷ after → Q bytes)
      → IfSome known Q
  of_more some k = by known taken
    where
      by : (o : Option (List ℕ)) → IfSome o (λ bytes. AreTaken bytes ls left) → IfSome o Q
      by None t = tt
      by (Some bytes) t =
          let l : 0 < length t.0 = (at_left bytes ls left t (λ all. (0 < length all) × (mid ≡ Some all)) some).0 in
          k bytes (first_line t.0) (lines (after_line t.0)) (t.2 ∙ ap (λ xs. ls ++ xs) (cut_lines t.0 l))

-- ---- a line that was asked for, where it stands in the bytes to come

pub none_came : (left : Option (List ℕ)) → IfSome left (λ all. all ≡ []) → IfSome left (λ all. (all ≡ []) × (left ≡ Some all))
none_came None none = tt
none_came (Some all) none = (none, refl)

pub some_came : (left : Option (List ℕ)) → IfSome left (λ all. 0 < length all) → IfSome left (λ all. (0 < length all) × (left ≡ Some all))
some_came None some = tt
some_came (Some all) some = (some, refl)

pub line_came : (left new : Option (List ℕ)) (line : List ℕ) → IfSome left (λ all. (0 < length all) × (line ≡ first_line all) × (new ≡ Some (after_line all)))
    → IfSome left (λ all. (0 < length all) × (left ≡ Some all)) × IfSome left (λ all. (line ≡ first_line all) × (new ≡ Some (after_line all)))
line_came None new line came = (tt, tt)
line_came (Some all) new line came = ((came.0, refl), (came.1, came.2))

-- what is said of every text
of_any : (known : Option (List ℕ)) (Q : List ℕ → Type 0) → ((bytes : List ℕ) → Q bytes) → IfSome known Q
of_any None Q k = tt
of_any (Some bytes) Q k = k bytes

-- why no line is asked for any more: a device or memory, of which nothing is said, or the text goes on
pub of_stop : (known : Option (List ℕ)) (Q : LogErr → List ℕ → Type 0) (e : LogErr) → (e ≡ LogErr.Io) ⊎ ((e ≡ LogErr.AfterEnd) ⊎ (e ≡ LogErr.OutOfMemory))
    → ((bytes : List ℕ) → Q LogErr.Io bytes) → ((bytes : List ℕ) → Q LogErr.OutOfMemory bytes) → (e ≡ LogErr.AfterEnd → IfSome known (Q LogErr.AfterEnd)) → IfSome known (Q e)
of_stop known Q e (inl s) io memory longer = subst (λ x. IfSome known (Q x)) (sym s) (of_any known (Q LogErr.Io) io)
of_stop known Q e (inr (inl s)) io memory longer = subst (λ x. IfSome known (Q x)) (sym s) (longer s)
of_stop known Q e (inr (inr s)) io memory longer = subst (λ x. IfSome known (Q x)) (sym s) (of_any known (Q LogErr.OutOfMemory) memory)

-- ---- a line that comes in pieces

pub first_joined : (xs ys : List ℕ) → IsLineText xs → first_line (xs ++ ys) ≡ xs ++ first_line ys
first_joined [] ys h = refl
first_joined (b ∷ bs) ys h = let s = starts b bs h in rw (s.0, first_joined bs ys s.1) refl

pub after_joined : (xs ys : List ℕ) → IsLineText xs → after_line (xs ++ ys) ≡ after_line ys
after_joined [] ys h = refl
after_joined (b ∷ bs) ys h = let s = starts b bs h in rw s.0 (after_joined bs ys s.1)

pub none_gathered : (known : Option (List ℕ)) (r now : LineReader) → rest now ≡ rest r → now.line.items ≡ []
    → IfSome (to_come known r) (λ all. (others : List ℕ) × (to_come known now ≡ Some others) × (all ≡ now.line.items ++ others))
none_gathered None r now same none = tt
none_gathered (Some more) r now same none = (rest r ++ more, ap (λ xs. Some (xs ++ more)) same, ap (λ xs. xs ++ (rest r ++ more)) (sym none))

after_none : (xs : List ℕ) → IsLineText xs → after_line xs ≡ []
after_none [] h = refl
after_none (b ∷ bs) h = let s = starts b bs h in rw s.0 (after_none bs s.1)

-- so much of the line is gathered
abbrev pub Gathers : Option (List ℕ) → Option (List ℕ) → List ℕ → Type 0
Gathers start left items = IfSome start (λ all. (others : List ℕ) × (left ≡ Some others) × (all ≡ items ++ others))

-- the text ends
pub gathered_end : (start known new : Option (List ℕ)) (r s : LineReader) (items : List ℕ) → Gathers start (to_come known r) r.line.items
    → IsLineText r.line.items → IsLineText (rest r) → rest s ≡ [] → items ≡ r.line.items ++ rest r → IfSome (to_come known s) (λ all. (all ≡ []) × (new ≡ Some all))
    → IfSome start (λ all. (items ≡ first_line all) × (new ≡ Some (after_line all)))
gathered_end None known new r s items t l m e i over = tt
gathered_end (Some all) None new r s items t l m e i over = absurd (let x : None ≡ Some t.0 = t.1 in cc)
gathered_end (Some all) (Some more) new r s items t l m e i over =
    let others : rest r ++ more ≡ t.0 = let x : Some (rest r ++ more) ≡ Some t.0 = t.1 in cc in
    let none : more ≡ [] = ap (λ xs. xs ++ more) (sym e) ∙ over.0 in
    let whole : all ≡ r.line.items ++ rest r = t.2 ∙ ap (λ xs. r.line.items ++ xs) (sym others ∙ ap (λ xs. rest r ++ xs) none ∙ append-nil (rest r)) in (
      i ∙ sym (ap first_line whole ∙ first_joined r.line.items (rest r) l ∙ ap (λ xs. r.line.items ++ xs) m),
      over.1 ∙ ap (λ xs. Some xs) (over.0 ∙ sym (ap after_line whole ∙ after_joined r.line.items (rest r) l ∙ after_none (rest r) m)),
    )

-- more is to come
pub gathered_more : (start known new : Option (List ℕ)) (r s : LineReader) (items : List ℕ) → Gathers start (to_come known r) r.line.items
    → rest s ≡ [] → items ≡ r.line.items ++ rest r → IfSome (to_come known s) (λ all. (0 < length all) × (new ≡ Some all)) → Gathers start new items
gathered_more None known new r s items t e i some = tt
gathered_more (Some all) None new r s items t e i some = absurd (let x : None ≡ Some t.0 = t.1 in cc)
gathered_more (Some all) (Some more) new r s items t e i some =
    let others : rest r ++ more ≡ t.0 = let x : Some (rest r ++ more) ≡ Some t.0 = t.1 in cc in
    (more, some.1 ∙ ap (λ xs. Some (xs ++ more)) e, t.2 ∙ ap (λ xs. r.line.items ++ xs) (sym others) ∙ sym (append_assoc r.line.items (rest r) more) ∙ ap (λ xs. xs ++ more) (sym i))

-- the LF is there
pub gathered_line : (start known : Option (List ℕ)) (r s : LineReader) (line after : List ℕ) → Gathers start (to_come known r) r.line.items
    → IsLineText r.line.items → IsLineText line → rest r ≡ line ++ (10 ∷ after) → rest s ≡ after → s.line.items ≡ r.line.items ++ line
    → IfSome start (λ all. (s.line.items ≡ first_line all) × (to_come known s ≡ Some (after_line all)))
gathered_line None known r s line after t l m p e i = tt
gathered_line (Some all) None r s line after t l m p e i = absurd (let x : None ≡ Some t.0 = t.1 in cc)
gathered_line (Some all) (Some more) r s line after t l m p e i =
    let others : rest r ++ more ≡ t.0 = let x : Some (rest r ++ more) ≡ Some t.0 = t.1 in cc in
    let whole : all ≡ r.line.items ++ (line ++ (10 ∷ (after ++ more))) =
    t.2 ∙ ap (λ xs. r.line.items ++ xs) (sym others ∙ ap (λ xs. xs ++ more) p ∙ append_assoc line (10 ∷ after) more) in (
      i ∙ sym (ap first_line whole ∙ first_joined r.line.items (line ++ (10 ∷ (after ++ more))) l ∙ ap (λ xs. r.line.items ++ xs) (first_joined line (10 ∷ (after ++ more)) m ∙ append-nil line)),
      ap (λ xs. Some (xs ++ more)) e ∙ ap (λ xs. Some xs) (sym (ap after_line whole ∙ after_joined r.line.items (line ++ (10 ∷ (after ++ more))) l ∙ after_joined line (10 ∷ (after ++ more)) m)),
    )

-- an LF ends a line
has_ended : (line after : List ℕ) → IsLineText (line ++ (10 ∷ after)) → ⊥
has_ended [] after h = let never : [] ≡ 10 ∷ after = h in cc
has_ended (b ∷ bs) after h = has_ended bs after (starts b (bs ++ (10 ∷ after)) h).1

-- and so the text has one
pub gathered_ended : (start known : Option (List ℕ)) (r : LineReader) (line after : List ℕ) (Q : Type 0) → Gathers start (to_come known r) r.line.items
    → rest r ≡ line ++ (10 ∷ after) → IfSome start (λ all. IsLineText all → Q)
gathered_ended None known r line after Q t p = tt
gathered_ended (Some all) None r line after Q t p = absurd (let x : None ≡ Some t.0 = t.1 in cc)
gathered_ended (Some all) (Some more) r line after Q t p = λ whole.
    let others : rest r ++ more ≡ t.0 = let x : Some (rest r ++ more) ≡ Some t.0 = t.1 in cc in
    let parts : all ≡ (r.line.items ++ line) ++ (10 ∷ (after ++ more)) =
    t.2 ∙ ap (λ xs. r.line.items ++ xs) (sym others ∙ ap (λ xs. xs ++ more) p ∙ append_assoc line (10 ∷ after) more) ∙ sym (append_assoc r.line.items line (10 ∷ (after ++ more))) in
    absurd (has_ended (r.line.items ++ line) (after ++ more) (subst IsLineText parts whole))

-- of a line that is known a byte is
pub has_byte : (r : LineReader) → HasLine r → HasByte r
has_byte r (inr over) = inr over
has_byte r (inl whole) = by (nat_lt r.start r.end) refl
  where
    by : (b : Bool) → nat_lt r.start r.end ≡ b → HasByte r
    by true e = inl (grind (arith, nat_tests))
    by false e =
        let none : r.end - r.start ≡ 0 = grind (arith, nat_tests) in
        absurd (whole (subst (λ (n : ℕ). IsLineText (take n (drop r.start r.room.items))) (sym none) refl))

-- what holds anyhow
pub of_each : (start : Option (List ℕ)) (P : List ℕ → Type 0) (Q : Type 0) → Q → IfSome start (λ all. P all → Q)
of_each None P Q q = tt
of_each (Some all) P Q q = λ _. q

pub after_left : (xs l a : List ℕ) (i e : ℕ) → i ≤ e → e ≤ length xs → take (e - i) (drop i xs) ≡ l ++ (10 ∷ a) → take (e - (e - length a)) (drop (e - length a) xs) ≡ a
after_left xs l a i e p q s =
    let t : List ℕ = drop (e - i) (drop i xs) in
    let front : List ℕ = take i xs ++ (l ++ 10 ∷ []) in
    let whole : xs ≡ front ++ (a ++ t) =
    sym (take-append-drop i xs) ∙ ap (λ ys. take i xs ++ ys) (sym (take-append-drop (e - i) (drop i xs)) ∙ ap (λ ys. ys ++ t) s) ∙ simp append_assoc refl in
    let n : length (take (e - i) (drop i xs)) ≡ length l + length (10 ∷ a) = ap length s ∙ length-append l (10 ∷ a) in
    let d : length (drop i xs) ≡ length xs - i = length-drop i xs in
    let m : length (take (e - i) (drop i xs)) ≡ e - i = omega (arith, length-take (e - i) (drop i xs), d) in
    let f : length (take i xs) ≡ i = omega (arith, length-take i xs) in
    let k : e - length a ≡ length front = omega (arith, length-append (take i xs) (l ++ 10 ∷ []), length-append l (10 ∷ []), n, m, f) in
    let z : e - (e - length a) ≡ length a = omega (arith, n, m) in
    ap (λ (x : ℕ). take x (drop (e - length a) xs)) z ∙ ap (λ (x : ℕ). take (length a) (drop x xs)) k ∙ ap (λ ys. take (length a) (drop (length front) ys)) whole
    ∙ ap (take (length a)) (drop-append_seam front (a ++ t)) ∙ take-append_seam a t

-- a further turn has read a byte
pub length_rest : (r : LineReader) → r.end ≤ length r.room.items → length (rest r) ≡ r.end - r.start
length_rest r l =
    let d : length (drop r.start r.room.items) ≡ length r.room.items - r.start = length-drop r.start r.room.items in
    omega (arith, length-take (r.end - r.start) (drop r.start r.room.items), d)

pub further : (turn given now most new old : ℕ) → turn ≤ given → turn < most → 0 < new → old ≡ 0 → ((n : ℕ) → min (n + old) most ≤ given → min (n + new) most ≤ now) → turn + 1 ≤ now
further turn given now most new old l b n z h = let k : min (turn + new) most ≤ now = h turn (omega (arith, z, l)) in omega (arith, k, b, n)

pub counted_line : (n line l a r most given : ℕ) → r ≡ l + (1 + a) → min (n + (line + r)) most ≤ given → min (n + 1 + a) most ≤ given
counted_line n line l a r most given e h = omega (arith, h, e)

pub counted_on : (n line piece old new most given now all : ℕ) → all ≡ line + piece → old ≡ 0 → min (n + (line + piece)) most ≤ given
    → ((m : ℕ) → min (m + old) most ≤ given → min (m + new) most ≤ now) → min (n + (all + new)) most ≤ now
counted_on n line piece old new most given now all e z l h =
    let k : min ((n + (line + piece)) + new) most ≤ now = h (n + (line + piece)) (omega (arith, z, l)) in omega (arith, k, e)

pub counted_pull : (n old new count most given now : ℕ) → old ≡ 0 → new ≤ count → now ≡ min (given + count) most → min (n + old) most ≤ given → min (n + new) most ≤ now
counted_pull n old new count most given now z l e h = omega (arith, z, l, e, h)

pub enough : (n line piece new most now : ℕ) → 0 < line + piece → min (n + (line + piece + new)) most ≤ now → min (n + 1 + new) most ≤ now
enough n line piece new most now s h = omega (arith, s, h)
