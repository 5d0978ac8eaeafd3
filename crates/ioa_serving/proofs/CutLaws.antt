-- What is said by what is taken of a list or of a log.
use Rattle.std.proofs.Common.{◌≡◌, ◌==◌, ◌<◌, ◌≤◌, ◌+◌, ◌-◌, inl, inr, zero, suc, ℕ, Bool, true, false, if◌then◌else◌, List, [], ◌∷◌, ◌++◌, length, take, refl, sym, ap, subst, ◌∙◌, append_assoc, append-nil, length-append, arith}
use Rattle.std.specs.Prelude.{nat_lt}
use Rattle.std.specs.List.{AllZip, onto_first}
use Rattle.std.proofs.lemmas.Bool.{eqb-true, false≢true}
use Rattle.std.proofs.lemmas.Bool.Decides.{nat_tests}
use Rattle.std.proofs.lemmas.List.Elements.{All-nil}
use Rattle.ioa_value.specs.Actions.{Act}
use Rattle.ioa_value.specs.Lists.{ReadsLines, is_skipped, lines}
use Rattle.ioa_value.specs.Reads.{Reads}
use Rattle.ioa_value.specs.Table.{Table}
use Rattle.ioa_value.proofs.SkippedLemmas.{unread}
use Rattle.ioa_tree.specs.Runs.{done}
use Rattle.ioa_device.specs.LineReading.{IsLineText}
use Rattle.ioa_device.proofs.LineReading.{lines_line}
use Rattle.ioa_log.specs.LogLines.{IsEntryLine, end_line}
use Rattle.ioa_log.specs.LogTexts.{IsLegal}
use Rattle.ioa_log.proofs.WrittenLogs.{written_log_read}
use Rattle.ioa_serving.proofs.Cutting.{take_whole}
use Rattle.ioa_serving.specs.Cuts.{CutsLists, CutsLogs, KeepsShortLogs, cut_log, first_listed, left_after, text_of}

-- ---- lines, and the text that they are

-- no line holds an LF
abbrev HoldNone : List (List ℕ) → Type 0
HoldNone [] = Unit {0}
HoldNone (l ∷ ls) = IsLineText l × HoldNone ls

onto : (b : ℕ) (ls : List (List ℕ)) → (b == 10) ≡ false → HoldNone ls → HoldNone (onto_first b ls)
onto b [] e h = (rw e refl, tt)
onto b (l ∷ ls) e h = (rw e (ap (λ bs. b ∷ bs) h.0), h.1)

hold_none : (bytes : List ℕ) → HoldNone (lines bytes)
hold_none [] = tt
hold_none (b ∷ bs) = by (b == 10) refl (hold_none bs)
  where
    by : (c : Bool) → (b == 10) ≡ c → HoldNone (lines bs) → HoldNone (lines (b ∷ bs))
    by true e h = rw e (refl, h)
    by false e h = rw e (onto b (lines bs) e h)

lines_text : (ls : List (List ℕ)) (more : List ℕ) → HoldNone ls → lines (text_of ls ++ more) ≡ ls ++ lines more
lines_text [] more h = refl
lines_text (l ∷ ls) more h =
    let shape : text_of (l ∷ ls) ++ more ≡ l ++ (10 ∷ (text_of ls ++ more)) = simp append_assoc refl in
    ap lines shape ∙ lines_line l (text_of ls ++ more) h.0 ∙ ap (λ ks. l ∷ ks) (lines_text ls more h.1)

lines_all : (ls : List (List ℕ)) → HoldNone ls → lines (text_of ls) ≡ ls
lines_all ls h = ap lines (sym (append-nil (text_of ls))) ∙ lines_text ls [] h ∙ append-nil ls

-- ---- first ones

take_front : {A : Type 0} (n : ℕ) (xs ys : List A) → n ≤ length xs → take n (xs ++ ys) ≡ take n xs
take_front zero xs ys l = refl
take_front (suc n) [] ys l = absurd (omega (arith, l))
take_front (suc n) (x ∷ xs) ys l = ap (λ zs. x ∷ zs) (take_front n xs ys (omega (arith, l)))

take_none : {A : Type 0} (n : ℕ) (xs : List A) → xs ≡ [] → take n xs ≡ []
take_none zero xs e = refl
take_none (suc n) [] e = refl
take_none (suc n) (x ∷ xs) e = cc

zip_length : {A B : Type 0} (R : A → B → Type 0) (xs : List A) (ys : List B) → AllZip R xs ys → length xs ≡ length ys
zip_length R [] [] h = refl
zip_length R [] (y ∷ ys) h = absurd h
zip_length R (x ∷ xs) [] h = absurd h
zip_length R (x ∷ xs) (y ∷ ys) h = ap (λ (n : ℕ). suc n) (zip_length R xs ys h.1)

zip_none : {A B : Type 0} (R : A → B → Type 0) (xs : List A) → AllZip R xs [] → xs ≡ []
zip_none R [] h = refl
zip_none R (x ∷ xs) h = absurd h

zip_take : {A B : Type 0} (R : A → B → Type 0) (n : ℕ) (xs : List A) (ys : List B) → AllZip R xs ys → AllZip R (take n xs) (take n ys)
zip_take R zero xs ys h = tt
zip_take R (suc n) [] [] h = tt
zip_take R (suc n) [] (y ∷ ys) h = absurd h
zip_take R (suc n) (x ∷ xs) [] h = absurd h
zip_take R (suc n) (x ∷ xs) (y ∷ ys) h = (h.0, zip_take R n xs ys h.1)

first_lines : (n : ℕ) (ls : List (List ℕ)) → HoldNone ls → HoldNone (take n ls)
first_lines zero ls h = tt
first_lines (suc n) [] h = tt
first_lines (suc n) (l ∷ ls) h = (h.0, first_lines n ls h.1)

-- ---- lists

first_taken : (n : ℕ) (ls : List (List ℕ)) → HoldNone ls → HoldNone (first_listed n ls)
first_taken n [] h = tt
first_taken n (l ∷ ls) h = by (n == 0) refl (first_taken (left_after n l) ls h.1)
  where
    by : (c : Bool) → (n == 0) ≡ c → HoldNone (first_listed (left_after n l) ls) → HoldNone (first_listed n (l ∷ ls))
    by true e more = rw e tt
    by false e more = rw e (h.0, more)

one_less : (n : ℕ) (a : Act) (acts : List Act) → (n == 0) ≡ false → take n (a ∷ acts) ≡ a ∷ take (n - 1) acts
one_less zero a acts e = absurd (false≢true (sym e))
one_less (suc n) a acts e = let less : suc n - 1 ≡ n = omega arith in rw less refl

-- a line that is read is not skipped
not_skipped : (types : Table) (l : List ℕ) (a : Act) (c : Bool) → is_skipped l ≡ c → Reads types l a → is_skipped l ≡ false
not_skipped types l a true s k = absurd (unread types l a s k)
not_skipped types l a false s k = s

reads_first : (types : Table) (ls : List (List ℕ)) (acts : List Act) (n : ℕ) → ReadsLines types ls acts → ReadsLines types (first_listed n ls) (take n acts)
reads_first types [] acts n e = take_none n acts e
reads_first types (l ∷ ls) acts n r = by (n == 0) refl r (λ rest m more. reads_first types ls rest m more)
  where
    by : (c : Bool) → (n == 0) ≡ c → ReadsLines types (l ∷ ls) acts → ((rest : List Act) (m : ℕ) → ReadsLines types ls rest → ReadsLines types (first_listed m ls) (take m rest)) → ReadsLines types (first_listed n (l ∷ ls)) (take n acts)
    by true e h later = rw e (ap (λ (m : ℕ). take m acts) (eqb-true n 0 e))
    by false e (inl (skipped, more)) later =
        let same : left_after n l ≡ n = rw skipped refl in
        rw e (inl (skipped, subst (λ (m : ℕ). ReadsLines types (first_listed m ls) (take n acts)) (sym same) (later acts n more)))
    by false e (inr (a, rest, reads, more, is)) later =
        let read : is_skipped l ≡ false = not_skipped types l a (is_skipped l) refl reads in
        let less : left_after n l ≡ n - 1 = rw read refl in
        let first : take n acts ≡ a ∷ take (n - 1) rest = ap (take n) is ∙ one_less n a rest e in
        rw e (inr (
          a,
          take (n - 1) rest,
          reads,
          subst (λ (m : ℕ). ReadsLines types (first_listed m ls) (take (n - 1) rest)) (sym less) (later rest (n - 1) more),
          first,
        ))

pub cuts_lists : CutsLists
cuts_lists types text acts most r =
    subst (λ ls. ReadsLines types ls (take most acts)) (sym (lines_all (first_listed most (lines text)) (first_taken most (lines text) (hold_none text))))
    (reads_first types (lines text) acts most r)

-- ---- logs

less : (m n : ℕ) → m < n → nat_lt m n ≡ true
less m n l = grind (arith, nat_tests)

no_less : (m n : ℕ) → n ≤ m → nat_lt m n ≡ false
no_less m n l = grind (arith, nat_tests)

pub cuts_logs : CutsLogs
cuts_logs types text log most declared small few r =
    let front = take most r.firsts in
    let count : length r.firsts ≡ length log.entries = zip_length (IsEntryLine types) r.firsts log.entries r.entries in
    let long : length (lines text) ≡ length r.firsts + 1 = ap length r.parted ∙ length-append r.firsts (r.last ∷ []) in
    let first : take most (lines text) ≡ front = ap (take most) r.parted ∙ take_front most r.firsts (r.last ∷ []) (omega (arith, few, count)) in
    let more : nat_lt most (length (lines text)) ≡ true = less most (length (lines text)) (omega (arith, few, count, long)) in
    let taken : cut_log most text ≡ text_of front ++ end_line (done most) =
    ap (λ ls. text_of ls ++ (if nat_lt most (length (lines text)) then end_line (done most) else [])) first
    ∙ ap (λ (b : Bool). text_of front ++ (if b then end_line (done most) else [])) more in
    let end = written_log_read types declared (record { entries = []; ending = done most }) (All-nil (IsLegal types)) (refl, small) in
    let alone : lines (end_line (done most)) ≡ end.last ∷ [] = end.parted ∙ ap (λ ls. ls ++ end.last ∷ []) (zip_none (IsEntryLine types) end.firsts end.entries) in
    record {
      firsts = front;
      last = end.last;
      parted =
          ap lines taken ∙ lines_text front (end_line (done most)) (subst HoldNone first (first_lines most (lines text) (hold_none text)))
          ∙ ap (λ ls. front ++ ls) alone;
      entries = zip_take (IsEntryLine types) most r.firsts log.entries r.entries;
      ending = end.ending;
    }

pub keeps_short_logs : KeepsShortLogs
keeps_short_logs types text log most few r =
    let count : length r.firsts ≡ length log.entries = zip_length (IsEntryLine types) r.firsts log.entries r.entries in
    let long : length (lines text) ≡ length r.firsts + 1 = ap length r.parted ∙ length-append r.firsts (r.last ∷ []) in
    let all : take most (lines text) ≡ lines text = take_whole most (lines text) (omega (arith, few, count, long)) in
    let over : nat_lt most (length (lines text)) ≡ false = no_less most (length (lines text)) (omega (arith, few, count, long)) in
    let taken : cut_log most text ≡ text_of (lines text) ++ [] =
    ap (λ ls. text_of ls ++ (if nat_lt most (length (lines text)) then end_line (done most) else [])) all
    ∙ ap (λ (b : Bool). text_of (lines text) ++ (if b then end_line (done most) else [])) over in
    record {
      firsts = r.firsts;
      last = r.last;
      parted = ap lines taken ∙ lines_text (lines text) [] (hold_none text) ∙ append-nil (lines text) ∙ r.parted;
      entries = r.entries;
      ending = r.ending;
    }
