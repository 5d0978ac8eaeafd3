-- What is done in the words of sequences.
use Rattle.std.proofs.Common.{◌≡◌, ℕ, suc, ◌+◌, ◌-◌, ◌*◌, ◌<◌, ◌≤◌, ℤ, pos, true, cond, nat_lt, Ok, List, [], ◌∷◌, ◌++◌, length, take, drop, set, get_or, Some, refl, sym, ap, ap₂, subst, ◌∙◌, arith}
use Rattle.std.specs.List.{position_from}
use Rattle.std.proofs.Math.Nat.{suc-mul}
use Rattle.std.proofs.lemmas.Bool.{lt-ltb}
use Rattle.std.proofs.lemmas.List.{drop-drop, drop-take, take-take, take_at, take_all, append_assoc, length-append, length-drop, length-take-le, take-append-drop, drop-append-le, drop_more, set_split}
use Rattle.ioa_sequences.specs.Sequences.{zeros, part_of, same_words, pieces, item_count, appended, longer, removed, closed, Makes}

pub set_front : (ws : List ℤ) (w : ℤ) → 0 < length ws → set ws 0 w ≡ w ∷ drop 1 ws
set_front [] w lt = absurd (omega arith)
set_front (x ∷ ws) w lt = refl

-- the items from the place on that a search has come to
pub place_turn : (us ws : List ℤ) (width n i : ℕ) → i < n → position_from (same_words us) i (pieces width (n - i) (drop (1 + i * width) ws)) ≡ cond (same_words us (part_of (1 + i * width) width ws)) (Some i) (position_from (same_words us) (i + 1) (pieces width (n - (i + 1)) (drop (1 + (i + 1) * width) ws)))
place_turn us ws width n i lt =
    let left : n - i ≡ suc (n - (i + 1)) = omega arith in
    let further : 1 + i * width + width ≡ 1 + (i + 1) * width = (let m = suc-mul i width in let u : (i + 1) * width ≡ suc i * width = ap (λ k. k * width) (let p : i + 1 ≡ suc i = omega arith in p) in omega (arith, m, u)) in
    ap (λ k. position_from (same_words us) i (pieces width k (drop (1 + i * width) ws))) left
    ∙ ap (λ l. cond (same_words us (part_of (1 + i * width) width ws)) (Some i) (position_from (same_words us) (i + 1) (pieces width (n - (i + 1)) l))) (drop-drop width (1 + i * width) ws ∙ ap (λ k. drop k ws) further)

-- an item that is put behind the others
module _ (ws new : List ℤ) (y : ℤ) (n width size : ℕ) (whole : length ws ≡ size + width) (count : n ≡ item_count (take size ws)) (fits : 1 + n * width + width ≤ size) (more : y ≡ pos (n + 1)) where
  abbrev q : List ℤ
  q = take size ws

  abbrev us : List ℤ
  us = drop size ws

  abbrev from : ℕ
  from = 1 + n * width

  item_long : length us ≡ width
  item_long = let l = length-drop size ws in omega (arith, l, whole)

  row_long : length q ≡ size
  row_long = length-take-le size ws (omega (arith, whole))

  -- what stands in front, behind the length
  front : drop 1 (take from ws) ≡ part_of 1 (n * width) q
  front = ap (drop 1) (sym (take-take from size ws (omega (arith, fits)))) ∙ drop-take 1 (n * width) q

  -- what stands behind
  rear : drop (from + width) ws ≡ drop (from + width) q ++ us
  rear =
      ap (drop (from + width)) (sym (take-append-drop size ws)) ∙ drop-append-le (from + width) q us (omega (arith, row_long, fits))

  set_within : (xs zs : List ℤ) → 0 < length xs → set (xs ++ zs) 0 y ≡ (y ∷ drop 1 xs) ++ zs
  set_within [] zs lt = absurd (omega arith)
  set_within (x ∷ xs) zs lt = refl

  pub put_makes : new ≡ set (take from ws ++ part_of size width ws ++ drop (from + width) ws) 0 y → Makes (Ok size) new (appended us q)
  put_makes e = subst (λ r. Makes (Ok size) new r) (sym (appended_so ∙ ap Ok longer_is)) (let l = ap length is in let m = length-append body us in omega (arith, l, m, long), ap (take size) is ∙ take_at body us size long)
    where
      item : part_of size width ws ≡ us
      item = take_all width us (omega (arith, item_long))

      body : List ℤ
      body = (y ∷ drop 1 (take from ws)) ++ us ++ drop (from + width) q

      is : new ≡ body ++ us
      is =
          let front_long = length-take-le from ws (omega (arith, whole, fits)) in
          let tail = us ++ (drop (from + width) q ++ us) in
          e ∙ ap₂ (λ a b. set (take from ws ++ a ++ b) 0 y) item rear
          ∙ ap (λ l. set l 0 y) (append_assoc (take from ws) us (drop (from + width) q ++ us))
          ∙ set_within (take from ws) tail (omega (arith, front_long))
          ∙ sym (append_assoc (y ∷ drop 1 (take from ws)) us (drop (from + width) q ++ us)) ∙ sym (append_assoc ((y ∷ drop 1 (take from ws)) ++ us) (drop (from + width) q) us)

      long : length body ≡ size
      long =
          let a = length-append ((y ∷ drop 1 (take from ws)) ++ us) (drop (from + width) q) in
          let b = length-append (y ∷ drop 1 (take from ws)) us in
          let c = length-drop 1 (take from ws) in
          let d = length-take-le from ws (omega (arith, whole, fits)) in
          let f = length-drop (from + width) q in
          omega (arith, a, b, c, d, f, row_long, item_long, fits)

      longer_is : longer us q ≡ body
      longer_is =
          ap₂ (λ k (p : ℕ × ℕ). pos (k + 1) ∷ part_of 1 p.0 q ++ us ++ drop p.1 q) (sym count)
          (ap₂ (λ k w. (k * w, 1 + k * w + w)) (sym count) item_long)
          ∙ ap₂ (λ z l. z ∷ l ++ us ++ drop (from + width) q) (sym more) (sym front)

      appended_so : appended us q ≡ Ok (longer us q)
      appended_so =
          let t : item_count q * length us + length us ≡ n * width + width = ap₂ (λ k w. k * w + w) (sym count) item_long in
          let b : nat_lt (item_count q * length us + length us) (length q) ≡ true = ap₂ nat_lt t row_long ∙ lt-ltb (n * width + width) size (omega (arith, fits)) in
          rw b refl

-- ---- an item that goes

front_some : (ws : List ℤ) (m : ℕ) → 0 < length ws → 0 < length (take (1 + m) ws)
front_some [] m lt = absurd (omega arith)
front_some (x ∷ xs) m lt = let u : suc m ≡ 1 + m = omega arith in subst (λ k. 0 < length (take k (x ∷ xs))) u (omega arith)

closed_some : (ws : List ℤ) (width m end : ℕ) → 0 < length ws → 0 < length (closed width (1 + m) end ws)
closed_some ws width m end lt =
    let from = 1 + m in
    let a = take from ws in
    let b = part_of (from + width) (end - (from + width)) ws in
    let f = front_some ws m lt in
    let u = length-append a b in
    let v = length-append (a ++ b) (zeros width) in
    let w = length-append (a ++ b ++ zeros width) (drop end ws) in
    omega (arith, f, u, v, w)

pub removed_is : (ws new : List ℤ) (r : ℤ) (n width i : ℕ) → n ≡ item_count ws → 0 < length ws → new ≡ closed width (1 + i * width) (1 + n * width) ws → r ≡ pos (n - 1) → set new 0 r ≡ removed width i ws
removed_is ws new r n width i count some e f =
    ap₂ (λ l z. set l 0 z) e f
    ∙ set_front (closed width (1 + i * width) (1 + n * width) ws) (pos (n - 1)) (closed_some ws width (i * width) (1 + n * width) some)
    ∙ ap (λ k. pos (k - 1) ∷ drop 1 (closed width (1 + i * width) (1 + k * width) ws)) count

-- ---- a row of one word

pub word_put : (ws : List ℤ) (n size : ℕ) → length ws ≡ size + 1 → 1 + n < size → set ws (1 + n) (get_or ws size (pos 0)) ≡ take (1 + n * 1) ws ++ part_of size 1 ws ++ drop (1 + n * 1 + 1) ws
word_put ws n size whole lt =
    let x = get_or ws size (pos 0) in
    let at : 1 + n ≡ 1 + n * 1 = omega arith in
    let past : suc (1 + n) ≡ 1 + n * 1 + 1 = omega arith in
    let last : part_of size 1 ws ≡ x ∷ [] = ap (take 1) (drop_more ws size (pos 0) (omega (arith, whole))) in
    set_split ws (1 + n) x (omega (arith, whole, lt))
    ∙ sym (append_assoc (take (1 + n) ws) (x ∷ []) (drop (suc (1 + n)) ws))
    ∙ ap₂ (λ a b. take a ws ++ x ∷ [] ++ drop b ws) at past
    ∙ ap (λ l. take (1 + n * 1) ws ++ l ++ drop (1 + n * 1 + 1) ws) (sym last)
