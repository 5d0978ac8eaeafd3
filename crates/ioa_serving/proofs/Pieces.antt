-- Texts that are written in pieces, of which the device may take all, or fail within one.
use Rattle.std.proofs.Common.{◌≡◌, ◌++◌, ◌∙◌, ℕ, List, [], Option, ap, append_assoc, append-nil, drop, length, subst, sym, take}
use Rattle.std.proofs.Math.Seq.{take-append_seam}
use Rattle.std.proofs.lemmas.List.{take-append-drop}
use Rattle.std.specs.Io.KnownBytes.{Appends}
use Rattle.std.proofs.KnownBytes.{Appends-trans}

-- a beginning of a text begins what goes on behind it
seam : (xs ys rest : List ℕ) (k : ℕ) → xs ++ (ys ++ rest) ≡ (xs ++ take k ys) ++ (drop k ys ++ rest)
seam xs ys rest k =
    ap (λ zs. xs ++ (zs ++ rest)) (sym (take-append-drop k ys)) ∙ ap (λ zs. xs ++ zs) (append_assoc (take k ys) (drop k ys) rest) ∙ sym (append_assoc xs (take k ys) (drop k ys ++ rest))

-- the device took one piece, and a beginning of the next one
pub begun_next : (before mid after : Option (List ℕ)) (xs ys rest : List ℕ) → Appends before mid xs → (k : ℕ) × Appends mid after (take k ys)
    → (n : ℕ) × Appends before after (take n (xs ++ (ys ++ rest)))
begun_next before mid after xs ys rest first next =
    let taken : List ℕ = xs ++ take next.0 ys in (
      length taken,
      subst (Appends before after) (sym (ap (take (length taken)) (seam xs ys rest next.0) ∙ take-append_seam taken (drop next.0 ys ++ rest)))
          (Appends-trans before mid after xs (take next.0 ys) first next.1),
    )

-- of two pieces
pub begun_last : (before mid after : Option (List ℕ)) (xs ys : List ℕ) → Appends before mid xs → (k : ℕ) × Appends mid after (take k ys) → (n : ℕ) × Appends before after (take n (xs ++ ys))
begun_last before mid after xs ys first next =
    let b = begun_next before mid after xs ys [] first next in
    (b.0, subst (λ zs. Appends before after (take b.0 (xs ++ zs))) (append-nil ys) b.1)

-- it took a beginning of the first
pub begun_first : (before after : Option (List ℕ)) (xs rest : List ℕ) → (k : ℕ) × Appends before after (take k xs) → (n : ℕ) × Appends before after (take n (xs ++ rest))
begun_first before after xs rest first =
    let taken : List ℕ = take first.0 xs in (
      length taken,
      subst (Appends before after) (sym (ap (take (length taken)) (seam [] xs rest first.0) ∙ take-append_seam taken (drop first.0 xs ++ rest))) first.1,
    )
