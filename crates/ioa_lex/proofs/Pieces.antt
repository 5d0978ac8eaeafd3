-- At most one piece stands at the front of a text.
use Rattle.std.proofs.Common.{◌≡◌, ℕ, ◌≤◌, ◌<◌, true, false, not, cond, eqb, List, [], ◌∷◌, ◌++◌, length, count_by, refl, sym, ap, ◌∙◌, subst, zero-add, arith}
use Rattle.std.specs.List.{list_all}
use Rattle.std.proofs.lemmas.Bool.Decides.{nat_tests}
use Rattle.std.proofs.lemmas.Bool.{and_parts, both_ways, not-true, eq-eqb}
use Rattle.ioa_lex.specs.Lexing.{is_blank, is_in_line, IsTokenText, Writes, IsLongest, Piece, blank, comment, token, bytes_of, EndsLine, MayStandBefore}
use Rattle.ioa_lex.proofs.Bytes.{is_inner, is_first, none_counted}
use Rattle.ioa_lex.proofs.Texts.{head, head_of_front, text_some, text_first, text_inner, text_of_token, same_token, same_front}

-- a first byte that is neither a blank nor `%`
pub record IsPlain (b : ℕ) : Type 0 where
  pub blank : is_blank b ≡ false
  pub comment : eqb b 37 ≡ false

pub plain : (b : ℕ) → is_first b ≡ true → IsPlain b
plain b h =
    let k = and_parts (not (is_blank b)) (not (eqb b 37)) h in
    record { blank = not-true (is_blank b) k.0; comment = not-true (eqb b 37) k.1 }

-- no blank and no comment begins as a token does
no_blank : (b : ℕ) (w rest : List ℕ) (r : List ℕ) → b ∷ rest ≡ w ++ r → IsTokenText w → is_blank b ≡ true → ⊥
no_blank b w rest r e h is =
    let same : head w ≡ b = head_of_front w r (b ∷ rest) e (text_some w h) in
    let p = plain (head w) (text_first w h) in
    both_ways (is_blank b) (ap is_blank (sym same) ∙ p.blank) is

no_comment : (w rest r : List ℕ) → 37 ∷ rest ≡ w ++ r → IsTokenText w → ⊥
no_comment w rest r e h =
    let same : head w ≡ 37 = head_of_front w r (37 ∷ rest) e (text_some w h) in
    let p = plain (head w) (text_first w h) in
    both_ways (eqb (head w) 37) p.comment (eq-eqb (head w) 37 same)

-- a comment goes on to the end of its line
same_comment : (c d r s : List ℕ) → c ++ r ≡ d ++ s → list_all is_in_line c ≡ true → EndsLine r → list_all is_in_line d ≡ true → EndsLine s → c ≡ d
same_comment [] [] r s e cs re ds se = refl
same_comment [] (b ∷ d) [] s e cs re ds se = absurd (cc)
same_comment [] (b ∷ d) (x ∷ r) s e cs re ds se =
    let same : x ≡ b = cc in
    let k = and_parts (is_in_line b) (list_all is_in_line d) ds in
    absurd (both_ways (eqb b 10) (not-true (eqb b 10) k.0) (eq-eqb b 10 (sym same ∙ re)))
same_comment (b ∷ c) [] r [] e cs re ds se = absurd (cc)
same_comment (b ∷ c) [] r (x ∷ s) e cs re ds se =
    let same : b ≡ x = cc in
    let k = and_parts (is_in_line b) (list_all is_in_line c) cs in
    absurd (both_ways (eqb b 10) (not-true (eqb b 10) k.0) (eq-eqb b 10 (same ∙ se)))
same_comment (b ∷ c) (x ∷ d) r s e cs re ds se =
    let k = and_parts (is_in_line b) (list_all is_in_line c) cs in
    let l = and_parts (is_in_line x) (list_all is_in_line d) ds in
    let rest : c ++ r ≡ d ++ s = cc in
    let more : c ≡ d = same_comment c d r s rest k.1 re l.1 se in
    cc

-- the longest token's text is one
pub same_text : (w v r s : List ℕ) → w ++ r ≡ v ++ s → IsTokenText w → IsLongest w (w ++ r) → IsTokenText v → IsLongest v (v ++ s) → w ≡ v
same_text w v r s e hw lw hv lv =
    let a : length v ≤ length w = lw v s e hv in
    let b : length w ≤ length v = lv w r (sym e) hw in
    let size : length w ≡ length v = omega arith in
    (same_front w v r s e size).0

pub same_piece : (p q : Piece) (r s : List ℕ) → bytes_of p ++ r ≡ bytes_of q ++ s → MayStandBefore p r → MayStandBefore q s → p ≡ q
same_piece (blank b) (blank c) r s e h k = let same : b ≡ c = cc in ap blank same
same_piece (blank b) (comment c) r s e h k = absurd (let same : b ≡ 37 = cc in both_ways (is_blank b) (ap is_blank same) h)
same_piece (blank b) (token w t) r s e h k = absurd (no_blank b w r s e (text_of_token w t k.0) h)
same_piece (comment c) (blank b) r s e h k = absurd (let same : b ≡ 37 = cc in both_ways (is_blank b) (ap is_blank same) k)
same_piece (comment c) (comment d) r s e h k =
    let rest : c ++ r ≡ d ++ s = cc in
    ap comment (same_comment c d r s rest h.0 h.1 k.0 k.1)
same_piece (comment c) (token w t) r s e h k = absurd (no_comment w (c ++ r) s e (text_of_token w t k.0))
same_piece (token w t) (blank b) r s e h k = absurd (no_blank b w s r (sym e) (text_of_token w t h.0) k)
same_piece (token w t) (comment c) r s e h k = absurd (no_comment w (c ++ s) r (sym e) (text_of_token w t h.0))
same_piece (token w t) (token v u) r s e h k =
    let text : w ≡ v = same_text w v r s e (text_of_token w t h.0) h.1 (text_of_token v u k.0) k.1 in
    let kept : Writes v t = subst (λ x. Writes x t) text h.0 in
    let what : t ≡ u = same_token v t u kept k.0 in
    cc

-- of the bytes of a piece only a blank may end a line
no_line : (b : ℕ) → is_blank b ≡ false → eqb b 10 ≡ false
no_line b h = grind (arith, nat_tests)

pub lines_of : (p : Piece) (rest : List ℕ) → MayStandBefore p rest → count_by (λ b. eqb b 10) (bytes_of p) ≡ cond (eqb (head (bytes_of p)) 10) 1 0
lines_of (blank b) rest h = zero-add (cond (eqb b 10) 1 0)
lines_of (comment c) rest h = none_counted (λ b. eqb b 10) is_in_line (λ b k. not-true (eqb b 10) k) (37 ∷ c) h.0
lines_of (token w t) rest h =
    let it = text_of_token w t h.0 in
    let none : count_by (λ b. eqb b 10) w ≡ 0 = none_counted (λ b. eqb b 10) is_inner (λ b k. no_line b (not-true (is_blank b) k)) w (text_inner w it) in
    let first : eqb (head w) 10 ≡ false = no_line (head w) (plain (head w) (text_first w it)).blank in
    rw first none

pub piece_some : (p : Piece) (rest : List ℕ) → MayStandBefore p rest → 0 < length (bytes_of p)
piece_some (blank b) rest h = omega arith
piece_some (comment c) rest h = omega arith
piece_some (token w t) rest h = text_some w (text_of_token w t h.0)
