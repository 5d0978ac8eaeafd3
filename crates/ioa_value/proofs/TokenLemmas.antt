-- A padded word is found again at the front of a text.
use Rattle.std.proofs.Common.{◌≡◌, ℕ, ◌<◌, Bool, true, false, not, ◌||◌, List, [], ◌∷◌, ◌++◌, length, refl, sym, ap, ◌∙◌, append_assoc, append-nil, length-append, arith}
use Rattle.std.specs.List.{list_all}
use Rattle.ioa_value.specs.Reads.{is_blank, IsBlank, Padded}
use Rattle.ioa_value.specs.Tokens.{is_mark, is_inside, after_blanks, word, after_word, first_word, after_first}
use Rattle.std.proofs.lemmas.Bool.{and_parts}

-- one byte or more, and no blank and no mark
pub record IsWord (w : List ℕ) : Type 0 where
  pub long : 0 < length w
  pub inside : list_all is_inside w ≡ true

-- where neither a blank nor a word begins
pub record IsEnd (text : List ℕ) : Type 0 where
  pub no_blank : after_blanks text ≡ text
  pub no_word : word text ≡ []
  pub stays : after_word text ≡ text

not_blank : (m b : Bool) → not (b || m) ≡ true → b ≡ false
not_blank m true e = absurd (cc)
not_blank m false e = refl

not_inside : (m b : Bool) → b ≡ true → not (b || m) ≡ false
not_inside m b e = rw e refl

pub skip : (before rest : List ℕ) → list_all is_blank before ≡ true → after_blanks (before ++ rest) ≡ after_blanks rest
skip [] rest e = refl
skip (b ∷ bs) rest e =
    let p = and_parts (is_blank b) (list_all is_blank bs) e in
    rw p.0 (skip bs rest p.1)

keep : (w rest : List ℕ) → IsWord w → after_blanks (w ++ rest) ≡ w ++ rest
keep [] rest h = absurd (omega (arith, h.long))
keep (b ∷ bs) rest h =
    let p = and_parts (is_inside b) (list_all is_inside bs) h.inside in
    let q : is_blank b ≡ false = not_blank (is_mark b) (is_blank b) p.0 in
    rw q refl

in_word : (w rest : List ℕ) → list_all is_inside w ≡ true → word (w ++ rest) ≡ w ++ word rest
in_word [] rest e = refl
in_word (b ∷ bs) rest e =
    let p = and_parts (is_inside b) (list_all is_inside bs) e in
    rw p.0 (ap (λ l. b ∷ l) (in_word bs rest p.1))

past_word : (w rest : List ℕ) → list_all is_inside w ≡ true → after_word (w ++ rest) ≡ after_word rest
past_word [] rest e = refl
past_word (b ∷ bs) rest e =
    let p = and_parts (is_inside b) (list_all is_inside bs) e in
    rw p.0 (past_word bs rest p.1)

no_word_in : (after rest : List ℕ) → list_all is_blank after ≡ true → IsEnd rest → word (after ++ rest) ≡ []
no_word_in [] rest e h = h.no_word
no_word_in (b ∷ bs) rest e h =
    let p = and_parts (is_blank b) (list_all is_blank bs) e in
    let q : is_inside b ≡ false = not_inside (is_mark b) (is_blank b) p.0 in
    rw q refl

stays_in : (after rest : List ℕ) → list_all is_blank after ≡ true → IsEnd rest → after_word (after ++ rest) ≡ after ++ rest
stays_in [] rest e h = h.stays
stays_in (b ∷ bs) rest e h =
    let p = and_parts (is_blank b) (list_all is_blank bs) e in
    let q : is_inside b ≡ false = not_inside (is_mark b) (is_blank b) p.0 in
    rw q refl

regroup : (a w b rest : List ℕ) → (a ++ (w ++ b)) ++ rest ≡ a ++ (w ++ (b ++ rest))
regroup a w b rest = append_assoc a (w ++ b) rest ∙ ap (λ l. a ++ l) (append_assoc w b rest)

reaches : (w first rest : List ℕ) (before after : List ℕ) → IsWord w → list_all is_blank before ≡ true → first ≡ before ++ (w ++ after) → after_blanks (first ++ rest) ≡ w ++ (after ++ rest)
reaches w first rest before after h b e =
    ap (λ l. after_blanks (l ++ rest)) e ∙ ap after_blanks (regroup before w after rest) ∙ skip before (w ++ (after ++ rest)) b ∙ keep w (after ++ rest) h

pub finds_word : (w first rest : List ℕ) → IsWord w → Padded w first → IsEnd rest → first_word (first ++ rest) ≡ w
finds_word w first rest h (before, after, b, a, e) end =
    ap word (reaches w first rest before after h b e) ∙ in_word w (after ++ rest) h.inside ∙ ap (λ l. w ++ l) (no_word_in after rest a end) ∙ append-nil w

pub finds_rest : (w first rest : List ℕ) → IsWord w → Padded w first → IsEnd rest → after_first (first ++ rest) ≡ rest
finds_rest w first rest h (before, after, b, a, e) end =
    ap (λ l. after_blanks (after_word l)) (reaches w first rest before after h b e)
    ∙ ap after_blanks (past_word w (after ++ rest) h.inside ∙ stays_in after rest a end) ∙ skip after rest a ∙ end.no_blank

abbrev pub Blanks : List ℕ → Type 0
Blanks text = (before : List ℕ) × IsBlank before × (text ≡ before ++ after_blanks text)

one_blank : (b : ℕ) (bs : List ℕ) → Blanks bs → (t : Bool) → is_blank b ≡ t → Blanks (b ∷ bs)
one_blank b bs r true e = (b ∷ r.0, rw e r.1, rw e (ap (λ l. b ∷ l) r.2))
one_blank b bs r false e = ([], refl, rw e refl)

-- the text is its blanks, and what follows
pub blanks : (text : List ℕ) → Blanks text
blanks [] = ([], refl, refl)
blanks (b ∷ bs) = one_blank b bs (blanks bs) (is_blank b) refl

one_byte : (b : ℕ) (bs : List ℕ) → bs ≡ word bs ++ after_word bs → (t : Bool) → is_inside b ≡ t → b ∷ bs ≡ word (b ∷ bs) ++ after_word (b ∷ bs)
one_byte b bs r true e = rw e (ap (λ l. b ∷ l) r)
one_byte b bs r false e = rw e refl

words : (text : List ℕ) → text ≡ word text ++ after_word text
words [] = refl
words (b ∷ bs) = one_byte b bs (words bs) (is_inside b) refl

-- the front of a text is its first word, padded
pub front : (text : List ℕ) → (first : List ℕ) × Padded (first_word text) first × (text ≡ first ++ after_first text)
front text =
    let b = blanks text in
    let a = blanks (after_word (after_blanks text)) in
    let w = first_word text in
    let whole : text ≡ b.0 ++ (w ++ (a.0 ++ after_first text)) =
    b.2 ∙ ap (λ l. b.0 ++ l) (words (after_blanks text)) ∙ ap (λ l. b.0 ++ (w ++ l)) a.2 in
    (b.0 ++ (w ++ a.0), (b.0, a.0, b.1, a.1, refl), whole ∙ sym (regroup b.0 w a.0 (after_first text)))

pub shorter : (text : List ℕ) (b : ℕ) (rest : List ℕ) → after_first text ≡ b ∷ rest → length rest < length text
shorter text b rest e =
    let f = front text in
    let w : length text ≡ length (f.0 ++ (b ∷ rest)) = ap length (f.2 ∙ ap (λ l. f.0 ++ l) e) in
    omega (arith, w, length-append f.0 (b ∷ rest))
