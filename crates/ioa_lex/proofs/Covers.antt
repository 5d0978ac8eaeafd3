-- A text is cut into pieces in one way, as far as that goes.
use Rattle.std.proofs.Common.{◌≡◌, ℕ, List, [], ◌∷◌, ◌++◌, length, refl, sym, ap, ◌∙◌, subst, append_assoc, arith}
use Rattle.std.specs.List.{flat_map}
use Rattle.std.proofs.lemmas.List.{append_cancel_left, append-nil, length-append}
use Rattle.ioa_lex.specs.Tokens.{Tok}
use Rattle.ioa_lex.specs.Lexing.{Piece, blank, comment, token, bytes_of, MayStandBefore, Covers, NoneStands, line_after, tokens_after, Lexes, StopsOn}
use Rattle.ioa_lex.proofs.Pieces.{same_piece, piece_some}

pub none_of_nothing : NoneStands []
none_of_nothing p rest e h = omega (arith, piece_some p rest h, ap length e, length-append (bytes_of p) rest)

-- the pieces of a text, up to a place where none stands
pub same_pieces : (ps qs : List Piece) (text r s : List ℕ) → Covers ps text r → NoneStands r → Covers qs text s → NoneStands s → (ps ≡ qs) × (r ≡ s)
same_pieces [] [] text r s h none k stop = (refl, sym h ∙ k)
same_pieces [] (q ∷ qs) text r s h none k stop = absurd (none q k.0 (sym h ∙ k.1) k.2)
same_pieces (p ∷ ps) [] text r s h none k stop = absurd (stop p h.0 (sym k ∙ h.1) h.2)
same_pieces (p ∷ ps) (q ∷ qs) text r s h none k stop =
    let same : p ≡ q = same_piece p q h.0 k.0 (sym h.1 ∙ k.1) h.2 k.2 in
    let both : bytes_of p ++ h.0 ≡ bytes_of p ++ k.0 = sym h.1 ∙ k.1 ∙ ap (λ x. bytes_of x ++ k.0) (sym same) in
    let rest : h.0 ≡ k.0 = append_cancel_left (bytes_of p) h.0 k.0 both in
    let more = same_pieces ps qs h.0 r s h.3 none (subst (λ x. Covers qs x s) (sym rest) k.3) stop in
    let others : ps ≡ qs = more.0 in
    (cc, more.1)

pub same_tokens : (text : List ℕ) (ts us : List (Tok × ℕ)) → Lexes text ts → Lexes text us → ts ≡ us
same_tokens text ts us h k =
    let ps = (same_pieces h.0 k.0 text [] [] h.1 none_of_nothing k.1 none_of_nothing).0 in
    h.2 ∙ ap (tokens_after []) ps ∙ sym k.2

pub same_stop : (text : List ℕ) (m n : ℕ) → StopsOn text m → StopsOn text n → m ≡ n
same_stop text m n h k =
    let ps = (same_pieces h.0 k.0 text h.1 k.1 h.2 h.4 k.2 k.4).0 in
    h.5 ∙ ap (λ x. line_after (flat_map bytes_of x)) ps ∙ sym k.5

pub stops_or_lexes : (text : List ℕ) (ts : List (Tok × ℕ)) (n : ℕ) → Lexes text ts → StopsOn text n → ⊥
stops_or_lexes text ts n h k = k.3 (sym (same_pieces h.0 k.0 text [] k.1 h.1 none_of_nothing k.2 k.4).1)

-- one more piece
pub covers_more : (ps : List Piece) (text rest next : List ℕ) (p : Piece) → Covers ps text rest → rest ≡ bytes_of p ++ next → MayStandBefore p next → Covers (ps ++ p ∷ []) text next
covers_more [] text rest next p h e k = (next, h ∙ e, k, refl)
covers_more (q ∷ ps) text rest next p h e k = (h.0, h.1, h.2, covers_more ps h.0 rest next p h.3 e k)

pub covers_front : (ps : List Piece) (text rest : List ℕ) → Covers ps text rest → text ≡ flat_map bytes_of ps ++ rest
covers_front [] text rest h = h
covers_front (p ∷ ps) text rest h =
    let more : h.0 ≡ flat_map bytes_of ps ++ rest = covers_front ps h.0 rest h.3 in
    h.1 ∙ ap (λ x. bytes_of p ++ x) more ∙ sym (append_assoc (bytes_of p) (flat_map bytes_of ps) rest)

pub tokens_more : (ps : List Piece) (before : List ℕ) (p : Piece) → tokens_after before (ps ++ p ∷ []) ≡ tokens_after before ps ++ tokens_after (before ++ flat_map bytes_of ps) (p ∷ [])
tokens_more [] before p = rw append-nil refl
tokens_more (blank b ∷ ps) before p = rw (← append_assoc) (tokens_more ps (before ++ b ∷ []) p)
tokens_more (comment c ∷ ps) before p = rw (← append_assoc) (tokens_more ps (before ++ 37 ∷ c) p)
tokens_more (token w t ∷ ps) before p = ap (λ x. (t, line_after before) ∷ x) (rw (← append_assoc) (tokens_more ps (before ++ w) p))
