-- A list text has one list of actions, or one first bad line.
use Rattle.std.proofs.Common.{◌≡◌, ℕ, suc, ◌+◌, List, [], ◌∷◌, ◌++◌, length, All, refl, sym, ap, ap₂, subst, ◌∙◌, inl, inr}
use Rattle.std.proofs.lemmas.List.Elements.{All-head, All-tail, All-same}
use Rattle.ioa_value.specs.Table.{Table, AreTypes}
use Rattle.ioa_value.specs.Actions.{Act}
use Rattle.ioa_value.specs.Lists.{lines, ReadsLines, ReadsList, IsLine, BadLine}
use Rattle.ioa_value.proofs.OnceLemmas.{reads_once}
use Rattle.ioa_value.proofs.SkippedLemmas.{unread}
use Rattle.ioa_value.proofs.ListLemmas.{good}

pub lines_once : (types : Table) → AreTypes types → (ls : List (List ℕ)) (xs ys : List Act) → ReadsLines types ls xs → ReadsLines types ls ys → xs ≡ ys
lines_once types declared [] xs ys r s = r ∙ sym s
lines_once types declared (l ∷ ls) xs ys (inl r) (inl s) = lines_once types declared ls xs ys r.1 s.1
lines_once types declared (l ∷ ls) xs ys (inl r) (inr (b, more, h, m, e)) = absurd (unread types l b r.0 h)
lines_once types declared (l ∷ ls) xs ys (inr (a, more, h, m, e)) (inl s) = absurd (unread types l a s.0 h)
lines_once types declared (l ∷ ls) xs ys (inr (a, more, h, m, e)) (inr (b, rest, k, n, f)) =
    e ∙ ap₂ (λ z zs. z ∷ zs) (reads_once types declared l a b h k) (lines_once types declared ls more rest m n) ∙ sym f

within : (types : Table) (before after : List (List ℕ)) (l : List ℕ) → All (IsLine types) (before ++ l ∷ after) → IsLine types l
within types [] after l h = All-head (IsLine types) l after h
within types (k ∷ before) after l h = within types before after l (All-tail (IsLine types) k (before ++ l ∷ after) h)

pub no_bad_line : (types : Table) (text : List ℕ) (acts : List Act) (n : ℕ) → ReadsList types text acts → BadLine types text n → ⊥
no_bad_line types text acts n r (before, bad, after, h, none, whole, e) =
    none (within types before after bad (All-same (IsLine types) (before ++ bad ∷ after) (lines text) (sym whole) (good types (lines text) acts r)))

one_place : (types : Table) (bs cs ds es : List (List ℕ)) (b c : List ℕ) → All (IsLine types) bs → All (IsLine types) cs → (IsLine types b → ⊥) → (IsLine types c → ⊥) → bs ++ b ∷ ds ≡ cs ++ c ∷ es → length bs ≡ length cs
one_place types [] [] ds es b c g h m n e = refl
one_place types [] (y ∷ cs) ds es b c g h m n e =
    let k : b ≡ y = cc in
    absurd (m (subst (IsLine types) (sym k) (All-head (IsLine types) y cs h)))
one_place types (x ∷ bs) [] ds es b c g h m n e =
    let k : x ≡ c = cc in
    absurd (n (subst (IsLine types) k (All-head (IsLine types) x bs g)))
one_place types (x ∷ bs) (y ∷ cs) ds es b c g h m n e =
    let k : bs ++ b ∷ ds ≡ cs ++ c ∷ es = cc in
    ap suc (one_place types bs cs ds es b c (All-tail (IsLine types) x bs g) (All-tail (IsLine types) y cs h) m n k)

pub one_bad_line : (types : Table) (text : List ℕ) (m n : ℕ) → BadLine types text m → BadLine types text n → m ≡ n
one_bad_line types text m n (bs, b, ds, g, p, e, i) (cs, c, es, h, q, f, j) =
    i ∙ ap (λ k. k + 1) (one_place types bs cs ds es b c g h p q (sym e ∙ f)) ∙ sym j
