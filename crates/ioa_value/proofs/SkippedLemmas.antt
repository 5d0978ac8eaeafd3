-- A line that is skipped is no action's text.
use Rattle.std.proofs.Common.{◌≡◌, ◌⊎◌, ℕ, Bool, true, false, ◌||◌, ◌==◌, List, [], ◌∷◌, length, refl, sym, ap, ◌∙◌, append-nil, arith, inl, inr}
use Rattle.std.specs.List.{list_all}
use Rattle.std.proofs.lemmas.Bool.{false≢true}
use Rattle.std.proofs.lemmas.Bool.Decides.{nat_tests}
use Rattle.ioa_value.specs.Table.{Table}
use Rattle.ioa_value.specs.Actions.{Act}
use Rattle.ioa_value.specs.Names.{begins_with_letter}
use Rattle.ioa_value.specs.Reads.{is_blank, Reads}
use Rattle.ioa_value.specs.Tokens.{after_blanks, word, first_word}
use Rattle.ioa_value.specs.Lists.{begins_comment, is_skipped}
use Rattle.ioa_value.proofs.TokenLemmas.{skip}
use Rattle.ioa_value.proofs.SpellLemmas.{name_is_word, begins_name}
use Rattle.ioa_value.proofs.ActionLemmas.{named}

blank_unread : (types : Table) (l : List ℕ) (a : Act) → list_all is_blank l ≡ true → Reads types l a → ⊥
blank_unread types l a b r =
    let n = named types l a r in
    let none : first_word l ≡ [] = ap word (ap after_blanks (sym (append-nil l)) ∙ skip l [] b) in
    let e : 0 ≡ length a.name = ap length (sym none ∙ n.name) in
    omega (arith, (name_is_word a.name n.legal).long)

percent : (b : ℕ) → (b == 37) ≡ true → b ≡ 37
percent b e = grind (arith, nat_tests)

comment_unread : (types : Table) (l : List ℕ) (a : Act) → begins_comment l ≡ true → Reads types l a → ⊥
comment_unread types [] a c r = false≢true c
comment_unread types (b ∷ bs) a c r =
    let n = named types (b ∷ bs) a r in
    let e : first_word (37 ∷ bs) ≡ a.name = ap (λ x. first_word (x ∷ bs)) (sym (percent b c)) ∙ n.name in
    let no : false ≡ begins_with_letter a.name = ap begins_with_letter e in
    false≢true (no ∙ begins_name a.name n.legal)

either : (b c : Bool) → b || c ≡ true → (b ≡ true) ⊎ (c ≡ true)
either true c e = inl refl
either false c e = inr e

pub unread : (types : Table) (l : List ℕ) (a : Act) → is_skipped l ≡ true → Reads types l a → ⊥
unread types l a s r = by_case (either (list_all is_blank l) (begins_comment l) s)
  where
    by_case : (list_all is_blank l ≡ true) ⊎ (begins_comment l ≡ true) → ⊥
    by_case (inl b) = blank_unread types l a b r
    by_case (inr c) = comment_unread types l a c r
