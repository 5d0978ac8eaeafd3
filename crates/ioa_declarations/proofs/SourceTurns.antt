-- One turn of the loop that reads a source.
use Rattle.std.proofs.Common.{◌≡◌, ℕ, zero, suc, ◌+◌, ◌-◌, ◌<◌, ◌≤◌, List, [], ◌∷◌, ◌++◌, length, refl, sym, ap, ◌∙◌, arith, subst, Result, Ok, Err}
use Rattle.std.proofs.lemmas.List.{length-map, map_push}
use Rattle.ioa_lex.specs.Tokens.{Tok, tokens_shown, kind_shown}
use Rattle.ioa_lex.specs.declared.token.Token.{Token}
use Rattle.ioa_lex.specs.declared.refusal.Refusal.{Refusal}
use Rattle.ioa_tree.specs.declared.tree.Declaration.{Declaration}
use Rattle.ioa_tree.specs.Tree.{SourceTree}
use Rattle.ioa_tree.specs.View.{declaration_of, tree_of}
use Rattle.ioa_grammar.specs.declared.fault.Fault.{Fault}
use Rattle.ioa_grammar.specs.declared.fault.Fault.TheVariants.{Syntax, TooDeep}
use Rattle.ioa_grammar.specs.declared.fault.ReadError.{ReadError}
use Rattle.ioa_grammar.specs.declared.fault.ReadError.TheVariants as errors
use Rattle.ioa_grammar.specs.Reading.{Fails, source_from, declared_by, declaration, refusal_of, RefusedBy, Refuses}

positive_of : (n : ℕ) → (n ≡ 0 → ⊥) → 0 < n
positive_of zero h = absurd (h refl)
positive_of (suc n) h = omega arith

none_left : (tokens : List Token) → length tokens ≡ 0 → tokens_shown tokens ≡ []
none_left [] none = refl
none_left (t ∷ ts) none = absurd (omega (arith, none))

module _ (depth : ℕ) (lines : ℕ → ℕ) where
  source_none : (n : ℕ) (found : SourceTree) → source_from depth lines n found [] ≡ Ok found
  unfolding source_from
  source_none zero found = refl
  source_none (suc n) found = refl

  pub source_end : (n first : ℕ) (found : SourceTree) (tokens : List Token) → first ≡ length tokens → first ≡ 0 → source_from depth lines n found (tokens_shown tokens) ≡ Ok found
  source_end n first found tokens is none = ap (source_from depth lines n found) (none_left tokens (sym is ∙ none)) ∙ source_none n found

  pub source_spent : (count turn : ℕ) (found : SourceTree) (ts : List Tok) → count ≤ turn → source_from depth lines (count - turn) found ts ≡ Ok found
  unfolding source_from
  source_spent count turn found ts done = let e : count - turn ≡ 0 = omega arith in ap (λ n. source_from depth lines n found ts) e ∙ spent ts
    where
      spent : (ts : List Tok) → source_from depth lines 0 found ts ≡ Ok found
      spent [] = refl
      spent (x ∷ ts) = refl

  step_by : (n : ℕ) (found : SourceTree) (tokens : List Token) → 0 < length tokens →
      source_from depth lines (suc n) found (tokens_shown tokens) ≡ declared_by depth lines (λ d left. source_from depth lines n (found ++ d ∷ []) left) (length tokens) (declaration depth (tokens_shown tokens))
  unfolding source_from
  step_by n found [] some = absurd (omega arith)
  step_by n found (t ∷ ts) some =
      ap (λ m. declared_by depth lines (λ d left. source_from depth lines n (found ++ d ∷ []) left) (suc m) (declaration depth (tokens_shown (t ∷ ts)))) (length-map ts (λ t. kind_shown t.kind))

  pub source_turn : (count turn first : ℕ) (found all : List Declaration) (tokens : List Token) (left : List Tok) (d : Declaration) → turn < count → first ≡ length tokens → (first ≡ 0 → ⊥) →
      declaration depth (tokens_shown tokens) ≡ Ok (declaration_of d, left) → all ≡ found ++ d ∷ [] →
      source_from depth lines (count - (turn + 1)) (tree_of all) left ≡ source_from depth lines (count - turn) (tree_of found) (tokens_shown tokens)
  source_turn count turn first found all tokens left d early is some read pushed =
      let e : count - turn ≡ suc (count - (turn + 1)) = omega arith in
      let positive : 0 < length tokens = positive_of (length tokens) (λ none. some (is ∙ none)) in
      ap (λ r. source_from depth lines (count - (turn + 1)) r left) (ap tree_of pushed ∙ map_push declaration_of found d)
      ∙ sym (ap (λ n. source_from depth lines n (tree_of found) (tokens_shown tokens)) e ∙ step_by (count - (turn + 1)) (tree_of found) tokens positive
      ∙ ap (declared_by depth lines (λ d left. source_from depth lines (count - (turn + 1)) (tree_of found ++ d ∷ []) left) (length tokens)) read)

  pub source_fail : (count turn first : ℕ) (found : SourceTree) (tokens : List Token) (e : ReadError) (r : Refusal) → turn < count → first ≡ length tokens → (first ≡ 0 → ⊥) →
      Fails e (declaration depth (tokens_shown tokens)) → RefusedBy lines first e r → Refuses r (source_from depth lines (count - turn) found (tokens_shown tokens))
  source_fail count turn first found tokens errors.OutOfMemory r early is some failed refused = subst (λ r. Refuses r (source_from depth lines (count - turn) found (tokens_shown tokens))) (sym refused) tt
  source_fail count turn first found tokens (errors.Fault f) r early is some failed refused =
      let e : count - turn ≡ suc (count - (turn + 1)) = omega arith in
      let positive : 0 < length tokens = positive_of (length tokens) (λ none. some (is ∙ none)) in
      let read : source_from depth lines (count - turn) found (tokens_shown tokens) ≡ Err (refusal_of lines (length tokens) f) =
      ap (λ n. source_from depth lines n found (tokens_shown tokens)) e ∙ step_by (count - (turn + 1)) found tokens positive
      ∙ ap (declared_by depth lines (λ d left. source_from depth lines (count - (turn + 1)) (found ++ d ∷ []) left) (length tokens)) failed in
      let same : r ≡ refusal_of lines (length tokens) f = refused ∙ ap (λ n. refusal_of lines n f) is in
      subst (λ r. Refuses r (source_from depth lines (count - turn) found (tokens_shown tokens))) (sym same) (at f (source_from depth lines (count - turn) found (tokens_shown tokens)) (length tokens) read)
    where
      at : (f : Fault) (read : Result SourceTree Refusal) (first : ℕ) → read ≡ Err (refusal_of lines first f) → Refuses (refusal_of lines first f) read
      at (Syntax left) read first h = h
      at TooDeep read first h = h
