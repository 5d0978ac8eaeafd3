-- Readers of what stands in parentheses and braces.
use Rattle.std.proofs.Common.{◌≡◌, ℕ, ◌<◌, List, ◌∷◌, ◌++◌, length, refl, sym, subst, arith, false}
use Rattle.ioa_value.specs.declared.terminal.Terminal.TheVariants as terminals
use Rattle.ioa_lex.specs.Tokens.{Tok, terminal}
use Rattle.ioa_tree.specs.Depth.{deepest}
use Rattle.ioa_grammar.specs.Grammar as grammar
use Rattle.ioa_grammar.specs.Grammar.{Language, ◌▹◌, word}
use Rattle.ioa_grammar.specs.Reading.{Reader, sees, same_terminal, closing, enclosed, braced}
use Rattle.ioa_declarations.proofs.Exact.{ExactFor, Exact, any, deep_as, then, built_as}
use Rattle.ioa_declarations.proofs.Singles.{sign_for}
use Rattle.ioa_declarations.proofs.Lists.{separated_exact}

pub closing_exact : {I : Type 0} {size : I → ℕ} {A : Type 0} {L : A → Language} {D : A → ℕ} {F : Language} {P : I → Reader A} → ExactFor size L D F P → ((z : List Tok) → F (terminal terminals.Close ∷ z)) →
    ExactFor size (λ x. L x ▹ word terminals.Close) D any (λ b. closing (P b))
unfolding closing
closing_exact {L = L} {D = D} {F = F} p h =
    deep_as D (λ x. omega arith)
    (built_as (λ p. p.0) (λ x. (x, tt)) (λ x. refl) (λ p. refl)
    (then p (sign_for terminals.Close) (λ y ts left s g. subst (λ z. F (z ++ left)) (sym s) (h left))))

pub enclosed_exact : {I : Type 0} {size : I → ℕ} {A : Type 0} {L : A → Language} {D : A → ℕ} {F : Language} {P : I → Reader A} → ExactFor size L D F P → ((z : List Tok) → F (terminal terminals.Close ∷ z)) →
    ExactFor size (λ x. grammar.enclosed (L x)) D any (λ b. enclosed (P b))
unfolding enclosed
enclosed_exact {D = D} p h =
    deep_as D (λ x. omega arith)
    (built_as (λ p. p.1) (λ x. (tt, x)) (λ x. refl) (λ p. refl)
    (then (sign_for terminals.Open) (closing_exact p h) (λ y ts left s g. tt)))

comma_brace : (z : List Tok) → sees terminals.Comma (terminal terminals.CloseBrace ∷ z) ≡ false
unfolding sees same_terminal
comma_brace z = refl

abbrev Follows : Language
Follows z = any z × (sees terminals.Comma z ≡ false)

pub braced_exact : {A : Type 0} {L : A → Language} {D : A → ℕ} {P : ℕ → Reader A} → Exact L D any P → ((x : A) (ts : List Tok) → L x ts → 0 < length ts) →
    Exact (grammar.braced L) (deepest D) any (λ b. braced (P b))
unfolding braced
braced_exact {D = D} p some =
    deep_as (deepest D) (λ x. omega arith)
    (built_as (λ p. p.1.0) (λ x. (tt, (x, tt))) (λ x. refl) (λ p. refl)
    (then (sign_for terminals.OpenBrace) (then (separated_exact terminals.Comma p some (λ ts. tt)) (sign_for terminals.CloseBrace) (λ y ts left s g. subst (λ z. Follows (z ++ left)) (sym s) (tt, comma_brace left))) (λ y ts left s g. tt)))
