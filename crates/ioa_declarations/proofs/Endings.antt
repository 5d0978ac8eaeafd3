-- What may follow an expression.
use Rattle.std.proofs.Common.{◌≡◌, ℕ, ◌<◌, ◌≤◌, List, ◌∷◌, refl, sym, ap, ◌∙◌, subst, arith, Option, Some, None, Bool, true, false, IsTrue}
use Rattle.ioa_value.specs.declared.terminal.Terminal.{Terminal}
use Rattle.ioa_value.specs.declared.terminal.Terminal.TheVariants as terminals
use Rattle.ioa_lex.specs.Tokens.{Tok, terminal}
use Rattle.ioa_tree.specs.declared.tree.Infix.{Infix}
use Rattle.ioa_grammar.specs.Operators.{stands_between, level_of, operator_word, tightest}
use Rattle.ioa_grammar.specs.Reading.{operator_in, operator_of, sees, same_terminal, terminal_at}
use Rattle.ioa_grammar.proofs.Binding.{level_bounds, word_found}
use Rattle.ioa_declarations.proofs.Singles.{seen}

abbrev pub mark : Infix → Tok
mark o = terminal (operator_word o)

-- What comes next is no operator of this level or a tighter one.
abbrev pub EndsAt : ℕ → Option Infix → Type 0
EndsAt k None = Unit {0}
EndsAt k (Some o) = level_of o < k

-- Neither fields nor a field: a name would be a tuple's with `(` behind it, and an operand goes on with `.`.
abbrev pub Ends : ℕ → List Tok → Type 0
Ends k ts = EndsAt k (operator_in (terminal_at ts)) × (sees terminals.Open ts ≡ false) × (sees terminals.Dot ts ≡ false)

pub ends_weaker : (k j : ℕ) (ts : List Tok) → k ≤ j → Ends k ts → Ends j ts
ends_weaker k j ts le h = (at (operator_in (terminal_at ts)) h.0, h.1, h.2)
  where
    at : (o : Option Infix) → EndsAt k o → EndsAt j o
    at None h = tt
    at (Some o) h = omega arith

-- no operator binds so tightly
pub ends_operand : (k : ℕ) (ts : List Tok) → Ends k ts → Ends tightest ts
ends_operand k ts h = (at (operator_in (terminal_at ts)), h.1, h.2)
  where
    at : (o : Option Infix) → EndsAt tightest o
    at None = tt
    at (Some o) = (level_bounds o).2

-- no operator between two expressions is written so
unseen_mark : (t : Terminal) → operator_of t ≡ None → (o : Infix) (ts : List Tok) → IsTrue (stands_between o) → sees t (mark o ∷ ts) ≡ false
unseen_mark t none o ts between = by (sees t (mark o ∷ ts)) refl
  where
    by : (v : Bool) → sees t (mark o ∷ ts) ≡ v → sees t (mark o ∷ ts) ≡ false
    by false e = e
    by true e =
        let same = seen t (mark o ∷ ts) e in
        let is : operator_word o ≡ t = cc in
        let never = sym none ∙ ap operator_of (sym is) ∙ word_found o between in absurd (cc)

open_mark : operator_of terminals.Open ≡ None
unfolding operator_of same_terminal
open_mark = refl

dot_mark : operator_of terminals.Dot ≡ None
unfolding operator_of same_terminal
dot_mark = refl

-- an operator of a lower level
pub ends_mark : (o : Infix) (ts : List Tok) → IsTrue (stands_between o) → (k : ℕ) → level_of o < k → Ends k (mark o ∷ ts)
unfolding terminal_at
ends_mark o ts between k low = (subst (EndsAt k) (sym (word_found o between)) low, unseen_mark terminals.Open open_mark o ts between, unseen_mark terminals.Dot dot_mark o ts between)

pub ends_close : (k : ℕ) (ts : List Tok) → Ends k (terminal terminals.Close ∷ ts)
unfolding terminal_at operator_of sees same_terminal
ends_close k ts = (tt, refl, refl)

pub ends_comma : (k : ℕ) (ts : List Tok) → Ends k (terminal terminals.Comma ∷ ts)
unfolding terminal_at operator_of sees same_terminal
ends_comma k ts = (tt, refl, refl)

-- no other item follows
pub comma_close : (z : List Tok) → sees terminals.Comma (terminal terminals.Close ∷ z) ≡ false
unfolding sees same_terminal
comma_close z = refl
