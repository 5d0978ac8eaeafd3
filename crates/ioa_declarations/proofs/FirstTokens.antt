-- What a language's first tokens say of the tokens that begin with it.
use Rattle.std.proofs.Common.{◌≡◌, ◌<◌, Bool, true, false, List, [], ◌∷◌, ◌++◌, length, sym, ap, ◌∙◌, subst, arith, Option, Some, None, length-append, append_assoc}
use Rattle.ioa_value.specs.declared.terminal.Terminal.{Terminal}
use Rattle.ioa_lex.specs.Tokens.{Tok, terminal}
use Rattle.ioa_grammar.specs.Grammar as grammar
use Rattle.ioa_grammar.specs.Grammar.{Language, ◌▹◌, single, nothing}

pub first_some : (x : Tok) (L : Language) (ts : List Tok) → (single x ▹ L) ts → 0 < length ts
first_some x L ts s = omega (arith, ap length s.4, length-append s.0 s.1, ap length s.2)

pub first_of_all : (x : Tok) (L : Language) (ts left : List Tok) → (single x ▹ L) ts → (z : List Tok) × (ts ++ left ≡ x ∷ z)
first_of_all x L ts left s = (s.1 ++ left, ap (λ z. z ++ left) (s.4 ∙ ap (λ z. z ++ s.1) s.2))

-- what holds of each text that begins with x
pub leads : (F : Language) (x : Tok) (L : Language) (ts left : List Tok) → ((z : List Tok) → F (x ∷ z)) → (single x ▹ L) ts → F (ts ++ left)
leads F x L ts left h s = let z = first_of_all x L ts left s in subst F (sym z.1) (h z.0)

pub alone : (F : Language) (ts left : List Tok) → nothing ts → F left → F (ts ++ left)
alone F ts left s h = subst (λ z. F (z ++ left)) (sym s) h

-- a list that is absent, or begins with its word
pub by_list : {A : Type 0} (F : Language) (t : Terminal) (L : List A → Language) (xs : List A) (ts left : List Tok) → ((z : List Tok) → F (terminal t ∷ z)) → F left → grammar.optional_list t L xs ts → F (ts ++ left)
by_list F t L [] ts left h here s = alone F ts left s here
by_list F t L (x ∷ xs) ts left h here s = leads F (terminal t) (L (x ∷ xs)) ts left h s

pub by_option : {A : Type 0} (F : Language) (t : Terminal) (L : A → Language) (x : Option A) (ts left : List Tok) → ((z : List Tok) → F (terminal t ∷ z)) → F left → grammar.optional t L x ts → F (ts ++ left)
by_option F t L None ts left h here s = alone F ts left s here
by_option F t L (Some x) ts left h here s = leads F (terminal t) (L x) ts left h s

-- a word that may be absent, and what comes after it
pub by_flag : (F : Language) (t : Terminal) (v : Bool) (M : Language) (ts left : List Tok) → ((z : List Tok) → F (terminal t ∷ z)) →
    ((m : List Tok) → M m → F (m ++ left)) → (grammar.flagged t v ▹ M) ts → F (ts ++ left)
by_flag F t true M ts left h k s = leads F (terminal t) M ts left h s
by_flag F t false M ts left h k s = subst (λ z. F (z ++ left)) (sym (s.4 ∙ ap (λ z. z ++ s.1) s.2)) (k s.1 s.3)

-- one part and then another
pub by_two : (F : Language) (L M : Language) (ts left : List Tok) → ((a b : List Tok) → L a → F (b ++ left) → F (a ++ (b ++ left))) → ((b : List Tok) → M b → F (b ++ left)) → (L ▹ M) ts → F (ts ++ left)
by_two F L M ts left first second s = subst F (sym (ap (λ z. z ++ left) s.4 ∙ append_assoc s.0 s.1 left)) (first s.0 s.1 s.2 (second s.1 s.3))
