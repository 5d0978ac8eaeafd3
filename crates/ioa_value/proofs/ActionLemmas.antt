-- An action's text begins with its name.
use Rattle.std.proofs.Common.{◌≡◌, ℕ, List, [], ◌∷◌, Bool, true, false, MatchBool, ◌<◌, length, IsTrue, IsUtf8, Result, Ok, Err, IfOk, refl, sym, ap, ap₂, subst, ◌∙◌, arith}
use Rattle.ioa_value.specs.Plain.{Val}
use Rattle.ioa_value.specs.Table.{Table}
use Rattle.ioa_value.specs.Actions.{Act}
use Rattle.ioa_value.specs.Names.{IsName}
use Rattle.ioa_value.specs.Reads.{Padded, Reads, ReadsValues, ReadsArguments}
use Rattle.ioa_value.specs.Tokens.{first_word, after_first}
use Rattle.ioa_value.proofs.TokenLemmas.{IsEnd, finds_word, finds_rest, front}
use Rattle.ioa_value.proofs.SpellLemmas.{name_is_word, name_is_text}

ends : (types : Table) (rest : List ℕ) (vs : List Val) → ReadsArguments types rest vs → IsEnd rest
ends types rest [] e = subst IsEnd (sym e) (record { no_blank = refl; no_word = refl; stays = refl })
ends types rest (v ∷ vs) (inner, r, e) = subst IsEnd (sym e) (record { no_blank = refl; no_word = refl; stays = refl })

pub record Named (types : Table) (text : List ℕ) (a : Act) : Type 0 where
  pub legal : IsName a.name
  pub name : first_word text ≡ a.name
  pub arguments : ReadsArguments types (after_first text) a.vals

pub named : (types : Table) (text : List ℕ) (a : Act) → Reads types text a → Named types text a
unfolding Reads
named types text a (n, (first, rest, p, r, e)) =
    let h = name_is_word a.name n in
    let end = ends types rest a.vals r in
    record {
      legal = n;
      name = ap first_word e ∙ finds_word a.name first rest h p end;
      arguments = subst (λ x. ReadsArguments types x a.vals) (sym (ap after_first e ∙ finds_rest a.name first rest h p end)) r;
    }

pub reads : (types : Table) (text : List ℕ) (a : Act) → IsName a.name → first_word text ≡ a.name → ReadsArguments types (after_first text) a.vals → Reads types text a
unfolding Reads
reads types text a n e r =
    let f = front text in
    (n, (f.0, after_first text, subst (λ w. Padded w f.0) e f.1, r, f.2))

-- where the name is the first word, and the values are read after it, the action is read, and no other
pub renamed : {E : Type 0} (types : Table) (text w : List ℕ) (b : Act) (r : Result Bool E) → IsName w → first_word text ≡ w → ReadsArguments types (after_first text) b.vals
    → IfOk r (λ t. MatchBool t (b.name ≡ w) (IsUtf8 w → ⊥))
    → IfOk r (λ t. MatchBool t (Reads types text b) ((a : Act) → Reads types text a → ⊥))
renamed types text w b (Ok true) n e args h = reads types text b (subst IsName (sym h) n) (e ∙ sym h) args
renamed types text w b (Ok false) n e args h = absurd (h (name_is_text w n))
renamed types text w b (Err f) n e args h = tt

same_act : (a b : Act) → b.name ≡ a.name → b.vals ≡ a.vals → b ≡ a
same_act a b p q = ap₂ (λ x y. record { name = x; vals = y }) p q

pub only_renamed : {E : Type 0} (w : List ℕ) (a b : Act) (r : Result Bool E) → IsName w → w ≡ a.name → b.vals ≡ a.vals
    → IfOk r (λ t. MatchBool t (b.name ≡ w) (IsUtf8 w → ⊥))
    → IfOk r (λ t. IsTrue t × (b ≡ a))
only_renamed w a b (Ok true) n e args h = (refl, same_act a b (h ∙ e) args)
only_renamed w a b (Ok false) n e args h = absurd (h (name_is_text w n))
only_renamed w a b (Err f) n e args h = tt

-- what follows a `(` is all that arguments can be
pub inner : (types : Table) (rest : List ℕ) (vs : List Val) → ReadsArguments types (40 ∷ rest) vs → ReadsValues types rest vs
inner types rest [] e = absurd (cc)
inner types rest (v ∷ vs) (more, r, e) =
    let k : more ≡ rest = cc in
    subst (λ x. ReadsValues types x (v ∷ vs)) k r

-- reading values after a `(` is reading arguments
pub after_open : {E : Type 0} (types : Table) (text rest : List ℕ) (vs : List Val) (r : Result Bool E) → text ≡ 40 ∷ rest
    → IfOk r (λ b. MatchBool b (ReadsValues types rest vs) ((ws : List Val) → ReadsValues types rest ws → ⊥))
    → IfOk r (λ b. MatchBool b (ReadsArguments types text vs) ((ws : List Val) → ReadsArguments types text ws → ⊥))
after_open types text rest [] (Ok true) e h = absurd h
after_open types text rest (v ∷ vs) (Ok true) e h = (rest, h, e)
after_open types text rest vs (Ok false) e h = λ ws r. h ws (inner types rest ws (subst (λ x. ReadsArguments types x ws) e r))
after_open types text rest vs (Err f) e h = tt

-- what was read after a `(` is all that can be
pub only_after_open : {E : Type 0} (types : Table) (text rest : List ℕ) (vs : List Val) (r : Result Bool E) → text ≡ 40 ∷ rest
    → ((ws : List Val) → ReadsValues types rest ws → IfOk r (λ b. IsTrue b × (vs ≡ ws)))
    → (ws : List Val) → ReadsArguments types text ws → IfOk r (λ b. IsTrue b × (vs ≡ ws))
only_after_open types text rest vs r e h ws k = h ws (inner types rest ws (subst (λ x. ReadsArguments types x ws) e k))

-- of no text there are no values
pub no_arguments : (types : Table) (text : List ℕ) → text ≡ [] → (ws : List Val) → ReadsArguments types text ws → [] ≡ ws
no_arguments types text e [] r = refl
no_arguments types text e (v ∷ vs) (rest, r, f) = let k : [] ≡ 40 ∷ rest = sym e ∙ f in absurd (cc)

-- of a text that begins otherwise there are none either
pub no_open : (types : Table) (text : List ℕ) → 0 < length text → ((rest : List ℕ) → text ≡ 40 ∷ rest → ⊥) → (ws : List Val) → ReadsArguments types text ws → ⊥
no_open types text long none [] r = omega (arith, long, ap length r)
no_open types text long none (v ∷ vs) (rest, r, e) = none rest e
