-- Where the reading of tokens stops: one declaration after the other, whatever the lines are.
use Rattle.std.proofs.Common.{◌≡◌, ℕ, ◌+◌, ◌-◌, ◌≤◌, ◌<◌, List, [], ◌∷◌, ◌++◌, length, take, drop, Option, None, Result, Ok, Err, IfOk, refl, sym, ap, ◌∙◌, subst, arith, length-append, append_assoc}
use Rattle.std.proofs.lemmas.List.{take_at, take-append-drop, take-append-le, drop-append-le}
use Rattle.std.proofs.Math.Seq.{drop-append_seam}
use Rattle.ioa_value.specs.declared.limits.TheConstants.{LIMITS}
use Rattle.ioa_lex.specs.declared.refusal.Refusal.TheVariants as refusals
use Rattle.ioa_lex.specs.declared.token.Token.{Token}
use Rattle.ioa_lex.specs.Tokens.{Tok, tokens_shown}
use Rattle.ioa_tree.specs.declared.tree.Declaration.{Declaration}
use Rattle.ioa_tree.specs.View.{declaration_of, tree_of}
use Rattle.ioa_grammar.specs.declared.fault.Fault.TheVariants.{Syntax, TooDeep}
use Rattle.ioa_grammar.specs.declared.fault.ReadError.{ReadError}
use Rattle.ioa_grammar.specs.declared.fault.ReadError.TheVariants as errors
use Rattle.ioa_grammar.specs.DeadEnds.{IsDeadAt, IsFaultAt, IsStuckAt}
use Rattle.ioa_grammar.specs.Grammar.{IsDeadEnd, SpellsSource}
use Rattle.ioa_grammar.specs.Reading.{Fails, source, source_from, declaration}
use Rattle.ioa_declarations.proofs.Outcomes.{same_head}
use Rattle.ioa_declarations.proofs.SourceTurns.{source_end, source_spent, source_turn, source_fail}
use Rattle.ioa_declarations.proofs.Whole.{source_stuck}

-- with so many turns left and these tokens the answer is that of all
pub record IsReadTo (ts : List Tok) (turns : ℕ) (left : List Tok) : Type 0 where
  pub found : List Declaration
  pub goes : (lines : ℕ → ℕ) → source_from LIMITS.depth lines turns (tree_of found) left ≡ source LIMITS.depth lines ts

pub read_none : (ts : List Tok) (count : ℕ) → count ≡ length ts → IsReadTo ts count ts
unfolding source
read_none ts count is = record { found = []; goes = λ lines. ap (λ n. source_from LIMITS.depth lines n [] ts) is }

pub read_more : (ts : List Tok) (count turn first : ℕ) (tokens : List Token) (left : List Tok) (d : Declaration) → IsReadTo ts (count - turn) (tokens_shown tokens) → turn < count → first ≡ length tokens → (first ≡ 0 → ⊥) →
    declaration LIMITS.depth (tokens_shown tokens) ≡ Ok (declaration_of d, left) → IsReadTo ts (count - (turn + 1)) left
read_more ts count turn first tokens left d r early is some read =
    record { found = r.found ++ d ∷ []; goes = λ lines. source_turn LIMITS.depth lines count turn first r.found (r.found ++ d ∷ []) tokens left d early is some read refl ∙ r.goes lines }

pub dead_none : (ts : List Tok) (n first : ℕ) (tokens : List Token) → IsReadTo ts n (tokens_shown tokens) → first ≡ length tokens → first ≡ 0 → IsDeadAt ts None
dead_none ts n first tokens r is none lines line h =
    let never = sym (source_end LIMITS.depth lines n first (tree_of r.found) tokens is none) ∙ r.goes lines ∙ h in
    cc

pub dead_spent : (ts : List Tok) (count turn : ℕ) (left : List Tok) → IsReadTo ts (count - turn) left → count ≤ turn → IsDeadAt ts None
dead_spent ts count turn left r done lines line h =
    let never = sym (source_spent LIMITS.depth lines count turn (tree_of r.found) left done) ∙ r.goes lines ∙ h in
    cc

pub dead_deep : (ts : List Tok) (count turn first : ℕ) (tokens : List Token) → IsReadTo ts (count - turn) (tokens_shown tokens) → turn < count → first ≡ length tokens → (first ≡ 0 → ⊥) →
    declaration LIMITS.depth (tokens_shown tokens) ≡ Err TooDeep → IsDeadAt ts None
dead_deep ts count turn first tokens r early is some failed lines line h =
    let never = sym (source_fail LIMITS.depth lines count turn first (tree_of r.found) tokens (errors.Fault TooDeep) (refusals.TooDeep (lines first)) early is some failed refl) ∙ r.goes lines ∙ h in
    cc

-- the index of the token before whose end so many are left
stuck_at : (ts : List Tok) (left : ℕ) → ((lines : ℕ → ℕ) → source LIMITS.depth lines ts ≡ Err (refusals.Syntax (lines left))) → IsStuckAt ts (length ts - left)
stuck_at ts left told =
    let s = source_stuck LIMITS.depth (λ n. n) ts left (told (λ n. n)) in
    let whole : length ts ≡ length s.front + length s.rest = ap length s.apart ∙ length-append s.front s.rest in
    let at : length ts - left ≡ length s.front = omega (arith, s.on) in
    let front : take (length ts - left) ts ≡ s.front = ap (λ n. take n ts) at ∙ ap (take (length s.front)) s.apart ∙ take_at s.front s.rest (length s.front) refl in
    let rest : drop (length ts - left) ts ≡ s.rest = ap (λ n. drop n ts) at ∙ ap (drop (length s.front)) s.apart ∙ drop-append_seam s.front s.rest in
    let back : left ≡ length ts - (length ts - left) = omega (arith, s.on) in
    record {
      within = omega arith;
      dead = subst (IsDeadEnd (take (length ts - left) ts)) (sym rest) (subst (λ z. IsDeadEnd z s.rest) (sym front) s.dead);
      told = λ lines. told lines ∙ ap (λ n. Err (refusals.Syntax (lines n))) back;
    }

pub dead_fail : (ts : List Tok) (count turn first left : ℕ) (tokens : List Token) → IsReadTo ts (count - turn) (tokens_shown tokens) → turn < count → first ≡ length tokens → (first ≡ 0 → ⊥) →
    declaration LIMITS.depth (tokens_shown tokens) ≡ Err (Syntax left) → IsStuckAt ts (length ts - left)
dead_fail ts count turn first left tokens r early is some failed =
    stuck_at ts left (λ lines. sym (r.goes lines) ∙ source_fail LIMITS.depth lines count turn first (tree_of r.found) tokens (errors.Fault (Syntax left)) (refusals.Syntax (lines left)) early is some failed refl)

-- what a declaration that was not read says of all
pub dead_by : {E : Type 0} (ts : List Tok) (count turn first : ℕ) (tokens : List Token) (e : ReadError) (r : Result (Option ℕ) E) → count ≡ length ts → IsReadTo ts (count - turn) (tokens_shown tokens) → turn < count → first ≡ length tokens →
    (first ≡ 0 → ⊥) → Fails e (declaration LIMITS.depth (tokens_shown tokens)) → IfOk r (λ found. IsFaultAt count e found) → IfOk r (λ found. IsDeadAt ts found)
dead_by ts count turn first tokens e (Err x) size r early is some failed h = tt
dead_by ts count turn first tokens errors.OutOfMemory (Ok found) size r early is some failed h = absurd h
dead_by ts count turn first tokens (errors.Fault TooDeep) (Ok found) size r early is some failed h = subst (IsDeadAt ts) (sym h) (dead_deep ts count turn first tokens r early is some failed)
dead_by ts count turn first tokens (errors.Fault (Syntax left)) (Ok found) size r early is some failed h =
    let at : length ts - left ≡ count - left = ap (λ n. n - left) (sym size) in
    subst (IsDeadAt ts) (sym h) (subst (IsStuckAt ts) at (dead_fail ts count turn first left tokens r early is some failed))

-- Where no source goes on with a token of these, none goes on with another one behind them.
pub dead_before : (ts : List Tok) (x : Tok) (at : ℕ) → at ≤ length ts → IsDeadEnd (take at (ts ++ x ∷ [])) (drop at (ts ++ x ∷ [])) → IsDeadEnd ts (x ∷ [])
dead_before ts x at within dead others t same spelled =
    let before : List Tok = take at ts in
    let behind : List Tok = drop at ts in
    let front : take at (ts ++ x ∷ []) ≡ before = take-append-le at ts (x ∷ []) within in
    let rest : drop at (ts ++ x ∷ []) ≡ behind ++ x ∷ [] = drop-append-le at ts (x ∷ []) within in
    let here : IsDeadEnd before (behind ++ x ∷ []) = subst (IsDeadEnd before) rest (subst (λ z. IsDeadEnd z (drop at (ts ++ x ∷ []))) front dead) in
    let whole : ts ++ others ≡ before ++ (behind ++ others) = ap (λ z. z ++ others) (sym (take-append-drop at ts)) ∙ append_assoc before behind others in
    here (behind ++ others) t (same_head (x ∷ []) others same behind) (subst (SpellsSource t) whole spelled)
