-- One turn of a loop that reads a list.
use Rattle.std.proofs.Common.{◌≡◌, ℕ, zero, suc, ◌+◌, ◌-◌, ◌<◌, ◌≤◌, Bool, true, false, ◌&&◌, List, [], ◌∷◌, ◌++◌, length, map, refl, sym, ap, ◌∙◌, arith, subst, Ok, Err}
use Rattle.std.proofs.lemmas.List.{length-map, map_push}
use Rattle.ioa_value.specs.declared.terminal.Terminal.{Terminal}
use Rattle.ioa_lex.specs.Tokens.{Tok, tokens_shown, kind_shown}
use Rattle.ioa_lex.specs.declared.token.Token.{Token}
use Rattle.ioa_grammar.specs.declared.fault.Fault.{Fault}
use Rattle.ioa_grammar.specs.declared.fault.Fault.TheVariants.{Syntax}
use Rattle.ioa_grammar.specs.declared.fault.ReadError.{ReadError}
use Rattle.ioa_grammar.specs.declared.fault.ReadError.TheVariants as errors
use Rattle.ioa_grammar.specs.Reading.{Reader, Fails, items_from, many_from, sees, after}

module _ {X Y : Type 0} (view : X → Y) (goes_on : List Tok → Bool) (separator : Terminal) (item : Reader Y) where
  step : (n : ℕ) (found : List Y) (ts left : List Tok) (y : Y) → item ts ≡ Ok (y, left) → sees separator left ≡ true → goes_on (after separator left) ≡ true →
      items_from goes_on separator item (suc n) found ts ≡ items_from goes_on separator item n (found ++ y ∷ []) (after separator left)
  unfolding items_from
  step n found ts left y read seen goes = rw (read, seen, goes) refl

  stop : (n : ℕ) (found : List Y) (ts left : List Tok) (y : Y) → item ts ≡ Ok (y, left) → (sees separator left && goes_on (after separator left)) ≡ false →
      items_from goes_on separator item (suc n) found ts ≡ Ok (found ++ y ∷ [], after separator left)
  unfolding items_from
  stop n found ts left y read ends = rw (read, ends) refl

  refuse : (n : ℕ) (found : List Y) (ts : List Tok) (f : Fault) → item ts ≡ Err f → items_from goes_on separator item (suc n) found ts ≡ Err f
  unfolding items_from
  refuse n found ts f failed = rw failed refl

  pub items_turn : (count turn : ℕ) (found : List X) (ts left next : List Tok) (x : X) → turn < count → item ts ≡ Ok (view x, left) → sees separator left ≡ true → next ≡ after separator left → goes_on next ≡ true →
      items_from goes_on separator item (count - (turn + 1)) (map view (found ++ x ∷ [])) next ≡ items_from goes_on separator item (count - turn) (map view found) ts
  items_turn count turn found ts left next x early read seen is goes =
      let e : count - turn ≡ suc (count - (turn + 1)) = omega arith in
      ap (λ r. items_from goes_on separator item (count - (turn + 1)) r next) (map_push view found x)
      ∙ ap (items_from goes_on separator item (count - (turn + 1)) (map view found ++ view x ∷ [])) is
      ∙ sym (step (count - (turn + 1)) (map view found) ts left (view x) read seen (ap goes_on (sym is) ∙ goes))
      ∙ ap (λ n. items_from goes_on separator item n (map view found) ts) (sym e)

  pub items_end : (count turn : ℕ) (found all : List X) (ts left next : List Tok) (x : X) → turn < count → item ts ≡ Ok (view x, left) → next ≡ after separator left → (sees separator left && goes_on next) ≡ false → all ≡ found ++ x ∷ [] →
      items_from goes_on separator item (count - turn) (map view found) ts ≡ Ok (map view all, next)
  items_end count turn found all ts left next x early read is ends pushed =
      let e : count - turn ≡ suc (count - (turn + 1)) = omega arith in
      ap (λ n. items_from goes_on separator item n (map view found) ts) e
      ∙ stop (count - (turn + 1)) (map view found) ts left (view x) read (ap (λ r. sees separator left && goes_on r) (sym is) ∙ ends)
      ∙ ap (λ r. Ok (r, after separator left)) (sym (ap (map view) pushed ∙ map_push view found x)) ∙ ap (λ r. Ok (map view all, r)) (sym is)

  -- no separator comes
  pub items_close : (count turn : ℕ) (found all : List X) (ts left next : List Tok) (x : X) → turn < count → item ts ≡ Ok (view x, left) → next ≡ after separator left → sees separator left ≡ false → all ≡ found ++ x ∷ [] →
      items_from goes_on separator item (count - turn) (map view found) ts ≡ Ok (map view all, next)
  items_close count turn found all ts left next x early read is unseen pushed = items_end count turn found all ts left next x early read is (ap (λ b. b && goes_on next) unseen) pushed

  -- the separator was the last token of the list
  pub items_last : (count turn : ℕ) (found all : List X) (ts left next : List Tok) (x : X) → turn < count → item ts ≡ Ok (view x, left) → next ≡ after separator left → goes_on next ≡ false → all ≡ found ++ x ∷ [] →
      items_from goes_on separator item (count - turn) (map view found) ts ≡ Ok (map view all, next)
  items_last count turn found all ts left next x early read is unseen pushed =
      items_end count turn found all ts left next x early read is (ap (λ b. sees separator left && b) unseen ∙ never (sees separator left)) pushed
    where
      never : (b : Bool) → (b && false) ≡ false
      never true = refl
      never false = refl

  pub items_fail : (count turn : ℕ) (found : List X) (ts : List Tok) (e : ReadError) → turn < count → Fails e (item ts) → Fails e (items_from goes_on separator item (count - turn) (map view found) ts)
  items_fail count turn found ts errors.OutOfMemory early failed = tt
  items_fail count turn found ts (errors.Fault f) early failed =
      let e : count - turn ≡ suc (count - (turn + 1)) = omega arith in
      ap (λ n. items_from goes_on separator item n (map view found) ts) e ∙ refuse (count - (turn + 1)) (map view found) ts f failed

  pub items_spent : (count turn : ℕ) (found : List X) (tokens : List Token) (e : ReadError) → count ≤ turn → e ≡ errors.Fault (Syntax (length tokens)) →
      Fails e (items_from goes_on separator item (count - turn) (map view found) (tokens_shown tokens))
  unfolding items_from
  items_spent count turn found tokens e done is =
      let none : count - turn ≡ 0 = omega arith in
      let spent : items_from goes_on separator item (count - turn) (map view found) (tokens_shown tokens) ≡ Err (Syntax (length (tokens_shown tokens))) = ap (λ n. items_from goes_on separator item n (map view found) (tokens_shown tokens)) none in
      subst (λ e. Fails e (items_from goes_on separator item (count - turn) (map view found) (tokens_shown tokens))) (sym is) (spent ∙ ap (λ n. Err (Syntax n)) (length-map tokens (λ t. kind_shown t.kind)))

module _ {X Y : Type 0} (view : X → Y) (begins : List Tok → Bool) (item : Reader Y) where
  many_step : (n : ℕ) (found : List Y) (ts left : List Tok) (y : Y) → begins ts ≡ true → item ts ≡ Ok (y, left) →
      many_from begins item (suc n) found ts ≡ many_from begins item n (found ++ y ∷ []) left
  unfolding many_from
  many_step n found ts left y seen read = rw (seen, read) refl

  many_refuse : (n : ℕ) (found : List Y) (ts : List Tok) (f : Fault) → begins ts ≡ true → item ts ≡ Err f → many_from begins item (suc n) found ts ≡ Err f
  unfolding many_from
  many_refuse n found ts f seen failed = rw (seen, failed) refl

  pub many_turn : (count turn : ℕ) (found : List X) (ts left : List Tok) (x : X) → turn < count → begins ts ≡ true → item ts ≡ Ok (view x, left) →
      many_from begins item (count - (turn + 1)) (map view (found ++ x ∷ [])) left ≡ many_from begins item (count - turn) (map view found) ts
  many_turn count turn found ts left x early seen read =
      let e : count - turn ≡ suc (count - (turn + 1)) = omega arith in
      ap (λ r. many_from begins item (count - (turn + 1)) r left) (map_push view found x)
      ∙ sym (many_step (count - (turn + 1)) (map view found) ts left (view x) seen read)
      ∙ ap (λ n. many_from begins item n (map view found) ts) (sym e)

  pub many_end : (n : ℕ) (found : List Y) (ts : List Tok) → begins ts ≡ false → many_from begins item n found ts ≡ Ok (found, ts)
  unfolding many_from
  many_end zero found ts unseen = refl
  many_end (suc n) found ts unseen = rw unseen refl

  pub many_fail : (count turn : ℕ) (found : List X) (ts : List Tok) (e : ReadError) → turn < count → begins ts ≡ true → Fails e (item ts) → Fails e (many_from begins item (count - turn) (map view found) ts)
  many_fail count turn found ts errors.OutOfMemory early seen failed = tt
  many_fail count turn found ts (errors.Fault f) early seen failed =
      let e : count - turn ≡ suc (count - (turn + 1)) = omega arith in
      ap (λ n. many_from begins item n (map view found) ts) e ∙ many_refuse (count - (turn + 1)) (map view found) ts f seen failed

  pub many_spent : (count turn : ℕ) (found : List Y) (ts : List Tok) → count ≤ turn → many_from begins item (count - turn) found ts ≡ Ok (found, ts)
  unfolding many_from
  many_spent count turn found ts done = let e : count - turn ≡ 0 = omega arith in ap (λ n. many_from begins item n found ts) e
