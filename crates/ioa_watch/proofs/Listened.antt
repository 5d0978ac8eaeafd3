-- What a text stands for, and what a line tells by its texts.
use Rattle.std.proofs.Common.{◌≡◌, inl, inr, ℕ, Bool, true, false, not, List, None, Some, Result, Ok, Err, IfOk, MatchBool, is_some, true≢false, codes, get_or, take, length, ◌<◌, ◌==◌, refl, sym, ap, subst, ◌∙◌, arith}
use Rattle.std.proofs.lemmas.List.{take_all}
use Rattle.std.proofs.lemmas.List.Sums.{position_or_len_is}
use Rattle.serde_json.specs.Data.{Data}
use Rattle.ioa_value.specs.Actions.{Name, Act}
use Rattle.ioa_value.specs.Reads.{Reads}
use Rattle.ioa_value.specs.Table.{Table}
use Rattle.ioa_json.specs.Says.{IsJson, text_at}
use Rattle.ioa_device.specs.declared.failure.LogErr.{LogErr}
use Rattle.ioa_watch.specs.declared.lines.LineKind.{LineKind}
use Rattle.ioa_watch.specs.Listening.{IsLineOfKind, IsValueOfKind}
use Rattle.ioa_watch.specs.Streams.{StandsFor, TellsAct, TellsEnd, before_values}

-- ---- what stands before the values

-- the first `(` stands here
pub values_at : (xs : List ℕ) (i : ℕ) → i < length xs → ((k : ℕ) → k < i → (get_or xs k 0 == 40) ≡ false) → (get_or xs i 0 == 40) ≡ true → take i xs ≡ before_values xs
values_at xs i l fails ends = ap (λ (n : ℕ). take n xs) (sym (position_or_len_is (λ b. b == 40) xs i 0 (omega arith) fails (λ m. ends)))

-- there is none
pub no_values : (xs : List ℕ) → ((k : ℕ) → k < length xs → (get_or xs k 0 == 40) ≡ false) → xs ≡ before_values xs
no_values xs fails =
    let all : length xs ≡ length xs = refl in
    sym (ap (λ (n : ℕ). take n xs) (position_or_len_is (λ b. b == 40) xs (length xs) 0 (omega arith) fails (λ m. absurd (omega (arith, m)))) ∙ take_all (length xs) xs (omega arith))

-- ---- texts

module _ (types : Table) (known : Name → Bool) (text : List ℕ) where
  pub stands_for_none : ((a : Act) → Reads types text a → ⊥) → ((a : Act) → Reads types (before_values text) a → ⊥) → (a : Act) → StandsFor types known text a → ⊥
  stands_for_none first second a (inl r) = first a r
  stands_for_none first second a (inr (none, r, unknown)) = second a r

  known_name : (a : Act) → known a.name ≡ true → ((b : Act) → Reads types text b → ⊥) → ((b : Act) → Reads types (before_values text) b → a ≡ b) → (b : Act) → StandsFor types known text b → ⊥
  known_name a is none only b (inl r) = none b r
  known_name a is none only b (inr (other, r, unknown)) = true≢false (sym is ∙ ap (λ (x : Act). known x.name) (only b r) ∙ unknown)

  pub stands_if : (a : Act) (k : Bool) → known a.name ≡ k → ((b : Act) → Reads types text b → ⊥) → Reads types (before_values text) a
      → ((b : Act) → Reads types (before_values text) b → a ≡ b) → MatchBool (not k) (StandsFor types known text a) ((b : Act) → StandsFor types known text b → ⊥)
  stands_if a false is none name only = inr (none, name, is)
  stands_if a true is none name only = known_name a is none only

-- ---- values

module _ (types : Table) (known : Name → Bool) (d : Data) where
  pub no_act : (text : List ℕ) → text_at (codes "act") d ≡ Some text → ((a : Act) → StandsFor types known text a → ⊥) → (a : Act) → TellsAct types known d a → ⊥
  no_act text at none a (other, there, stands) = let same : other ≡ text = cc (at, there) in none a (subst (λ t. StandsFor types known t a) same stands)

  pub act_no_end : (text : List ℕ) → text_at (codes "act") d ≡ Some text → TellsEnd d → ⊥
  act_no_end text at (none, end) = absurd (cc (at, none))

  pub without_act : text_at (codes "act") d ≡ None → (a : Act) → TellsAct types known d a → ⊥
  without_act none a (text, at, stands) = absurd (cc (at, none))

  pub without_end : text_at (codes "end") d ≡ None → TellsEnd d → ⊥
  without_end none (no_act, end) = absurd (true≢false (sym end ∙ ap is_some none))

-- ---- lines

pub line_of : (types : Table) (known : Name → Bool) (line : List ℕ) (d : Data) (a : Act) (r : Result LineKind LogErr) → IsJson line d → IfOk r (IsValueOfKind types known d a)
    → IfOk r (IsLineOfKind types known line a)
line_of types known line d a (Ok LineKind.Action) j t = (d, j, t)
line_of types known line d a (Ok LineKind.End) j t = (d, j, t)
line_of types known line d a (Err e) j t = tt
