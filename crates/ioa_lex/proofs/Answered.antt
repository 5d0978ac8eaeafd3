-- What follows from one right answer, since there is no other.
use Rattle.std.proofs.Common.{◌≡◌, ◌⊎◌, ℕ, ◌≤◌, List, length, Result, Ok, Err, MatchResult, refl, ap, inl, inr, arith}
use Rattle.ioa_value.specs.declared.limits.TheConstants.{LIMITS}
use Rattle.ioa_lex.specs.declared.refusal.Refusal.{Refusal}
use Rattle.ioa_lex.specs.declared.refusal.Refusal.TheVariants as refusals
use Rattle.ioa_lex.specs.Tokens.{Tok}
use Rattle.ioa_lex.specs.Lexing.{Lexes, StopsOn, IsRefused}
use Rattle.ioa_lex.proofs.Covers.{same_tokens, same_stop, stops_or_lexes}

module _ {V : Type 0} (view : V → List (Tok × ℕ)) (text : List ℕ) where
  abbrev pub IsAnswer : Result V Refusal → Type 0
  IsAnswer r = MatchResult r (λ v. Lexes text (view v)) (λ e. IsRefused text e)

  pub only_tokens : (r : Result V Refusal) → IsAnswer r → (ts : List (Tok × ℕ)) → Lexes text ts → length text ≤ LIMITS.text → MatchResult r (λ v. view v ≡ ts) (λ e. e ≡ refusals.OutOfMemory)
  only_tokens (Ok v) h ts k short = same_tokens text (view v) ts h k
  only_tokens (Err refusals.TextTooLong) h ts k short = absurd (omega arith)
  only_tokens (Err (refusals.BadByte line)) h ts k short = absurd (stops_or_lexes text ts line k h.1)
  only_tokens (Err refusals.OutOfMemory) h ts k short = refl
  only_tokens (Err _) h ts k short = absurd h

  pub only_stop : (r : Result V Refusal) → IsAnswer r → (line : ℕ) → StopsOn text line → length text ≤ LIMITS.text → MatchResult r (λ _. ⊥) (λ e. (e ≡ refusals.BadByte line) ⊎ (e ≡ refusals.OutOfMemory))
  only_stop (Ok v) h line k short = stops_or_lexes text (view v) line h k
  only_stop (Err refusals.TextTooLong) h line k short = absurd (omega arith)
  only_stop (Err (refusals.BadByte n)) h line k short = inl (ap refusals.BadByte (same_stop text n line h.1 k))
  only_stop (Err refusals.OutOfMemory) h line k short = inr refl
  only_stop (Err _) h line k short = absurd h
