-- The token at which no source goes on: that with whose line tokens are refused.
use Rattle.std.specs.Prelude.{◌≡◌, ◌≢◌, ℕ, ◌-◌, ◌≤◌, List, Option, Some, None, Err, length, take, drop}
use Rattle.ioa_value.specs.declared.limits.TheConstants.{LIMITS}
use Rattle.ioa_lex.specs.declared.refusal.Refusal.TheVariants as refusals
use Rattle.ioa_lex.specs.Tokens.{Tok}
use Rattle.ioa_grammar.specs.declared.fault.Fault.{Fault}
use Rattle.ioa_grammar.specs.declared.fault.Fault.TheVariants.{Syntax, TooDeep}
use Rattle.ioa_grammar.specs.declared.fault.ReadError.{ReadError}
use Rattle.ioa_grammar.specs.declared.fault.ReadError.TheVariants as errors
use Rattle.ioa_grammar.specs.Grammar.{IsDeadEnd}
use Rattle.ioa_grammar.specs.Reading.{source}

-- No source goes on with the token of this index, or ends there. Whatever the lines are, the refusal's is that of this token.
pub record IsStuckAt (ts : List Tok) (at : ℕ) : Type 0 where
  pub within : at ≤ length ts
  pub dead : IsDeadEnd (take at ts) (drop at ts)
  pub told : (lines : ℕ → ℕ) → source LIMITS.depth lines ts ≡ Err (refusals.Syntax (lines (length ts - at)))

-- that index, or none, where the tokens are not refused so
abbrev pub IsDeadAt : List Tok → Option ℕ → Type 0
IsDeadAt ts (Some at) = IsStuckAt ts at
IsDeadAt ts None = (lines : ℕ → ℕ) (line : ℕ) → source LIMITS.depth lines ts ≢ Err (refusals.Syntax line)

-- the index of the token of a fault, among so many; none of an expression that is too deep
abbrev pub fault_index : ℕ → Fault → Option ℕ
fault_index count (Syntax left) = Some (count - left)
fault_index count TooDeep = None

-- the index at which the reading of so many tokens stopped
abbrev pub IsFaultAt : ℕ → ReadError → Option ℕ → Type 0
IsFaultAt count errors.OutOfMemory found = ⊥
IsFaultAt count (errors.Fault f) found = found ≡ fault_index count f
