-- What a reader of tokens answers, with a fault as the refusal that is told of it.
use Rattle.std.specs.Prelude.{List, Result, Ok, Err}
use Rattle.ioa_lex.specs.Tokens.{Tok}
use Rattle.ioa_lex.specs.declared.refusal.Refusal.{Refusal}
use Rattle.ioa_grammar.specs.Reading.{Outcome, refusal_of}

-- of a syntax fault the line is the number of tokens that are left, and a declaration that is too deep stands on line 0
abbrev pub shown : {A : Type 0} → Outcome A → Result (A × List Tok) Refusal
shown (Ok p) = Ok p
shown (Err f) = Err (refusal_of (λ left. left) 0 f)
