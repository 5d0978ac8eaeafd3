use Rattle.std.proofs.Common.{◌≡◌, ◌≤◌, ◌-◌, length, take}
use Rattle.ioa_lex.specs.Lexing.{line_after, placed}
use Rattle.ioa_lex.proofs.Steps.{IsLexedTo}
use Rattle.ioa_lex.proofs.lexer.tokens_of.Given as goal

abbrev pub invariant-loop-at : goal.invariant-loop-at
invariant-loop-at l = record {
  within : l.at ≤ length l.text;
  here : l.line ≡ line_after (take l.at l.text);
  lexed : IsLexedTo l.text l.at (placed l.tokens.items);
}

abbrev pub decreases-loop-at : goal.decreases-loop-at
decreases-loop-at l = length l.text - l.at
