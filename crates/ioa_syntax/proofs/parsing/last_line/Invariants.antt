use Rattle.std.proofs.Common.{◌≡◌, ◌+◌, ◌≤◌, take}
use Rattle.ioa_lex.specs.Lexing.{line_after}
use Rattle.ioa_syntax.proofs.parsing.last_line.Given as goal

abbrev pub invariant-loop-byte : goal.invariant-loop-byte
invariant-loop-byte l = record {
  counted : l.line ≡ line_after (take l.byte-index l.text);
  small : l.line ≤ l.byte-index + 1;
}
