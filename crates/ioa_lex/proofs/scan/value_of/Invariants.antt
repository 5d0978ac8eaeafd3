use Rattle.std.proofs.Common.{◌≡◌, ◌≤◌, take}
use Rattle.ioa_lex.specs.Lexing.{value_of}
use Rattle.ioa_lex.proofs.scan.value_of.Given as goal

abbrev pub invariant-loop-digit : goal.invariant-loop-digit
invariant-loop-digit l = record { same : l.value ≡ value_of (take l.digit-index l.digits); small : l.value ≤ 9223372036854775807 }
