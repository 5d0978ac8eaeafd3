use Rattle.std.proofs.Common.{◌≡◌, drop}
use Rattle.std.specs.Prelude.{find}
use Rattle.std.specs.Str.{bytes_eq}
use Rattle.ioa_value.specs.Spelling.{spelling_of}
use Rattle.ioa_value.proofs.spelling.among.Given as goal

abbrev pub invariant-loop-terminal : goal.invariant-loop-terminal
invariant-loop-terminal l =
    find (λ t. bytes_eq (spelling_of t) l.text) (drop l.terminal-index l.terminals) ≡ find (λ t. bytes_eq (spelling_of t) l.text) l.terminals
