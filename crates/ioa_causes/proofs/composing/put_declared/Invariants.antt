use Rattle.std.proofs.Common.{◌≡◌, ◌++◌, true, drop, string_bytes}
use Rattle.ioa_causes.specs.Composing.{declared, listed}
use Rattle.ioa_causes.proofs.composing.put_declared.Given as goal

-- with those that are left all are listed
abbrev pub invariant-loop-declaration : goal.invariant-loop-declaration
invariant-loop-declaration l =
    string_bytes l.text ++ listed l.is_first (declared (drop l.declaration-index l.declarations)) ≡ string_bytes l.initial.text ++ listed true (declared l.declarations)
