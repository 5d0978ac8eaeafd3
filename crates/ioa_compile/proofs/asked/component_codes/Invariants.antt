use Rattle.std.proofs.Common.{◌≡◌, length}
use Rattle.ioa_compose.specs.Held.{composed_of}
use Rattle.ioa_compile.specs.Asking.{AskAll}
use Rattle.ioa_compile.proofs.asked.component_codes.Given as goal

abbrev pub invariant-loop-number : goal.invariant-loop-number
invariant-loop-number l = AskAll (composed_of l.composition) l.component l.codes.items × (length l.codes.items ≡ l.number)
