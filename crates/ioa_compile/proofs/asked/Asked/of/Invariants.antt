use Rattle.std.proofs.Common.{◌≡◌, length, map}
use Rattle.ioa_compose.specs.Held.{composed_of}
use Rattle.ioa_compile.specs.Asking.{AreAsked}
use Rattle.ioa_compile.proofs.asked.Asked.of.Given as goal

abbrev pub invariant-loop-component : goal.invariant-loop-component
invariant-loop-component l = AreAsked (composed_of l.composition) (map (λ c. c.items) l.codes.items) × (length l.codes.items ≡ l.component)
