use Rattle.std.proofs.Common.{◌≡◌, drop, find, string_bytes}
use Rattle.std.specs.Str.{bytes_eq}
use Rattle.ioa_tree.specs.declared.tree.Transition.{Transition}
use Rattle.ioa_account.proofs.ends.transition_line.Given as goal

-- the first that is left is the first of all
abbrev pub invariant-loop-transition : goal.invariant-loop-transition
invariant-loop-transition l =
    find (λ (t : Transition). bytes_eq (string_bytes t.name.text) l.name) (drop l.transition-index l.transitions)
    ≡ find (λ (t : Transition). bytes_eq (string_bytes t.name.text) l.name) l.transitions
