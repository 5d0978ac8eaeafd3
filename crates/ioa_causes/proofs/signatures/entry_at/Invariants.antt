use Rattle.std.proofs.Common.{◌≡◌, ◌==◌, drop}
use Rattle.std.specs.Prelude.{find}
use Rattle.ioa_tree.specs.declared.tree.Entry.{Entry}
use Rattle.ioa_causes.proofs.signatures.entry_at.Given as goal

-- the first that is left is the first of all
abbrev pub invariant-loop-entry : goal.invariant-loop-entry
invariant-loop-entry l =
    find (λ (e : Entry). e.name.line == l.index) (drop l.entry-index l.automaton.entries.items) ≡ find (λ (e : Entry). e.name.line == l.index) l.automaton.entries.items
