use Rattle.std.proofs.Common.{◌≡◌, drop}
use Rattle.std.specs.Prelude.{find}
use Rattle.ioa_compile.specs.declared.table.Entry.{Entry}
use Rattle.ioac.specs.Unseen.{is_internal}
use Rattle.ioac.proofs.remarks.unseen.internal_entry.Given as goal

-- the first that is left is the first of all
abbrev pub invariant-loop-entry : goal.invariant-loop-entry
invariant-loop-entry l = find (λ (e : Entry). is_internal e.kind) (drop l.entry-index l.member.entries.items) ≡ find (λ (e : Entry). is_internal e.kind) l.member.entries.items
