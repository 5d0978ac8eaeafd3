use Rattle.std.proofs.Common.{◌≡◌, drop}
use Rattle.ioa_causes.specs.Entries.{named}
use Rattle.ioa_causes.proofs.entries.entry_named.Given as goal

-- the first that is left is the first of all
abbrev pub invariant-loop-entry : goal.invariant-loop-entry
invariant-loop-entry l = named l.name (drop l.entry-index l.entries) ≡ named l.name l.entries
