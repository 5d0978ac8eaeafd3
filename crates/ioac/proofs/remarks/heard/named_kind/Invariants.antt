use Rattle.std.proofs.Common.{◌≡◌, drop, map}
use Rattle.ioa_compile.specs.Shown.{entry_code}
use Rattle.ioac.specs.Heard.{named_kind}
use Rattle.ioac.proofs.remarks.heard.named_kind.Given as goal

-- the first that is left is the first of all
abbrev pub invariant-loop-entry : goal.invariant-loop-entry
invariant-loop-entry l = named_kind l.name (map entry_code (drop l.entry-index l.entries)) ≡ named_kind l.name (map entry_code l.entries)
