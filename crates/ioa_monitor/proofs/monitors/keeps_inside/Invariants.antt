use Rattle.std.proofs.Common.{◌≡◌, drop, map}
use Rattle.std.specs.List.{list_any}
use Rattle.ioa_compile.specs.Programs.{EntryCode}
use Rattle.ioa_compile.specs.Shown.{entry_code}
use Rattle.ioa_monitor.specs.Monitoring.{is_internal}
use Rattle.ioa_monitor.proofs.monitors.keeps_inside.Given as goal

abbrev pub invariant-loop-entry : goal.invariant-loop-entry
invariant-loop-entry l =
    list_any (λ (e : EntryCode). is_internal e.kind) (map entry_code (drop l.entry-index l.entries))
    ≡ list_any (λ (e : EntryCode). is_internal e.kind) (map entry_code l.entries)
