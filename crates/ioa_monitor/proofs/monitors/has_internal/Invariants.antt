use Rattle.std.proofs.Common.{◌≡◌, drop, map}
use Rattle.std.specs.List.{list_any}
use Rattle.ioa_compile.specs.Programs.{EntryCode, MemberCode}
use Rattle.ioa_compile.specs.Shown.{member_code}
use Rattle.ioa_monitor.specs.Monitoring.{is_internal}
use Rattle.ioa_monitor.proofs.monitors.has_internal.Given as goal

abbrev pub invariant-loop-member : goal.invariant-loop-member
invariant-loop-member l =
    list_any (λ (m : MemberCode). list_any (λ (e : EntryCode). is_internal e.kind) m.entries) (map member_code (drop l.member-index l.members))
    ≡ list_any (λ (m : MemberCode). list_any (λ (e : EntryCode). is_internal e.kind) m.entries) (map member_code l.members)
