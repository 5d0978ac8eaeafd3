use Rattle.std.proofs.Common.{◌≡◌, ◌++◌, drop, map, string_bytes}
use Rattle.ioa_compile.specs.Shown.{entry_code, member_code}
use Rattle.ioa_system.specs.Logs.{log_entry}
use Rattle.ioa_run.specs.Proposers.{local_entries}
use Rattle.ioa_run.specs.Tallies.{own_names}
use Rattle.ioa_serving.specs.RunReports.{entry_lines}
use Rattle.ioa_serving.proofs.tallies.put_member.Given as goal

-- the lines so far, and those of the entries that are left, are all
abbrev pub invariant-loop-entry : goal.invariant-loop-entry
invariant-loop-entry l =
    string_bytes l.text ++ entry_lines (map log_entry l.new) l.who (member_code l.member).name (map (λ e. e.name) (local_entries (drop l.entry-index (map entry_code l.member.entries.items)))) l.rest
    ≡ string_bytes l.fn.text ++ entry_lines (map log_entry l.new) l.who (member_code l.member).name (own_names (member_code l.member)) l.tries
