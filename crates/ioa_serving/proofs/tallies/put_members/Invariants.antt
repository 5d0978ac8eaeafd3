use Rattle.std.proofs.Common.{◌≡◌, ◌++◌, drop, map, string_bytes}
use Rattle.ioa_compile.specs.Shown.{member_code}
use Rattle.ioa_system.specs.Logs.{log_entry}
use Rattle.ioa_run.specs.Tallies.{own_names, tally_of}
use Rattle.ioa_serving.specs.RunReports.{tallies_text}
use Rattle.ioa_serving.proofs.tallies.put_members.Given as goal

-- the lines so far, and those of the components that are left, are all
abbrev pub invariant-loop-who : goal.invariant-loop-who
invariant-loop-who l =
    string_bytes l.text ++ tallies_text (map log_entry l.new) l.who (map (λ m. m.name) (map member_code (drop l.who l.members))) (map own_names (map member_code (drop l.who l.members))) (map tally_of (drop l.who l.tallies))
    ≡ string_bytes l.fn.text ++ tallies_text (map log_entry l.new) 0 (map (λ m. m.name) (map member_code l.members)) (map own_names (map member_code l.members)) (map tally_of l.tallies)
