use Rattle.std.proofs.Common.{◌≡◌, ◌∙◌, ◌-◌, ℕ, List, ap, drop, map, min, sym, take}
use Rattle.ioa_system.specs.declared.log.LogEntry.{LogEntry}
use Rattle.ioa_system.specs.Logs.{log_entry}
use Rattle.ioa_serving.specs.Traces.{performed}
use Rattle.ioa_serving.proofs.TalliedLines.{between}
use Rattle.ioa_serving.proofs.tallies.new_entries.Goals as goal
use Rattle.ioa_serving.proofs.tallies.new_entries.Goals.{in-Done, in-Fault}

pub returns : goal.returns
returns c =
    let r = c.args.ran.now in
    let n = c.match-ran.count in
    let count : n ≡ performed r.log.end = elim c.match-ran.branch [
      | in-Done w ↦ w.count-is ∙ sym (ap performed w.in-Done.is)
      | in-Fault w ↦ w.count-is ∙ sym (ap performed w.in-Fault.is)
    ] in
    ap (λ (xs : List LogEntry). map log_entry (take (n - c.min-before.result) (drop c.min-before.result xs))) c.deref.ensures.value
    ∙ ap (λ (k : ℕ). map log_entry (take (n - k) (drop k r.log.entries.items))) c.min-before.ensures
    ∙ ap (λ (k : ℕ). map log_entry (take (k - min r.before k) (drop (min r.before k) r.log.entries.items))) count
    ∙ between log_entry r.log.entries.items r.before (performed r.log.end) c.requires
