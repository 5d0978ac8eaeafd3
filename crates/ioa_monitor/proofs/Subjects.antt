-- What a monitor answers of a program's table, and what is seen of it, said of whatever the program runs as.
use Rattle.std.proofs.Common.{◌≡◌, true, false, List, subst, ◌∙◌}
use Rattle.ioa_value.specs.Actions.{Act}
use Rattle.ioa_compile.specs.Programs.{Prog}
use Rattle.ioa_compile.specs.Subjects.{InSlots, RunsAs, Subject, of_hosts, of_composition, of_table, its_components, its_starts}
use Rattle.ioa_compile.specs.Tables.{start_states, tabled}
use Rattle.ioa_compile.proofs.Subjects.{does_as}
use Rattle.ioa_monitor.specs.Monitoring.{IsClosed, IsOpen, hides, monitored}
use Rattle.ioa_monitor.proofs.Hosting.{hosts_hide, hosts_seen}
use Rattle.ioa_monitor.proofs.Monitored.{hides_means, monitored_like}

pub monitored_as : (p : Prog) (s : Subject) → RunsAs p s → (acts : List Act) → monitored (its_components s) acts (its_starts s) ≡ monitored (tabled p) acts (start_states p)
monitored_as p s runs acts =
    let k = does_as p s runs in
    monitored_like (InSlots p s) (its_components s) (tabled p) acts (its_starts s) (start_states p) k.components k.starts

pub open_as : (p : Prog) → hides p ≡ false → (s : Subject) → RunsAs p s → IsOpen s
open_as p e (of_hosts h) runs = hosts_seen h runs.0 runs.1 (hides_means p runs.0 runs.2 ∙ e)
open_as p e (of_composition c) runs = hides_means p c runs ∙ e
open_as p e (of_table q) runs = subst (λ x. hides x ≡ false) runs e

pub closed_as : (p : Prog) → hides p ≡ true → (s : Subject) → RunsAs p s → IsClosed s
closed_as p e (of_hosts h) runs = hosts_hide h runs.0 runs.1 (hides_means p runs.0 runs.2 ∙ e)
closed_as p e (of_composition c) runs = hides_means p c runs ∙ e
closed_as p e (of_table q) runs = subst (λ x. hides x ≡ true) runs e
