use Rattle.std.proofs.Common.{ap, map, subst, sym}
use Rattle.ioa_value.specs.Actions.{act_of}
use Rattle.ioa_tree.specs.Hosts.{hosts_of, host_starts}
use Rattle.ioa_tree.specs.Likes.{AllRelated}
use Rattle.ioa_tree.specs.Runs.{run}
use Rattle.ioa_compose.specs.Held.{composed_of}
use Rattle.ioa_compile.specs.Subjects.{HoldsTyped, of_hosts}
use Rattle.ioa_system.specs.Systems.{values_of}
use Rattle.ioa_account.proofs.Remarking.{on_ok}
use Rattle.ioac.proofs.remarks.reached.put_reached.Goals as goal

pub returns : goal.returns
returns c =
    let p = c.in_ok-program.program in
    let acts = map act_of c.args.actions.now in
    on_ok c.put_next.result
    (λ tells. λ h stands over.
    let states = (run (hosts_of h) acts (host_starts h)).states in
    let k = c.in_ok-run.ensures (of_hosts h) (composed_of c.args.told.now.composition.now, stands, c.in_ok-program.ensures) in
    tells h states over stands c.in_ok-program.ensures
    (subst (λ vss. AllRelated (HoldsTyped h.hosts p.members) 0 states vss) (sym (ap values_of c.deref.ensures.value)) k.reached.states))
    c.put_next.ensures
