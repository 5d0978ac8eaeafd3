use Rattle.std.proofs.Common.{◌++◌, ap, subst, sym, ◌∙◌}
use Rattle.std.proofs.lemmas.Option.{IfSome_then}
use Rattle.std.proofs.lemmas.Result.{err_from_is_err_and}
use Rattle.ioa_tree.specs.Hosts.{hosts_of, host_starts}
use Rattle.ioa_tree.specs.Likes.{AllRelated}
use Rattle.ioa_tree.specs.Runs.{run}
use Rattle.ioa_compose.specs.Held.{composed_of}
use Rattle.ioa_compile.specs.Subjects.{HoldsTyped, of_hosts}
use Rattle.ioa_system.specs.Logs.{actions_of}
use Rattle.ioa_system.specs.Systems.{values_of}
use Rattle.ioa_serving.specs.States.{shown_lines}
use Rattle.ioa_serving.proofs.Refused.{err_so}
use Rattle.ioa_serving.proofs.states_replay.reached_by_log.Goals as goal

pub returns-in_err-performed-clause-refused : goal.returns-in_err-performed-clause-refused
returns-in_err-performed-clause-refused g c =
    let e = err_from_is_err_and c.from_residual-in_err-performed.result c.from_residual-in_err-performed.ensures.1 in
    err_so c.from_residual-in_err-performed.result e.0 _ _ e.1 e.2
    (λ h stands. c.in_err-performed.ensures.refused (of_hosts h) (composed_of c.args.composition.now, stands, c.in_ok-program.ensures))

pub returns-clause-reaches : goal.returns-clause-reaches
returns-clause-reaches g c = λ h over stands.
    IfSome_then (g.R.Read.remaining c.args.input.now)
    (c.in_ok-performed.ensures.ok (of_hosts h) (composed_of c.args.composition.now, stands, c.in_ok-program.ensures))
    (λ xs k.
    let states = (run (hosts_of h) (actions_of k.log) (host_starts h)).states in (
      k.log,
      k.is_log,
      k.ending,
      c.in_ok-put_shown.ensures h states over stands c.in_ok-program.ensures
          (subst (λ ns. AllRelated (HoldsTyped h.hosts c.in_ok-program.program.members) 0 states (values_of ns)) (sym c.deref.ensures.value) k.states)
          ∙ ap (λ told. told ++ shown_lines h c.args.shown states) k.text,
    ))
