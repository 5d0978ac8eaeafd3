use Rattle.std.proofs.Common.{◌++◌, IfSome, ap, subst, sym, ◌∙◌}
use Rattle.std.proofs.lemmas.Option.{IfSome_then}
use Rattle.std.proofs.lemmas.Result.{err_from_is_err_and}
use Rattle.ioa_value.specs.Lists.{BadLine}
use Rattle.ioa_tree.specs.Hosts.{hosts_of, host_starts}
use Rattle.ioa_tree.specs.Likes.{AllRelated}
use Rattle.ioa_tree.specs.Runs.{run}
use Rattle.ioa_compose.specs.Held.{composed_of}
use Rattle.ioa_compile.specs.Subjects.{HoldsTyped, of_hosts}
use Rattle.ioa_system.specs.Systems.{values_of}
use Rattle.ioa_serving.specs.States.{shown_lines}
use Rattle.ioa_serving.proofs.Refused.{err_as}
use Rattle.ioa_serving.proofs.states_replay.reached.Goals as goal

pub returns-in_err-replayed-clause-bad : goal.returns-in_err-replayed-clause-bad
returns-in_err-replayed-clause-bad g c = λ n r.
    let e = err_from_is_err_and c.from_residual-in_err-replayed.result c.from_residual-in_err-replayed.ensures.1 in
    let said = c.in_err-replayed.ensures.bad n (err_as c.from_residual-in_err-replayed.result e.0 c.in_err-replayed.field-0.0 _ e.1 e.2 r) in
    subst (λ ts. IfSome (g.R.Read.remaining c.args.input.now) (λ xs. BadLine ts xs n)) c.in_ok-program.ensures.types said

pub returns-clause-reaches : goal.returns-clause-reaches
returns-clause-reaches g c = λ h over stands.
    IfSome_then (g.R.Read.remaining c.args.input.now) (c.in_ok-replayed.ensures.ok (of_hosts h) (composed_of c.args.composition.now, stands, c.in_ok-program.ensures))
    (λ xs k.
    let states = (run (hosts_of h) k.acts (host_starts h)).states in (
      k.acts,
      k.reads,
      k.ending,
      c.in_ok-put_shown.ensures h states over stands c.in_ok-program.ensures
          (subst (λ ns. AllRelated (HoldsTyped h.hosts c.in_ok-program.program.members) 0 states (values_of ns)) (sym c.deref.ensures.value) k.states)
          ∙ ap (λ told. told ++ shown_lines h c.args.shown states) k.text,
    ))
