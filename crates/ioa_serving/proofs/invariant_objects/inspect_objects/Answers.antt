use Rattle.std.proofs.Common.{◌≡◌, Some, None, true, ap, ap₂, sym, ◌∙◌}
use Rattle.std.specs.Option.{option_map}
use Rattle.std.proofs.lemmas.Option.{IfSome_then}
use Rattle.std.proofs.lemmas.Result.{err_from_is_err_and}
use Rattle.ioa_tree.specs.Hosts.{first_broken_host}
use Rattle.ioa_compile.specs.Subjects.{of_hosts}
use Rattle.ioa_system.specs.Logs.{actions_of}
use Rattle.ioa_inspect.specs.Breaking.{broken_of}
use Rattle.ioa_serving.specs.Objects.{found_rendered, rendered}
use Rattle.ioa_serving.proofs.Logged.{found_broken, found_unbroken}
use Rattle.ioa_serving.proofs.Refused.{err_so}
use Rattle.ioa_serving.proofs.invariant_objects.inspect_objects.Goals as goal

pub returns-in_err-inspection-clause-refused : goal.returns-in_err-inspection-clause-refused
returns-in_err-inspection-clause-refused g c =
    let e = err_from_is_err_and c.from_residual.result c.from_residual.ensures.1 in
    err_so c.from_residual.result e.0 _ _ e.1 e.2 (λ h stands. c.in_err-inspection.ensures.refused (of_hosts h) stands)

pub returns-in_ok-line-in-Some-clause-finds : goal.returns-in_ok-line-in-Some-clause-finds
returns-in_ok-line-in-Some-clause-finds g c = λ h stands.
    IfSome_then (g.R.Read.remaining c.args.input.now) (c.in_ok-inspection.ensures.ok (of_hosts h) stands)
    (λ xs k.
    let first : Some (broken_of c.in-Some.broken) ≡ first_broken_host h (actions_of k.replayed.log) = ap (option_map broken_of) (sym c.in-Some.is) ∙ k.broken in
    let found = found_broken h k.replayed.log c.in-Some.broken first in
    (k.replayed.log, k.replayed.is_log, found, c.in_ok-line-in-Some.ensures ∙ ap (found_rendered true h k.replayed.log) found))

pub returns-in_ok-objects-in-None-clause-finds : goal.returns-in_ok-objects-in-None-clause-finds
returns-in_ok-objects-in-None-clause-finds g c = λ h stands.
    IfSome_then (g.R.Read.remaining c.args.input.now) (c.in_ok-inspection.ensures.ok (of_hosts h) stands)
    (λ xs k.
    let none : None ≡ first_broken_host h (actions_of k.replayed.log) = ap (option_map broken_of) (sym c.in-None.is) ∙ k.broken in
    let found = found_unbroken h k.replayed.log c.in_ok-inspection.inspection.replayed.end none k.replayed.ending in
    (k.replayed.log, k.replayed.is_log, found, c.in_ok-objects-in-None.ensures ∙ ap₂ (rendered true) k.replayed.text k.replayed.ending ∙ ap (found_rendered true h k.replayed.log) found))
