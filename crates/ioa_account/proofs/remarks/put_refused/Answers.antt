use Rattle.std.proofs.Common.{Some, None, map, ap, sym, subst, ◌∙◌, append-nil}
use Rattle.ioa_value.specs.Actions.{act_of}
use Rattle.ioa_compose.specs.Held.{composed_of}
use Rattle.ioa_compile.specs.Subjects.{of_hosts}
use Rattle.ioa_account.specs.Remarks.{IsAccountOf}
use Rattle.ioa_account.proofs.Remarking.{known_among_as, on_ok}
use Rattle.ioa_account.proofs.remarks.put_refused.Goals as goal

pub returns-in-Some : goal.returns-in-Some
returns-in-Some c =
    let composition = c.args.told.now.composition.now in
    let composed = composed_of composition in
    let known = ap (map act_of) c.deref.ensures.value ∙ c.in_ok-known.ensures in
    on_ok c.put_account.result
    (λ puts h stands. (
      Some c.in-Some.found,
      subst (λ acts. IsAccountOf composition acts (Some c.in-Some.found)) (known ∙ known_among_as c.args.program.now (of_hosts h) (composed, stands, c.requires) (map act_of c.args.actions.items))
          (subst (IsAccountOf composition (map act_of c.deref.result.now)) c.in-Some.is (c.in_ok-found.ensures.told, c.in_ok-found.ensures.line)),
      puts,
    ))
    c.put_account.ensures

pub returns : goal.returns
returns c = λ h stands.
    let composition = c.args.told.now.composition.now in
    let composed = composed_of composition in
    let known = ap (map act_of) c.deref.ensures.value ∙ c.in_ok-known.ensures in (
      None,
      subst (λ acts. IsAccountOf composition acts None) (known ∙ known_among_as c.args.program.now (of_hosts h) (composed, stands, c.requires) (map act_of c.args.actions.items))
          (subst (IsAccountOf composition (map act_of c.deref.result.now)) c.in-None.is (c.in_ok-found.ensures.told, c.in_ok-found.ensures.line)),
      sym (append-nil _),
    )
