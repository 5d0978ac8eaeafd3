use Rattle.std.proofs.Common.{◌≡◌, ◌+◌, ◌++◌, Some, None, map, string_bytes, refl, ap, sym, subst, ◌∙◌, arith, rules}
use Rattle.std.specs.Option.{option_map}
use Rattle.std.proofs.lemmas.Grind.{common_steps}
use Rattle.ioa_value.specs.Actions.{act_of}
use Rattle.ioa_compile.specs.Subjects.{of_hosts}
use Rattle.ioa_system.specs.Logs.{actions_of, logged}
use Rattle.ioa_device.specs.declared.failure.LogErr.{LogErr}
use Rattle.ioa_log.specs.Judging.{TellsVerdict, agrees, diverges, wrong_owner}
use Rattle.ioa_inspect.specs.Breaking.{broken_of}
use Rattle.ioa_account.specs.Remarks.{TellsEnd, broken_text, log_line}
use Rattle.ioa_account.proofs.Remarking.{acts_of_log, inspected, on_ok}
use Rattle.ioa_account.proofs.remarks.put_inspected.Goals as goal

pub returns-in-Some : goal.returns-in-Some
returns-in-Some c =
    let log = c.args.log in
    let b = c.in-Some.broken in
    let acts : map act_of c.deref.result.now ≡ actions_of (logged log) =
    acts_of_log log c.deref.result.now c.in_ok-actions-in-Ok.actions.items c.deref.ensures.value c.in_ok-actions-in-Ok.ensures in
    on_ok c.put_broken.result
    (λ puts h stands.
    inspected c.args.told.now h (logged log) (Some (broken_of b)) _ _ _ c.asked_invariants-asked.result c.in_ok-number_of-in-Some.field-0
    (sym (ap (option_map broken_of) c.in-Some.is) ∙ (c.in-Ok.ensures.ok (of_hosts h) stands).first) (c.asked_invariants-asked.ensures.hosts h stands) c.in_ok-number_of-in-Some.ensures
    c.in_ok-put_asked-in-Some.ensures
    (puts h stands ∙ ap (λ acts. string_bytes c.put_asked.new.text ++ broken_text c.args.told.now h acts (broken_of b)) acts))
    c.put_broken.ensures

pub returns : goal.returns
returns c =
    let log = c.args.log in
    let acts : map act_of c.deref-in-None.result.now ≡ actions_of (logged log) =
    acts_of_log log c.deref-in-None.result.now c.in_ok-actions-in-Ok.actions.items c.deref-in-None.ensures.value c.in_ok-actions-in-Ok.ensures in
    on_ok c.put_log_end.result
    (λ tells h stands.
    inspected c.args.told.now h (logged log) None _ _ _ c.asked_invariants-asked.result c.in_ok-number_of-in-None.field-0
    (sym (ap (option_map broken_of) c.in-None.is) ∙ (c.in-Ok.ensures.ok (of_hosts h) stands).first) (c.asked_invariants-asked.ensures.hosts h stands)
    (c.in_ok-number_of-in-None.ensures ∙ ap (λ n. n + 1) (sym (c.in-Ok.ensures.ok (of_hosts h) stands).run.reached.performed))
    c.in_ok-put_asked-in-None.ensures
    (subst (λ acts. TellsEnd c.args.told.now (log_line c.args.told.now) acts (string_bytes c.put_asked-in-None.new.text) (string_bytes c.put_log_end.new.text)) acts tells))
    c.put_log_end.ensures

-- no other error is told of a log that agrees
memory_alone : (e : LogErr) → TellsVerdict e agrees → e ≡ LogErr.OutOfMemory
memory_alone (LogErr.NotJson n) t = absurd t
memory_alone (LogErr.BadEntry n) t = absurd t
memory_alone (LogErr.WrongOwner n) t = let w : agrees ≡ wrong_owner n = t in absurd (cc)
memory_alone (LogErr.Diverges n) t = let w : agrees ≡ diverges n = t in absurd (cc)
memory_alone LogErr.NoEnd t = absurd t
memory_alone LogErr.AfterEnd t = absurd t
memory_alone LogErr.Io t = absurd t
memory_alone LogErr.OutOfMemory t = refl

pub returns-in-Err : goal.returns-in-Err
returns-in-Err c = λ h stands agreed.
    let only : c.in-Err.field-0 ≡ LogErr.OutOfMemory = memory_alone c.in-Err.field-0 (subst (TellsVerdict c.in-Err.field-0) agreed (c.in-Err.ensures.refused (of_hosts h) stands)) in
    absurd (first_of (cc, first_of (search rules, grind (arith, common_steps))))
