use Rattle.std.proofs.Common.{◌≡◌, ◌++◌, Some, length, map, string_bytes, append_assoc, sym, ap, subst, ◌∙◌}
use Rattle.std.proofs.lemmas.List.{length-map}
use Rattle.ioa_value.specs.Actions.{act_of}
use Rattle.ioa_system.specs.Logs.{log_end}
use Rattle.ioa_system.specs.Outcomes.{ending_of}
use Rattle.ioa_account.specs.Remarks.{IsAccountOf, account_text, other_fault}
use Rattle.ioa_account.proofs.Remarking.{on_ok}
use Rattle.ioa_account.proofs.remarks.put_difference.Goals as goal

pub returns-in_ok-put_other_fault-in-Some : goal.returns-in_ok-put_other_fault-in-Some
returns-in_ok-put_other_fault-in-Some c =
    let t = c.args.told.now in
    let xs = c.args.actions.now in
    let acts = map act_of xs in
    let found = c.in-Some.found in
    let old = string_bytes c.args.text.now in
    let other = other_fault (length acts) (log_end c.args.end) (ending_of found.end) in
    let put : string_bytes c.put_other_fault.new.text ≡ old ++ other =
    c.in_ok-put_other_fault-in-Some.ensures ∙ ap (λ k. old ++ other_fault k (log_end c.args.end) (ending_of found.end)) (sym (length-map xs act_of)) in
    on_ok c.put_account.result
    (λ puts. (
      Some found,
      subst (IsAccountOf t.composition.now acts) c.in-Some.is c.in_ok-found.ensures,
      puts ∙ ap (λ l. l ++ account_text t found) put ∙ append_assoc old other (account_text t found),
    ))
    c.put_account.ensures
