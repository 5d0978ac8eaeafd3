use Rattle.std.proofs.Common.{◌++◌, map, string_bytes, ap₂, refl, sym, subst, ◌∙◌}
use Rattle.std.proofs.lemmas.List.{length-map}
use Rattle.ioa_value.specs.Actions.{act_of}
use Rattle.ioa_compile.specs.Subjects.{of_table}
use Rattle.ioa_compile.specs.Tables.{start_states, tabled}
use Rattle.ioa_monitor.specs.Monitoring.{IsRefusal, monitored}
use Rattle.ioa_account.specs.Remarks.{known_text}
use Rattle.ioa_account.proofs.Refusing.{object_accepts, object_hides, object_refuses}
use Rattle.ioa_account.proofs.Remarking.{on_ok}
use Rattle.ioa_account.proofs.objects.put_object_monitored.Goals as goal

pub returns-in-Ok : goal.returns-in-Ok
returns-in-Ok c =
    let xs = c.args.actions.now in
    object_accepts c.args.program.now c.args.input.now (map act_of xs) (string_bytes c.args.text.now) (string_bytes c.put_known.new.text)
    (c.in_ok-put_known.ensures ∙ ap₂ (λ n m. string_bytes c.args.text.now ++ known_text n m) (c.in_ok-count.ensures (of_table c.args.program.now) refl) (sym (length-map xs act_of)))
    (c.in-Ok.ensures.accepted (of_table c.args.program.now) refl).1

pub returns-in-Err-SpecHasInternal : goal.returns-in-Err-SpecHasInternal
returns-in-Err-SpecHasInternal c =
    let xs = c.args.actions.now in
    let p = c.args.program.now in
    object_hides p c.args.input.now (map act_of xs) (string_bytes c.args.text.now) (string_bytes c.put_known.new.text)
    (c.in_ok-put_known.ensures ∙ ap₂ (λ n m. string_bytes c.args.text.now ++ known_text n m) (c.in_ok-count.ensures (of_table c.args.program.now) refl) (sym (length-map xs act_of)))
    (subst (λ e. IsRefusal e (of_table p) (monitored (tabled p) (map act_of xs) (start_states p))) c.in-Err-SpecHasInternal.field-0-is (c.in-Err-SpecHasInternal.ensures.refused (of_table p) refl))

pub returns-in-Err-At : goal.returns-in-Err-At
returns-in-Err-At c =
    let xs = c.args.actions.now in
    let p = c.args.program.now in
    let answered = subst (λ e. IsRefusal e (of_table p) (monitored (tabled p) (map act_of xs) (start_states p))) c.in-Err-At.field-0-is (c.in-Err-At.ensures.refused (of_table p) refl) in
    on_ok c.put_refusal.result
    (λ puts. object_refuses p c.args.input.now (map act_of xs) (string_bytes c.args.text.now) (string_bytes c.put_known.new.text)
    (c.in_ok-put_known.ensures ∙ ap₂ (λ n m. string_bytes c.args.text.now ++ known_text n m) (c.in_ok-count.ensures (of_table c.args.program.now) refl) (sym (length-map xs act_of)))
    (string_bytes c.put_refusal.new.text) puts)
    (c.put_refusal.ensures (monitored (tabled p) (map act_of xs) (start_states p)) answered.1)
