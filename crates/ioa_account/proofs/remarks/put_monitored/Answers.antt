use Rattle.std.proofs.Common.{◌≡◌, ◌++◌, None, length, map, string_bytes, ap, ap₂, sym, subst, ◌∙◌, arith}
use Rattle.std.specs.Vec.{vec_len}
use Rattle.std.proofs.lemmas.List.{length-map}
use Rattle.ioa_value.specs.Actions.{act_of}
use Rattle.ioa_tree.specs.Hosts.{host_starts, hosts_of}
use Rattle.ioa_compose.specs.Held.{composed_of}
use Rattle.ioa_compile.specs.Subjects.{of_hosts}
use Rattle.ioa_monitor.specs.Monitoring.{IsRefusal, IsRefusedAt, monitored}
use Rattle.ioa_account.specs.Counts.{known_actions}
use Rattle.ioa_account.specs.Remarks.{known_text}
use Rattle.ioa_account.proofs.Remarking.{all_accepted, all_hidden, on_ok, one_refused}
use Rattle.ioa_account.proofs.remarks.put_monitored.Goals as goal

pub returns-in_ok-put_log_line-in-Err-At : goal.returns-in_ok-put_log_line-in-Err-At
returns-in_ok-put_log_line-in-Err-At c =
    let composed = composed_of c.args.told.now.composition.now in
    let xs = c.args.actions.items in
    let long : vec_len c.args.actions ≡ length xs = omega (arith, c.args.actions.ok.0) in
    on_ok c.put_refused.result
    (λ tells h stands.
    one_refused c.args.told.now h (map act_of xs) (string_bytes c.args.text.now) (string_bytes c.put_known.new.text)
    (c.in_ok-put_known.ensures ∙ ap₂ (λ n m. string_bytes c.args.text.now ++ known_text n m)
    (c.in_ok-count.ensures (of_hosts h) (composed, stands, c.in_ok-program.ensures) ∙ ap (λ ys. known_actions (hosts_of h) (map act_of ys)) c.deref.ensures.value)
    (c.len.ensures ∙ long ∙ sym (length-map xs act_of)))
    c.in-Err-At.index (string_bytes c.put_log_line.new.text) (string_bytes c.put_refused.new.text) c.in_ok-put_log_line-in-Err-At.ensures (tells h stands)
    c.in-Err-At.field-0-1
    (subst (λ ys. IsRefusedAt c.in-Err-At.index c.in-Err-At.field-0-1 (monitored (hosts_of h) (map act_of ys) (host_starts h))) c.deref-2.ensures.value
    (subst (λ e. IsRefusal e (of_hosts h) (monitored (hosts_of h) (map act_of c.deref-2.result.now) (host_starts h))) c.in-Err-At.field-0-is
    (c.in-Err-At.ensures.refused (of_hosts h) (composed, stands, c.in_ok-program.ensures))).1))
    c.put_refused.ensures

pub returns-in-Ok : goal.returns-in-Ok
returns-in-Ok c = λ h stands.
    let composed = composed_of c.args.told.now.composition.now in
    let xs = c.args.actions.items in
    let long : vec_len c.args.actions ≡ length xs = omega (arith, c.args.actions.ok.0) in
    all_accepted c.args.told.now h (map act_of xs) (string_bytes c.args.text.now) (string_bytes c.put_known.new.text)
    (c.in_ok-put_known.ensures ∙ ap₂ (λ n m. string_bytes c.args.text.now ++ known_text n m)
    (c.in_ok-count.ensures (of_hosts h) (composed, stands, c.in_ok-program.ensures) ∙ ap (λ ys. known_actions (hosts_of h) (map act_of ys)) c.deref.ensures.value)
    (c.len.ensures ∙ long ∙ sym (length-map xs act_of)))
    (subst (λ ys. monitored (hosts_of h) (map act_of ys) (host_starts h) ≡ None) c.deref-2.ensures.value (c.in-Ok.ensures.accepted (of_hosts h) (composed, stands, c.in_ok-program.ensures)).1)

pub returns-in-Err-SpecHasInternal : goal.returns-in-Err-SpecHasInternal
returns-in-Err-SpecHasInternal c = λ h stands.
    let composed = composed_of c.args.told.now.composition.now in
    let xs = c.args.actions.items in
    let long : vec_len c.args.actions ≡ length xs = omega (arith, c.args.actions.ok.0) in
    all_hidden c.args.told.now h (map act_of xs) (string_bytes c.args.text.now) (string_bytes c.put_known.new.text)
    (c.in_ok-put_known.ensures ∙ ap₂ (λ n m. string_bytes c.args.text.now ++ known_text n m)
    (c.in_ok-count.ensures (of_hosts h) (composed, stands, c.in_ok-program.ensures) ∙ ap (λ ys. known_actions (hosts_of h) (map act_of ys)) c.deref.ensures.value)
    (c.len.ensures ∙ long ∙ sym (length-map xs act_of)))
    (subst (λ e. IsRefusal e (of_hosts h) (monitored (hosts_of h) (map act_of c.deref-2.result.now) (host_starts h))) c.in-Err-SpecHasInternal.field-0-is
    (c.in-Err-SpecHasInternal.ensures.refused (of_hosts h) (composed, stands, c.in_ok-program.ensures)))
