use Rattle.std.proofs.Common.{◌∙◌, ◌++◌, ap, map, string_bytes, subst}
use Rattle.ioa_system.specs.Logs.{actions_of, log_entry, logged}
use Rattle.ioa_account.proofs.Remarking.{acts_of_log}
use Rattle.ioac.specs.Idle.{idle_text}
use Rattle.ioac.specs.Remarks.{TellsReached}
use Rattle.ioac.proofs.remarks.ended.put_performed.Goals as goal

pub returns : goal.returns
returns c =
    let t = c.args.told.now in
    let log = c.args.log in
    let before = string_bytes c.args.text.now in
    let told = string_bytes c.put_reached.new.text in
    let idle =
    c.in_ok-put_idle.ensures ∙ ap (λ es. before ++ idle_text (map log_entry es) 0 c.members.result.now) c.deref.ensures.value
    ∙ ap (λ ms. before ++ idle_text (map log_entry log.entries.items) 0 ms) c.members.ensures.value in
    let acts = acts_of_log log c.deref-2.result.now c.in_ok-actions.actions.items c.deref-2.ensures.value c.in_ok-actions.ensures in (
      told,
      c.as_str.result.now,
      subst (λ b. TellsReached t (actions_of (logged log)) b told) idle (subst (λ xs. TellsReached t xs (string_bytes c.put_idle.new.text) told) acts c.in_ok-put_reached.ensures),
      c.in_ok-push_str.ensures.bytes,
    )
