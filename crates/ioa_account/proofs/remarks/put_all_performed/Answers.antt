use Rattle.std.proofs.Common.{◌≡◌, ◌-◌, ◌++◌, ◌&&◌, ◌==◌, Bool, true, false, not, length, map, string_bytes, sym, ap, ◌∙◌}
use Rattle.std.specs.Prelude.{if◌then◌else◌}
use Rattle.std.proofs.lemmas.List.{length-map}
use Rattle.ioa_value.specs.Actions.{act_of}
use Rattle.ioa_system.specs.Logs.{is_fault, log_end}
use Rattle.ioa_account.specs.Remarks.{last_performed, own_end}
use Rattle.ioa_account.proofs.Remarking.{on_ok}
use Rattle.ioa_account.proofs.remarks.put_all_performed.Goals as goal

pub returns-then-is_of_last : goal.returns-then-is_of_last
returns-then-is_of_last c =
    let xs = c.args.actions.now in
    let acts = map act_of xs in
    let end = log_end c.args.end in
    let old = string_bytes c.args.text.now in
    let long : length xs ≡ length acts = sym (length-map xs act_of) in
    let of_last : (is_fault end && not (length acts == 0)) ≡ true = ap (λ k. is_fault end && not (k == 0)) (sym long) ∙ sym c.is_of_last.ensures ∙ c.if-is_of_last.true in
    on_ok c.put_last_performed.result
    (λ puts. puts ∙ ap (λ k. old ++ last_performed c.args.types.now acts k) (c.saturating_sub-last.ensures ∙ ap (λ k. k - 1) long)
    ∙ ap (λ (b : Bool). old ++ (if b then last_performed c.args.types.now acts (length acts - 1) else own_end (length acts))) (sym of_last))
    c.put_last_performed.ensures

pub returns-else-is_of_last : goal.returns-else-is_of_last
returns-else-is_of_last c =
    let xs = c.args.actions.now in
    let acts = map act_of xs in
    let end = log_end c.args.end in
    let old = string_bytes c.args.text.now in
    let long : length xs ≡ length acts = sym (length-map xs act_of) in
    let of_last : (is_fault end && not (length acts == 0)) ≡ false = ap (λ k. is_fault end && not (k == 0)) (sym long) ∙ sym c.is_of_last.ensures ∙ c.if-is_of_last.false in
    on_ok c.put_own_end.result
    (λ puts. puts ∙ ap (λ k. old ++ own_end k) long
    ∙ ap (λ (b : Bool). old ++ (if b then last_performed c.args.types.now acts (length acts - 1) else own_end (length acts))) (sym of_last))
    c.put_own_end.ensures
