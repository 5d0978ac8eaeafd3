use Rattle.std.proofs.Common.{◌++◌, string_bytes, ap, ◌∙◌}
use Rattle.ioa_account.specs.Remarks.{performed_text}
use Rattle.ioa_account.proofs.Remarking.{on_ok}
use Rattle.ioa_account.proofs.remarks.put_last_performed.Goals as goal

pub returns : goal.returns
returns c =
    on_ok c.put_performed.result
    (λ puts. puts ∙ ap (λ a. string_bytes c.args.text.now ++ performed_text a) (c.as_str.ensures.value ∙ c.in_ok-action.ensures))
    c.put_performed.ensures
