use Rattle.std.proofs.Common.{◌++◌, map, string_bytes, ap, ap₂, ◌∙◌}
use Rattle.ioa_value.specs.Actions.{act_of}
use Rattle.ioa_account.specs.Accounts.{action_text}
use Rattle.ioa_account.specs.Objects.{not_enabled_text}
use Rattle.ioa_account.proofs.Remarking.{on_ok}
use Rattle.ioa_account.proofs.objects.put_blocked.Goals as goal

pub returns : goal.returns
returns c =
    on_ok c.put_not_enabled.result
    (λ puts. puts ∙ ap₂ (λ a x. string_bytes c.args.text.now ++ not_enabled_text a x)
    (c.as_str.ensures.value ∙ c.in_ok-action.ensures ∙ ap (λ types. action_text types (map act_of c.args.actions.now) c.args.index) c.types.ensures.value) c.owner_name-name.ensures)
    c.put_not_enabled.ensures
