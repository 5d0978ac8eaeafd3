use Rattle.std.proofs.Common.{string_bytes, sym, ap, subst, ◌∙◌}
use Rattle.std.specs.Option.{option_copied}
use Rattle.ioa_account.proofs.Remarking.{on_ok}
use Rattle.ioac.specs.Refused.{TellsUnseen, TellsUnseenIn}
use Rattle.ioac.proofs.remarks.composed.put_unseen.Goals as goal

pub returns : goal.returns
returns g c =
    let from = sym c.file_of.ensures ∙ ap option_copied c.in-Some.is in
    let request = c.args.asked.now in
    let before = string_bytes c.args.text.now in
    let after = string_bytes c.put_unseen_in.new.text in
    on_ok c.put_unseen_in.result
    (λ tells.
    subst (λ o. TellsUnseen (g.F.Store.holds c.args.store.now) (g.F.Store.lacks c.args.store.now) o request c.args.code before after) (sym from) (
      c.in_ok-bytes.bytes.items,
      c.in_ok-bytes.ensures,
      subst (λ bytes. TellsUnseenIn request c.args.code c.in-Some.name.now bytes before after) c.as_slice.ensures.value tells,
    ))
    c.put_unseen_in.ensures
