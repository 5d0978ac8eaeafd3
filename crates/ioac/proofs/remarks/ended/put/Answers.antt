use Rattle.std.proofs.Common.{◌≡◌, true, false, inl, inr, string_bytes, sym, ap, subst, ◌∙◌}
use Rattle.std.specs.Option.{option_copied}
use Rattle.ioa_serving.specs.Headline.{begins_object}
use Rattle.ioac.specs.Remarks.{TellsEnded, TellsNameless, TellsSource, named_by}
use Rattle.ioa_account.proofs.Remarking.{on_ok}
use Rattle.ioac.proofs.remarks.ended.put.Goals as goal

pub returns-then-is_object : goal.returns-then-is_object
returns-then-is_object g c =
    let from = sym c.source_of.ensures ∙ ap named_by c.in-Some.is in
    let before = string_bytes c.args.text.now in
    let after = string_bytes c.put.new.text in
    on_ok c.put.result
    (λ tells.
    subst (λ o. TellsEnded (g.F.Store.holds c.args.store.now) (g.F.Store.lacks c.args.store.now) c.args.asked.now o c.args.ended c.args.input.now before after) (sym from) (
      c.in_ok-bytes.bytes.items,
      c.in_ok-bytes.ensures,
      inl (
        subst (λ bytes. begins_object bytes ≡ true) c.as_slice-source.ensures.value (sym c.if-is_object.ensures),
        subst (λ bytes. TellsNameless c.args.asked.now c.args.ended bytes (option_copied c.in-Some.name) c.args.input.now before after) c.as_slice-source.ensures.value tells,
      ),
    ))
    c.put.ensures

pub returns : goal.returns
returns g c =
    let from = sym c.source_of.ensures ∙ ap named_by c.in-Some.is in
    let before = string_bytes c.args.text.now in
    let after = string_bytes c.put_source.new.text in
    on_ok c.put_source.result
    (λ tells.
    subst (λ o. TellsEnded (g.F.Store.holds c.args.store.now) (g.F.Store.lacks c.args.store.now) c.args.asked.now o c.args.ended c.args.input.now before after) (sym from) (
      c.in_ok-bytes.bytes.items,
      c.in_ok-bytes.ensures,
      inr (
        subst (λ bytes. begins_object bytes ≡ false) c.as_slice-source.ensures.value (sym c.if-is_object.ensures),
        subst (λ bytes. TellsSource c.args.asked.now c.args.ended (c.in-Some.file.now, option_copied c.in-Some.name) bytes c.args.input.now before after) c.as_slice-source.ensures.value tells,
      ),
    ))
    c.put_source.ensures
