use Rattle.std.proofs.Common.{◌≡◌, OnOk, string_bytes, sym, ap, subst, ◌∙◌}
use Rattle.std.specs.Prelude.{unwrap_or}
use Rattle.std.specs.Option.{option_map}
use Rattle.ioac.specs.Remarks.{IsRemark, log_of_run}
use Rattle.ioac.proofs.remarks.put_done.Goals as goal

pub returns-in-Some : goal.returns-in-Some
returns-in-Some g c = λ none.
    let log = c.in-Some.log in
    let heard : log.items ≡ unwrap_or (log_of_run c.args.ran.now) c.args.input.now =
    ap (λ o. unwrap_or o c.args.input.now) (sym (ap (option_map (λ bytes. bytes.items)) c.in-Some.is) ∙ c.in_ok-log.ensures) in
    subst (λ input. OnOk c.put_served.result
    (IsRemark (g.F.Store.holds c.args.store.now) (g.F.Store.lacks c.args.store.now) c.args.asked.now input c.args.status (string_bytes c.put_served.new.text)))
    (c.as_slice.ensures.value ∙ heard) (c.put_served.ensures none)

pub returns-in-None : goal.returns-in-None
returns-in-None g c = λ none.
    let heard : c.args.input.now ≡ unwrap_or (log_of_run c.args.ran.now) c.args.input.now =
    ap (λ o. unwrap_or o c.args.input.now) (sym (ap (option_map (λ bytes. bytes.items)) c.in-None.is) ∙ c.in_ok-log.ensures) in
    subst (λ input. OnOk c.put_served-in-None.result
    (IsRemark (g.F.Store.holds c.args.store.now) (g.F.Store.lacks c.args.store.now) c.args.asked.now input c.args.status (string_bytes c.put_served-in-None.new.text)))
    heard (c.put_served-in-None.ensures none)
