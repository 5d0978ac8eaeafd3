use Rattle.std.proofs.Common.{Some, None, option_map, string_bytes, refl, subst, ap, ◌∙◌}
use Rattle.ioa_causes.specs.Worded.{wording}
use Rattle.ioac.specs.Heard.{FindsHeard}
use Rattle.ioac.proofs.remarks.refused.heard_words.Goals as goal

pub returns-in-Some : goal.returns-in-Some
returns-in-Some g c = (
  Some (string_bytes c.in-Some.words),
  subst (λ found. FindsHeard (g.F.Store.holds c.args.store.now) (g.F.Store.lacks c.args.store.now) c.args.failure.now c.args.asked.now c.args.heard.is_log c.args.heard.bytes.now c.args.heard.line (option_map string_bytes found))
      c.in-Some.is c.in_ok-words.ensures,
  refl,
)

pub returns-in_ok-general-in-None : goal.returns-in_ok-general-in-None
returns-in_ok-general-in-None g c = (
  None,
  subst (λ found. FindsHeard (g.F.Store.holds c.args.store.now) (g.F.Store.lacks c.args.store.now) c.args.failure.now c.args.asked.now c.args.heard.is_log c.args.heard.bytes.now c.args.heard.line (option_map string_bytes found))
      c.in-None.is c.in_ok-words.ensures,
  c.in_ok-general-in-None.ensures ∙ ap wording c.code.ensures,
)
