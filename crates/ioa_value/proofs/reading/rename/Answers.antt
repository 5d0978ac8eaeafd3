use Rattle.std.proofs.Common.{◌++◌, sym, ap, ◌∙◌}
use Rattle.std.proofs.lemmas.Slice.Eq.{bytes_eq-Decides}
use Rattle.ioa_value.proofs.reading.rename.Goals as goal

pub returns-then-eq : goal.returns-then-eq
returns-then-eq c =
    sym c.as_bytes.ensures.value ∙ (bytes_eq-Decides c.as_bytes.result.now c.args.word.now).0 (sym c.eq.ensures ∙ c.if-eq.true)

pub returns-in_default : goal.returns-in_default
returns-in_default c = c.in_default.ensures.cases.0

pub returns : goal.returns
returns c =
    c.in_ok-push_str.ensures.bytes ∙ ap (λ l. l ++ c.in-Ok.text.now) c.clear.ensures.bytes ∙ c.in-Ok.ensures.cases.0
