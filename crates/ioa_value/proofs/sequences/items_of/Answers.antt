use Rattle.std.proofs.Common.{sym, ap, ◌∙◌}
use Rattle.ioa_value.specs.Plain.{plain, plain_all, items}
use Rattle.ioa_value.proofs.PlainLemmas.{plain-Items}
use Rattle.ioa_value.proofs.sequences.items_of.Goals as goal

pub returns : goal.returns
returns c =
    let ty = c.in-Items.field-0 in
    (ty.0, ap plain c.in-Items.is ∙ plain-Items ty c.in-Items.items ∙ ap (λ l. items ty.0 (plain_all l)) (sym c.deref.ensures.value))
