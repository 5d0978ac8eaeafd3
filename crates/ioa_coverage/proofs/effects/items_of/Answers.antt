use Rattle.std.proofs.Common.{◌∙◌, ap, sym}
use Rattle.ioa_value.specs.Plain.{plain, plain_all}
use Rattle.ioa_value.specs.declared.value.Value.{Value}
use Rattle.ioa_value.proofs.PlainLemmas.{plain-Items}
use Rattle.ioa_coverage.specs.Following.{items_in}
use Rattle.ioa_coverage.proofs.effects.items_of.Goals as goal

pub returns-in-Items : goal.returns-in-Items
returns-in-Items c =
    ap (λ (v : Value). items_in (plain v)) c.in-Items.is ∙ ap items_in (plain-Items c.in-Items.field-0 c.in-Items.items) ∙ ap plain_all (sym c.deref.ensures.value)
