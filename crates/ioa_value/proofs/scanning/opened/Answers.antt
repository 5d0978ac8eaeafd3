use Rattle.std.proofs.Common.{sym, ◌∙◌}
use Rattle.ioa_value.proofs.ItemLemmas.{item_there}
use Rattle.ioa_value.proofs.scanning.opened.Goals as goal

pub returns-in_err-declared : goal.returns-in_err-declared
returns-in_err-declared c =
    let d = item_there c.args.types.now c.args.ty.0 c.requires in
    let e = sym c.in_err-declared.ensures.missing ∙ d.1 in
    absurd (cc)
