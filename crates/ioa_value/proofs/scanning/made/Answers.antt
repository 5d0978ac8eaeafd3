use Rattle.std.proofs.Common.{sym, ap, ◌∙◌, if◌then◌else◌}
use Rattle.ioa_value.specs.Plain.{tuple, items, plain_all}
use Rattle.ioa_value.proofs.PlainLemmas.{plain-Tuple, plain-Items}
use Rattle.ioa_value.proofs.scanning.made.Goals as goal

pub returns-then-is_sequence : goal.returns-then-is_sequence
returns-then-is_sequence c =
    let vs = plain_all c.args.row.values.items in
    let rest = c.args.row.rest.now in
    ap (λ v. (v, rest)) (plain-Items c.args.ty c.args.row.values)
    ∙ ap (λ b. ((if b then items c.args.ty.0 vs else tuple c.args.ty.0 vs), rest)) (sym c.if-is_sequence.true ∙ c.is_sequence.ensures)

pub returns-else-is_sequence : goal.returns-else-is_sequence
returns-else-is_sequence c =
    let vs = plain_all c.args.row.values.items in
    let rest = c.args.row.rest.now in
    ap (λ v. (v, rest)) (plain-Tuple c.args.ty c.args.row.values)
    ∙ ap (λ b. ((if b then items c.args.ty.0 vs else tuple c.args.ty.0 vs), rest)) (sym c.if-is_sequence.false ∙ c.is_sequence.ensures)
