use Rattle.std.proofs.Common.{◌≡◌, Some, None, string_bytes, sym, ◌∙◌, arith}
use Rattle.ioa_value.specs.Shapes.{declaration}
use Rattle.ioa_value.proofs.ItemLemmas.{item_there}
use Rattle.ioa_dump.specs.Dumps.{type_lines}
use Rattle.ioa_dump.proofs.Numbered.{type_more}
use Rattle.ioa_dump.proofs.types.put_types.Goals as goal

pub unreachable-requires : goal.unreachable-requires
unreachable-requires c =
    let there = item_there c.args.types.now c.loop-number.number (omega (arith, c.len-number-end.ensures.count)) in
    let both : Some there.0 ≡ None = sym there.1 ∙ c.in-None.ensures.missing in
    absurd (cc)

pub loop-number-preserved : goal.loop-number-preserved
loop-number-preserved c =
    type_more (type_lines c.args.types.now) c.args.types.now c.loop-number.number (declaration c.in-Some.declared.now) (string_bytes c.args.text.now) (string_bytes c.loop-number.text)
    (string_bytes c.put_type.new.text) c.loop-number.auto.number c.in-Some.ensures.found c.loop-number.invariant c.in_ok-put_type-in-Some.ensures
