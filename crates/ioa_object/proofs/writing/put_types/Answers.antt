use Rattle.std.proofs.Common.{◌≡◌, Some, None, sym, ◌∙◌, arith}
use Rattle.ioa_value.specs.Shapes.{declaration}
use Rattle.ioa_value.proofs.ItemLemmas.{item_there}
use Rattle.ioa_object.proofs.Written.{given_legal, declared_more}
use Rattle.ioa_object.proofs.writing.put_types.Goals as goal

pub put_declared-requires-clause-legal : goal.put_declared-requires-clause-legal
put_declared-requires-clause-legal c =
    given_legal c.args.types.now c.loop-number.number (declaration c.in-Some.declared.now) c.in-Some.ensures.types.legal c.in-Some.ensures.found

pub unreachable-requires : goal.unreachable-requires
unreachable-requires c =
    let there = item_there c.args.types.now c.loop-number.number (omega (arith, c.len-number-end.ensures.count)) in
    let both : Some there.0 ≡ None = sym there.1 ∙ c.in-None.ensures.missing in
    absurd (cc)

pub loop-number-preserved : goal.loop-number-preserved
loop-number-preserved c =
    declared_more c.args.types.now c.loop-number.number (declaration c.in-Some.declared.now) c.put_count.new.out.items c.loop-number.out.items c.put_declared.new.out.items
    c.loop-number.auto.number c.in-Some.ensures.found c.loop-number.invariant c.in_ok-put_declared-in-Some.ensures
