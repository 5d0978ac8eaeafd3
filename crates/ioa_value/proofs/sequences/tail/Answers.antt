use Rattle.std.proofs.Common.{length, ap, ◌∙◌, arith}
use Rattle.ioa_value.specs.Operators.{gives}
use Rattle.ioa_value.proofs.PlainLemmas.{plain-Items}
use Rattle.ioa_value.proofs.SequenceLemmas.{some_left, tail_given}
use Rattle.ioa_value.proofs.sequences.tail.Goals as goal

pub returns : goal.returns
returns c =
    ap gives (plain-Items c.args.ty c.remove.new.self)
    ∙ tail_given c.args.ty.0 c.args.items.items c.remove.new.self.items (some_left c.args.items.len (length c.args.items.items) c.if-is_empty.ensures (omega (arith, c.args.items.ok.0))) c.remove.ensures.items
