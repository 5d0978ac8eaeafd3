use Rattle.std.proofs.Common.{◌≡◌, ◌<◌, length, ap, ◌∙◌, arith}
use Rattle.ioa_value.specs.Operators.{gives}
use Rattle.ioa_value.specs.Table.{capacity}
use Rattle.ioa_value.proofs.PlainLemmas.{plain-Items}
use Rattle.ioa_value.proofs.SequenceLemmas.{append_given}
use Rattle.ioa_value.proofs.sequences.append.Goals as goal

pub returns-in_ok-push : goal.returns-in_ok-push
returns-in_ok-push c =
    let long : c.len.result ≡ length c.args.items.items = omega (arith, c.len.ensures, c.args.items.ok.0) in
    let room : length c.args.items.items < capacity c.args.types.now c.args.ty.0 = omega (arith, c.if-len-capacity.true, long, c.capacity.ensures) in
    ap gives (plain-Items c.args.ty c.push.new.self)
    ∙ append_given c.args.ty.0 (capacity c.args.types.now c.args.ty.0) c.args.items.items c.push.new.self.items c.args.item room c.in_ok-push.ensures.items
