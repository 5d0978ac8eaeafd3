use Rattle.std.proofs.Common.{ap}
use Rattle.ioa_tree.specs.Tree.{named}
use Rattle.ioa_crash.proofs.RewritingLemmas.{up_only}
use Rattle.ioa_crash.proofs.rewriting.if_up.Goals as goal

pub returns : goal.returns
returns c =
    up_only c.push.new.self c.new.result c.args.line _ c.new-arms.result.items c.new-out.result.items _ c.new-arms.ensures.items c.in_ok-push.ensures.items
    c.new.ensures.items c.new-out.ensures.items c.in_ok-push-2.ensures.items (ap named c.in_ok-up_name.ensures)
