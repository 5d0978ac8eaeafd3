use Rattle.std.proofs.Common.{string_bytes}
use Rattle.ioa_serving.proofs.Counting.{may_tell, told_none}
use Rattle.ioa_serving.proofs.stream_counts.counts_or_none.Goals as goal

pub returns-then-counts-clause-told : goal.returns-then-counts-clause-told
returns-then-counts-clause-told c = may_tell string_bytes c.args.counts c.args.watchers.now c.text_or_none.result c.if-counts.true c.text_or_none.ensures

pub returns-clause-told : goal.returns-clause-told
returns-clause-told c = λ ps acts h. told_none c.args.counts _
