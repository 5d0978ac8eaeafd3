use Rattle.ioa_serving.proofs.Streams.{streams_more}
use Rattle.ioa_serving.proofs.seed.seeded.Goals as goal

pub loop-worker-preserved : goal.loop-worker-preserved
loop-worker-preserved c =
    streams_more c.args.key c.loop-worker.worker c.loop-worker.sources.items c.push.new.self.items c.new.result c.loop-worker.invariant c.new.ensures.start c.in_ok-push.ensures.items
