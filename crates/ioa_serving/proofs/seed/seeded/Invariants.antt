use Rattle.ioa_serving.specs.Streams.{AreStreams}
use Rattle.ioa_serving.proofs.seed.seeded.Given as goal

-- the workers so far have their streams
abbrev pub invariant-loop-worker : goal.invariant-loop-worker
invariant-loop-worker l = AreStreams l.key l.worker l.sources.items
