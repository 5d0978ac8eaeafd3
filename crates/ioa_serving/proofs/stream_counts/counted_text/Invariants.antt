use Rattle.std.proofs.Common.{◌≡◌, List, string_bytes, take}
use Rattle.ioa_value.specs.Actions.{Act}
use Rattle.ioa_compile.specs.Programs.{Prog}
use Rattle.ioa_watch.specs.Streaming.{HaveHeard}
use Rattle.ioa_serving.specs.Counting as spec
use Rattle.ioa_serving.proofs.stream_counts.counted_text.Given as goal

abbrev pub invariant-loop-watcher : goal.invariant-loop-watcher
invariant-loop-watcher l = (ps : List Prog) (acts : List Act) → HaveHeard ps acts l.watchers → string_bytes l.text ≡ spec.counted_text (take l.watcher-index ps) acts
