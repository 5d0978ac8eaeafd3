use Rattle.std.proofs.Common.{◌≡◌, List, string_bytes, take}
use Rattle.ioa_value.specs.Actions.{Act}
use Rattle.ioa_compile.specs.Programs.{Prog}
use Rattle.ioa_watch.specs.Streaming.{HaveHeard}
use Rattle.ioa_watch.specs.Streams.{accepted}
use Rattle.ioa_watch.proofs.verdicts.accepted_text.Given as goal

abbrev pub invariant-loop-watcher : goal.invariant-loop-watcher
invariant-loop-watcher l = (ps : List Prog) (acts : List Act) → HaveHeard ps acts l.watchers → string_bytes l.text ≡ accepted l.json (take l.watcher-index ps) acts
