use Rattle.std.proofs.Common.{◌≡◌, List, flat_map, string_bytes, take}
use Rattle.ioa_value.specs.Actions.{Act, act_of}
use Rattle.ioa_compile.specs.Programs.{Prog}
use Rattle.ioa_watch.specs.Streaming.{HaveHeard}
use Rattle.ioa_watch.specs.Streams.{told_at}
use Rattle.ioa_watch.proofs.HeardUpTo.{HeardUpTo}
use Rattle.ioa_watch.proofs.verdicts.hear_all.Given as goal

abbrev pub invariant-loop-i : goal.invariant-loop-i
invariant-loop-i l = (ps : List Prog) (acts : List Act) → HaveHeard ps acts l.fn.watchers
    → HeardUpTo l.i ps acts (act_of l.action) l.watchers × (string_bytes l.text ≡ flat_map (told_at l.json acts (act_of l.action)) (take l.i ps))
