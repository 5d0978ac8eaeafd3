use Rattle.std.proofs.Common.{All, take}
use Rattle.ioa_run.proofs.Filling.{IsFreeAt}
use Rattle.ioa_run.proofs.choice.are_all.Given as goal

abbrev pub invariant-loop-position : goal.invariant-loop-position
invariant-loop-position l = All IsFreeAt (take l.position-index l.positions)
