use Rattle.ioa_run.proofs.Played.{alone_plays, never_stale}
use Rattle.ioa_run.proofs.Subjects.{same_events}
use Rattle.ioa_run.proofs.laws.runs_alone_are_plays.Goals as goal

pub returns-clause-plays : goal.returns-clause-plays
returns-clause-plays _ = alone_plays

pub returns-clause-stale : goal.returns-clause-stale
returns-clause-stale _ = never_stale

pub returns-clause-events : goal.returns-clause-events
returns-clause-events _ = same_events
