-- What the tallies of a run that has ended add up to.
use Rattle.std.specs.Prelude.{ℕ, List, map}
use Rattle.ioa_value.specs.Actions.{Act}
use Rattle.ioa_value.specs.Plain.{Val}
use Rattle.ioa_compile.specs.Programs.{Prog}
use Rattle.ioa_board.specs.declared.outcome.Outcome.{Outcome}
use Rattle.ioa_run.specs.declared.tally.Tally.{Tally}
use Rattle.ioa_board.specs.Boards.{Standing}
use Rattle.ioa_board.specs.Histories.{GoesOn, since}
use Rattle.ioa_board.specs.Outcomes.{IsLogOf}
use Rattle.ioa_run.specs.Tallies.{AddUp, own_names, tally_of}

-- they add up to the reports, by what is new in the history that the log tells
abbrev pub IsTallied : Prog → List (ℕ × Act) → Outcome → List Tally → Type 0
IsTallied p before o ts =
    (b : Standing (List Val)) × IsLogOf p b o.log.items o.end o.states.items × GoesOn before b.history
    × AddUp (since before b.history) (map own_names p.members) o.reports.items (map tally_of ts)
