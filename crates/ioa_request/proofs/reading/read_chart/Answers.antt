use Rattle.std.proofs.Common.{codes, refl}
use Rattle.clap.specs.Words.{found_of, rows_of}
use Rattle.ioa_request.proofs.Asked.{apart, no_file, no_selection, none_so}
use Rattle.ioa_request.proofs.reading.read_chart.Goals as goal

pub returns-clause-some : goal.returns-clause-some
returns-clause-some c = (refl, c.in_ok-file.ensures.some, c.in_ok-selection.ensures.some)

pub returns-in_err-file-clause-none : goal.returns-in_err-file-clause-none
returns-in_err-file-clause-none c =
    none_so _ _ c.from_residual.ensures
    (no_file (codes "chart") (rows_of (found_of c.args.found.now)) (apart (codes "chart") (codes "explain") refl refl) (apart (codes "chart") (codes "library") refl refl)
    c.in_err-file.ensures.none)

pub returns-in_err-selection-clause-none : goal.returns-in_err-selection-clause-none
returns-in_err-selection-clause-none c =
    none_so _ _ c.from_residual-in_err-selection.ensures (no_selection (rows_of (found_of c.args.found.now)) c.in_err-selection.ensures.none)
