use Rattle.std.proofs.Common.{codes, refl, sym, ◌∙◌}
use Rattle.clap.specs.Words.{found_of, rows_of}
use Rattle.clap.proofs.WalkLemmas.{first_value-rows}
use Rattle.ioa_request.proofs.Asked.{apart, no_file, none_so}
use Rattle.ioa_request.proofs.reading.read_check.Goals as goal

pub returns-clause-some : goal.returns-clause-some
returns-clause-some c =
    (refl, sym (first_value-rows (found_of c.args.found.now) (codes "FILE")) ∙ sym c.in_ok-file.ensures, sym c.is_set-compositions.ensures)

pub returns-in_err-file-clause-none : goal.returns-in_err-file-clause-none
returns-in_err-file-clause-none c =
    none_so _ _ c.from_residual.ensures
    (no_file (codes "check") (rows_of (found_of c.args.found.now)) (apart (codes "check") (codes "explain") refl refl) (apart (codes "check") (codes "library") refl refl)
    (sym (first_value-rows (found_of c.args.found.now) (codes "FILE")) ∙ sym c.in_err-file.ensures))
