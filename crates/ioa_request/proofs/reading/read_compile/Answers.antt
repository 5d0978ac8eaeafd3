use Rattle.std.proofs.Common.{codes, refl, sym, ◌∙◌}
use Rattle.clap.specs.Words.{found_of, rows_of}
use Rattle.clap.proofs.WalkLemmas.{first_value-rows}
use Rattle.ioa_request.proofs.Asked.{apart, no_file, no_out, none_so}
use Rattle.ioa_request.proofs.reading.read_compile.Goals as goal

pub returns-clause-some : goal.returns-clause-some
returns-clause-some c = (refl, c.in_ok-file.ensures.some, sym (first_value-rows (found_of c.args.found.now) (codes "OUT")) ∙ sym c.in_ok-out.ensures)

pub returns-in_err-file-clause-none : goal.returns-in_err-file-clause-none
returns-in_err-file-clause-none c =
    none_so _ _ c.from_residual.ensures
    (no_file (codes "compile") (rows_of (found_of c.args.found.now)) (apart (codes "compile") (codes "explain") refl refl) (apart (codes "compile") (codes "library") refl refl)
    c.in_err-file.ensures.none)

pub returns-in_err-out-clause-none : goal.returns-in_err-out-clause-none
returns-in_err-out-clause-none c =
    none_so _ _ c.from_residual-in_err-out.ensures
    (no_out (rows_of (found_of c.args.found.now)) (sym (first_value-rows (found_of c.args.found.now) (codes "OUT")) ∙ sym c.in_err-out.ensures))
