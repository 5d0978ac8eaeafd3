use Rattle.std.proofs.Common.{codes, inr, refl, sym, ◌∙◌}
use Rattle.clap.specs.Words.{found_of, rows_of}
use Rattle.ioa_request.proofs.Asked.{apart, no_bound, no_file, none_so}
use Rattle.ioa_request.proofs.reading.read_log.Goals as goal

pub returns-in_err-file-clause-none : goal.returns-in_err-file-clause-none
returns-in_err-file-clause-none c =
    none_so _ _ c.from_residual.ensures
    (no_file (codes "log") (rows_of (found_of c.args.found.now)) (apart (codes "log") (codes "explain") refl refl) (apart (codes "log") (codes "library") refl refl)
    c.in_err-file.ensures.none)

pub returns-then-not-is_bounded-clause-none : goal.returns-then-not-is_bounded-clause-none
returns-then-not-is_bounded-clause-none c =
    no_bound (codes "log") (rows_of (found_of c.args.found.now)) (inr refl) (sym c.is_bounded.ensures ∙ c.if-not-is_bounded.true)

pub returns-then-is_set-clause-some : goal.returns-then-is_set-clause-some
returns-then-is_set-clause-some c = ((refl, sym c.is_set.ensures ∙ c.if-is_set.true, sym c.is_bounded.ensures ∙ c.if-not-is_bounded.false), c.in_ok-file.ensures.some)

pub returns-else-is_set-clause-some : goal.returns-else-is_set-clause-some
returns-else-is_set-clause-some c = ((refl, sym c.is_set.ensures ∙ c.if-is_set.false, sym c.is_bounded.ensures ∙ c.if-not-is_bounded.false), c.in_ok-file.ensures.some)
