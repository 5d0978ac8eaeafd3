use Rattle.std.proofs.Common.{codes, refl, sym, ◌∙◌}
use Rattle.clap.specs.Words.{found_of, rows_of}
use Rattle.ioa_request.proofs.Asked.{apart, no_file, none_so}
use Rattle.ioa_request.proofs.reading.read_monitor.Goals as goal

pub returns-then-is_set-clause-some : goal.returns-then-is_set-clause-some
returns-then-is_set-clause-some c = (refl, c.in_ok-file.ensures.some, (sym c.is_set.ensures ∙ c.if-is_set.true, sym c.asks_json-json.ensures))

pub returns-then-json-clause-some : goal.returns-then-json-clause-some
returns-then-json-clause-some c = (refl, c.in_ok-file.ensures.some, (sym c.is_set.ensures ∙ c.if-is_set.false, sym c.asks_json-json.ensures ∙ c.if-json.true))

pub returns-clause-some : goal.returns-clause-some
returns-clause-some c = (refl, c.in_ok-file.ensures.some, (sym c.is_set.ensures ∙ c.if-is_set.false, sym c.asks_json-json.ensures ∙ c.if-json.false))

pub returns-in_err-file-clause-none : goal.returns-in_err-file-clause-none
returns-in_err-file-clause-none c =
    none_so _ _ c.from_residual.ensures
    (no_file (codes "monitor") (rows_of (found_of c.args.found.now)) (apart (codes "monitor") (codes "explain") refl refl) (apart (codes "monitor") (codes "library") refl refl)
    c.in_err-file.ensures.none)
