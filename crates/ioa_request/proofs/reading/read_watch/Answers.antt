use Rattle.std.proofs.Common.{codes, refl, sym, ◌∙◌}
use Rattle.clap.specs.Words.{found_of, rows_of}
use Rattle.clap.proofs.WalkLemmas.{first_value-rows, raw_values-rows}
use Rattle.ioa_request.proofs.Asked.{apart, no_file, no_specification, none_so}
use Rattle.ioa_request.proofs.reading.read_watch.Goals as goal

pub returns-clause-some : goal.returns-clause-some
returns-clause-some c =
    let found = found_of c.args.found.now in (
      refl,
      sym (first_value-rows found (codes "FILE")) ∙ sym c.in_ok-file.ensures,
      sym (raw_values-rows found (codes "comp")) ∙ sym c.in_ok-compositions.ensures,
      sym c.is_set-first.ensures,
      sym c.is_set-counts.ensures,
      sym c.asks_json-json.ensures,
    )

pub returns-in_err-file-clause-none : goal.returns-in_err-file-clause-none
returns-in_err-file-clause-none c =
    none_so _ _ c.from_residual.ensures
    (no_file (codes "watch") (rows_of (found_of c.args.found.now)) (apart (codes "watch") (codes "explain") refl refl) (apart (codes "watch") (codes "library") refl refl)
    (sym (first_value-rows (found_of c.args.found.now) (codes "FILE")) ∙ sym c.in_err-file.ensures))

pub returns-in_err-compositions-clause-none : goal.returns-in_err-compositions-clause-none
returns-in_err-compositions-clause-none c =
    none_so _ _ c.from_residual-in_err-compositions.ensures
    (no_specification (rows_of (found_of c.args.found.now)) (sym (raw_values-rows (found_of c.args.found.now) (codes "comp")) ∙ sym c.in_err-compositions.ensures))
