use Rattle.std.proofs.Common.{codes, inl, refl, sym, ◌∙◌}
use Rattle.clap.specs.Words.{found_of, rows_of}
use Rattle.ioa_request.proofs.Asked.{apart, no_both, no_bound, no_file, no_log, no_mixture, none_so}
use Rattle.ioa_request.proofs.reading.read_replay.Goals as goal

pub returns-in_err-file-clause-none : goal.returns-in_err-file-clause-none
returns-in_err-file-clause-none c =
    none_so _ _ c.from_residual.ensures
    (no_file (codes "replay") (rows_of (found_of c.args.found.now)) (apart (codes "replay") (codes "explain") refl refl) (apart (codes "replay") (codes "library") refl refl)
    c.in_err-file.ensures.none)

pub returns-then-not-is_bounded-clause-none : goal.returns-then-not-is_bounded-clause-none
returns-then-not-is_bounded-clause-none c =
    no_bound (codes "replay") (rows_of (found_of c.args.found.now)) (inl refl) (sym c.is_bounded.ensures ∙ c.if-not-is_bounded.true)

pub returns-then-mixes_json-clause-none : goal.returns-then-mixes_json-clause-none
returns-then-mixes_json-clause-none c = no_mixture (codes "replay") (rows_of (found_of c.args.found.now)) refl (sym c.mixes_json.ensures ∙ c.if-mixes_json.true)

pub returns-in-false-false-None-clause-some : goal.returns-in-false-false-None-clause-some
returns-in-false-false-None-clause-some c = ((refl, sym c.in-false-false-None.ensures, sym c.in-false-false-None.ensures', sym c.in-false-false-None.ensures'', sym c.is_bounded.ensures ∙ c.if-not-is_bounded.false, sym c.mixes_json.ensures ∙ c.if-mixes_json.false, sym c.is_set.ensures ∙ c.if-is_set.false), c.in_ok-file.ensures.some, sym c.asks_json-json.ensures)

pub returns-in-false-false-Some-clause-some : goal.returns-in-false-false-Some-clause-some
returns-in-false-false-Some-clause-some c = ((refl, sym c.in-false-false-Some.ensures, sym c.in-false-false-Some.ensures', sym c.in-false-false-Some.ensures'', sym c.is_bounded.ensures ∙ c.if-not-is_bounded.false, sym c.mixes_json.ensures ∙ c.if-mixes_json.false, sym c.is_set.ensures ∙ c.if-is_set.false), c.in_ok-file.ensures.some)

pub returns-in-true-false-None-clause-some : goal.returns-in-true-false-None-clause-some
returns-in-true-false-None-clause-some c = ((refl, sym c.in-true-false-None.ensures, sym c.in-true-false-None.ensures', sym c.in-true-false-None.ensures'', sym c.is_bounded.ensures ∙ c.if-not-is_bounded.false, sym c.mixes_json.ensures ∙ c.if-mixes_json.false, sym c.is_set.ensures ∙ c.if-is_set.false), c.in_ok-file.ensures.some, sym c.asks_json-json.ensures)

pub returns-in-true-false-Some-clause-some : goal.returns-in-true-false-Some-clause-some
returns-in-true-false-Some-clause-some c = ((refl, sym c.in-true-false-Some.ensures, sym c.in-true-false-Some.ensures', sym c.in-true-false-Some.ensures'', sym c.is_bounded.ensures ∙ c.if-not-is_bounded.false, sym c.mixes_json.ensures ∙ c.if-mixes_json.false, sym c.is_set.ensures ∙ c.if-is_set.false), c.in_ok-file.ensures.some)

pub returns-in-true-true-None-clause-some : goal.returns-in-true-true-None-clause-some
returns-in-true-true-None-clause-some c = ((refl, sym c.in-true-true-None.ensures, sym c.in-true-true-None.ensures', sym c.in-true-true-None.ensures'', sym c.is_bounded.ensures ∙ c.if-not-is_bounded.false, sym c.mixes_json.ensures ∙ c.if-mixes_json.false, sym c.is_set.ensures ∙ c.if-is_set.false), c.in_ok-file.ensures.some, sym c.asks_json-json.ensures)

pub returns-in-true-true-Some-clause-none : goal.returns-in-true-true-Some-clause-none
returns-in-true-true-Some-clause-none c =
    no_both (codes "replay") (rows_of (found_of c.args.found.now)) c.in-true-true-Some.field-0-2 refl (sym c.in-true-true-Some.ensures') (sym c.in-true-true-Some.ensures'')

pub returns-in-false-true-default-clause-none : goal.returns-in-false-true-default-clause-none
returns-in-false-true-default-clause-none c = no_log (codes "replay") (rows_of (found_of c.args.found.now)) refl (sym c.in-false-true-default.ensures) (sym c.in-false-true-default.ensures')

pub read_covered-requires-clause-names : goal.read_covered-requires-clause-names
read_covered-requires-clause-names c = c.in_ok-file.ensures.some

pub read_covered-requires-clause-bounded : goal.read_covered-requires-clause-bounded
read_covered-requires-clause-bounded c = sym c.is_bounded.ensures ∙ c.if-not-is_bounded.false

pub read_covered-requires-clause-unmixed : goal.read_covered-requires-clause-unmixed
read_covered-requires-clause-unmixed c = sym c.mixes_json.ensures ∙ c.if-mixes_json.false

pub read_covered-requires-clause-covered : goal.read_covered-requires-clause-covered
read_covered-requires-clause-covered c = sym c.is_set.ensures ∙ c.if-is_set.true
