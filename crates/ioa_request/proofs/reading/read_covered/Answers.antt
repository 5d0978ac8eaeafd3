use Rattle.std.proofs.Common.{◌≡◌, ◌∙◌, Some, None, codes, refl, sym}
use Rattle.std.proofs.lemmas.Bool.{false≢true}
use Rattle.clap.specs.Words.{found_of, rows_of}
use Rattle.ioa_request.proofs.Asked.{no_covered}
use Rattle.ioa_request.proofs.reading.read_covered.Goals as goal

pub returns-in-false-None-clause-some : goal.returns-in-false-None-clause-some
returns-in-false-None-clause-some c =
    ((refl, sym c.is_set-log.ensures, sym c.in-false-None.ensures, sym c.in-false-None.ensures', c.requires.bounded, c.requires.unmixed, c.requires.covered), c.requires.names, sym c.asks_json-json.ensures)

pub returns-in-false-Some-clause-none : goal.returns-in-false-Some-clause-none
returns-in-false-Some-clause-none c =
    no_covered (codes "replay") (rows_of (found_of c.args.found.now)) refl c.requires.covered (λ own none. let z : None ≡ Some _ = sym none ∙ sym c.in-false-Some.ensures' in cc)

pub returns-in-true-default-clause-none : goal.returns-in-true-default-clause-none
returns-in-true-default-clause-none c =
    no_covered (codes "replay") (rows_of (found_of c.args.found.now)) refl c.requires.covered (λ own none. false≢true (sym own ∙ sym c.in-true-default.ensures))
