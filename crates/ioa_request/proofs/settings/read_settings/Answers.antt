use Rattle.std.proofs.Common.{ap, ap₂, sym, ◌∙◌, codes}
use Rattle.std.specs.Option.{option_copied}
use Rattle.ioa_request.specs.Settings.{source_in, turns_in}
use Rattle.ioa_request.proofs.Asked.{given, names, unfiled_run, unturned, unworded}
use Rattle.ioa_request.proofs.settings.read_settings.Goals as goal

pub returns-in_err-file-clause-none : goal.returns-in_err-file-clause-none
returns-in_err-file-clause-none c = unfiled_run c.args.found.now _ c.in_err-file.ensures c.from_residual.ensures

pub returns-in_err-turns-clause-none : goal.returns-in_err-turns-clause-none
returns-in_err-turns-clause-none c =
    unturned c.args.found.now (option_copied c.get_str-asked.result) _ c.get_str-asked.ensures c.in_err-turns.ensures c.from_residual-in_err-turns.ensures

pub returns-in_err-words-clause-none : goal.returns-in_err-words-clause-none
returns-in_err-words-clause-none c =
    unworded c.args.found.now (option_copied c.get_str-seed.result) (option_copied c.get_str-listed.result) _ c.get_str-seed.ensures c.get_str-listed.ensures
    c.in_err-words.ensures c.from_residual-in_err-words.ensures

pub returns-clause-some : goal.returns-clause-some
returns-clause-some c =
    let found = c.args.found.now in
    record {
      names = names found c.in_ok-file.file c.get_str-composition.result c.in_ok-file.ensures c.get_str-composition.ensures;
      alone = sym c.is_set-alone.ensures;
      turns = ap turns_in (given found (codes "turns") (option_copied c.get_str-asked.result) c.get_str-asked.ensures) ∙ sym c.in_ok-turns.ensures;
      words = ap₂ source_in (given found (codes "seed") (option_copied c.get_str-seed.result) c.get_str-seed.ensures)
          (given found (codes "words") (option_copied c.get_str-listed.result) c.get_str-listed.ensures) ∙ sym c.in_ok-words.ensures;
      inputs = given found (codes "inputs") (option_copied c.get_str-inputs.result) c.get_str-inputs.ensures;
      resume = given found (codes "resume") (option_copied c.get_str-resume.result) c.get_str-resume.ensures;
      log = sym c.is_set-log.ensures;
      reports = sym c.is_set-reports.ensures;
      coverage = sym c.is_set-coverage.ensures;
    }
