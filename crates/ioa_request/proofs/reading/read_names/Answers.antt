use Rattle.std.proofs.Common.{codes, sym, ◌∙◌}
use Rattle.clap.specs.Words.{found_of}
use Rattle.clap.proofs.WalkLemmas.{first_value-rows}
use Rattle.ioa_request.proofs.Asked.{names, none_so}
use Rattle.ioa_request.proofs.reading.read_names.Goals as goal

pub returns-clause-some : goal.returns-clause-some
returns-clause-some c = names c.args.found.now c.in_ok-file.file c.get_str-composition.result c.in_ok-file.ensures c.get_str-composition.ensures

pub returns-in_err-file-clause-none : goal.returns-in_err-file-clause-none
returns-in_err-file-clause-none c =
    none_so _ _ c.from_residual.ensures (sym (first_value-rows (found_of c.args.found.now) (codes "FILE")) ∙ sym c.in_err-file.ensures)
