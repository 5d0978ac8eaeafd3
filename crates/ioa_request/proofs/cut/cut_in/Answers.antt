use Rattle.std.proofs.Common.{Some, ap, sym, ◌∙◌, codes}
use Rattle.std.specs.Option.{option_and_then, option_copied}
use Rattle.clap.specs.Words.{found_of, rows_of}
use Rattle.ioa_request.specs.CommandLine.{is_set}
use Rattle.ioa_request.specs.Cuts.{cut_at}
use Rattle.ioa_request.proofs.Asked.{bound_read}
use Rattle.ioa_request.proofs.Cutting.{bounded_as}
use Rattle.ioa_request.proofs.cut.cut_in.Goals as goal

pub returns-in_err-bound : goal.returns-in_err-bound
returns-in_err-bound c =
    let found = c.args.found.now in
    c.from_residual.ensures
    ∙ ap (option_and_then (cut_at (is_set (codes "log") (rows_of (found_of found)))))
    (c.in_err-bound.ensures ∙ bounded_as found (option_copied c.get_str-word.result) c.get_str-word.ensures)

pub returns : goal.returns
returns c =
    let found = c.args.found.now in
    let bound = c.in_ok-bound.bound in
    c.cut_at.ensures ∙ ap (λ log. cut_at log bound) c.is_set-log.ensures
    ∙ ap (option_and_then (cut_at (is_set (codes "log") (rows_of (found_of found)))))
    (sym (bound_read found (codes "until") (option_copied c.get_str-word.result) (Some bound) c.get_str-word.ensures c.in_ok-bound.ensures))
