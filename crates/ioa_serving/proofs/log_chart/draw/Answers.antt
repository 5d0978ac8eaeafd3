use Rattle.std.proofs.Common.{◌++◌, length, ◌∙◌, ap, sym}
use Rattle.std.specs.List.{flat_map}
use Rattle.std.proofs.lemmas.Option.{IfSome_then}
use Rattle.std.proofs.lemmas.Result.{err_from_is_err_and}
use Rattle.ioa_compile.specs.Tables.{tabled}
use Rattle.ioa_picture.specs.Charts.{end_within, front, kept_lines, lines_within, names_of}
use Rattle.ioa_picture.specs.Lines.{numbered}
use Rattle.ioa_serving.specs.Pictures.{framed, selected}
use Rattle.ioa_serving.proofs.Pictured.{drawn_as, framed_apart}
use Rattle.ioa_serving.proofs.log_chart.draw.Goals as goal

pub returns-in_err-end-clause-refused : goal.returns-in_err-end-clause-refused
returns-in_err-end-clause-refused g c =
    let same = err_from_is_err_and c.from_residual.result c.from_residual.ensures.1 in
    rw (same.1, same.2) c.in_err-end.ensures.refused

pub returns-clause-ok : goal.returns-clause-ok
returns-clause-ok g c = λ s runs.
    IfSome_then (g.R.Read.remaining c.args.input.now) (c.in_ok-end.ensures.ok s runs) (λ xs k.
    let p = c.args.program.now in
    let selection = selected c.args.selection.now in
    let kept = framed_apart (kept_lines selection.without p.types (tabled p)) c.write_entries.new.writer.chart k.log.entries
    (k.written ∙ ap (λ ks. flat_map framed ks ++ flat_map (λ x. framed (kept_lines selection.without p.types (tabled p) x)) k.log.entries) c.start-chart.ensures) in
    record {
      log = k.log;
      is_log = k.is_log;
      ending = k.ending;
      text =
          c.in_ok-text.ensures
          ∙ sym (ap (λ end. front (names_of p) ++ (numbered (lines_within selection.from selection.to) 0 c.write_entries.new.writer.chart ++ end_within selection.to (length c.write_entries.new.writer.chart) end)) k.told)
          ∙ drawn_as selection p s k.log c.write_entries.new.writer.chart runs kept;
    })
