use Rattle.std.proofs.Common.{◌≡◌, ◌++◌, append_assoc, length, map, string_bytes, sym, ap₂, ◌∙◌}
use Rattle.std.proofs.lemmas.List.{length-map}
use Rattle.std.proofs.lemmas.Result.{on_ok_weaker}
use Rattle.ioa_system.specs.Outcomes.{ending_of}
use Rattle.ioa_picture.specs.Charts.{end_within, lines_within}
use Rattle.ioa_picture.specs.Lines.{numbered}
use Rattle.ioa_picture.proofs.charts.put_selected.Goals as goal

pub returns : goal.returns
returns c =
    let lines = map string_bytes c.args.entries.now in
    let entries = numbered (lines_within c.args.from c.args.to) 0 lines in
    let end = end_within c.args.to (length lines) (ending_of c.args.end) in
    let size : length c.args.entries.now ≡ length lines = sym (length-map c.args.entries.now string_bytes) in
    on_ok_weaker c.put_end.result
    (λ e. e ∙ ap₂ (λ t n. t ++ end_within c.args.to n (ending_of c.args.end)) c.in_ok-put_entries.ensures size ∙ append_assoc (string_bytes c.args.text.now) entries end)
    c.put_end.ensures
