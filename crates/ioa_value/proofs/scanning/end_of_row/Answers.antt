use Rattle.std.proofs.Common.{ap, sym, ◌∙◌}
use Rattle.std.specs.Option.{option_map}
use Rattle.ioa_value.specs.Plain.{number}
use Rattle.ioa_value.specs.Shapes.{shape}
use Rattle.ioa_value.specs.Scanning.{row_types}
use Rattle.ioa_value.proofs.RowLemmas.{ended_past, ended_early}
use Rattle.ioa_value.proofs.scanning.end_of_row.Goals as goal

pub returns-in-None : goal.returns-in-None
returns-in-None c =
    let s = shape c.args.form.now in
    c.ending.ensures ∙ ended_past s (row_types s) c.args.count c.args.text.now (sym c.type_at.ensures ∙ ap (option_map number) c.in-None.is)

pub returns-in-Some : goal.returns-in-Some
returns-in-Some c =
    let s = shape c.args.form.now in
    c.early_ending.ensures ∙ ended_early s (row_types s) c.args.count _ c.args.text.now (sym c.type_at.ensures ∙ ap (option_map number) c.in-Some.is)
