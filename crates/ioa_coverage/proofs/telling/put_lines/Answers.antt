use Rattle.std.proofs.Common.{◌∙◌, ◌++◌, ◌+◌, ap, String, Global, string_bytes}
use Rattle.ioa_coverage.specs.Taken.{line_by}
use Rattle.ioa_coverage.proofs.ToldRows.{entry_alone, entry_told, left_rows, past}
use Rattle.ioa_coverage.proofs.telling.put_lines.Goals as goal
use Rattle.ioa_coverage.proofs.telling.put_lines.Goals.{in-Some+in_ok-put_places, in_default}

pub loop-index-preserved : goal.loop-index-preserved
loop-index-preserved c =
    let rows = c.args.rows.now in
    let effects = c.args.effects.now in
    let i = c.loop-index.index in
    let done = c.args.done in
    let row = c.index-rows-index.result in
    let now = string_bytes c.loop-index.text in
    let mid = string_bytes c.put_entry.new.text in
    elim c.match-get.branch [
      | in-Some+in_ok-put_places w ↦
          let found = w.in-Some.ensures.lookup in
          let told = ap (λ (t : String Global). string_bytes t) w.text-is ∙ w.in_ok-put_places.ensures in
          entry_told (line_by done) rows effects i row w.in-Some.effect.now now mid (string_bytes c.match-get.text) c.loop-index-test.true c.index-rows-index.is found.3.0 found.1 c.in_ok-put_entry.ensures told
          ∙ c.loop-index.invariant
      | in_default w ↦
          ap (λ (t : String Global). string_bytes t ++ left_rows (line_by done) rows effects (i + 1)) w.text-is
          ∙ entry_alone (line_by done) rows effects i row now mid c.loop-index-test.true c.index-rows-index.is (past effects i c.get.result c.get.ensures.lookup.2 w.in_default.not-Some) c.in_ok-put_entry.ensures
          ∙ c.loop-index.invariant
    ]
