use Rattle.std.proofs.Common.{◌≡◌, ◌∙◌, ◌++◌, ◌+◌, ◌<◌, ◌≤◌, ℕ, List, String, Global, ap, arith, get_or, length, string_bytes, subst}
use Rattle.std.specs.Vec.{vec_len}
use Rattle.ioa_coverage.specs.Taken.{line_by, row_of_place}
use Rattle.ioa_coverage.proofs.ToldRows.{left_places, past, place_told, place_uncounted}
use Rattle.ioa_coverage.proofs.telling.put_places.Goals as goal
use Rattle.ioa_coverage.proofs.telling.put_places.Goals.{in-Some+in_ok-put_place, in_default}

pub loop-index-preserved : goal.loop-index-preserved
loop-index-preserved c =
    let component = string_bytes c.args.row.now.member.now.name in
    let entry = string_bytes c.args.row.now.entry.now.name in
    let labels = c.args.effect.now.labels in
    let ns = c.args.effect.now.taken.items in
    let i = c.loop-index.index in
    let done = c.args.done in
    let now = string_bytes c.loop-index.text in
    let long : vec_len labels ≡ length labels.items = omega (arith, labels.ok.0) in
    let less : i < length labels.items = omega (arith, long, c.len-index-end.ensures, c.loop-index-test.true) in
    elim c.match-get.branch [
      | in-Some+in_ok-put_place w ↦
          let found = w.in-Some.ensures.lookup in
          let label = w.index.result.now in
          let n = w.in-Some.times.now in
          let within : i < length ns = subst (λ (ms : List ℕ). i < length ms) c.deref.ensures.value found.3.0 in
          let its : n ≡ get_or ns i n = subst (λ (ms : List ℕ). n ≡ get_or ms i n) c.deref.ensures.value found.1 in
          let told : string_bytes c.match-get.text ≡ now ++ line_by done (row_of_place component entry (string_bytes label) n) =
          ap (λ (t : String Global). string_bytes t) w.text-is ∙ w.in_ok-put_place.ensures ∙ ap (λ (l : List ℕ). now ++ line_by done (row_of_place component entry l n)) w.as_str.ensures.value in
          place_told (line_by done) component entry labels.items ns i label n now (string_bytes c.match-get.text) less w.index.ensures within its told ∙ c.loop-index.invariant
      | in_default w ↦
          let none : length ns ≤ i = subst (λ (ms : List ℕ). length ms ≤ i) c.deref.ensures.value (past c.deref.result.now i c.get.result c.get.ensures.lookup.2 w.in_default.not-Some) in
          ap (λ (t : String Global). string_bytes t ++ left_places (line_by done) component entry labels.items ns (i + 1)) w.text-is ∙ place_uncounted (line_by done) component entry labels.items ns i now none
          ∙ c.loop-index.invariant
    ]
