use Rattle.std.proofs.Common.{◌≡◌, ◌<◌, length, Some, sym, ap, ◌∙◌, arith, slice_get}
use Rattle.std.proofs.lemmas.Option.{slice_get_within, slice_get-get_or}
use Rattle.ioa_clash.proofs.RowLemmas.{found, missing}
use Rattle.ioa_clash.proofs.index.Index.named.Goals as goal

pub index-requires : goal.index-requires
index-requires g c =
    let w = found 0 c.args.self.now.rows.items c.args.name.now c.in-Some.number (sym c.in-Some.ensures) in
    let within = slice_get_within c.args.self.now.rows.items w.place w.row w.here in
    let is = w.is in
    omega arith

pub returns-in-Some : goal.returns-in-Some
returns-in-Some g c =
    let rows = c.args.self.now.rows.items in
    let row = c.index.result.now in
    let w = found 0 rows c.args.name.now c.in-Some.number (sym c.in-Some.ensures) in
    let within = slice_get_within rows w.place w.row w.here in
    let is = w.is in
    let place : w.place ≡ c.in-Some.number = omega arith in
    let less : c.in-Some.number < length rows = omega arith in
    let one : Some w.row ≡ Some row = sym w.here ∙ ap (slice_get rows) place ∙ slice_get-get_or rows c.in-Some.number row less ∙ ap (λ r. Some r) (sym c.index.ensures) in
    let same : w.row ≡ row = cc in
    c.as_slice.ensures.value ∙ ap (λ r. r.items.items) (sym same) ∙ sym w.items

pub returns-in-None : goal.returns-in-None
returns-in-None g c = sym (missing 0 c.args.self.now.rows.items c.args.name.now (sym c.in-None.ensures))
