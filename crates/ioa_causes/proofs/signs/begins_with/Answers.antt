use Rattle.std.proofs.Common.{List, ℕ, length, take, sym, ◌∙◌}
use Rattle.std.proofs.lemmas.Bool.Decides.{Decides-eqb}
use Rattle.std.proofs.lemmas.Slice.Eq.{slice_eq-Decides}
use Rattle.ioa_causes.proofs.signs.begins_with.Goals as goal

-- the bytes are as many of the text's first ones
pub returns : goal.returns
returns c =
    let front : List ℕ = c.as_bytes.result.now in
    λ begins. (
      length front,
      sym c.as_bytes.ensures.value ∙ (slice_eq-Decides Decides-eqb front (take (length front) c.args.text.now) c.starts_with.result c.starts_with.ensures.value).0 begins,
    )
