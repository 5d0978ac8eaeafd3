use Rattle.std.proofs.Common.{◌≡◌, ◌∙◌, ◌++◌, ℕ, List, [], ap, ap₂, rules, string_bytes}
use Rattle.ioa_coverage.specs.declared.coverage.Row.{Row}
use Rattle.ioa_coverage.specs.declared.effect.Effect.{Effect}
use Rattle.ioa_coverage.specs.Effects.{told_rows}
use Rattle.ioa_coverage.specs.Taken.{told_of}
use Rattle.ioa_coverage.proofs.Covering.{all_is_told}
use Rattle.ioa_coverage.proofs.coverage.Coverage.text.Goals as goal

pub returns : goal.returns
returns c = λ p source s runs covers does declared.
    let empty : string_bytes c.new-text.result ≡ [] = search rules in
    c.in_ok-put_counts.ensures ∙ ap (λ (t : List ℕ). t ++ told_of (told_rows c.deref.result.now c.deref-2.result.now)) empty
    ∙ ap₂ (λ (rs : List Row) (xs : List Effect). told_of (told_rows rs xs)) c.deref.ensures.value c.deref-2.ensures.value
    ∙ all_is_told p source s runs c.args.self.now does declared covers
