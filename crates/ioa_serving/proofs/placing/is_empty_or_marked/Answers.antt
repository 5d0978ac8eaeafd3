use Rattle.std.proofs.Common.{ap, inl, length, refl, sym, ◌∙◌}
use Rattle.std.specs.Prelude.{◌==◌}
use Rattle.std.proofs.lemmas.Bool.{false≢true}
use Rattle.std.proofs.lemmas.Bool.Decides.{Decides-eqb}
use Rattle.std.proofs.lemmas.Slice.Eq.{starts_is}
use Rattle.ioa_serving.proofs.Placed.{marked, nothing}
use Rattle.ioa_serving.proofs.placing.is_empty_or_marked.Goals as goal

pub returns-then-is_empty : goal.returns-then-is_empty
returns-then-is_empty c = (λ _. inl (nothing c.args.bytes.now (sym c.is_empty.ensures ∙ c.if-is_empty.true)), λ _. refl)

pub returns : goal.returns
returns c =
    marked c.args.mark.now c.args.bytes.now c.starts_with.result
    (λ none. false≢true (sym c.if-is_empty.false ∙ c.is_empty.ensures ∙ ap (λ xs. length xs == 0) none))
    (starts_is Decides-eqb c.args.bytes.now c.args.mark.now c.starts_with.result c.starts_with.ensures.value)
