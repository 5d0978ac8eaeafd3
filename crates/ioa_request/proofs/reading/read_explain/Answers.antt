use Rattle.std.proofs.Common.{◌≡◌, codes, refl, subst, sym, ◌∙◌}
use Rattle.clap.specs.Words.{found_of, rows_of}
use Rattle.clap.proofs.WalkLemmas.{raw_values-rows}
use Rattle.ioa_request.specs.Pasted.{IsPasted, texts}
use Rattle.ioa_request.proofs.Asked.{no_explanation, none_so}
use Rattle.ioa_request.proofs.reading.read_explain.Goals as goal

pub returns-clause-some : goal.returns-clause-some
returns-clause-some c =
    (refl, (texts c.in_ok-words.words.now, sym (raw_values-rows (found_of c.args.found.now) (codes "TEXT")) ∙ sym c.in_ok-words.ensures, c.in_ok-topic.ensures.some))

pub returns-in_err-words-clause-none : goal.returns-in_err-words-clause-none
returns-in_err-words-clause-none c =
    let missing = sym (raw_values-rows (found_of c.args.found.now) (codes "TEXT")) ∙ sym c.in_err-words.ensures in
    none_so _ _ c.from_residual.ensures (no_explanation (rows_of (found_of c.args.found.now)) (λ topic words given h. cc))

pub returns-in_err-topic-clause-none : goal.returns-in_err-topic-clause-none
returns-in_err-topic-clause-none c =
    let given = sym (raw_values-rows (found_of c.args.found.now) (codes "TEXT")) ∙ sym c.in_ok-words.ensures in
    none_so _ _ c.from_residual-in_err-topic.ensures
    (no_explanation (rows_of (found_of c.args.found.now))
    (λ topic words asked h. let same : texts c.in_ok-words.words.now ≡ words = cc in c.in_err-topic.ensures.none topic (subst (λ ws. IsPasted ws topic) (sym same) h)))
