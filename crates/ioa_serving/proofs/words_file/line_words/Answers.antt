use Rattle.std.proofs.Common.{◌≡◌, ap, sym, ◌∙◌, Some, subst, rules}
use Rattle.ioa_request.specs.Numerals.{numeral_in}
use Rattle.ioa_serving.specs.WordLists.{words_in}
use Rattle.ioa_serving.proofs.ListedLines.{broken, last, more, shorter, with_rest}
use Rattle.ioa_serving.proofs.words_file.line_words.Goals as goal

pub returns-in_default : goal.returns-in_default
returns-in_default c =
    broken c.args.line.now c.loop-word.words.items c.loop-word.rest.now c.loop-word.invariant
    (c.in_default.ensures ∙ ap (numeral_in _) c.first_field.ensures.field)

pub returns-in_default-after : goal.returns-in_default-after
returns-in_default-after c =
    let word = c.in-Some.ensures ∙ ap (numeral_in _) c.first_field.ensures.field in
    ap Some c.in_ok-push.ensures.items
    ∙ last c.args.line.now c.loop-word.words.items c.loop-word.rest.now c.in-Some.word c.loop-word.invariant word (search rules)

pub loop-word-smaller : goal.loop-word-smaller
loop-word-smaller c = shorter c.loop-word.rest.now c.in-Some-after.more.now (search rules)

pub loop-word-preserved : goal.loop-word-preserved
loop-word-preserved c =
    let word = c.in-Some.ensures ∙ ap (numeral_in _) c.first_field.ensures.field in
    subst (λ ws. words_in c.args.line.now ≡ with_rest ws c.in-Some-after.more.now) (sym c.in_ok-push.ensures.items)
    (more c.args.line.now c.loop-word.words.items c.loop-word.rest.now c.in-Some-after.more.now c.in-Some.word c.loop-word.invariant word (search rules))
