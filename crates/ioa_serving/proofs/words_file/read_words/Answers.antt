use Rattle.std.proofs.Common.{◌≡◌, ◌+◌, ◌<◌, ◌++◌, ◌∷◌, [], All, ap, sym, ◌∙◌, Some, subst, rules, arith, map, length, length-append, slice_get}
use Rattle.std.proofs.lemmas.List.{length-map, map-append}
use Rattle.std.proofs.lemmas.List.Elements.{All-append, All-cons, All-nil}
use Rattle.ioa_serving.specs.declared.words_file.ListedWords.{ListedWords}
use Rattle.ioa_serving.specs.WordLists.{line_at, listed, words_in}
use Rattle.ioa_serving.proofs.ListedLines.{bad_at, each_more, line_behind, line_here}
use Rattle.ioa_serving.proofs.words_file.read_words.Goals as goal

pub returns-in_default-clause-bad : goal.returns-in_default-clause-bad
returns-in_default-clause-bad c =
    let items = c.loop-rest.sources.items in
    let text = c.args.text.now in
    let count : c.len-in_default.result ≡ length items = search rules in
    let less : c.len-in_default.result < c.args.workers = search rules in
    let here = line_here (length items) c.loop-rest.rest.now text c.loop-rest.invariant.rest in
    let none = rw c.in_default.is at c.in_ok-words.ensures in
    bad_at c.args.workers text (map listed items) c.len-in_default.result (count ∙ sym (length-map items listed)) less c.loop-rest.invariant.each
    (none ∙ ap words_in (c.first_line.ensures.line ∙ here) ∙ ap (λ n. words_in (line_at n text)) (sym count))

pub loop-rest-preserved : goal.loop-rest-preserved
loop-rest-preserved c =
    let items = c.loop-rest.sources.items in
    let text = c.args.text.now in
    let pushed : c.push.new.self.items ≡ items ++ c.new.result ∷ [] = search rules in
    let all : map listed c.push.new.self.items ≡ map listed items ++ listed c.new.result ∷ [] = ap (map listed) pushed ∙ map-append listed items (c.new.result ∷ []) in
    let here = line_here (length items) c.loop-rest.rest.now text c.loop-rest.invariant.rest in
    let some = rw c.in-Some.is at c.in_ok-words.ensures in
    let said : words_in (line_at (length items) text) ≡ Some (listed c.new.result) =
    sym (ap Some (ap (λ v. v.items) c.new.ensures.words) ∙ some ∙ ap words_in (c.first_line.ensures.line ∙ here)) in
    let long : length c.push.new.self.items ≡ length items + 1 = omega (arith, ap length pushed, length-append items (c.new.result ∷ [])) in
    record {
      within = search rules;
      each = λ i ws e. each_more (λ j vs. words_in (line_at j text) ≡ Some vs) (map listed items) (listed c.new.result) c.loop-rest.invariant.each
          (ap (λ n. words_in (line_at n text)) (length-map items listed) ∙ said) i ws (ap (λ xs. slice_get xs i) (sym all) ∙ e);
      fresh = subst (All (λ (s : ListedWords). s.taken ≡ 0)) (sym pushed)
          (All-append (λ (s : ListedWords). s.taken ≡ 0) items (c.new.result ∷ []) c.loop-rest.invariant.fresh
          (All-cons (λ (s : ListedWords). s.taken ≡ 0) c.new.result [] c.new.ensures.taken (All-nil (λ (s : ListedWords). s.taken ≡ 0))));
      rest = λ k. ap (line_at k) c.first_line.ensures.after ∙ line_behind k (length items) c.loop-rest.rest.now text c.loop-rest.invariant.rest
          ∙ ap (λ n. line_at (n + k) text) (sym long);
    }
