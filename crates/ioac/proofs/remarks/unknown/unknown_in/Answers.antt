use Rattle.std.proofs.Common.{◌≡◌, ℕ, Bool, true, false, List, Some, take, find, sym, ap, subst, ◌∙◌}
use Rattle.ioa_value.specs.Table.{Table}
use Rattle.std.specs.List.{list_all}
use Rattle.ioa_value.specs.Names.{is_word_byte}
use Rattle.ioac.specs.Unknown.{is_unknown, words_of}
use Rattle.ioac.proofs.ValueWords.{found_first, found_next, found_none, word_part}
use Rattle.ioac.proofs.remarks.unknown.unknown_in.Goals as goal

pub word_text-word-requires : goal.word_text-word-requires
word_text-word-requires c =
    subst (λ n. list_all is_word_byte (take n c.loop-rest.rest.now) ≡ true) (sym c.word_len-length.ensures) (word_part c.loop-rest.rest.now)

-- what is told of the word is told of the first of those that are left
told : (types : Table) {word : List ℕ} (text : List ℕ) (n : ℕ) (b is : Bool) → word ≡ take n text → is ≡ b → is ≡ is_unknown types word → is_unknown types (take n text) ≡ b
told types text n b is e h f = subst (λ w. is_unknown types w ≡ b) e (sym f ∙ h)

pub returns-then-is_unknown : goal.returns-then-is_unknown
returns-then-is_unknown c =
    let rest = c.loop-rest.rest.now in
    let n = c.word_len-length.result in
    let is = told c.args.types.now rest n true c.is_unknown.result c.word_text-word.ensures c.if-is_unknown.true c.is_unknown.ensures in
    ap Some c.word_text-word.ensures ∙ (sym (found_first (is_unknown c.args.types.now) rest n c.word_len-length.ensures is) ∙ c.loop-rest.invariant)

pub loop-rest-preserved : goal.loop-rest-preserved
loop-rest-preserved c =
    let rest = c.loop-rest.rest.now in
    let n = c.word_len-length.result in
    let is = told c.args.types.now rest n false c.is_unknown.result c.word_text-word.ensures c.if-is_unknown.false c.is_unknown.ensures in
    ap (λ us. find (is_unknown c.args.types.now) (words_of us)) c.behind-rest.ensures
    ∙ (sym (found_next (is_unknown c.args.types.now) rest n c.word_len-length.ensures is c.if-rest-length.false) ∙ c.loop-rest.invariant)

pub returns-then-rest-length : goal.returns-then-rest-length
returns-then-rest-length c =
    let rest = c.loop-rest.rest.now in
    let n = c.word_len-length.result in
    let is = told c.args.types.now rest n false c.is_unknown.result c.word_text-word.ensures c.if-is_unknown.false c.is_unknown.ensures in
    sym (found_none (is_unknown c.args.types.now) rest n c.word_len-length.ensures is c.if-rest-length.true) ∙ c.loop-rest.invariant
