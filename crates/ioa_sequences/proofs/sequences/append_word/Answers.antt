use Rattle.std.proofs.Common.{◌≡◌, ◌+◌, pos, set, get_or, ap, ap₂, ◌∙◌, arith, w64, to_z, of_z}
use Rattle.std.proofs.lemmas.Int.{to_z-of_z}
use Rattle.ioa_sequences.proofs.SequenceWords.{put_makes, word_put}
use Rattle.ioa_sequences.proofs.sequences.append_word.Goals as goal

pub returns : goal.returns
returns c =
    let ws = c.args.words.now in
    let n = c.item_count-count.result in
    let size = c.args.size in
    let back : to_z w64 (of_z w64 c.count_word.result) ≡ c.count_word.result = search (to_z-of_z) in
    let word : to_z w64 (of_z w64 (get_or ws size (pos 0))) ≡ get_or ws size (pos 0) = search (to_z-of_z) in
    put_makes ws _ c.count_word.result n 1 size c.requires.whole c.item_count-count.ensures.count (omega arith) c.count_word.ensures
    (ap₂ (λ x y. set (set ws (1 + n) x) 0 y) word back ∙ ap (λ l. set l 0 c.count_word.result) (word_put ws n size c.requires.whole (omega arith)))
