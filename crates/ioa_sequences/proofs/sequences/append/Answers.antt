use Rattle.std.proofs.Common.{◌≡◌, set, ap, ◌∙◌, arith, w64, to_z, of_z}
use Rattle.std.proofs.lemmas.Int.{to_z-of_z}
use Rattle.ioa_sequences.proofs.SequenceWords.{put_makes}
use Rattle.ioa_sequences.proofs.sequences.append.Goals as goal

pub returns : goal.returns
returns c =
    let back : to_z w64 (of_z w64 c.count_word.result) ≡ c.count_word.result = search (to_z-of_z) in
    put_makes c.args.words.now _ c.count_word.result c.item_count-count.result c.args.width c.args.size c.requires.whole c.item_count-count.ensures.count (omega arith) c.count_word.ensures
    (ap (set c.copy.new.words 0) back ∙ ap (λ l. set l 0 c.count_word.result) c.copy.ensures)
