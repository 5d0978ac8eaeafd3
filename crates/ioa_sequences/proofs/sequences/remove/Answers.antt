use Rattle.std.proofs.Common.{◌≡◌, set, ap, ◌∙◌, arith, w64, to_z, of_z}
use Rattle.std.proofs.lemmas.Int.{to_z-of_z}
use Rattle.ioa_sequences.proofs.SequenceWords.{removed_is}
use Rattle.ioa_sequences.proofs.sequences.remove.Goals as goal

pub returns : goal.returns
returns c =
    let back : to_z w64 (of_z w64 c.count_word.result) ≡ c.count_word.result = search (to_z-of_z) in
    let room = c.requires.row.room in
    ap (set c.close.new.words 0) back
    ∙ removed_is c.args.words.now c.close.new.words c.count_word.result c.item_count-count.result c.args.width c.args.place c.item_count-count.ensures.count (omega (arith, room)) c.close.ensures c.count_word.ensures
