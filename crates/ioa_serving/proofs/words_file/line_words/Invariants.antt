use Rattle.std.proofs.Common.{◌≡◌, length}
use Rattle.ioa_serving.specs.WordLists.{words_in}
use Rattle.ioa_serving.proofs.ListedLines.{with_rest}
use Rattle.ioa_serving.proofs.words_file.line_words.Given as goal

-- the words of the fields so far, with those of the rest, are the line's
abbrev pub invariant-loop-word : goal.invariant-loop-word
invariant-loop-word l = words_in l.line ≡ with_rest l.words.items l.rest

abbrev pub decreases-loop-word : goal.decreases-loop-word
decreases-loop-word l = length l.rest
