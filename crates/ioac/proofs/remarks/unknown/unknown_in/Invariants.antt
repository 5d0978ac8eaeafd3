use Rattle.std.proofs.Common.{◌≡◌, find, length}
use Rattle.ioac.specs.Unknown.{is_unknown, words_of}
use Rattle.ioac.proofs.remarks.unknown.unknown_in.Given as goal

-- the first of the words that are left is the first of all
abbrev pub invariant-loop-rest : goal.invariant-loop-rest
invariant-loop-rest l = find (is_unknown l.types) (words_of l.rest) ≡ find (is_unknown l.types) (words_of l.text)

abbrev pub decreases-loop-rest : goal.decreases-loop-rest
decreases-loop-rest l = length l.rest
