use Rattle.std.proofs.Common.{◌≡◌, ◌==◌, not, filter, take}
use Rattle.ioa_picture.proofs.charts.without.Given as goal

-- the other ones among the numbers so far
abbrev pub invariant-loop-n : goal.invariant-loop-n
invariant-loop-n l = l.others.items ≡ filter (λ n. not (n == l.number)) (take l.n-index l.numbers)
