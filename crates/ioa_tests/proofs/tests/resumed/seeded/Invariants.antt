use Rattle.std.proofs.Common.{◌≡◌, length}
use Rattle.ioa_tests.proofs.tests.resumed.seeded.Given as goal

-- each of the components so far has a source
abbrev pub invariant-loop-who : goal.invariant-loop-who
invariant-loop-who g l = length l.sources.items ≡ l.who
