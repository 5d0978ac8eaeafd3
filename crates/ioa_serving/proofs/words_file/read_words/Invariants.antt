use Rattle.std.proofs.Common.{◌≡◌, ◌≤◌, ◌+◌, ◌-◌, ℕ, List, Some, All, length, map, slice_get}
use Rattle.ioa_serving.specs.WordLists.{line_at, listed, words_in}
use Rattle.ioa_serving.proofs.words_file.read_words.Given as goal

-- the lines so far are lists of words, and the rest is what is behind them
abbrev pub invariant-loop-rest : goal.invariant-loop-rest
invariant-loop-rest l = record {
  within : length l.sources.items ≤ l.workers;
  each : (i : ℕ) (ws : List ℕ) → slice_get (map listed l.sources.items) i ≡ Some ws → words_in (line_at i l.text) ≡ Some ws;
  fresh : All (λ s. s.taken ≡ 0) l.sources.items;
  rest : (k : ℕ) → line_at k l.rest ≡ line_at (length l.sources.items + k) l.text;
}

abbrev pub decreases-loop-rest : goal.decreases-loop-rest
decreases-loop-rest l = l.workers - length l.sources.items
