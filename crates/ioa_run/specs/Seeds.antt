-- The words that a key gives.
use Rattle.std.specs.Prelude.{ℕ, ◌+◌, ◌%◌, ◌^◌}
use Rattle.rand_chacha.specs.ChaCha.{ChaCha, word_at}

-- the words of ChaCha8, which has four double rounds, that are to come, by number from 0; a stream begins again after 2 ^ 68 words
abbrev pub words_from : ChaCha → ℕ → ℕ
words_from g k = word_at 4 g.key g.stream ((g.word_pos + k) % 2 ^ 68)
