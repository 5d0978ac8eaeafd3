-- The words of a key.
use Rattle.std.specs.Prelude.{◌≡◌, ℕ, ◌%◌, ◌^◌, List, Some, length, slice_get}
use Rattle.rand_chacha.specs.ChaCha.{ChaCha, key_of, word_at}

-- each of so many workers has the stream of the key that has its number, from the start
pub record AreStreams (key : List ℕ) (workers : ℕ) (sources : List ChaCha) : Type 0 where
  pub count : length sources ≡ workers
  pub each : (i : ℕ) (s : ChaCha) → slice_get sources i ≡ Some s → s ≡ record { key = key_of key; stream = i; word_pos = 0 }

-- the words of the key's stream of this number, by number from 0: those of ChaCha8, which has four double rounds
abbrev pub key_words : List ℕ → ℕ → ℕ → ℕ
key_words key stream k = word_at 4 (key_of key) stream (k % 2 ^ 68)
