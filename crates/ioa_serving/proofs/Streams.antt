-- The streams of a key, one for each worker.
use Rattle.std.proofs.Common.{◌≡◌, ◌+◌, ℕ, List, [], ◌∷◌, ◌++◌, length, length-append, slice_get, sym, ap, ◌∙◌, arith}
use Rattle.rand_chacha.specs.ChaCha.{ChaCha, key_of}
use Rattle.ioa_serving.specs.Streams.{AreStreams}
use Rattle.ioa_serving.proofs.ListedLines.{each_more}

-- one worker more
pub streams_more : (key : List ℕ) (n : ℕ) (xs ys : List ChaCha) (x : ChaCha) → AreStreams key n xs → x ≡ record { key = key_of key; stream = n; word_pos = 0 } → ys ≡ xs ++ x ∷ []
    → AreStreams key (n + 1) ys
streams_more key n xs ys x h is e = record {
  count = omega (arith, h.count, ap length e, length-append xs (x ∷ []));
  each = λ i s at.
      each_more (λ j t. t ≡ record { key = key_of key; stream = j; word_pos = 0 }) xs x h.each
      (is ∙ ap (λ (j : ℕ). record { key = key_of key; stream = j; word_pos = 0 }) (sym h.count)) i s (ap (λ zs. slice_get zs i) (sym e) ∙ at);
}
