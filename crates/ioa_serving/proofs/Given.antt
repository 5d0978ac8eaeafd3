-- The words that the sources of a run's workers are to give are those that are given.
use Rattle.std.proofs.Common.{◌≡◌, ◌∙◌, ◌+◌, ◌^◌, ℕ, List, Option, None, Some, All, ap, get_or, map, refl, slice_get, sym, subst, arith}
use Rattle.std.specs.Prelude.{◌%◌}
use Rattle.std.specs.Option.{option_map, option_map_or}
use Rattle.std.proofs.lemmas.List.{length-map}
use Rattle.std.proofs.lemmas.List.Elements.{All-get_or}
use Rattle.std.proofs.lemmas.Option.{get_or_from_slice_get, slice_get-map, slice_get_within}
use Rattle.rand_chacha.specs.ChaCha.{ChaCha, key_of, word_at}
use Rattle.ioa_value.specs.Actions.{Name}
use Rattle.ioa_tree.specs.Proposing.{Words}
use Rattle.ioa_run.specs.Seeds.{words_from}
use Rattle.ioa_request.specs.declared.settings.WordsFrom.{WordsFrom}
use Rattle.ioa_serving.specs.declared.word_sources.WordSources.{WordSources}
use Rattle.ioa_serving.specs.declared.words_file.ListedWords.{ListedWords}
use Rattle.ioa_serving.specs.Alone.{AreGiven, AreSources, HaveOwn, streams_of}
use Rattle.ioa_serving.specs.Streams.{AreStreams, key_words}
use Rattle.ioa_serving.specs.WordLists.{AreWords, line_at, line_words, listed, words_in, words_to_come}

-- the image in this place is that of the item there
mapped : {X Y : Type 0} (f : X → Y) (xs : List X) (i : ℕ) (y : Y) → slice_get (map f xs) i ≡ Some y → (x : X) × (slice_get xs i ≡ Some x) × (f x ≡ y)
mapped {X} {Y} f xs i y e = go (slice_get xs i) refl (sym (slice_get-map f xs i) ∙ e)
  where
    go : (o : Option X) → slice_get xs i ≡ o → option_map f o ≡ Some y → (x : X) × (slice_get xs i ≡ Some x) × (f x ≡ y)
    go None at k = absurd (cc)
    go (Some x) at k = let q : f x ≡ y = cc in (x, at, q)

-- ---- the streams of a key

abbrev stream_start : List ℕ → ℕ → ChaCha
stream_start key i = record { key = key_of key; stream = i; word_pos = 0 }

stream_words : (key : List ℕ) (i : ℕ) (g : ChaCha) (ws : Words) → g ≡ stream_start key i → words_from g ≡ ws → (k : ℕ) → ws k ≡ key_words key i k
stream_words key i g ws is e k =
    let first : 0 + k ≡ k = omega arith in
    ap (λ (f : Words). f k) (sym e) ∙ ap (λ (h : ChaCha). words_from h k) is ∙ ap (λ n. word_at 4 (key_of key) i (n % 2 ^ 68)) first

pub key_given : (key : List ℕ) (n : ℕ) (sources : List ChaCha) → AreStreams key n sources → HaveOwn n (key_words key) (map words_from sources)
key_given key n sources a = record {
  count = length-map sources words_from ∙ a.count;
  each = λ i ws at. let m = mapped words_from sources i ws at in stream_words key i m.0 ws (a.each i m.0 m.1) m.2;
}

-- ---- the lines of a text

words_of_line : (text : List ℕ) (i : ℕ) (s : ListedWords) (ws : Words) → words_in (line_at i text) ≡ Some (listed s) → s.taken ≡ 0 → words_to_come s ≡ ws
    → (k : ℕ) → ws k ≡ line_words text i k
words_of_line text i s ws line none e k =
    let first : s.taken + k ≡ k = omega (arith, none) in
    ap (λ (f : Words). f k) (sym e) ∙ ap (λ j. get_or s.words.items j 0) first ∙ ap (λ (o : Option (List ℕ)). option_map_or (λ xs. get_or xs k 0) o 0) (sym line)

untaken : (sources : List ListedWords) (i : ℕ) (s : ListedWords) → All (λ u. u.taken ≡ 0) sources → slice_get sources i ≡ Some s → s.taken ≡ 0
untaken sources i s fresh at =
    subst (λ (u : ListedWords). u.taken ≡ 0) (get_or_from_slice_get sources i s s at) (All-get_or (λ u. u.taken ≡ 0) sources i s (slice_get_within sources i s at) fresh)

lines_given : (text : List ℕ) (n : ℕ) (sources : List ListedWords) → AreWords n text (map listed sources) → All (λ s. s.taken ≡ 0) sources
    → HaveOwn n (line_words text) (map words_to_come sources)
lines_given text n sources a fresh = record {
  count = length-map sources words_to_come ∙ sym (length-map sources listed) ∙ a.count;
  each = λ i ws at.
      let m = mapped words_to_come sources i ws at in
      words_of_line text i m.0 ws (a.each i (listed m.0) (slice_get-map listed sources i ∙ ap (option_map listed) m.1)) (untaken sources i m.0 fresh m.1) m.2;
}

-- ---- of either kind

pub given : (holds : Name → List ℕ → Type 0) (from : WordsFrom) (m workers : ℕ) (sources : WordSources) → m ≡ workers → AreSources holds from m sources
    → AreGiven holds from workers (streams_of sources)
given holds (WordsFrom.Key key) m workers (WordSources.Seeded v) e k = subst (λ n. HaveOwn n (key_words key) (map words_from v.items)) e (key_given key m v.items k)
given holds (WordsFrom.Key key) m workers (WordSources.Listed v) e k = absurd k
given holds (WordsFrom.File file) m workers (WordSources.Seeded v) e k = absurd k
given holds (WordsFrom.File file) m workers (WordSources.Listed v) e k = (
  k.0,
  k.1,
  (map listed v.items, subst (λ n. AreWords n k.0 (map listed v.items)) e k.2),
  subst (λ n. HaveOwn n (line_words k.0) (map words_to_come v.items)) e (lines_given k.0 m v.items k.2 k.3),
)
