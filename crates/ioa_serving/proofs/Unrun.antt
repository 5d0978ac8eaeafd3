-- From the clauses of the parts to why nothing is run.
use Rattle.std.proofs.Common.{◌≡◌, ◌∙◌, ℕ, List, Option, Err, false, inl, inr, length, map, refl, subst, sym}
use Rattle.std.specs.Option.{option_copied}
use Rattle.std.specs.Result.{IsErrOf}
use Rattle.std.proofs.lemmas.List.{length-map}
use Rattle.ioa_value.specs.Actions.{Act, Name}
use Rattle.ioa_value.specs.Table.{Table}
use Rattle.ioa_compile.specs.Programs.{Prog}
use Rattle.ioa_compile.specs.Subjects.{RunsAs, Subject, its_names, its_types}
use Rattle.ioa_device.specs.declared.failure.LogErr.{LogErr}
use Rattle.ioa_board.specs.declared.run_err.RunErr.{RunErr}
use Rattle.ioa_system.specs.Logs.{Logged}
use Rattle.ioa_run.specs.Alone.{RefusesResumed}
use Rattle.ioa_serving.specs.declared.failure.Failure.{Failure}
use Rattle.ioa_request.specs.declared.settings.Settings.{Settings}
use Rattle.ioa_request.specs.declared.settings.WordsFrom.{WordsFrom}
use Rattle.ioa_serving.specs.declared.store.StoreErr.{StoreErr}
use Rattle.ioa_serving.specs.declared.word_sources.WordSources.{WordSources}
use Rattle.ioa_serving.specs.Alone.{AreSources, HasBadLine, HasBadWords, HasScript, HasWords, IsReady, IsScript, IsScriptless, IsUnrun, IsWordless, MayGive, count_of}
use Rattle.ioa_serving.specs.Failing.{IsRefusedGiven}
use Rattle.ioa_serving.specs.Resuming.{HasBadText, IsFrom, IsLogless}
use Rattle.ioa_serving.specs.Serving.{failure_of, run_failure}
use Rattle.ioa_serving.specs.WordLists.{AreWords, listed}
use Rattle.ioa_serving.proofs.Going.{refused_as, resumed_as}
use Rattle.ioa_serving.proofs.Hosted.{inputs_same, other_same}

-- the source is not read
pub unloaded : {T : Type 0} (holds : Name → List ℕ → Type 0) (lacks : Name → Type 0) (s : Settings) (x : StoreErr) → (IsErrOf {T = T} (Err x) StoreErr.Io → lacks s.file.now)
    → IsUnrun holds lacks s (failure_of x)
unloaded holds lacks s StoreErr.Io io = inl (io refl)
unloaded holds lacks s StoreErr.OutOfMemory io = tt

module _ (holds : Name → List ℕ → Type 0) (lacks : Name → Type 0) where
  bad_words : (from : WordsFrom) (m workers n : ℕ) → m ≡ workers → HasBadWords holds from m n → HasBadWords holds from workers n
  bad_words from m workers n e k = subst (λ w. HasBadWords holds from w n) e k

  pub has_words : (from : WordsFrom) (m workers : ℕ) (sources : WordSources) → m ≡ workers → AreSources holds from m sources → HasWords holds from workers
  has_words (WordsFrom.Key key) m workers sources e k = tt
  has_words (WordsFrom.File file) m workers (WordSources.Seeded v) e k = absurd k
  has_words (WordsFrom.File file) m workers (WordSources.Listed v) e k =
      (k.0, k.1, (map listed v.items, subst (λ w. AreWords w k.0 (map listed v.items)) e k.2))

  pub has_script : (types own : Table) (file : Option Name) (script : List Act) → own ≡ types → IsScript holds own file script → IsScript holds types file script
  has_script types own file script e k = subst (λ ts. IsScript holds ts file script) e k

  -- there are no words
  pub wordless : (s : Settings) (x : Subject) (m : ℕ) (e : Failure) → MayGive holds s x → m ≡ length (its_names x) → IsWordless holds lacks s.words m e → IsUnrun holds lacks s e
  wordless s x m (Failure.BadWords n) d same k = (x, d, bad_words s.words m (length (its_names x)) n same k)
  wordless s x m Failure.Io d same k = inr (x, d, inl k)
  wordless s x m Failure.OutOfMemory d same k = tt
  wordless s x m (Failure.Refused r) d same k = absurd k
  wordless s x m (Failure.Object e) d same k = absurd k
  wordless s x m Failure.SourceWanted d same k = absurd k
  wordless s x m (Failure.List e) d same k = absurd k
  wordless s x m Failure.SpecHasInternal d same k = absurd k
  wordless s x m Failure.TooManyTurns d same k = absurd k
  wordless s x m (Failure.BadInput i) d same k = absurd k
  wordless s x m Failure.Threads d same k = absurd k
  wordless s x m (Failure.BadLog i) d same k = absurd k
  wordless s x m Failure.EndedByFault d same k = absurd k
  wordless s x m (Failure.RunLog e) d same k = absurd k

  pub has_log : (types own : Table) (file : Option Name) (log : Logged) → own ≡ types → IsFrom holds own file log → IsFrom holds types file log
  has_log types own file log e k = subst (λ ts. IsFrom holds ts file log) e k

  -- there is no script
  pub scriptless : (s : Settings) (x : Subject) (own : Table) (e : Failure) → MayGive holds s x → HasWords holds s.words (length (its_names x)) → own ≡ its_types x
      → IsScriptless holds lacks own (option_copied s.inputs) e → IsUnrun holds lacks s e
  scriptless s x own (Failure.List (LogErr.BadEntry n)) d w same k =
      (x, d, w, subst (λ ts. HasBadLine holds ts (option_copied s.inputs) n) same k)
  scriptless s x own Failure.Io d w same k = inr (x, d, inr (w, inl k))
  scriptless s x own Failure.OutOfMemory d w same k = tt
  scriptless s x own (Failure.List (LogErr.NotJson n)) d w same k = absurd k
  scriptless s x own (Failure.List (LogErr.WrongOwner n)) d w same k = absurd k
  scriptless s x own (Failure.List (LogErr.Diverges n)) d w same k = absurd k
  scriptless s x own (Failure.List LogErr.NoEnd) d w same k = absurd k
  scriptless s x own (Failure.List LogErr.AfterEnd) d w same k = absurd k
  scriptless s x own (Failure.List LogErr.Io) d w same k = absurd k
  scriptless s x own (Failure.List LogErr.OutOfMemory) d w same k = absurd k
  scriptless s x own (Failure.Refused r) d w same k = absurd k
  scriptless s x own (Failure.Object e) d w same k = absurd k
  scriptless s x own Failure.SourceWanted d w same k = absurd k
  scriptless s x own (Failure.BadWords n) d w same k = absurd k
  scriptless s x own Failure.SpecHasInternal d w same k = absurd k
  scriptless s x own Failure.TooManyTurns d w same k = absurd k
  scriptless s x own (Failure.BadInput i) d w same k = absurd k
  scriptless s x own Failure.Threads d w same k = absurd k
  scriptless s x own (Failure.BadLog i) d w same k = absurd k
  scriptless s x own Failure.EndedByFault d w same k = absurd k
  scriptless s x own (Failure.RunLog e) d w same k = absurd k

  -- there is no log
  pub logless : (s : Settings) (x : Subject) (own : Table) (e : Failure) → MayGive holds s x → HasWords holds s.words (length (its_names x)) → own ≡ its_types x
      → HasScript holds (its_types x) (option_copied s.inputs) → IsLogless holds lacks own (option_copied s.resume) e → IsUnrun holds lacks s e
  logless s x own (Failure.RunLog e) d w same l k = (x, d, w, l, subst (λ ts. HasBadText holds ts (option_copied s.resume) e) same k)
  logless s x own Failure.Io d w same l k = inr (x, d, inr (w, inr (l, k)))
  logless s x own Failure.OutOfMemory d w same l k = tt
  logless s x own (Failure.List e) d w same l k = absurd k
  logless s x own (Failure.Refused r) d w same l k = absurd k
  logless s x own (Failure.Object e) d w same l k = absurd k
  logless s x own Failure.SourceWanted d w same l k = absurd k
  logless s x own (Failure.BadWords n) d w same l k = absurd k
  logless s x own Failure.SpecHasInternal d w same l k = absurd k
  logless s x own Failure.TooManyTurns d w same l k = absurd k
  logless s x own (Failure.BadInput i) d w same l k = absurd k
  logless s x own Failure.Threads d w same l k = absurd k
  logless s x own (Failure.BadLog i) d w same l k = absurd k
  logless s x own Failure.EndedByFault d w same l k = absurd k

pub count_is : (holds : Name → List ℕ → Type 0) (from : WordsFrom) (workers : ℕ) (sources : WordSources) → AreSources holds from workers sources → count_of sources ≡ workers
count_is holds (WordsFrom.Key key) workers (WordSources.Seeded v) k = k.count
count_is holds (WordsFrom.Key key) workers (WordSources.Listed v) k = absurd k
count_is holds (WordsFrom.File file) workers (WordSources.Seeded v) k = absurd k
count_is holds (WordsFrom.File file) workers (WordSources.Listed v) k = sym (length-map v.items listed) ∙ k.2.count

-- the run is refused
pub unrun_by : (p : Prog) (x : Subject) (holds : Name → List ℕ → Type 0) (lacks : Name → Type 0) (s : Settings) (script : List Act) (before : Logged) (e : RunErr) {T : Type 0}
    → RunsAs p x → IsReady holds s x script before → RefusesResumed p script s.turns before (Err e) → (IsErrOf {T = T} (Err e) RunErr.Threads → s.alone ≡ false)
    → IsUnrun holds lacks s (run_failure e)
unrun_by p x holds lacks s script before RunErr.TooManyTurns runs ready k own = (x, script, before, ready, k)
unrun_by p x holds lacks s script before (RunErr.BadInput i) runs ready k own = (x, script, before, ready, k.0, other_same p x runs script i k.1)
unrun_by p x holds lacks s script before RunErr.Threads runs ready k own =
    (x, script, before, (ready, k.0, inputs_same p x runs script k.1), resumed_as p x runs before k.2.0 k.2.1, own refl)
unrun_by p x holds lacks s script before (RunErr.BadLog i) runs ready k own =
    (x, (script, before, (ready, k.0, inputs_same p x runs script k.1), refused_as p x runs before (RunErr.BadLog i) k.2))
unrun_by p x holds lacks s script before RunErr.EndedByFault runs ready k own =
    (x, (script, before, (ready, k.0, inputs_same p x runs script k.1), refused_as p x runs before RunErr.EndedByFault k.2))
unrun_by p x holds lacks s script before RunErr.OutOfMemory runs ready k own = tt

-- the file gives nothing
pub ungiven : (holds : Name → List ℕ → Type 0) (lacks : Name → Type 0) (s : Settings) (text : List ℕ) (e : Failure) → holds s.file.now text
    → IsRefusedGiven text (option_copied s.composition) e → IsUnrun holds lacks s e
ungiven holds lacks s text (Failure.Refused r) held k = (text, held, k)
ungiven holds lacks s text (Failure.Object e) held k = (text, held, k)
ungiven holds lacks s text Failure.SourceWanted held k = absurd k
ungiven holds lacks s text (Failure.List e) held k = absurd k
ungiven holds lacks s text Failure.SpecHasInternal held k = absurd k
ungiven holds lacks s text (Failure.BadWords n) held k = absurd k
ungiven holds lacks s text Failure.TooManyTurns held k = absurd k
ungiven holds lacks s text (Failure.BadInput i) held k = absurd k
ungiven holds lacks s text Failure.Threads held k = absurd k
ungiven holds lacks s text (Failure.BadLog i) held k = absurd k
ungiven holds lacks s text Failure.EndedByFault held k = absurd k
ungiven holds lacks s text (Failure.RunLog e) held k = absurd k
ungiven holds lacks s text Failure.Io held k = absurd k
ungiven holds lacks s text Failure.OutOfMemory held k = absurd k
