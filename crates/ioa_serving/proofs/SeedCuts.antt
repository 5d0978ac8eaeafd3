-- What is told of runs by many seeds when one more has ended, or none is told any more.
use Rattle.std.proofs.Common.{◌≡◌, ◌⊎◌, ◌∙◌, ◌+◌, ◌++◌, ◌∷◌, ◌≤◌, ℕ, suc, List, [], Option, None, Some, Err, ap, append-nil, arith, inl, inr, length, length-append, map, option_map, refl, subst, sym, take}
use Rattle.std.specs.Io.KnownBytes.{Appends, Keeps}
use Rattle.std.specs.Borrow.{Bor}
use Rattle.std.specs.Result.{IsErrOf}
use Rattle.std.proofs.KnownBytes.{Appends-trans}
use Rattle.std.proofs.lemmas.List.{length-map}
use Rattle.ioa_value.specs.Actions.{Name, act_of}
use Rattle.ioa_system.specs.Logs.{logged}
use Rattle.ioa_system.specs.Outcomes.{ending_of}
use Rattle.ioa_device.specs.declared.failure.LogErr.{LogErr}
use Rattle.ioa_board.specs.declared.run_err.RunErr.{RunErr}
use Rattle.ioa_serving.specs.declared.failure.Failure.{Failure}
use Rattle.ioa_request.specs.Pasted.{texts}
use Rattle.ioa_request.specs.declared.seeds.Seeds.{Seeds}
use Rattle.ioa_serving.specs.declared.judged.JudgedRun.{JudgedRun}
use Rattle.ioa_serving.specs.declared.sown.Sown.{Sown}
use Rattle.ioa_serving.specs.Seeds.{Judged, monitors_of, seed_line, seed_lines, seeds_count}
use Rattle.ioa_serving.specs.SeedRuns.{AreSeedJudgments, IsBegun, IsNoneRun, IsSeedJudgment, IsSeedRefused, judged_of, table_answer}
use Rattle.ioa_serving.specs.Serving.{run_failure}
use Rattle.ioa_serving.proofs.Pieces.{begun_last}
use Rattle.ioa_serving.proofs.SeedLines.{more_lines, more_runs, only_memory}

-- nothing more is held
nothing : (before after : Option (List ℕ)) → Appends before after [] → Keeps before after
nothing None after h = tt
nothing (Some xs) None h = absurd h
nothing (Some xs) (Some ys) h = h ∙ append-nil xs

kept_on : (old mid after : Option (List ℕ)) (bs : List ℕ) → Appends old mid bs → Keeps mid after → Appends old after bs
kept_on None mid after bs h k = tt
kept_on (Some xs) None after bs h k = absurd h
kept_on (Some xs) (Some ys) None bs h k = absurd k
kept_on (Some xs) (Some ys) (Some zs) bs h k = k ∙ h

-- as many names as are lent
pub lent_count : (xs : List (Bor Name)) → length (texts xs) ≡ length xs
lent_count xs = length-map xs (λ x. x.now)

-- as many answers as there are specifications
pub answers_count : (w : Sown) (turns n : ℕ) (r : JudgedRun) → IsSeedJudgment w turns n (judged_of r) → length r.answers.items ≡ length w.specifications.items
answers_count w turns n r k = sym (length-map r.answers.items (option_map ending_of)) ∙ ap length k.answers ∙ length-map w.specifications.items (table_answer (logged r.log))

module _ (w : Sown) (s : Seeds) (old mid : Option (List ℕ)) (js : List Judged) (number : ℕ) (next : s.first + length js ≡ number) (few : length js ≤ seeds_count s)
    (runs : AreSeedJudgments w s.run.turns s.first js) (told : Appends old mid (seed_lines s.json (monitors_of s) s.first js)) where
  -- a run is refused
  pub refused_next : (failed : Type 0) (e : RunErr) → IsSeedRefused w s.run.turns e → IsNoneRun w s.run.turns old mid (run_failure e) ⊎ IsBegun w s failed old mid (run_failure e)
  refused_next failed e k = go js few runs told
    where
      short : (x : Judged) (xs : List Judged) → AreSeedJudgments w s.run.turns s.first (x ∷ xs) → e ≡ RunErr.OutOfMemory
      short x xs first = last k
        where
          last : IsSeedRefused w s.run.turns e → e ≡ RunErr.OutOfMemory
          last (inl is) = is
          last (inr h) = only_memory w.ready.program (logged w.ready.log) (map act_of w.ready.script.items) s.run.turns first.0.run.outcome e first.0.run.begun h.0 h.1

      go : (xs : List Judged) → length xs ≤ seeds_count s → AreSeedJudgments w s.run.turns s.first xs → Appends old mid (seed_lines s.json (monitors_of s) s.first xs)
          → IsNoneRun w s.run.turns old mid (run_failure e) ⊎ IsBegun w s failed old mid (run_failure e)
      go [] less all lines = inl ((e, refl, k), nothing old mid lines)
      go (x ∷ xs) less all lines = inr (record { judged = x ∷ xs; few = less; runs = all; cut = inr (inr (ap run_failure (short x xs all)), lines) })

  module _ (j : Judged) (run : IsSeedJudgment w s.run.turns number j) where
    joined : seed_lines s.json (monitors_of s) s.first js ++ seed_line s.json (monitors_of s) number j ≡ seed_lines s.json (monitors_of s) s.first (js ++ j ∷ [])
    joined = ap (λ m. seed_lines s.json (monitors_of s) s.first js ++ seed_line s.json (monitors_of s) m j) (sym next) ∙ sym (more_lines s.json (monitors_of s) s.first js j)

    pub runs_on : AreSeedJudgments w s.run.turns s.first (js ++ j ∷ [])
    runs_on = more_runs w s.run.turns s.first js j runs (subst (λ m. IsSeedJudgment w s.run.turns m j) (sym next) run)

    -- its line is told
    pub told_on : (new : Option (List ℕ)) → Appends mid new (seed_line s.json (monitors_of s) number j) → Appends old new (seed_lines s.json (monitors_of s) s.first (js ++ j ∷ []))
    told_on new line =
        subst (Appends old new) joined (Appends-trans old mid new (seed_lines s.json (monitors_of s) s.first js) (seed_line s.json (monitors_of s) number j) told line)

    -- or is not
    pub cut_on : {T : Type 0} (new : Option (List ℕ)) (failed : Type 0) (x : LogErr) → suc (length js) ≤ seeds_count s → (x ≡ LogErr.Io) ⊎ (x ≡ LogErr.OutOfMemory)
        → (IsErrOf {T = T} (Err x) LogErr.Io → failed) → (IsErrOf {T = T} (Err x) LogErr.Io → (k : ℕ) × Appends mid new (take k (seed_line s.json (monitors_of s) number j)))
        → (IsErrOf {T = T} (Err x) LogErr.OutOfMemory → Keeps mid new) → IsBegun w s failed old new (Failure.List x)
    cut_on new failed x less (inl is) io begun memory =
        let b = begun_last old mid new (seed_lines s.json (monitors_of s) s.first js) (seed_line s.json (monitors_of s) number j) told (begun (ap Err is)) in
        let more : length (js ++ j ∷ []) ≤ seeds_count s = omega (arith, length-append js (j ∷ [])) in
        record {
          judged = js ++ j ∷ [];
          few = more;
          runs = runs_on;
          cut = inl (ap Failure.List is, io (ap Err is), (seed_lines s.json (monitors_of s) s.first (js ++ j ∷ []), b.0, inl refl, subst (λ t. Appends old new (take b.0 t)) joined b.1));
        }
    cut_on new failed x less (inr is) io begun memory =
        record { judged = js; few = few; runs = runs; cut = inr (inl (ap Failure.List is), kept_on old mid new (seed_lines s.json (monitors_of s) s.first js) told (memory (ap Err is))) }
