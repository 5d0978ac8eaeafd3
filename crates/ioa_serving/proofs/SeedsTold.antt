-- From a program's runs by many seeds, and what is kept of them, to the line with their counts.
use Rattle.std.proofs.Common.{◌≡◌, ◌∙◌, ◌++◌, ◌<◌, ◌≤◌, ◌+◌, ◌^◌, ℕ, List, Option, ap, ap₂, arith, inl, inr, length, refl, subst, take}
use Rattle.std.specs.Io.KnownBytes.{Appends}
use Rattle.std.proofs.KnownBytes.{Appends-trans}
use Rattle.ioa_device.specs.declared.failure.LogErr.{LogErr}
use Rattle.ioa_request.specs.declared.seeds.Seeds.{Seeds}
use Rattle.ioa_serving.specs.declared.failure.Failure.{Failure}
use Rattle.ioa_serving.specs.declared.seed_tally.Tally.{Tally}
use Rattle.ioa_serving.specs.declared.sown.Sown.{Sown}
use Rattle.ioa_serving.specs.Seeds.{Judged, counts_line, counts_status, dones_among, faults_among, monitors_of, refusals_among, seed_lines, seeds_count, seeds_status, seeds_text}
use Rattle.ioa_serving.specs.SeedRuns.{IsBegun, IsTallyOf, IsTold}
use Rattle.ioa_serving.proofs.Pieces.{begun_last}
use Rattle.ioa_serving.proofs.SeedLines.{all_counted, refusals_count}

-- that of all runs
module _ (w : Sown) (s : Seeds) (names : length w.specifications.items ≡ length (monitors_of s)) (t : Tally) (js : List Judged) (tallied : IsTallyOf (length w.specifications.items) t js) where
  refusals_same : t.counts.refusals.items ≡ refusals_among (length (monitors_of s)) js
  refusals_same = tallied.0.refusals ∙ ap (λ n. refusals_among n js) names

  -- its status
  pub status_same : counts_status t.counts.fault t.counts.refusals.items t.counts.broken ≡ seeds_status (monitors_of s) js
  status_same =
      ap₂ (λ f ns. counts_status f ns t.counts.broken) tallied.0.fault refusals_same
      ∙ ap (counts_status (faults_among js) (refusals_among (length (monitors_of s)) js)) tallied.0.broken

  -- there is a count for each specification
  pub counted_all : length t.counts.refusals.items ≡ length (monitors_of s)
  counted_all = ap length tallied.0.refusals ∙ refusals_count (length w.specifications.items) js ∙ names

  abbrev line : List ℕ
  line = counts_line s.json (monitors_of s) s.invariants t.counts.done t.counts.fault t.counts.refusals.items t.counts.broken

  pub all_text : seed_lines s.json (monitors_of s) s.first js ++ line ≡ seeds_text s.json (monitors_of s) s.invariants s.first js
  all_text =
      ap₂ (λ d f. seed_lines s.json (monitors_of s) s.first js ++ counts_line s.json (monitors_of s) s.invariants d f t.counts.refusals.items t.counts.broken) tallied.0.done tallied.0.fault
      ∙ ap₂ (λ ns b. seed_lines s.json (monitors_of s) s.first js ++ counts_line s.json (monitors_of s) s.invariants (dones_among js) (faults_among js) ns b) refusals_same tallied.0.broken

module _ (w : Sown) (s : Seeds) (names : length w.specifications.items ≡ length (monitors_of s)) (old mid : Option (List ℕ)) (t : Tally) (js : List Judged)
    (told : IsTold w s (seed_lines s.json (monitors_of s) s.first js) old mid t js) where
  -- the counts can be added up
  pub addable : t.counts.done + t.counts.fault < 2 ^ 128
  addable = omega (arith, told.tallied.0.done, told.tallied.0.fault, all_counted js, told.within)

  few : length js ≤ seeds_count s
  few = omega (arith, told.count)

  abbrev counted : List ℕ
  counted = counts_line s.json (monitors_of s) s.invariants t.counts.done t.counts.fault t.counts.refusals.items t.counts.broken

  -- their line is told, too
  pub told_with : (new : Option (List ℕ)) → Appends mid new counted → IsTold w s (seeds_text s.json (monitors_of s) s.invariants s.first js) old new t js
  told_with new line = record {
    count = told.count;
    runs = told.runs;
    tallied = told.tallied;
    covered = told.covered;
    within = told.within;
    output = subst (Appends old new) (all_text w s names t js told.tallied) (Appends-trans old mid new (seed_lines s.json (monitors_of s) s.first js) counted told.output line);
  }

  -- memory was short for it
  pub uncounted : (failed : Type 0) → IsBegun w s failed old mid Failure.OutOfMemory
  uncounted failed = record { judged = js; few = few; runs = told.runs; cut = inr (inr refl, told.output) }

  -- the device failed at it
  pub cut_in_counts : (failed : Type 0) (new : Option (List ℕ)) → failed → (n : ℕ) × Appends mid new (take n counted) → IsBegun w s failed old new (Failure.List LogErr.Io)
  cut_in_counts failed new f begun =
      let b = begun_last old mid new (seed_lines s.json (monitors_of s) s.first js) counted told.output begun in
      record {
        judged = js;
        few = few;
        runs = told.runs;
        cut = inl (refl, f, (seeds_text s.json (monitors_of s) s.invariants s.first js, b.0, inr (told.count, refl), subst (λ x. Appends old new (take b.0 x)) (all_text w s names t js told.tallied) b.1));
      }
