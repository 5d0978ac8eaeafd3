-- How often entries are performed in runs by many seeds, and arms and bodies taken, when one more has ended.
use Rattle.std.proofs.Common.{◌≡◌, ◌∙◌, ◌+◌, ◌*◌, ◌++◌, ◌∷◌, ◌<◌, ◌≤◌, ◌^◌, ◌-◌, ℕ, Bool, true, false, if◌then◌else◌, List, [], Option, None, Some, ap, arith, append-nil, length, length-append, option_map, refl, subst, sym, take}
use Rattle.std.proofs.lemmas.Grind.{flat_map-append}
use Rattle.std.proofs.lemmas.List.{length-map, length-take-le, map-append}
use Rattle.ioa_value.specs.Actions.{Act, act_of}
use Rattle.ioa_compile.specs.Programs.{Prog}
use Rattle.ioa_compile.specs.Subjects.{Subject}
use Rattle.ioa_coverage.specs.declared.coverage.Coverage.{Coverage}
use Rattle.ioa_coverage.specs.declared.origin.Origin.{Origin}
use Rattle.ioa_coverage.specs.Covered.{its_coverage}
use Rattle.ioa_coverage.specs.Effects.{CoversAll}
use Rattle.ioa_coverage.specs.Performed.{all_of}
use Rattle.ioa_system.specs.declared.log.Log.{Log}
use Rattle.ioa_system.specs.declared.log.LogEntry.{LogEntry}
use Rattle.ioa_system.specs.Logs.{is_fault, log_end, logged}
use Rattle.ioa_account.proofs.Remarking.{entered}
use Rattle.ioa_serving.specs.declared.judged.JudgedRun.{JudgedRun}
use Rattle.ioa_serving.specs.declared.seed_counts.Counts.{Counts}
use Rattle.ioa_serving.specs.declared.seed_tally.Tally.{Tally}
use Rattle.ioa_serving.specs.Coverage.{told_coverage}
use Rattle.ioa_serving.specs.Logs.{performed_in}
use Rattle.ioa_serving.specs.SeedRuns.{IsCountOf, IsCovered, IsTallyOf, judged_of}
use Rattle.ioa_serving.specs.Seeds.{IsShortest, Judged, performed_by_all}
use Rattle.ioa_serving.proofs.Logged.{performed_are}

-- one run more
pub performed_more : (js : List Judged) (j : Judged) → performed_by_all (js ++ j ∷ []) ≡ performed_by_all js ++ performed_in j.log ∷ []
performed_more js j = map-append (λ (k : Judged). performed_in k.log) js (j ∷ [])

pub covered_more : (p : Prog) (source : Option Origin) (js : List Judged) (j : Judged) (c : Coverage) → CoversAll p source (performed_by_all js ++ performed_in j.log ∷ []) c
    → CoversAll p source (performed_by_all (js ++ j ∷ [])) c
covered_more p source js j c k = subst (λ (runs : List (List Act)). CoversAll p source runs c) (sym (performed_more js j)) k

all_more : (js : List Judged) (j : Judged) → length (all_of (performed_by_all (js ++ j ∷ []))) ≡ length (all_of (performed_by_all js)) + length (performed_in j.log)
all_more js j =
    ap (λ (runs : List (List Act)). length (all_of runs)) (performed_more js j)
    ∙ ap length (flat_map-append (λ (acts : List Act). acts) (performed_by_all js) (performed_in j.log ∷ []))
    ∙ length-append (all_of (performed_by_all js)) (performed_in j.log ++ [])
    ∙ ap (λ (acts : List Act). length (all_of (performed_by_all js)) + length acts) (append-nil (performed_in j.log))

-- a log in memory has fewer entries than 2^64
few_performed : (l : Log) → length (performed_in (logged l)) < 2 ^ 64
few_performed l = subst (λ (xs : List Act). length xs < 2 ^ 64) (sym (performed_are l)) (go (is_fault (log_end l.end)))
  where
    all : length (entered l.entries.items) < 2 ^ 64
    all = omega (arith, length-map l.entries.items (λ (e : LogEntry). act_of e.action), l.entries.ok.0)

    go : (b : Bool) → length (if b then take (length (entered l.entries.items) - 1) (entered l.entries.items) else entered l.entries.items) < 2 ^ 64
    go true =
        let less : length (entered l.entries.items) - 1 ≤ length (entered l.entries.items) = omega arith in
        omega (arith, all, length-take-le (length (entered l.entries.items) - 1) (entered l.entries.items) less)
    go false = all

pub bounded_more : (js : List Judged) (r : JudgedRun) → length (all_of (performed_by_all js)) ≤ length js * 2 ^ 64
    → length (all_of (performed_by_all (js ++ judged_of r ∷ []))) ≤ length (js ++ judged_of r ∷ []) * 2 ^ 64
bounded_more js r few = let j = judged_of r in omega (arith, few, few_performed r.log, all_more js j, length-append js (j ∷ []))

-- so they can be counted
pub all_fit : (js : List Judged) (r : JudgedRun) → length (all_of (performed_by_all js)) ≤ length js * 2 ^ 64 → length js < 2 ^ 64
    → length (all_of (performed_by_all js)) + length (performed_in (logged r.log)) < 2 ^ 128
all_fit js r few within = omega (arith, few, within, few_performed r.log)

-- what is kept besides stays
pub tally_kept : (n : ℕ) (js : List Judged) (t u : Tally) → u.counts ≡ t.counts → u.shortest ≡ t.shortest → IsTallyOf n t js → IsTallyOf n u js
tally_kept n js t u counts shortest k = (
  subst (λ (c : Counts). IsCountOf n c js) (sym counts) k.0,
  subst (λ (o : Option Log). IsShortest js (option_map logged o)) (sym shortest) k.1,
)

pub covered_kept : (p : Prog) (source : Option Origin) (asked : Bool) (js : List Judged) (t u : Tally) → u.coverage ≡ t.coverage → IsCovered p source asked t.coverage js
    → IsCovered p source asked u.coverage js
covered_kept p source asked js t u same k = subst (λ (o : Option Coverage). IsCovered p source asked o js) (sym same) k

-- ---- where it is asked for, and where not

module _ (p : Prog) (source : Option Origin) where
  pub none_before : (asked : Bool) → asked ≡ false → IsCovered p source asked None []
  none_before false h = refl
  none_before true h = absurd (cc)

  pub some_before : (asked : Bool) (c : Coverage) → asked ≡ true → CoversAll p source [] c → IsCovered p source asked (Some c) []
  some_before true c h k = k
  some_before false c h k = absurd (cc)

  pub counted_by : (asked : Bool) (c : Coverage) (js : List Judged) → IsCovered p source asked (Some c) js → CoversAll p source (performed_by_all js) c
  counted_by true c js k = k
  counted_by false c js k = absurd (cc)

  -- one run more
  pub none_more : (asked : Bool) (js ks : List Judged) → IsCovered p source asked None js → IsCovered p source asked None ks
  none_more true js ks k = k
  none_more false js ks k = refl

  pub some_more : (asked : Bool) (c d : Coverage) (js : List Judged) (j : Judged) → IsCovered p source asked (Some c) js
      → (CoversAll p source (performed_by_all js) c → CoversAll p source (performed_by_all js ++ performed_in j.log ∷ []) d) → IsCovered p source asked (Some d) (js ++ j ∷ [])
  some_more true c d js j k more = covered_more p source js j d (more k)
  some_more false c d js j k more = absurd (cc)

  -- what is told of it
  pub none_told : (asked : Bool) (x : Subject) (js : List Judged) → IsCovered p source asked None js → None ≡ told_coverage x asked (performed_by_all js)
  none_told false x js k = refl
  none_told true x js k = absurd k

  pub some_told : (asked : Bool) (x : Subject) (c : Coverage) (js : List Judged) (text : List ℕ) → IsCovered p source asked (Some c) js
      → (CoversAll p source (performed_by_all js) c → text ≡ its_coverage x (performed_by_all js)) → Some text ≡ told_coverage x asked (performed_by_all js)
  some_told true x c js text k told = ap Some (told k)
  some_told false x c js text k told = absurd (cc)
