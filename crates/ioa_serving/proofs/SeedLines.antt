-- Lines, runs and counts that grow by one run.
use Rattle.std.proofs.Common.{◌≡◌, ◌≢◌, ◌∙◌, ◌+◌, ◌++◌, ◌∷◌, ◌<◌, ◌≤◌, ℕ, suc, zero, Bool, true, false, cond, if◌then◌else◌, not, All, List, [], Option, None, Some, Ok, Err, ap, ap₂, append_assoc, append-nil, arith, drop, get_or, length, map, option_map, refl, replicate, set, slice_get, subst, sym, take}
use Rattle.std.specs.List.{count_by}
use Rattle.std.specs.Prelude.{is_some}
use Rattle.std.proofs.Math.Seq.{take-append_seam}
use Rattle.std.proofs.lemmas.List.{length-replicate}
use Rattle.std.proofs.lemmas.List.Elements.{All-cons, All-get_or, All-head, All-nil, All-replicate, All-tail, All-weaker}
use Rattle.std.proofs.lemmas.List.Sums.{sum_by-append}
use Rattle.std.proofs.lemmas.Option.{get_or_from_slice_get, slice_get-map}
use Rattle.ioa_value.specs.Actions.{Act, Name}
use Rattle.ioa_tree.specs.Runs.{Ending}
use Rattle.ioa_compile.specs.Programs.{Prog}
use Rattle.ioa_compile.specs.Tables.{tabled}
use Rattle.ioa_system.specs.declared.outcomes.End.{End}
use Rattle.ioa_system.specs.Logs.{Logged, is_fault}
use Rattle.ioa_system.specs.Outcomes.{ending_of}
use Rattle.ioa_board.specs.declared.outcome.Outcome.{Outcome}
use Rattle.ioa_board.specs.ProgramRooms.{IsInput}
use Rattle.ioa_run.specs.Alone.{IsFirstOther, RefusesResumed}
use Rattle.ioa_board.specs.declared.run_err.RunErr.{RunErr}
use Rattle.ioa_serving.specs.Seeds.{Judged, broken_among, dones_among, faults_among, is_broken, refusals_among, refusals_from, seed_line, seed_lines, with_refusals}
use Rattle.ioa_serving.specs.declared.seed_counts.Counts.{Counts}
use Rattle.ioa_serving.specs.declared.sown.Sown.{Sown}
use Rattle.ioa_serving.specs.SeedRuns.{AreSeedJudgments, IsCountOf, IsSeedJudgment}

-- a run more is told behind the lines, by the number that comes next
pub more_lines : (json : Bool) (names : List Name) (n : ℕ) (js : List Judged) (j : Judged) → seed_lines json names n (js ++ j ∷ []) ≡ seed_lines json names n js ++ seed_line json names (n + length js) j
more_lines json names n [] j =
    let e : n ≡ n + 0 = omega arith in
    append-nil (seed_line json names n j) ∙ ap (λ m. seed_line json names m j) e
more_lines json names n (x ∷ xs) j =
    let e : suc n + length xs ≡ n + suc (length xs) = omega arith in
    ap (λ t. seed_line json names n x ++ t) (more_lines json names (suc n) xs j)
    ∙ ap (λ m. seed_line json names n x ++ (seed_lines json names (suc n) xs ++ seed_line json names m j)) e
    ∙ sym (append_assoc (seed_line json names n x) (seed_lines json names (suc n) xs) (seed_line json names (n + suc (length xs)) j))

-- how many there are of a kind
one_more : (p : Judged → Bool) (js : List Judged) (j : Judged) → count_by p (js ++ j ∷ []) ≡ count_by p js + cond (p j) 1 0
one_more p js j =
    let e : 0 + cond (p j) 1 0 ≡ cond (p j) 1 0 = omega arith in
    sum_by-append (λ x. cond (p x) 1 0) js (j ∷ []) ∙ ap (λ n. count_by p js + n) e

one_first : (p : Judged → Bool) (x : Judged) (xs : List Judged) → count_by p (x ∷ xs) ≡ (0 + cond (p x) 1 0) + count_by p xs
one_first p x xs = sum_by-append (λ x. cond (p x) 1 0) (x ∷ []) xs

pub faults_more : (js : List Judged) (j : Judged) → faults_among (js ++ j ∷ []) ≡ faults_among js + cond (is_fault j.log.ending) 1 0
faults_more js j = one_more (λ x. is_fault x.log.ending) js j

pub dones_more : (js : List Judged) (j : Judged) → dones_among (js ++ j ∷ []) ≡ dones_among js + cond (not (is_fault j.log.ending)) 1 0
dones_more js j = one_more (λ x. not (is_fault x.log.ending)) js j

pub broken_more : (js : List Judged) (j : Judged) → broken_among (js ++ j ∷ []) ≡ broken_among js + cond (is_broken j) 1 0
broken_more js j = one_more is_broken js j

one_counted : (b : Bool) (d f n : ℕ) → d + f ≡ n → ((0 + cond (not b) 1 0) + d) + ((0 + cond b 1 0) + f) ≡ suc n
one_counted true d f n e = omega arith
one_counted false d f n e = omega arith

pub all_counted : (js : List Judged) → dones_among js + faults_among js ≡ length js
all_counted [] = refl
all_counted (x ∷ xs) =
    ap₂ (λ d f. d + f) (one_first (λ j. not (is_fault j.log.ending)) x xs) (one_first (λ j. is_fault j.log.ending) x xs)
    ∙ one_counted (is_fault x.log.ending) (dones_among xs) (faults_among xs) (length xs) (all_counted xs)

pub more_runs : (w : Sown) (turns n : ℕ) (js : List Judged) (j : Judged) → AreSeedJudgments w turns n js
    → IsSeedJudgment w turns (n + length js) j → AreSeedJudgments w turns n (js ++ j ∷ [])
more_runs w turns n [] j h k =
    let e : n + 0 ≡ n = omega arith in
    (subst (λ m. IsSeedJudgment w turns m j) e k, tt)
more_runs w turns n (x ∷ xs) j h k =
    let e : n + suc (length xs) ≡ suc n + length xs = omega arith in
    (h.0, more_runs w turns (suc n) xs j h.1 (subst (λ m. IsSeedJudgment w turns m j) e k))

-- ---- how many each specification does not accept

pub refusals_more : (ns : List ℕ) (js : List Judged) (j : Judged) → refusals_from ns (js ++ j ∷ []) ≡ with_refusals (refusals_from ns js) j.answers
refusals_more ns [] j = refl
refusals_more ns (x ∷ xs) j = refusals_more (with_refusals ns x.answers) xs j

pub with_count : (ns : List ℕ) (answers : List (Option Ending)) → length (with_refusals ns answers) ≡ length ns
with_count [] answers = refl
with_count (n ∷ ns) [] = refl
with_count (n ∷ ns) (a ∷ answers) = ap suc (with_count ns answers)

from_count : (ns : List ℕ) (js : List Judged) → length (refusals_from ns js) ≡ length ns
from_count ns [] = refl
from_count ns (j ∷ js) = from_count (with_refusals ns j.answers) js ∙ with_count ns j.answers

pub refusals_count : (k : ℕ) (js : List Judged) → length (refusals_among k js) ≡ k
refusals_count k js = from_count (replicate k 0) js ∙ length-replicate k 0

-- as many counts as before are put in their place
pub refilled : (n : ℕ) (cs ns : List ℕ) → length cs ≡ n → take n (cs ++ drop (length cs) ns) ≡ cs
refilled n cs ns long = ap (λ k. take k (cs ++ drop (length cs) ns)) (sym long) ∙ take-append_seam cs (drop (length cs) ns)

-- none is counted more often than there are runs
at_most : (m n : ℕ) (ns : List ℕ) → m ≤ n → All (λ k. k ≤ m) ns → All (λ k. k ≤ n) ns
at_most m n ns le h = All-weaker (λ k. k ≤ m) (λ k. k ≤ n) (λ k one. omega (arith, one, le)) ns h

with_few : (m : ℕ) (ns : List ℕ) (answers : List (Option Ending)) → All (λ k. k ≤ m) ns → All (λ k. k ≤ m + 1) (with_refusals ns answers)
with_few m [] answers h = All-nil (λ k. k ≤ m + 1)
with_few m (n ∷ ns) [] h = at_most m (m + 1) (n ∷ ns) (omega arith) h
with_few m (n ∷ ns) (a ∷ answers) h =
    let less : n ≤ m = All-head (λ k. k ≤ m) n ns h in
    All-cons (λ k. k ≤ m + 1) (if is_some a then n + 1 else n) (with_refusals ns answers) (one (is_some a) less) (with_few m ns answers (All-tail (λ k. k ≤ m) n ns h))
  where
    one : (b : Bool) → n ≤ m → (if b then n + 1 else n) ≤ m + 1
    one true le = omega arith
    one false le = omega arith

from_few : (m : ℕ) (ns : List ℕ) (js : List Judged) → All (λ k. k ≤ m) ns → All (λ k. k ≤ m + length js) (refusals_from ns js)
from_few m ns [] h = at_most m (m + 0) ns (omega arith) h
from_few m ns (j ∷ js) h =
    let e : (m + 1) + length js ≤ m + suc (length js) = omega arith in
    at_most ((m + 1) + length js) (m + suc (length js)) (refusals_from (with_refusals ns j.answers) js) e (from_few (m + 1) (with_refusals ns j.answers) js (with_few m ns j.answers h))

pub refusals_few : (k : ℕ) (js : List Judged) → All (λ n. n ≤ length js) (refusals_among k js)
refusals_few k js =
    at_most (0 + length js) (length js) (refusals_among k js) (omega arith) (from_few 0 (replicate k 0) js (All-replicate (λ n. n ≤ 0) k 0 (omega arith)))

-- one place after another
pub with_beyond : (ns : List ℕ) (answers : List (Option Ending)) (i : ℕ) → get_or (with_refusals ns (take i answers)) i 0 ≡ get_or ns i 0
with_beyond [] answers i = refl
with_beyond (n ∷ ns) answers zero = refl
with_beyond (n ∷ ns) [] (suc i) = refl
with_beyond (n ∷ ns) (a ∷ answers) (suc i) = with_beyond ns answers i

with_nothing : (ns : List ℕ) → with_refusals ns [] ≡ ns
with_nothing [] = refl
with_nothing (n ∷ ns) = refl

with_some : (ns : List ℕ) (answers : List (Option Ending)) (i : ℕ) (a : Option Ending) → slice_get answers i ≡ Some a → is_some a ≡ true → i < length ns
    → with_refusals ns (take (suc i) answers) ≡ set (with_refusals ns (take i answers)) i (get_or (with_refusals ns (take i answers)) i 0 + 1)
with_some [] answers i a at some lt = absurd (omega arith)
with_some (n ∷ ns) [] i a at some lt = absurd (cc)
with_some (n ∷ ns) (b ∷ answers) zero a at some lt =
    let same : b ≡ a = cc in
    ap₂ (λ (c : Bool) (ms : List ℕ). (if c then n + 1 else n) ∷ ms) (ap is_some same ∙ some) (with_nothing ns)
with_some (n ∷ ns) (b ∷ answers) (suc i) a at some lt = ap (λ ms. (if is_some b then n + 1 else n) ∷ ms) (with_some ns answers i a at some (omega arith))

with_none : (ns : List ℕ) (answers : List (Option Ending)) (i : ℕ) (a : Option Ending) → slice_get answers i ≡ Some a → is_some a ≡ false → i < length ns
    → with_refusals ns (take (suc i) answers) ≡ with_refusals ns (take i answers)
with_none [] answers i a at none lt = absurd (omega arith)
with_none (n ∷ ns) [] i a at none lt = absurd (cc)
with_none (n ∷ ns) (b ∷ answers) zero a at none lt =
    let same : b ≡ a = cc in
    ap₂ (λ (c : Bool) (ms : List ℕ). (if c then n + 1 else n) ∷ ms) (ap is_some same ∙ none) (with_nothing ns)
with_none (n ∷ ns) (b ∷ answers) (suc i) a at none lt = ap (λ ms. (if is_some b then n + 1 else n) ∷ ms) (with_none ns answers i a at none (omega arith))

pub some_mapped : (o : Option End) → is_some (option_map ending_of o) ≡ is_some o
some_mapped None = refl
some_mapped (Some e) = refl

-- an answer more
module _ (ns ms : List ℕ) (os : List (Option End)) (i : ℕ) (o : Option End) (at : slice_get os i ≡ Some o) (lt : i < length ns)
    (so : ms ≡ with_refusals ns (take i (map (option_map ending_of) os))) where
  here : slice_get (map (option_map ending_of) os) i ≡ Some (option_map ending_of o)
  here = slice_get-map (option_map ending_of) os i ∙ ap (option_map (option_map ending_of)) at

  next : suc i ≡ i + 1
  next = omega arith

  pub one_refusal : (qs : List ℕ) → is_some o ≡ true → qs ≡ set ms i (get_or ms i 0 + 1) → qs ≡ with_refusals ns (take (i + 1) (map (option_map ending_of) os))
  one_refusal qs some is =
      is ∙ ap (λ ks. set ks i (get_or ks i 0 + 1)) so
      ∙ sym (with_some ns (map (option_map ending_of) os) i (option_map ending_of o) here (some_mapped o ∙ some) lt)
      ∙ ap (λ k. with_refusals ns (take k (map (option_map ending_of) os))) next

  pub no_refusal : (qs : List ℕ) → is_some o ≡ false → qs ≡ ms → qs ≡ with_refusals ns (take (i + 1) (map (option_map ending_of) os))
  no_refusal qs none is =
      is ∙ so
      ∙ sym (with_none ns (map (option_map ending_of) os) i (option_map ending_of o) here (some_mapped o ∙ none) lt)
      ∙ ap (λ k. with_refusals ns (take k (map (option_map ending_of) os))) next

-- ---- why a run is refused

absent : (xs : List Act) (i : ℕ) → slice_get xs i ≡ None → i < length xs → ⊥
absent [] i e lt = omega arith
absent (x ∷ xs) zero e lt = cc
absent (x ∷ xs) (suc i) e lt = absent xs i e (omega arith)

no_other : (p : Prog) (script : List Act) (i : ℕ) → All (IsInput (tabled p)) script → IsFirstOther (tabled p) script i → ⊥
no_other p script i fine f = go (slice_get script i) refl
  where
    go : (o : Option Act) → slice_get script i ≡ o → ⊥
    go None e = absent script i e f.there
    go (Some a) e = f.other a e (subst (IsInput (tabled p)) (get_or_from_slice_get script i a a e) (All-get_or (IsInput (tabled p)) script i a f.there fine))

-- where a run has begun, a later one is refused for want of memory alone
pub only_memory : (p : Prog) (before : Logged) (script : List Act) (turns : ℕ) (o : Outcome) (e : RunErr) → RefusesResumed p script turns before (Ok o) → e ≢ RunErr.Threads
    → RefusesResumed p script turns before (Err e) → e ≡ RunErr.OutOfMemory
only_memory p before script turns o RunErr.TooManyTurns fine own k = absurd (omega arith)
only_memory p before script turns o (RunErr.BadInput i) fine own k = absurd (no_other p script i fine.1 k.1)
only_memory p before script turns o (RunErr.BadLog i) fine own k =
    let z : Ok fine.2.0 ≡ Err (RunErr.BadLog i) = sym fine.2.1 ∙ k.2 in absurd (cc)
only_memory p before script turns o RunErr.EndedByFault fine own k =
    let z : Ok fine.2.0 ≡ Err RunErr.EndedByFault = sym fine.2.1 ∙ k.2 in absurd (cc)
only_memory p before script turns o RunErr.Threads fine own k = absurd (own refl)
only_memory p before script turns o RunErr.OutOfMemory fine own k = refl

-- the counts of one more
pub counted_more : (k : ℕ) (c d : Counts) (js : List Judged) (j : Judged) → IsCountOf k c js → d.done ≡ c.done + cond (not (is_fault j.log.ending)) 1 0
    → d.fault ≡ c.fault + cond (is_fault j.log.ending) 1 0 → d.refusals.items ≡ with_refusals c.refusals.items j.answers → d.broken ≡ c.broken + cond (is_broken j) 1 0
    → IsCountOf k d (js ++ j ∷ [])
counted_more k c d js j so done fault refusals broken = record {
  done = done ∙ ap (λ n. n + cond (not (is_fault j.log.ending)) 1 0) so.done ∙ sym (dones_more js j);
  fault = fault ∙ ap (λ n. n + cond (is_fault j.log.ending) 1 0) so.fault ∙ sym (faults_more js j);
  refusals = refusals ∙ ap (λ ns. with_refusals ns j.answers) so.refusals ∙ sym (refusals_more (replicate k 0) js j);
  broken = broken ∙ ap (λ n. n + cond (is_broken j) 1 0) so.broken ∙ sym (broken_more js j);
}
