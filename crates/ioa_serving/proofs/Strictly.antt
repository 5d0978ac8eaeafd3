-- What a specification answers strictly that has heard a log's actions.
use Rattle.std.proofs.Common.{◌≡◌, ◌≤◌, ◌<◌, ◌∙◌, ◌∷◌, [], ◌+◌, ◌==◌, ◌||◌, ℕ, suc, Bool, true, false, not, cond, if◌then◌else◌, List, Option, Some, None, Err, IfSome, ap, arith, count_by, length, option_map, refl, subst, sym, take}
use Rattle.std.specs.Io.KnownBytes.{Appends}
use Rattle.std.specs.List.{list_any}
use Rattle.std.specs.Result.{IsErrOf}
use Rattle.std.proofs.lemmas.Bool.{eq-eqb, eqb-true, false≢true}
use Rattle.std.proofs.lemmas.List.{take_all}
use Rattle.std.proofs.lemmas.List.Sums.{count_by-le-length, sum_by-cons}
use Rattle.ioa_value.specs.Actions.{Act}
use Rattle.ioa_value.specs.Plain.{Val}
use Rattle.ioa_value.specs.Table.{Table, contains}
use Rattle.ioa_tree.specs.Components.{Component, has}
use Rattle.ioa_tree.specs.Runs.{Ending, done, not_an_action_at, not_enabled_at, fault_at}
use Rattle.ioa_tree.specs.Steps.{Moved, next, not_an_action, not_enabled, fault, step}
use Rattle.ioa_compile.specs.Programs.{Prog}
use Rattle.ioa_compile.specs.Subjects.{RunsAs, Subject}
use Rattle.ioa_compile.specs.Tables.{start_states, tabled}
use Rattle.ioa_compile.proofs.Subjects.{does_as}
use Rattle.ioa_system.specs.Outcomes.{ending_of}
use Rattle.ioa_device.specs.declared.failure.LogErr.{LogErr}
use Rattle.ioa_device.specs.Failing.{IsTextErr}
use Rattle.ioa_monitor.proofs.Acting.{is_action, step_acts}
use Rattle.ioa_monitor.specs.Monitoring.{IsOpen, after_action, monitored, monitored_from}
use Rattle.ioa_log.specs.LogTexts.{GoesOnAt, HasNoEnd, NoEntryAt, NotJsonAt, ReadsLog}
use Rattle.ioa_inspect.specs.LogMonitors.{IsNoText}
use Rattle.ioa_watch.specs.declared.watcher.Watcher.{Watcher}
use Rattle.ioa_watch.specs.Names.{names_of}
use Rattle.ioa_watch.specs.Watched.{Watching}
use Rattle.ioa_watch.specs.Watchers.{HasHeard, heard_by, refused_by, watching_of}
use Rattle.ioa_watch.proofs.AsMonitors.{refuses_as_monitor}
use Rattle.ioa_watch.proofs.AsSubjects.{hears_as_program}
use Rattle.ioa_watch.proofs.Counted.{counts_of}
use Rattle.ioa_watch.proofs.EntryNames.{names_apart}
use Rattle.ioa_watch.proofs.Watchers.{refusal_is}
use Rattle.ioa_serving.specs.declared.verdict.Verdict.{Verdict}
use Rattle.ioa_serving.specs.Logs.{performed_in}
use Rattle.ioa_serving.specs.Strict.{AgreesWithMonitor, AnswersStrictly, BeginsStrict, MonitorsStrictly, StrictAnswer, answer_on, has_named, plainly, strict_answer, strict_line, strict_of, table_verdict}

-- ---- whether something was taken

-- where none passes a test, all fail it
unnamed_count : {A : Type 0} (f : A → Bool) (xs : List A) → list_any f xs ≡ false → count_by (λ x. not (f x)) xs ≡ length xs
unnamed_count f [] e = refl
unnamed_count f (x ∷ xs) e = sum_by-cons (λ y. cond (not (f y)) 1 0) x xs ∙ go (f x) e (unnamed_count f xs)
  where
    go : (b : Bool) → (b || list_any f xs) ≡ false → (list_any f xs ≡ false → count_by (λ y. not (f y)) xs ≡ length xs)
        → cond (not b) 1 0 + count_by (λ y. not (f y)) xs ≡ suc (length xs)
    go true k more = absurd (false≢true (sym k))
    go false k more = let n = more k in omega (arith, n)

-- where one does, fewer
named_count : {A : Type 0} (f : A → Bool) (xs : List A) → list_any f xs ≡ true → count_by (λ x. not (f x)) xs < length xs
named_count f [] e = absurd (false≢true e)
named_count f (x ∷ xs) e =
    subst (λ n. n < suc (length xs)) (sym (sum_by-cons (λ y. cond (not (f y)) 1 0) x xs)) (go (f x) e (named_count f xs) (count_by-le-length (λ y. not (f y)) xs))
  where
    go : (b : Bool) → (b || list_any f xs) ≡ true → (list_any f xs ≡ true → count_by (λ y. not (f y)) xs < length xs)
        → count_by (λ y. not (f y)) xs ≤ length xs → cond (not b) 1 0 + count_by (λ y. not (f y)) xs < suc (length xs)
    go true k more le = omega (arith, le)
    go false k more le = let l = more k in omega (arith, l)

test_is : (a b : ℕ) (c : Bool) → (c ≡ true → a ≡ b) → (c ≡ false → a ≡ b → ⊥) → (a == b) ≡ c
test_is a b true same apart = eq-eqb a b (same refl)
test_is a b false same apart = go (a == b) refl
  where
    go : (t : Bool) → (a == b) ≡ t → t ≡ false
    go false e = refl
    go true e = absurd (apart refl (eqb-true a b e))

-- what was passed over is not all that was heard exactly where an action has one of the names
pub took : (p : Prog) (acts : List Act) (w : Watcher) → HasHeard p acts w → refused_by p acts ≡ None
    → not ((watching_of w).others == (watching_of w).heard) ≡ has_named (names_of p.members) acts
took p acts w h none =
    let f : Act → Bool = λ a. contains (names_of p.members) a.name in
    let c = counts_of (names_of p.members) (tabled p) (names_apart p.members) acts (start_states p) in
    let all : (heard_by p acts).heard ≡ length acts = c.whole none in
    let others : (watching_of w).others ≡ count_by (λ a. not (f a)) acts =
    ap (λ (x : Watching (List Val)). x.others) h.kept ∙ c.others ∙ ap (count_by (λ a. not (f a))) (ap (λ (n : ℕ). take n acts) all ∙ take_all (length acts) acts (omega arith)) in
    let heard : (watching_of w).heard ≡ length acts = ap (λ (x : Watching (List Val)). x.heard) h.kept ∙ all in
    go f (list_any f acts) refl others heard
  where
    go : (f : Act → Bool) (b : Bool) → list_any f acts ≡ b → (watching_of w).others ≡ count_by (λ a. not (f a)) acts → (watching_of w).heard ≡ length acts
        → not ((watching_of w).others == (watching_of w).heard) ≡ b
    go f true e others heard =
        let less = named_count f acts e in ap not (test_is _ _ false (λ k. absurd (false≢true k)) (λ k same. omega (arith, less, others, heard, same)))
    go f false e others heard =
        let all = unnamed_count f acts e in ap not (test_is _ _ true (λ k. omega (arith, all, others, heard)) (λ k. absurd (false≢true (sym k))))

-- ---- the answer

-- of a refusal it does not matter whether something was taken
on_refusal : (b c : Bool) (o : Option Ending) → (o ≡ None → b ≡ c) → answer_on b o ≡ answer_on c o
on_refusal b c None same = ap (λ t. answer_on t None) (same refl)
on_refusal b c (Some (done n)) same = refl
on_refusal b c (Some (not_an_action_at i)) same = refl
on_refusal b c (Some (not_enabled_at i)) same = refl
on_refusal b c (Some (fault_at k f i)) same = refl

pub answered : (p : Prog) (acts : List Act) (w : Watcher) (b : Bool) (v : Verdict) → HasHeard p acts w → (refused_by p acts ≡ None → b ≡ has_named (names_of p.members) acts)
    → strict_of v ≡ answer_on b (option_map ending_of w.refusal) → strict_of v ≡ table_verdict p acts
answered p acts w b v h took_is is =
    is ∙ ap (answer_on b) (refusal_is p acts w h) ∙ on_refusal b (has_named (names_of p.members) acts) (refused_by p acts) took_is

-- the subject answers as the program's table
pub answer_as : (s : Subject) (p : Prog) (acts : List Act) → RunsAs p s → table_verdict p acts ≡ strict_answer s p acts
answer_as s p acts runs = ap (answer_on (has_named (names_of p.members) acts)) (sym (hears_as_program p s acts runs).refusal)

-- ---- of a log

pub always : {A : Type 0} (o : Option A) → IfSome o (λ _. Unit {0})
always None = tt
always (Some x) = tt

-- why a log is not read
pub unread : (types : Table) (bytes : Option (List ℕ)) (x : LogErr) {T : Type 0} → IsTextErr x
    → ((n : ℕ) → IsErrOf {T = T} (Err x) (LogErr.NotJson n) → IfSome bytes (λ xs. NotJsonAt types xs n))
    → ((n : ℕ) → IsErrOf {T = T} (Err x) (LogErr.BadEntry n) → IfSome bytes (λ xs. NoEntryAt types xs n))
    → (IsErrOf {T = T} (Err x) LogErr.AfterEnd → IfSome bytes (λ xs. (n : ℕ) × GoesOnAt types xs n))
    → (IsErrOf {T = T} (Err x) LogErr.NoEnd → IfSome bytes (HasNoEnd types))
    → IfSome bytes (λ xs. IsNoText types xs x)
unread types bytes (LogErr.NotJson n) only not_json bad after no_end = not_json n refl
unread types bytes (LogErr.BadEntry n) only not_json bad after no_end = bad n refl
unread types bytes LogErr.NoEnd only not_json bad after no_end = no_end refl
unread types bytes LogErr.AfterEnd only not_json bad after no_end = after refl
unread types bytes LogErr.Io only not_json bad after no_end = always bytes
unread types bytes LogErr.OutOfMemory only not_json bad after no_end = always bytes
unread types bytes (LogErr.WrongOwner n) only not_json bad after no_end = absurd only
unread types bytes (LogErr.Diverges n) only not_json bad after no_end = absurd only

-- what the table answers the subject does
pub monitors : (json : Bool) (s : Subject) (p : Prog) (bytes : List ℕ) (answer : StrictAnswer) (before after : Option (List ℕ)) → RunsAs p s → IsOpen s → AnswersStrictly p bytes answer
    → Appends before after (strict_line json answer) → MonitorsStrictly json s bytes answer before after
monitors json s p bytes answer before after runs seen k written = record {
  program = p;
  runs = runs;
  seen = seen;
  log = k.0;
  reads = subst (λ ts. ReadsLog ts bytes k.0) (does_as p s runs).types k.1;
  answer_is = k.2 ∙ answer_as s p (performed_in k.0) runs;
  written = written;
}

pub begins : (json : Bool) (s : Subject) (p : Prog) (bytes : List ℕ) (answer : StrictAnswer) (before after : Option (List ℕ)) → RunsAs p s → IsOpen s → AnswersStrictly p bytes answer
    → (n : ℕ) × Appends before after (take n (strict_line json answer)) → BeginsStrict json s bytes before after
begins json s p bytes answer before after runs seen k begun =
    let told : answer ≡ strict_answer s p (performed_in k.0) = k.2 ∙ answer_as s p (performed_in k.0) runs in
    (p, runs, seen, (k.0, subst (λ ts. ReadsLog ts bytes k.0) (does_as p s runs).types k.1, subst (λ (a : StrictAnswer). (n : ℕ) × Appends before after (take n (strict_line json a))) told begun))

-- ---- beside a monitor that passes actions over

-- it never answers that an action is none
never_none : {S : Type 0} (n : ℕ) (ps : List (Component S)) (acts : List Act) (ss : List S) (i : ℕ) → monitored_from n ps acts ss ≡ Some (not_an_action_at i) → ⊥
never_none n ps [] ss i e = cc
never_none {S} n ps (a ∷ acts) ss i e = go (list_any (has a) ps) refl e (λ ts. never_none (n + 1) ps acts ts i)
  where
    by_step : (m : Moved S) → is_action m ≡ true → after_action n m (λ ts. monitored_from (n + 1) ps acts ts) ≡ Some (not_an_action_at i)
        → ((ts : List S) → monitored_from (n + 1) ps acts ts ≡ Some (not_an_action_at i) → ⊥) → ⊥
    by_step (next ts) t e more = more ts e
    by_step not_an_action t e more = false≢true t
    by_step not_enabled t e more = cc
    by_step (fault c f) t e more = cc

    go : (b : Bool) → list_any (has a) ps ≡ b
        → (if b then after_action n (step ps a ss) (λ ts. monitored_from (n + 1) ps acts ts) else monitored_from (n + 1) ps acts ss) ≡ Some (not_an_action_at i)
        → ((ts : List S) → monitored_from (n + 1) ps acts ts ≡ Some (not_an_action_at i) → ⊥) → ⊥
    go true k e more = by_step (step ps a ss) (step_acts ps a ss ∙ k) e more
    go false k e more = more ss e

plain : (o : Option Ending) → ((i : ℕ) → o ≡ Some (not_an_action_at i) → ⊥) → answer_on true o ≡ plainly o
plain None h = refl
plain (Some (done n)) h = refl
plain (Some (not_an_action_at i)) h = absurd (h i refl)
plain (Some (not_enabled_at i)) h = refl
plain (Some (fault_at c f i)) h = refl

pub agrees_with_monitor : (p : Prog) (acts : List Act) → AgreesWithMonitor p acts
agrees_with_monitor p acts = λ own named.
    ap (λ b. answer_on b (refused_by p acts)) named ∙ ap (answer_on true) (refuses_as_monitor p acts own)
    ∙ plain (monitored (tabled p) acts (start_states p)) (λ i. never_none 0 (tabled p) acts (start_states p) i)
