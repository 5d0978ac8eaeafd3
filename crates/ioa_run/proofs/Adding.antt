-- What the tallies of a run that has ended add up to.
use Rattle.std.proofs.Common.{◌≡◌, ◌∙◌, ◌+◌, ◌==◌, ◌<◌, ◌≤◌, ℕ, zero, suc, All, Bool, true, false, not, ◌&&◌, ◌||◌, cond, List, [], ◌∷◌, length, find, map, Option, None, Some, refl, sym, ap, ap₂, subst, arith}
use Rattle.std.specs.Prelude.{◌≢◌, IfOk, Err, Ok, Result, slice_get, unwrap_or}
use Rattle.std.specs.List.{sum_by}
use Rattle.std.specs.Option.{option_map}
use Rattle.std.specs.Str.{bytes_eq}
use Rattle.std.proofs.lemmas.Bool.{and_from, and_parts, eqb-true, or_left, or_parts, or_right}
use Rattle.std.proofs.lemmas.List.{length-map}
use Rattle.std.proofs.lemmas.List.Elements.{All-drop, All-head, All-tail}
use Rattle.std.proofs.lemmas.List.Sums.{sum_by-cons}
use Rattle.std.proofs.lemmas.Option.{slice_get_within}
use mathlib.Core.Path.{fun_ext}
use Rattle.ioa_value.specs.Actions.{Act, Name}
use Rattle.ioa_value.specs.Positions.{all_take}
use Rattle.ioa_value.specs.Table.{Table, contains, distinct}
use Rattle.ioa_value.proofs.ItemLemmas.{get_map}
use Rattle.ioa_value.proofs.NameLemmas.{bytes_eq-sym, same_name}
use Rattle.ioa_tree.specs.Components.{Component, is_local, owns}
use Rattle.ioa_tree.specs.Runs.{Ending}
use Rattle.ioa_tree.specs.Steps.{owner, owner_from}
use Rattle.ioa_compile.specs.Programs.{EntryCode, MemberCode, Prog}
use Rattle.ioa_compile.specs.Sites.{code_name}
use Rattle.ioa_compile.specs.Tables.{AreMembers, IsMember, is_in, start_states, table_component, tabled}
use Rattle.ioa_system.specs.Logs.{log_end, worker}
use Rattle.ioa_board.specs.declared.outcome.Outcome.{Outcome}
use Rattle.ioa_board.specs.declared.report.Report.{Report}
use Rattle.ioa_board.specs.declared.report.Why.{Why}
use Rattle.ioa_run.specs.declared.tally.Tally.{Tally}
use Rattle.ioa_run.specs.declared.tally.Tries.{Tries}
use Rattle.ioa_run.specs.Alone.{IsOutcomeFrom, most_turns}
use Rattle.ioa_board.specs.Histories.{count, since}
use Rattle.ioa_board.specs.Outcomes.{HasEnded, HaveEnded, IsReason}
use Rattle.ioa_run.specs.Proposers.{local_entries}
use Rattle.ioa_board.specs.Reports.{counted}
use Rattle.ioa_run.specs.TalliedRuns.{IsTallied}
use Rattle.ioa_run.specs.Tallies.{AddsUp, AreAgreeing, capped, idle_in, own_names, performed_in, performed_named, stale_in, tally_of}
use Rattle.ioa_run.proofs.Counting.{got_all}
use Rattle.ioa_board.proofs.Performing.{legal_workers}

-- ---- what a report counts

-- who has ended has no more turns than were given
few_counted : (turns : ℕ) (end : Ending) (r : Report) → HasEnded turns end r → counted r ≤ turns
few_counted turns end r e = go r.why e
  where
    go : (y : Why) → IsReason turns end (counted r) y → counted r ≤ turns
    go Why.TurnsDone h = omega (arith, h)
    go Why.Faulted h = let less = h.0 in omega (arith, less)
    go Why.Stopped h = let less = h.0 in omega (arith, less)
    go Why.Memory h = omega (arith, h)

-- a number that a report can count is what it counts
uncapped : (n r : ℕ) → capped n ≡ r → r ≤ most_turns → n ≡ r
uncapped n r e few = omega (arith, e, few)

-- ---- sums

abbrev one_if : Bool → ℕ
one_if b = cond b 1 0

sum_of_none : {X : Type 0} (xs : List X) → sum_by (λ (x : X). 0) xs ≡ 0
sum_of_none [] = refl
sum_of_none {X} (x ∷ xs) =
    let none = sum_of_none xs in
    let more : 0 + sum_by (λ (y : X). 0) xs ≡ 0 = omega (arith, none) in
    sum_by-cons (λ (y : X). 0) x xs ∙ more

four : (a b c d : ℕ) → (a + b) + (c + d) ≡ (a + c) + (b + d)
four a b c d = omega arith

sum_of_both : {X : Type 0} (f g : X → ℕ) (xs : List X) → sum_by (λ x. f x + g x) xs ≡ sum_by f xs + sum_by g xs
sum_of_both f g [] = refl
sum_of_both f g (x ∷ xs) =
    sum_by-cons (λ y. f y + g y) x xs ∙ ap (λ n. (f x + g x) + n) (sum_of_both f g xs) ∙ four (f x) (g x) (sum_by f xs) (sum_by g xs)
    ∙ ap₂ (λ (a b : ℕ). a + b) (sym (sum_by-cons f x xs)) (sym (sum_by-cons g x xs))

-- ---- a name among names that differ

is_none : (b : Bool) → not b ≡ true → b ≡ false
is_none true e = absurd (cc)
is_none false e = refl

none_named : (x : Name) (xs : List Name) → contains xs x ≡ false → sum_by (λ y. one_if (bytes_eq x y)) xs ≡ 0
none_named x [] e = refl
none_named x (n ∷ ns) e =
    let parts = or_parts (bytes_eq n x) (contains ns x) e in
    sum_by-cons (λ y. one_if (bytes_eq x y)) n ns ∙ ap₂ (λ (a b : ℕ). a + b) (ap one_if (bytes_eq-sym x n ∙ parts.0)) (none_named x ns parts.1)

once_named : (x : Name) (xs : List Name) → distinct xs ≡ true → contains xs x ≡ true → sum_by (λ y. one_if (bytes_eq x y)) xs ≡ 1
once_named x [] d h = absurd (cc)
once_named x (n ∷ ns) d h =
    let parts = and_parts (not (contains ns n)) (distinct ns) d in
    sum_by-cons (λ y. one_if (bytes_eq x y)) n ns ∙ go (bytes_eq n x) refl h parts.0 (once_named x ns parts.1)
  where
    go : (b : Bool) → bytes_eq n x ≡ b → (b || contains ns x) ≡ true → not (contains ns n) ≡ true → (contains ns x ≡ true → sum_by (λ y. one_if (bytes_eq x y)) ns ≡ 1)
        → one_if (bytes_eq x n) + sum_by (λ y. one_if (bytes_eq x y)) ns ≡ 1
    go true e k fresh later =
        ap₂ (λ (a b : ℕ). a + b) (ap one_if (bytes_eq-sym x n ∙ e))
        (none_named x ns (subst (λ z. contains ns z ≡ false) (same_name n x e) (is_none (contains ns n) fresh)))
    go false e k fresh later = ap₂ (λ (a b : ℕ). a + b) (ap one_if (bytes_eq-sym x n ∙ e)) (later k)

-- ---- a component's own entries

-- names that are none of all are none of these
own_apart : (es : List EntryCode) (x : Name) → contains (map code_name es) x ≡ false → contains (map code_name (local_entries es)) x ≡ false
own_apart [] x h = refl
own_apart (e ∷ es) x h =
    let parts = or_parts (bytes_eq e.name x) (contains (map code_name es) x) h in
    go (is_local (Some e.kind)) parts.0 (own_apart es x parts.1)
  where
    go : (b : Bool) → bytes_eq e.name x ≡ false → contains (map code_name (local_entries es)) x ≡ false → contains (map code_name (cond b (e ∷ local_entries es) (local_entries es))) x ≡ false
    go true other later = ap₂ (λ (a b : Bool). a || b) other later
    go false other later = later

own_distinct : (es : List EntryCode) → distinct (map code_name es) ≡ true → distinct (map code_name (local_entries es)) ≡ true
own_distinct [] d = refl
own_distinct (e ∷ es) d =
    let parts = and_parts (not (contains (map code_name es) e.name)) (distinct (map code_name es)) d in
    go (is_local (Some e.kind)) parts.0 (own_distinct es parts.1)
  where
    go : (b : Bool) → not (contains (map code_name es) e.name) ≡ true → distinct (map code_name (local_entries es)) ≡ true → distinct (map code_name (cond b (e ∷ local_entries es) (local_entries es))) ≡ true
    go true fresh later =
        and_from (not (contains (map code_name (local_entries es)) e.name)) (distinct (map code_name (local_entries es)))
        (ap not (own_apart es e.name (is_none (contains (map code_name es) e.name) fresh))) later
    go false fresh later = later

-- an action that is the component's own has the name of an entry that is
found_named : (types : Table) (a : Act) (es : List EntryCode) → is_local (option_map (λ (e : EntryCode). e.kind) (find (is_in types a) es)) ≡ true
    → contains (map code_name (local_entries es)) a.name ≡ true
found_named types a [] h = absurd (cc)
found_named types a (e ∷ es) h = go (is_in types a e) refl h (found_named types a es)
  where
    behind : (b : Bool) → contains (map code_name (local_entries es)) a.name ≡ true → contains (map code_name (cond b (e ∷ local_entries es) (local_entries es))) a.name ≡ true
    behind true k = or_right (bytes_eq e.name a.name) (contains (map code_name (local_entries es)) a.name) k
    behind false k = k

    go : (b : Bool) → is_in types a e ≡ b → is_local (option_map (λ (x : EntryCode). x.kind) (cond b (Some e) (find (is_in types a) es))) ≡ true
        → (is_local (option_map (λ (x : EntryCode). x.kind) (find (is_in types a) es)) ≡ true → contains (map code_name (local_entries es)) a.name ≡ true)
        → contains (map code_name (local_entries (e ∷ es))) a.name ≡ true
    go true i l later =
        subst (λ (b : Bool). contains (map code_name (cond b (e ∷ local_entries es) (local_entries es))) a.name ≡ true) (sym l)
        (or_left (bytes_eq e.name a.name) (contains (map code_name (local_entries es)) a.name) (and_parts (bytes_eq e.name a.name) (all_take types e.positions a.vals) i).0)
    go false i l later = behind (is_local (Some e.kind)) (later l)

-- ---- who performs an action

owner_past : {S : Type 0} (i v : ℕ) (ps : List (Component S)) (a : Act) → owner_from i ps a ≡ Some v → i ≤ v
owner_past i v [] a e = absurd (cc)
owner_past i v (p ∷ ps) a e = go (owns a p) e (owner_past (i + 1) v ps a)
  where
    go : (b : Bool) → cond b (Some i) (owner_from (i + 1) ps a) ≡ Some v → (owner_from (i + 1) ps a ≡ Some v → i + 1 ≤ v) → i ≤ v
    go true h later = let same : i ≡ v = cc in omega (arith, same)
    go false h later = let more : i + 1 ≤ v = later h in omega (arith, more)

owned_at : (i k : ℕ) (ms : List MemberCode) (a : Act) (m : MemberCode) → owner_from i (map table_component ms) a ≡ Some (i + k) → slice_get ms k ≡ Some m
    → owns a (table_component m) ≡ true
owned_at i k [] a m e here = absurd (cc)
owned_at i zero (n ∷ ns) a m e here = go (owns a (table_component n)) refl e
  where
    same : n ≡ m
    same = let h : Some n ≡ Some m = here in cc

    go : (b : Bool) → owns a (table_component n) ≡ b → cond b (Some i) (owner_from (i + 1) (map table_component ns) a) ≡ Some (i + 0) → owns a (table_component m) ≡ true
    go true o h = ap (λ (x : MemberCode). owns a (table_component x)) (sym same) ∙ o
    go false o h = let past : i + 1 ≤ i + 0 = owner_past (i + 1) (i + 0) (map table_component ns) a h in absurd (omega (arith, past))
owned_at i (suc k) (n ∷ ns) a m e here = go (owns a (table_component n)) e (λ h. owned_at (i + 1) k ns a m h here)
  where
    go : (b : Bool) → cond b (Some i) (owner_from (i + 1) (map table_component ns) a) ≡ Some (i + suc k)
        → (owner_from (i + 1) (map table_component ns) a ≡ Some (i + 1 + k) → owns a (table_component m) ≡ true) → owns a (table_component m) ≡ true
    go true h later = let other : i ≡ i + suc k = cc in absurd (omega (arith, other))
    go false h later =
        let place : i + suc k ≡ i + 1 + k = omega arith in
        later (h ∙ ap (λ (j : ℕ). Some j) place)

-- what a component's worker performs has the name of one of its own entries
performs_own : (p : Prog) (w : ℕ) (m : MemberCode) (a : Act) → slice_get p.members w ≡ Some m → worker (tabled p) a ≡ w → contains (own_names m) a.name ≡ true
performs_own p w m a here own = go (owner (tabled p) a) refl own
  where
    go : (o : Option ℕ) → owner (tabled p) a ≡ o → unwrap_or o (length (tabled p)) ≡ w → contains (own_names m) a.name ≡ true
    go None e n =
        let within : w < length p.members = slice_get_within p.members w m here in
        let many : length (tabled p) ≡ length p.members = length-map p.members table_component in
        absurd (omega (arith, within, many, n))
    go (Some v) e n =
        let first : w ≡ 0 + w = omega arith in
        let owner : owner_from 0 (map table_component p.members) a ≡ Some (0 + w) = e ∙ ap (λ (k : ℕ). Some k) (n ∙ first) in
        found_named m.start.table a m.entries (owned_at 0 w p.members a m owner here)

-- ---- what a history tells

performed_cons : (e : ℕ × Act) (h : List (ℕ × Act)) (w : ℕ) (xs : List Name)
    → performed_in (e ∷ h) w xs ≡ sum_by (λ x. one_if ((e.0 == w) && bytes_eq (e.1).name x)) xs + performed_in h w xs
performed_cons e h w xs =
    ap (λ (f : Name → ℕ). sum_by f xs) (fun_ext (λ x. sum_by-cons (λ (d : ℕ × Act). one_if ((d.0 == w) && bytes_eq (d.1).name x)) e h))
    ∙ sum_of_both (λ x. one_if ((e.0 == w) && bytes_eq (e.1).name x)) (performed_named h w) xs

-- what is counted by names that differ, of which each action of the worker has one, is all that it performed
counted_by_names : {S : Type 0} (ps : List (Component S)) (h : List (ℕ × Act)) (w : ℕ) (xs : List Name) → distinct xs ≡ true
    → ((a : Act) → worker ps a ≡ w → contains xs a.name ≡ true) → All (λ e. e.0 ≡ worker ps e.1) h → performed_in h w xs ≡ count h w
counted_by_names ps [] w xs d named own = sum_of_none xs
counted_by_names ps (e ∷ h) w xs d named own =
    performed_cons e h w xs ∙ ap₂ (λ (a b : ℕ). a + b) (first (e.0 == w) refl) (counted_by_names ps h w xs d named (All-tail (λ (d : ℕ × Act). d.0 ≡ worker ps d.1) e h own))
    ∙ sym (sum_by-cons (λ (d : ℕ × Act). one_if (d.0 == w)) e h)
  where
    its : e.0 ≡ worker ps e.1
    its = All-head (λ (d : ℕ × Act). d.0 ≡ worker ps d.1) e h own

    first : (b : Bool) → (e.0 == w) ≡ b → sum_by (λ x. one_if (b && bytes_eq (e.1).name x)) xs ≡ one_if b
    first true s = once_named (e.1).name xs d (named e.1 (sym its ∙ eqb-true e.0 w s))
    first false s = sum_of_none xs

-- ---- all components

member_is : (types : Table) (ms : List MemberCode) (w : ℕ) (m : MemberCode) → AreMembers types ms → slice_get ms w ≡ Some m → IsMember types m
member_is types [] w m a e = absurd (cc)
member_is types (n ∷ ns) zero m a e = let same : n ≡ m = cc in subst (IsMember types) same a.0
member_is types (n ∷ ns) (suc w) m a e = member_is types ns w m a.1 e

-- tallies that agree with the reports of a run that has ended add up to them
pub adding_up : (p : Prog) (before : List (ℕ × Act)) (inputs : List Act) (turns : ℕ) (o : Outcome) (ts : List Tally) → AreMembers p.types p.members
    → IsOutcomeFrom p before inputs turns o → HaveEnded turns (log_end o.end) o.reports.items → turns ≤ most_turns → AreAgreeing p.members o.reports.items (map tally_of ts)
    → IsTallied p before o ts
adding_up p before inputs turns o ts members outcome ended few agreeing = (
  outcome.0,
  outcome.1,
  outcome.2,
  record {
    components = agreeing.components ∙ sym (length-map p.members own_names);
    each = λ w xs r t names report tally. adds w xs r t names report tally;
  },
)
  where
    adds : (w : ℕ) (xs : List Name) (r : Report) (t : List Tries) → slice_get (map own_names p.members) w ≡ Some xs → slice_get o.reports.items w ≡ Some r
        → slice_get (map tally_of ts) w ≡ Some t → AddsUp (since before (outcome.0).history) w xs r t
    adds w xs r t names report tally =
        let m = get_map own_names p.members w xs names in
        let all : counted r ≤ turns = few_counted turns (log_end o.end) r (got_all (HasEnded turns (log_end o.end)) o.reports.items w r ended report) in
        let long : length t ≡ length (own_names m.0) = agreeing.entries w m.0 t m.1 tally ∙ sym (length-map (local_entries (m.0).entries) code_name) in
        let sums = λ (some : length (own_names m.0) ≢ 0). agreeing.sums w r t report tally (λ none. some (sym long ∙ none)) in
        subst (λ (ys : List Name). AddsUp (since before (outcome.0).history) w ys r t) m.2 (record {
          entries = long;
          committed =
              counted_by_names (tabled p) (since before (outcome.0).history) w (own_names m.0) (own_distinct (m.0).entries ((member_is p.types p.members w m.0 members m.1).names))
              (λ a own. performs_own p w m.0 a m.1 own)
              (All-drop (λ (e : ℕ × Act). e.0 ≡ worker (tabled p) e.1) (length before) (outcome.0).history
              (legal_workers (tabled p) (outcome.0).history (start_states p) (outcome.0).states (outcome.1).sound.legal))
              ∙ sym ((outcome.3).committed w r report);
          idle = λ some. uncapped (sum_by idle_in t) r.idle (sums some).idle (omega (arith, all, few));
          stale = λ some. uncapped (sum_by stale_in t) r.stale (sums some).stale (omega (arith, all, few));
        })

-- two facts of what a call gives, if it gives it
pub both_ok : {T E : Type 0} (r : Result T E) (P Q R : T → Type 0) → ((x : T) → P x → Q x → R x) → IfOk r P → IfOk r Q → IfOk r R
both_ok (Ok x) P Q R f p q = f x p q
both_ok (Err e) P Q R f p q = tt
