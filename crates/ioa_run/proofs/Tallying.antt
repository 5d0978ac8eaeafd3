-- Tallies that follow reports agree with them.
use Rattle.std.proofs.Common.{◌≡◌, ◌∙◌, ◌+◌, ◌-◌, ◌^◌, ◌%◌, ◌<◌, ◌≤◌, ◌⊎◌, inl, inr, ℕ, zero, suc, Bool, true, false, cond, List, [], ◌∷◌, length, map, replicate, Option, None, Some, refl, sym, ap, ap₂, subst, arith}
use Rattle.std.specs.Prelude.{◌≢◌, Vec, nat_lt, slice_get, slice_set, unwrap_or}
use Rattle.std.specs.Global.{Global}
use Rattle.std.specs.List.{sum_by}
use Rattle.std.specs.Option.{option_map}
use Rattle.std.proofs.lemmas.Bool.Decides.{eqb_tells, nat_tests}
use Rattle.std.proofs.lemmas.List.Sums.{sum_by-cons}
use Rattle.std.proofs.lemmas.List.{length-map, length-replicate}
use Rattle.std.proofs.lemmas.Nat.{mod_below}
use Rattle.std.proofs.lemmas.Option.{same_Some}
use Rattle.ioa_value.proofs.ItemLemmas.{get_map}
use Rattle.ioa_value.specs.Actions.{Act}
use Rattle.ioa_compile.specs.Programs.{MemberCode, Prog}
use Rattle.ioa_compile.specs.Tables.{tabled}
use Rattle.ioa_board.specs.declared.answer.Answer.{Answer}
use Rattle.ioa_board.specs.declared.report.Report.{Report}
use Rattle.ioa_board.specs.declared.report.Why.{Why}
use Rattle.ioa_run.specs.declared.tally.Lost.{Lost}
use Rattle.ioa_run.specs.declared.tally.Pick.{Pick}
use Rattle.ioa_run.specs.declared.tally.Tally.{Tally}
use Rattle.ioa_run.specs.declared.tally.Tries.{Tries}
use Rattle.ioa_run.specs.declared.turn.TurnEnd.{TurnEnd}
use Rattle.ioa_board.specs.declared.verdict.Verdict.{Verdict}
use Rattle.ioa_board.specs.Reports.{told_in, Changes, blank, judged, left, one_more, with_idle}
use Rattle.ioa_run.specs.Going.{dismissed}
use Rattle.ioa_run.specs.Proposers.{local_entries}
use Rattle.ioa_run.specs.Tallies.{AreAgreeing, AreTallied, Sums, capped, followed, idle_in, no_tries, report_at, stale_in, tallied, tally_of, with_lost, with_stale}
use Rattle.ioa_run.specs.Tallies as tallies
use Rattle.ioa_board.specs.ProgramPlans.{ProgramPlan}
use Rattle.ioa_board.specs.ProgramRooms.{ChangesReport, HasInputsLeft, ProgramRoom, environment, place}
use Rattle.ioa_board.specs.RoomCommits.{RoomCommit}
use Rattle.ioa_run.specs.Rounds.{Dismisses}
use Rattle.ioa_run.specs.Turning.{Acts}
use Rattle.ioa_board.specs.Boards.{attempt}
use Rattle.ioa_run.specs.Turns.{changed}
use Rattle.ioa_run.proofs.Turned.{At, at_changed, changed_alike, changed_set, here, length_changed, there}

-- ---- numbers

-- one more, or past what a report counts before and after
data Rises (a b : ℕ) : Type 0 where
  once : b ≡ a + 1 → Rises a b
  full : 2 ^ 64 - 1 ≤ a → 2 ^ 64 - 1 ≤ b → Rises a b

below : (a b : ℕ) → nat_lt a b ≡ true → a < b
below a b e = grind (arith, nat_tests)

above : (a b : ℕ) → nat_lt a b ≡ false → b ≤ a
above a b e = grind (arith, nat_tests)

not_below : (a b : ℕ) → b ≡ a → nat_lt a b ≡ false
not_below a b e = grind (arith, nat_tests, e)

rises : (c rest a b : ℕ) → a ≡ c + rest → b ≡ one_more c + rest → Rises a b
rises c rest a b e f = go (nat_lt c (2 ^ 64 - 1)) refl
  where
    go : (t : Bool) → nat_lt c (2 ^ 64 - 1) ≡ t → Rises a b
    go true h = let less = below c (2 ^ 64 - 1) h in once (omega (arith, e, f, less))
    go false h = let past = above c (2 ^ 64 - 1) h in full (omega (arith, e, past)) (omega (arith, f, past))

rises_behind : (a b n : ℕ) → Rises a b → Rises (n + a) (n + b)
rises_behind a b n (once e) = once (omega (arith, e))
rises_behind a b n (full p q) = full (omega (arith, p)) (omega (arith, q))

rises_before : (a b n : ℕ) → Rises a b → Rises (a + n) (b + n)
rises_before a b n (once e) = once (omega (arith, e))
rises_before a b n (full p q) = full (omega (arith, p)) (omega (arith, q))

rises_capped : (a b : ℕ) → Rises a b → capped b ≡ one_more (capped a)
rises_capped a b (once e) = omega (arith, e)
rises_capped a b (full p q) = omega (arith, p, q)

-- a number that has no more above it is the greatest one
at_most : (n a b : ℕ) → capped n ≡ a → b ≡ one_more a → b ≤ a → b ≡ a
at_most n a b e f less = omega (arith, e, f, less)

positive : (n : ℕ) → n ≢ 0 → 0 < n
positive zero h = absurd (h refl)
positive (suc n) h = omega arith

-- ---- one entry

lost_rises : (l : Lost) (t : Tries) → Rises (idle_in t) (idle_in (with_lost l t))
lost_rises Lost.NoProposal t = rises t.no_proposal (t.proposal_faulted + t.not_enabled) (idle_in t) (idle_in (with_lost Lost.NoProposal t)) (omega arith) (omega arith)
lost_rises Lost.ProposalFaulted t = rises t.proposal_faulted (t.no_proposal + t.not_enabled) (idle_in t) (idle_in (with_lost Lost.ProposalFaulted t)) (omega arith) (omega arith)
lost_rises Lost.NotEnabled t = rises t.not_enabled (t.no_proposal + t.proposal_faulted) (idle_in t) (idle_in (with_lost Lost.NotEnabled t)) (omega arith) (omega arith)

stale_stays : (l : Lost) (t : Tries) → stale_in (with_lost l t) ≡ stale_in t
stale_stays Lost.NoProposal t = refl
stale_stays Lost.ProposalFaulted t = refl
stale_stays Lost.NotEnabled t = refl

stale_rises : (t : Tries) → Rises (stale_in t) (stale_in (with_stale t))
stale_rises t = rises t.stale 0 (stale_in t) (stale_in (with_stale t)) (omega arith) (omega arith)

-- ---- an entry of several

module _ (g : Tries → ℕ) (f : Tries → Tries) where
  sum_rises : ((t : Tries) → Rises (g t) (g (f t))) → (w : ℕ) (ts : List Tries) → w < length ts → Rises (sum_by g ts) (sum_by g (changed f w ts))
  sum_rises one w [] less = absurd (omega (arith, less))
  sum_rises one zero (t ∷ ts) less =
      subst (λ n. Rises n (sum_by g (f t ∷ ts))) (sym (sum_by-cons g t ts)) (subst (λ n. Rises (g t + sum_by g ts) n) (sym (sum_by-cons g (f t) ts)) (rises_before (g t) (g (f t)) (sum_by g ts) (one t)))
  sum_rises one (suc w) (t ∷ ts) less =
      subst (λ n. Rises n (sum_by g (t ∷ changed f w ts))) (sym (sum_by-cons g t ts))
      (subst (λ n. Rises (g t + sum_by g ts) n) (sym (sum_by-cons g t (changed f w ts))) (rises_behind (sum_by g ts) (sum_by g (changed f w ts)) (g t) (sum_rises one w ts (omega (arith, less)))))

  sum_stays : ((t : Tries) → g (f t) ≡ g t) → (w : ℕ) (ts : List Tries) → sum_by g (changed f w ts) ≡ sum_by g ts
  sum_stays one w [] = refl
  sum_stays one zero (t ∷ ts) = sum_by-cons g (f t) ts ∙ ap (λ n. n + sum_by g ts) (one t) ∙ sym (sum_by-cons g t ts)
  sum_stays one (suc w) (t ∷ ts) = sum_by-cons g t (changed f w ts) ∙ ap (λ n. g t + n) (sum_stays one w ts) ∙ sym (sum_by-cons g t ts)

-- ---- an item of a list

-- one that is set to what it is changed to
pub set_changed : {X : Type 0} (f : X → X) (w : ℕ) (xs : List X) (x y : X) → slice_get xs w ≡ Some x → y ≡ f x → slice_set xs w y ≡ changed f w xs
set_changed f w xs x y at is = changed_set w xs y ∙ changed_alike (λ _. y) f w xs (λ z got. is ∙ ap f (same_Some x z (sym at ∙ got)))

-- the same of what is seen of it
pub set_seen : {X Y : Type 0} (see : X → Y) (f : Y → Y) (w : ℕ) (xs : List X) (x y : X) → slice_get xs w ≡ Some x → see y ≡ f (see x) → map see (slice_set xs w y) ≡ changed f w (map see xs)
set_seen see f w [] x y at is = refl
set_seen see f zero (z ∷ xs) x y at is = ap (λ u. u ∷ map see xs) (is ∙ ap (λ u. f (see u)) (sym (same_Some z x at)))
set_seen see f (suc w) (z ∷ xs) x y at is = ap (λ us. see z ∷ us) (set_seen see f w xs x y at is)

-- past the list's end there is none
pub none_changed : {X : Type 0} (f : X → X) (w : ℕ) (xs : List X) → length xs ≤ w → changed f w xs ≡ xs
none_changed f w [] past = refl
none_changed f zero (x ∷ xs) past = absurd (omega (arith, past))
none_changed f (suc w) (x ∷ xs) past = ap (λ ys. x ∷ ys) (none_changed f w xs (omega (arith, past)))

-- ---- a report behind another one

-- it has one more idle turn, or one more that is stale, or neither
data Moves (r r' : Report) : Type 0 where
  stays : r'.idle ≡ r.idle → r'.stale ≡ r.stale → Moves r r'
  idles : r'.idle ≡ one_more r.idle → r'.stale ≡ r.stale → Moves r r'
  stales : r'.stale ≡ one_more r.stale → r'.idle ≡ r.idle → Moves r r'

module _ (l : Lost) (r r' : Report) where
  same_entry : nat_lt r.idle r'.idle ≡ false → nat_lt r.stale r'.stale ≡ false → (t : Tries) → followed l r r' t ≡ t
  same_entry e f t =
      ap (λ (b : Bool). cond b (with_lost l t) (cond (nat_lt r.stale r'.stale) (with_stale t) t)) e ∙ ap (λ (b : Bool). cond b (with_stale t) t) f

  lost_entry : nat_lt r.idle r'.idle ≡ true → (t : Tries) → followed l r r' t ≡ with_lost l t
  lost_entry e t = ap (λ (b : Bool). cond b (with_lost l t) (cond (nat_lt r.stale r'.stale) (with_stale t) t)) e

  stale_entry : nat_lt r.idle r'.idle ≡ false → nat_lt r.stale r'.stale ≡ true → (t : Tries) → followed l r r' t ≡ with_stale t
  stale_entry e f t =
      ap (λ (b : Bool). cond b (with_lost l t) (cond (nat_lt r.stale r'.stale) (with_stale t) t)) e ∙ ap (λ (b : Bool). cond b (with_stale t) t) f

  module _ (n : ℕ) (ts : List Tries) (less : n < length ts) (s : Sums r ts) where
    same_sums : ((t : Tries) → followed l r r' t ≡ t) → r'.idle ≡ r.idle → r'.stale ≡ r.stale → Sums r' (changed (followed l r r') n ts)
    same_sums is e f = record {
      idle = ap capped (sum_stays idle_in (followed l r r') (λ t. ap idle_in (is t)) n ts) ∙ s.idle ∙ sym e;
      stale = ap capped (sum_stays stale_in (followed l r r') (λ t. ap stale_in (is t)) n ts) ∙ s.stale ∙ sym f;
    }

    lost_sums : ((t : Tries) → followed l r r' t ≡ with_lost l t) → r'.idle ≡ one_more r.idle → r'.stale ≡ r.stale → Sums r' (changed (followed l r r') n ts)
    lost_sums is e f = record {
      idle =
          rises_capped (sum_by idle_in ts) (sum_by idle_in (changed (followed l r r') n ts))
          (sum_rises idle_in (followed l r r') (λ t. subst (λ u. Rises (idle_in t) (idle_in u)) (sym (is t)) (lost_rises l t)) n ts less) ∙ ap one_more s.idle ∙ sym e;
      stale = ap capped (sum_stays stale_in (followed l r r') (λ t. ap stale_in (is t) ∙ stale_stays l t) n ts) ∙ s.stale ∙ sym f;
    }

    stale_sums : ((t : Tries) → followed l r r' t ≡ with_stale t) → r'.stale ≡ one_more r.stale → r'.idle ≡ r.idle → Sums r' (changed (followed l r r') n ts)
    stale_sums is e f = record {
      idle = ap capped (sum_stays idle_in (followed l r r') (λ t. ap idle_in (is t)) n ts) ∙ s.idle ∙ sym f;
      stale =
          rises_capped (sum_by stale_in ts) (sum_by stale_in (changed (followed l r r') n ts))
          (sum_rises stale_in (followed l r r') (λ t. subst (λ u. Rises (stale_in t) (stale_in u)) (sym (is t)) (stale_rises t)) n ts less) ∙ ap one_more s.stale ∙ sym e;
    }

    sums_followed : Moves r r' → Sums r' (changed (followed l r r') n ts)
    sums_followed (stays e f) = same_sums (same_entry (not_below r.idle r'.idle e) (not_below r.stale r'.stale f)) e f
    sums_followed (idles e f) = go (nat_lt r.idle r'.idle) refl
      where
        go : (b : Bool) → nat_lt r.idle r'.idle ≡ b → Sums r' (changed (followed l r r') n ts)
        go true h = lost_sums (lost_entry h) e f
        go false h = same_sums (same_entry h (not_below r.stale r'.stale f)) (at_most (sum_by idle_in ts) r.idle r'.idle s.idle e (above r.idle r'.idle h)) f
    sums_followed (stales e f) = go (nat_lt r.stale r'.stale) refl
      where
        go : (b : Bool) → nat_lt r.stale r'.stale ≡ b → Sums r' (changed (followed l r r') n ts)
        go true h = stale_sums (stale_entry (not_below r.idle r'.idle f) h) e f
        go false h = same_sums (same_entry (not_below r.idle r'.idle f) h) f (at_most (sum_by stale_in ts) r.stale r'.stale s.stale e (above r.stale r'.stale h))

sums_tallied : (k : Pick) (r r' : Report) (ts : List Tries) → length ts ≢ 0 → Sums r ts → Moves r r' → Sums r' (tallied k r r' ts)
sums_tallied k r r' ts some s moves = sums_followed k.lost r r' (k.word % length ts) ts (mod_below k.word (length ts) (positive (length ts) some)) s moves

-- ---- what a turn changes in a report

judged_moves : (v : Verdict) (r : Report) → Moves r (judged v r)
judged_moves Verdict.Stopped r = stays refl refl
judged_moves Verdict.Stale r = stales refl refl
judged_moves (Verdict.Faulted c f) r = stays refl refl
judged_moves (Verdict.Committed n) r = stays refl refl
judged_moves (Verdict.Memory q) r = stays refl refl

told_moves : (turns : ℕ) (x : Answer) (r : Report) → Moves r (told_in turns x r)
told_moves turns Answer.Stopped r = stays refl refl
told_moves turns (Answer.Committed n) r = stays refl refl
told_moves turns (Answer.Faulted c f) r = stays refl refl
told_moves turns Answer.NotAnAction r = idles refl refl
told_moves turns Answer.NotEnabled r = idles refl refl
told_moves turns Answer.NotYours r = idles refl refl
told_moves turns Answer.Planned r = idles refl refl
told_moves turns Answer.NoPlan r = idles refl refl
told_moves turns Answer.Stale r = stales refl refl

-- ---- all reports

-- the tallies behind a turn of the worker, between these two rooms
abbrev pub Follow : Pick → ℕ → ProgramRoom → ProgramRoom → List (List Tries) → List (List Tries) → Type 0
Follow k w r r' ts us = us ≡ changed (tallied k (report_at r.reports w) (report_at r'.reports w)) w ts

pub follow_from : (k : Pick) (w : ℕ) (r r' : ProgramRoom) (before : Report) (ts us : List (List Tries)) → us ≡ changed (tallied k before (report_at r'.reports w)) w ts
    → before ≡ report_at r.reports w → Follow k w r r' ts us
follow_from k w r r' before ts us is e = is ∙ ap (λ (b : Report). changed (tallied k b (report_at r'.reports w)) w ts) e

module _ (ms : List MemberCode) (rs rs' : List Report) (w : ℕ) (k : Pick) (f : Report → Report) (moves : (r : Report) → Moves r (f r)) (change : Changes f w rs rs') where
  abbrev behind : List Tries → List Tries
  behind t = tallied k (report_at rs w) (report_at rs' w) t

  behind_long : (t : List Tries) → length (behind t) ≡ length t
  behind_long t = length_changed (followed k.lost (report_at rs w) (report_at rs' w)) (k.word % length t) t

  -- the worker's own
  own_sums : (o : Option Report) (r : Report) (t : List Tries) → slice_get rs w ≡ o → slice_get rs' w ≡ Some r → length t ≢ 0 → ((q : Report) → o ≡ Some q → Sums q t) → Sums r (behind t)
  own_sums None r t e now some old = let q : None ≡ Some r = sym (change.own ∙ ap (option_map f) e) ∙ now in absurd (cc)
  own_sums (Some q) r t e now some old =
      let is : f q ≡ r = same_Some (f q) r (sym (change.own ∙ ap (option_map f) e) ∙ now) in
      subst (λ (o : Option Report). Sums r (tallied k (unwrap_or o blank) (report_at rs' w) t)) (sym e)
      (subst (λ (o : Option Report). Sums r (tallied k q (unwrap_or o blank) t)) (sym now) (sums_tallied k q r t some (old q refl) (subst (Moves q) is (moves q))))

  agreeing_changed : (ts : List (List Tries)) → AreAgreeing ms rs ts → AreAgreeing ms rs' (changed behind w ts)
  agreeing_changed ts a = record {
    components = length_changed behind w ts ∙ a.components;
    entries = λ v m t code tally. entries v m t code (at_changed behind w v ts t tally);
    sums = λ v r t report tally some. sums v r t report some (at_changed behind w v ts t tally);
  }
    where
      entries : (v : ℕ) (m : MemberCode) (t : List Tries) → slice_get ms v ≡ Some m → At behind w v ts t → length t ≡ length (local_entries m.entries)
      entries v m t code (here x e at is) = ap length is ∙ behind_long x ∙ a.entries w m x (ap (slice_get ms) (sym e) ∙ code) at
      entries v m t code (there other at) = a.entries v m t code at

      sums : (v : ℕ) (r : Report) (t : List Tries) → slice_get rs' v ≡ Some r → length t ≢ 0 → At behind w v ts t → Sums r t
      sums v r t report some (here x e at is) =
          let some_x : length x ≢ 0 = λ none. some (ap length is ∙ behind_long x ∙ none) in
          subst (Sums r) (sym is) (own_sums (slice_get rs w) r x refl (ap (slice_get rs') (sym e) ∙ report) some_x (λ q old. a.sums w q x old at some_x))
      sums v r t report some (there other at) = a.sums v r t (sym (change.others v other) ∙ report) at some

-- ---- rooms

-- a turn behind which the worker's report is changed so
agreeing_turned : (r r' : ProgramRoom) (w : ℕ) (k : Pick) (f : Report → Report) (ts us : List (List Tries)) → ((x : Report) → Moves x (f x)) → Changes f w r.reports r'.reports
    → r'.program ≡ r.program → Follow k w r r' ts us → AreTallied r ts → AreTallied r' us
agreeing_turned r r' w k f ts us moves change same is a =
    subst (λ (p : Prog). AreAgreeing p.members r'.reports us) (sym same)
    (subst (AreAgreeing r.program.members r'.reports) (sym is) (agreeing_changed r.program.members r.reports r'.reports w k f moves change ts a))

-- one behind which none is
no_change : (w : ℕ) (rs : List Report) → Changes (λ x. x) w rs rs
no_change w rs = record { own = same (slice_get rs w); others = λ v other. refl; count = refl }
  where
    same : (o : Option Report) → o ≡ option_map (λ x. x) o
    same None = refl
    same (Some x) = refl

agreeing_still : (r r' : ProgramRoom) (w : ℕ) (k : Pick) (ts us : List (List Tries)) → r' ≡ r → Follow k w r r' ts us → AreTallied r ts → AreTallied r' us
agreeing_still r r' w k ts us same is a =
    agreeing_turned r r' w k (λ x. x) ts us (λ x. stays refl refl) (subst (λ (x : ProgramRoom). Changes (λ y. y) w r.reports x.reports) (sym same) (no_change w r.reports))
    (ap (λ (x : ProgramRoom). x.program) same) is a

pub agreeing_acts : (r r' : ProgramRoom) (w : ℕ) (o : Option Act) (e : TurnEnd) (k : Pick) (ts us : List (List Tries)) → Acts r w o e r' → Follow k w r r' ts us → AreTallied r ts → AreTallied r' us
agreeing_acts r r' w None TurnEnd.GoesOn k ts us acts is a =
    agreeing_turned r r' w k with_idle ts us (λ x. idles refl refl) acts.report (ap (λ (x : ProgramRoom). x.program) acts.rest) is a
agreeing_acts r r' w None TurnEnd.IsLast k ts us acts is a = absurd acts
agreeing_acts r r' w None TurnEnd.NoMemory k ts us acts is a = absurd acts
agreeing_acts r r' w (Some x) TurnEnd.GoesOn k ts us acts is a =
    let answer = (attempt (tabled r.program) w x r.board).0 in
    agreeing_turned r r' w k (told_in r.turns answer) ts us (told_moves r.turns answer) acts.report (ap (λ (y : ProgramRoom). y.program) acts.rest) is a
agreeing_acts r r' w (Some x) TurnEnd.IsLast k ts us acts is a =
    let answer = (attempt (tabled r.program) w x r.board).0 in
    agreeing_turned r r' w k (told_in r.turns answer) ts us (told_moves r.turns answer) acts.report (ap (λ (y : ProgramRoom). y.program) acts.rest) is a
agreeing_acts r r' w (Some x) TurnEnd.NoMemory k ts us acts is a = agreeing_still r r' w k ts us acts is a

pub agreeing_committed : (r r' : ProgramRoom) (w : ℕ) (q : ProgramPlan) (v : Verdict) (k : Pick) (ts us : List (List Tries)) → w ≡ q.who → RoomCommit r q v r' → Follow k w r r' ts us → AreTallied r ts
    → AreTallied r' us
agreeing_committed r r' w q v k ts us own commit is a =
    agreeing_turned r r' w k (judged v) ts us (judged_moves v) (subst (λ (n : ℕ). Changes (judged v) n r.reports r'.reports) (sym own) commit.report)
    (ap (λ (x : ProgramRoom). x.program) commit.rest) is a

-- a turn without an action is idle, or none while the environment has inputs left
pub idle_either : (r r' : ProgramRoom) (w : ℕ) → (HasInputsLeft r w → r' ≡ r) → ((HasInputsLeft r w → ⊥) → ChangesReport with_idle w r r') → (r' ≡ r) ⊎ ChangesReport with_idle w r r'
idle_either r r' w waits idle =
    elim (eqb_tells w (environment r)) as (λ _. (r' ≡ r) ⊎ ChangesReport with_idle w r r') [
      | inl e ↦ by_place e.1 (nat_lt (place r) (length r.inputs)) refl
      | inr d ↦ inr (idle (λ h. d.1 h.0))
    ]
  where
    by_place : w ≡ environment r → (b : Bool) → nat_lt (place r) (length r.inputs) ≡ b → (r' ≡ r) ⊎ ChangesReport with_idle w r r'
    by_place e true l = inl (waits (e, below (place r) (length r.inputs) l))
    by_place e false l =
        let past : length r.inputs ≤ place r = above (place r) (length r.inputs) l in
        inr (idle (λ h. (let less : place r < length r.inputs = h.1 in omega (arith, less, past))))

pub agreeing_idle : (r r' : ProgramRoom) (w : ℕ) (k : Pick) (ts us : List (List Tries)) → (r' ≡ r) ⊎ ChangesReport with_idle w r r' → Follow k w r r' ts us → AreTallied r ts → AreTallied r' us
agreeing_idle r r' w k ts us (inl same) is a = agreeing_still r r' w k ts us same is a
agreeing_idle r r' w k ts us (inr change) is a = agreeing_turned r r' w k with_idle ts us (λ x. idles refl refl) change.report (ap (λ (x : ProgramRoom). x.program) change.rest) is a

-- but for its reports the room stays
pub idle_rest : (r r' : ProgramRoom) (w : ℕ) → (r' ≡ r) ⊎ ChangesReport with_idle w r r' → r' ≡ record r { reports = r'.reports }
idle_rest r r' w (inl same) = subst (λ (x : ProgramRoom). x ≡ record r { reports = x.reports }) (sym same) refl
idle_rest r r' w (inr change) = change.rest

-- a room and tallies that are the same
pub agreeing_same : (r r' : ProgramRoom) (ts ts' : Vec Tally Global) → r' ≡ r → ts' ≡ ts → AreTallied r (map tally_of ts.items) → AreTallied r' (map tally_of ts'.items)
agreeing_same r r' ts ts' e f a =
    subst (λ (xs : Vec Tally Global). AreTallied r' (map tally_of xs.items)) (sym f) (subst (λ (x : ProgramRoom). AreTallied x (map tally_of ts.items)) (sym e) a)

-- ---- workers that leave

-- a report behind which another one has the same idle and stale turns
record Keeps (rs : List Report) (v : ℕ) (x : Report) : Type 0 where
  report : Report
  found : slice_get rs v ≡ Some report
  idle : x.idle ≡ report.idle
  stale : x.stale ≡ report.stale

agreeing_kept : (r r' : ProgramRoom) (ts : List (List Tries)) → r'.program ≡ r.program → ((v : ℕ) (x : Report) → slice_get r'.reports v ≡ Some x → Keeps r.reports v x) → AreTallied r ts → AreTallied r' ts
agreeing_kept r r' ts program keeps a =
    subst (λ (p : Prog). AreAgreeing p.members r'.reports ts) (sym program) (record {
      components = a.components;
      entries = λ w m t code tally. a.entries w m t code tally;
      sums = λ w x t report tally some.
          let q = keeps w x report in
          let s = a.sums w q.report t q.found tally some in
          record { idle = s.idle ∙ sym q.idle; stale = s.stale ∙ sym q.stale };
    })

pub agreeing_left : (r r' : ProgramRoom) (w turns : ℕ) (y : Why) (ts : List (List Tries)) → ChangesReport (left turns y) w r r' → AreTallied r ts → AreTallied r' ts
agreeing_left r r' w turns y ts change a = agreeing_kept r r' ts (ap (λ (x : ProgramRoom). x.program) change.rest) keeps a
  where
    own : (o : Option Report) (x : Report) → slice_get r.reports w ≡ o → option_map (left turns y) o ≡ Some x → Keeps r.reports w x
    own None x e is = let q : None ≡ Some x = is in absurd (cc)
    own (Some q) x e is =
        let same : left turns y q ≡ x = same_Some (left turns y q) x is in
        record { report = q; found = e; idle = ap (λ (z : Report). z.idle) (sym same); stale = ap (λ (z : Report). z.stale) (sym same) }

    keeps : (v : ℕ) (x : Report) → slice_get r'.reports v ≡ Some x → Keeps r.reports v x
    keeps v x at =
        elim (eqb_tells v w) as (λ _. Keeps r.reports v x) [
          | inl p ↦ subst (λ (n : ℕ). Keeps r.reports n x) (sym p.1) (own (slice_get r.reports w) x refl (sym change.report.own ∙ subst (λ (n : ℕ). slice_get r'.reports n ≡ Some x) p.1 at))
          | inr p ↦ record { report = x; found = sym (change.report.others v p.1) ∙ at; idle = refl; stale = refl }
        ]

pub agreeing_dismissed : (r r' : ProgramRoom) (es : List Bool) (ts : List (List Tries)) → Dismisses r es r' → AreTallied r ts → AreTallied r' ts
agreeing_dismissed r r' es ts d a = agreeing_kept r r' ts (ap (λ (x : ProgramRoom). x.program) d.rest) (λ v x at. own v (slice_get r.reports v) x refl (sym (d.reports v) ∙ at)) a
  where
    one : (b : Bool) (v : ℕ) (q x : Report) → slice_get r.reports v ≡ Some q → cond b q (left r.turns Why.TurnsDone q) ≡ x → Keeps r.reports v x
    one true v q x e is = record { report = q; found = e; idle = ap (λ (z : Report). z.idle) (sym is); stale = ap (λ (z : Report). z.stale) (sym is) }
    one false v q x e is = record { report = q; found = e; idle = ap (λ (z : Report). z.idle) (sym is); stale = ap (λ (z : Report). z.stale) (sym is) }

    own : (v : ℕ) (o : Option Report) (x : Report) → slice_get r.reports v ≡ o → option_map (dismissed r.turns es v) o ≡ Some x → Keeps r.reports v x
    own v None x e is = let q : None ≡ Some x = is in absurd (cc)
    own v (Some q) x e is = one (unwrap_or (slice_get es v) true) v q x e (same_Some (dismissed r.turns es v q) x is)

-- ---- before the first turn

none_in : (g : Tries → ℕ) → g no_tries ≡ 0 → (n : ℕ) → sum_by g (replicate n no_tries) ≡ 0
none_in g e zero = refl
none_in g e (suc n) = sum_by-cons g no_tries (replicate n no_tries) ∙ ap₂ (λ (a b : ℕ). a + b) e (none_in g e n)

blank_sums : (n : ℕ) → Sums blank (replicate n no_tries)
blank_sums n = record {
  idle = let none : sum_by idle_in (replicate n no_tries) ≡ 0 = none_in idle_in refl n in omega (arith, none);
  stale = let none : sum_by stale_in (replicate n no_tries) ≡ 0 = none_in stale_in refl n in omega (arith, none);
}

pub agreeing_blank : (ms : List MemberCode) (k : ℕ) (rs : List Report) (ts : List (List Tries)) → rs ≡ replicate k blank → ts ≡ map tallies.blank ms → AreAgreeing ms rs ts
agreeing_blank ms k rs ts e f = record {
  components = ap length f ∙ length-map ms tallies.blank;
  entries = λ w m t code tally.
      let at = one w t tally in
      ap length (sym at.2) ∙ length-replicate (length (local_entries (at.0).entries)) no_tries ∙ ap (λ (x : MemberCode). length (local_entries x.entries)) (same_Some at.0 m (sym at.1 ∙ code));
  sums = λ w r t report tally some.
      let at = one w t tally in
      let none : blank ≡ r = replicated k w r (ap (λ (xs : List Report). slice_get xs w) (sym e) ∙ report) in
      subst (λ (x : Report). Sums x t) none (subst (Sums blank) at.2 (blank_sums (length (local_entries (at.0).entries))));
}
  where
    one : (w : ℕ) (t : List Tries) → slice_get ts w ≡ Some t → (m : MemberCode) × (slice_get ms w ≡ Some m) × (tallies.blank m ≡ t)
    one w t tally = get_map tallies.blank ms w t (ap (λ (xs : List (List Tries)). slice_get xs w) (sym f) ∙ tally)

    replicated : (n w : ℕ) (r : Report) → slice_get (replicate n blank) w ≡ Some r → blank ≡ r
    replicated zero w r h = absurd (cc)
    replicated (suc n) zero r h = cc
    replicated (suc n) (suc w) r h = replicated n w r h
