-- How a run begins and ends.
use Rattle.std.proofs.Common.{◌≡◌, ◌≢◌, ℕ, zero, suc, ◌+◌, ◌<◌, ◌≤◌, List, length, All, Bool, true, false, cond, replicate, Option, None, Some, refl, sym, ◌∙◌, ap, subst, arith, ◌⊎◌, inl, inr}
use Rattle.std.specs.Prelude.{slice_get, unwrap_or}
use Rattle.std.specs.Option.{option_map}
use Rattle.std.proofs.lemmas.Bool.Decides.{eqb_tells}
use Rattle.std.proofs.lemmas.List.{length-map, length-replicate}
use Rattle.std.proofs.lemmas.Option.{get_or_from_slice_get, slice_get_within}
use Rattle.ioa_value.specs.Actions.{Act}
use Rattle.ioa_value.specs.Plain.{Val}
use Rattle.ioa_value.proofs.ItemLemmas.{item_there}
use Rattle.ioa_tree.specs.Components.{Component}
use Rattle.ioa_tree.specs.Proposing.{Words}
use Rattle.ioa_compile.specs.Programs.{Prog}
use Rattle.ioa_compile.specs.Tables.{tabled}
use Rattle.ioa_system.specs.Logs.{log_end}
use Rattle.ioa_board.specs.declared.outcome.Outcome.{Outcome}
use Rattle.ioa_board.specs.declared.report.Report.{Report}
use Rattle.ioa_board.specs.declared.report.Why.{Why}
use Rattle.ioa_board.specs.ProgramRooms.{IsInput, IsRoom, ProgramRoom, ChangesReport, room_on}
use Rattle.ioa_run.specs.Alone.{IsAloneFrom, IsOutcomeFrom, IsFirstOther, NoMemory}
use Rattle.ioa_board.specs.Boards.{Standing}
use Rattle.ioa_board.specs.Histories.{GoesOn, since}
use Rattle.ioa_board.specs.Reports.{AreTold, blank, left}
use Rattle.ioa_run.specs.Going.{AreSettled, Follows, dismissed}
use Rattle.ioa_board.specs.Outcomes.{HaveEnded, IsLogOf, ending}
use Rattle.ioa_run.specs.Proposers.{proposers, proposers_of}
use Rattle.ioa_run.specs.Rounds.{Dismisses, GoesRounds}
use Rattle.ioa_run.specs.Turning.{standing_at}
use Rattle.ioa_run.specs.Turns.{Turns, turns_from, rounds, alone_from}
use Rattle.ioa_run.proofs.Going.{run_followed}
use Rattle.ioa_run.proofs.Settled.{settled_end, settled_first}

-- ---- inputs

-- so are the items before this one
abbrev pub Before : (Act → Type 0) → List Act → ℕ → Type 0
Before P xs i = (j : ℕ) (a : Act) → j < i → slice_get xs j ≡ Some a → P a

pub before_more : (P : Act → Type 0) (xs : List Act) (i : ℕ) (x : Act) → Before P xs i → slice_get xs i ≡ Some x → P x → Before P xs (i + 1)
before_more P xs i x h e p j a l g =
    elim (eqb_tells j i) as (λ _. P a) [
      | inl q ↦ (let k : Some x ≡ Some a = sym e ∙ subst (λ n. slice_get xs n ≡ Some a) q.1 g in let same : x ≡ a = cc in subst P same p)
      | inr q ↦ h j a (less j i l q.1) g
    ]
  where
    less : (m n : ℕ) → m < n + 1 → m ≢ n → m < n
    less zero zero k d = absurd (d refl)
    less zero (suc n) k d = omega arith
    less (suc m) zero k d = absurd (omega (arith, k))
    less (suc m) (suc n) k d = let o : m < n = less m n (omega (arith, k)) (λ q. d (ap suc q)) in omega (arith, o)

pub all_before : (P : Act → Type 0) (xs : List Act) (n : ℕ) → Before P xs n → length xs ≤ n → All P xs
all_before P xs n h l k d m =
    let there = item_there xs k m in
    subst P (sym (get_or_from_slice_get xs k there.0 d there.1)) (h k there.0 (omega (arith, m, l)) there.1)

pub first_other : {S : Type 0} (ps : List (Component S)) (xs : List Act) (i : ℕ) (x : Act) → Before (IsInput ps) xs i → slice_get xs i ≡ Some x → (IsInput ps x → ⊥) → IsFirstOther ps xs i
first_other ps xs i x h e d = record {
  there = slice_get_within xs i x e;
  other = λ a g p. d (subst (IsInput ps) (same a g) p);
  before = h;
}
  where
    same : (a : Act) → slice_get xs i ≡ Some a → a ≡ x
    same a g = let k : Some a ≡ Some x = sym g ∙ e in cc

-- ---- turns that are done

-- the first so many workers are told so, where they have not ended
pub record DismissesFirst (n : ℕ) (r : ProgramRoom) (es : List Bool) (r' : ProgramRoom) : Type 0 where
  pub rest : r' ≡ record r { reports = r'.reports }
  pub first : (w : ℕ) → w < n → slice_get r'.reports w ≡ option_map (dismissed r.turns es w) (slice_get r.reports w)
  pub others : (w : ℕ) → n ≤ w → slice_get r'.reports w ≡ slice_get r.reports w

pub dismisses_none : (r : ProgramRoom) (es : List Bool) → DismissesFirst 0 r es r
dismisses_none r es = record { rest = refl; first = λ w l. absurd (omega (arith, l)); others = λ w l. refl }

mapped_same : {X : Type 0} (f : X → X) (o : Option X) → ((x : X) → f x ≡ x) → option_map f o ≡ o
mapped_same f None h = refl
mapped_same f (Some x) h = ap Some (h x)

stays : (turns : ℕ) (es : List Bool) (w : ℕ) (q : Report) → unwrap_or (slice_get es w) true ≡ true → dismissed turns es w q ≡ q
stays turns es w q e = ap (λ b. cond b q (left turns Why.TurnsDone q)) e

pub dismisses_ended : (n : ℕ) (r u : ProgramRoom) (es : List Bool) → slice_get es n ≡ Some true → DismissesFirst n r es u → DismissesFirst (n + 1) r es u
dismisses_ended n r u es e h = record {
  rest = h.rest;
  first = λ w l. elim (eqb_tells w n) as (λ _. slice_get u.reports w ≡ option_map (dismissed r.turns es w) (slice_get r.reports w)) [
    | inl q ↦ h.others w (omega (arith, q.1)) ∙ sym (mapped_same (dismissed r.turns es w) (slice_get r.reports w) (λ x. stays r.turns es w x (ap (λ k. unwrap_or (slice_get es k) true) q.1 ∙ ap (λ o. unwrap_or o true) e)))
    | inr q ↦ h.first w (omega (arith, l, q.1))
  ];
  others = λ w l. h.others w (omega (arith, l));
}

pub dismisses_more : (n : ℕ) (r u v : ProgramRoom) (es : List Bool) → slice_get es n ≡ Some false → DismissesFirst n r es u → ChangesReport (left u.turns Why.TurnsDone) n u v → DismissesFirst (n + 1) r es v
dismisses_more n r u v es e h t =
    let turns : u.turns ≡ r.turns = ap (λ (q : ProgramRoom). q.turns) h.rest in
    let told : slice_get v.reports n ≡ option_map (left r.turns Why.TurnsDone) (slice_get r.reports n) =
    t.report.own ∙ ap (λ k. option_map (left k Why.TurnsDone) (slice_get u.reports n)) turns ∙ ap (option_map (left r.turns Why.TurnsDone)) (h.others n (omega arith)) in
    let own : slice_get v.reports n ≡ option_map (dismissed r.turns es n) (slice_get r.reports n) =
    told ∙ ap (λ b. option_map (λ q. cond b q (left r.turns Why.TurnsDone q)) (slice_get r.reports n)) (sym (ap (λ o. unwrap_or o true) e)) in
    record {
      rest = t.rest ∙ ap (λ (q : ProgramRoom). record q { reports = v.reports }) h.rest;
      first = λ w l. elim (eqb_tells w n) as (λ _. slice_get v.reports w ≡ option_map (dismissed r.turns es w) (slice_get r.reports w)) [
        | inl q ↦ subst (λ k. slice_get v.reports k ≡ option_map (dismissed r.turns es k) (slice_get r.reports k)) (sym q.1) own
        | inr q ↦ t.report.others w q.1 ∙ h.first w (omega (arith, l, q.1))
      ];
      others = λ w l. t.report.others w (λ q. omega (arith, l, q)) ∙ h.others w (omega (arith, l));
    }

before_or_not : (w n : ℕ) → (w < n) ⊎ (n ≤ w)
before_or_not zero zero = inr (omega arith)
before_or_not zero (suc n) = inl (omega arith)
before_or_not (suc w) zero = inr (omega arith)
before_or_not (suc w) (suc n) = elim (before_or_not w n) as (λ _. (suc w < suc n) ⊎ (suc n ≤ suc w)) [ inl m ↦ inl (omega (arith, m)) | inr m ↦ inr (omega (arith, m)) ]

pub dismisses_all : (n : ℕ) (r u : ProgramRoom) (es : List Bool) → length es ≤ n → DismissesFirst n r es u → Dismisses r es u
dismisses_all n r u es l h = record {
  rest = h.rest;
  reports = λ w. by_place w (slice_get es w) refl;
}
  where
    by_place : (w : ℕ) (o : Option Bool) → slice_get es w ≡ o → slice_get u.reports w ≡ option_map (dismissed r.turns es w) (slice_get r.reports w)
    by_place w (Some b) e = h.first w (omega (arith, l, slice_get_within es w b e))
    by_place w None e =
        elim (before_or_not w n) as (λ _. slice_get u.reports w ≡ option_map (dismissed r.turns es w) (slice_get r.reports w)) [
          | inl m ↦ h.first w m
          | inr m ↦ h.others w m ∙ sym (mapped_same (dismissed r.turns es w) (slice_get r.reports w) (λ x. stays r.turns es w x (ap (λ o. unwrap_or o true) e)))
        ]

-- ---- the run

pub ended_alone : (p : Prog) (b : Standing (List Val)) (ws : List Words) (inputs : List Act) (turns : ℕ) (wu : List Words) (eu : List Bool) (u v : ProgramRoom) (es : List Bool) (o : Outcome) → turns ≤ 100000
    → es ≡ (turns_from b ws (length (proposers p))).ended
    → GoesRounds turns (room_on p b inputs turns) ws es u wu eu → Dismisses u eu v
    → IsLogOf v.program v.board o.log.items o.end o.states.items → o.reports.items ≡ v.reports → NoMemory o.reports.items → IsAloneFrom p b ws inputs turns o
ended_alone p b ws inputs turns wu eu u v es o l s g d log k none =
    let start : Turns (List Val) = turns_from b ws (length (proposers p)) in
    let many : length (proposers p) ≡ length p.members = length-map p.members proposers_of in
    let begun : standing_at (room_on p b inputs turns) ws es ≡ start =
    ap (standing_at (room_on p b inputs turns) ws) s
    ∙ ap (λ (n : ℕ). record { board = start.board; reports = replicate (n + 1) blank; words = ws; ended = start.ended }) (sym many) in
    let went : Follows (rounds (tabled p) (proposers p) inputs turns) start (standing_at u wu eu) =
    subst (λ (t : Turns (List Val)). Follows (rounds (tabled p) (proposers p) inputs turns) t (standing_at u wu eu)) begun g.follows in
    let turns_are : u.turns ≡ turns = ap (λ (q : ProgramRoom). q.turns) g.rest in
    let told : (w : ℕ) → slice_get o.reports.items w ≡ option_map (dismissed turns eu w) (slice_get u.reports w) =
    λ w. ap (λ rs. slice_get rs w) k ∙ d.reports w ∙ ap (λ n. option_map (dismissed n eu w) (slice_get u.reports w)) turns_are in
    let both = run_followed (tabled p) (proposers p) inputs turns b ws (standing_at u wu eu) o.reports.items (omega (arith, l)) went told none in
    let program : v.program ≡ p = ap (λ (q : ProgramRoom). q.program) (d.rest) ∙ ap (λ (q : ProgramRoom). q.program) g.rest in
    let board : v.board ≡ (alone_from (tabled p) (proposers p) inputs turns b ws).board = ap (λ (q : ProgramRoom). q.board) d.rest ∙ both.0 in
    record {
      log = subst (λ (x : Standing (List Val)). IsLogOf p x o.log.items o.end o.states.items) board (subst (λ (q : Prog). IsLogOf q v.board o.log.items o.end o.states.items) program log);
      reports = both.1;
    }

-- who has ended on one thread has a reason that its report tells
pub ends_alone : (p : Prog) (b : Standing (List Val)) (ws : List Words) (inputs : List Act) (turns : ℕ) (wu : List Words) (eu : List Bool) (u v : ProgramRoom) (es : List Bool) (o : Outcome) → turns ≤ 100000
    → es ≡ (turns_from b ws (length (proposers p))).ended
    → GoesRounds turns (room_on p b inputs turns) ws es u wu eu → Dismisses u eu v
    → IsLogOf v.program v.board o.log.items o.end o.states.items → o.reports.items ≡ v.reports → IsRoom v → HaveEnded turns (log_end o.end) o.reports.items
ends_alone p b ws inputs turns wu eu u v es o l s g d log k told =
    let start : Turns (List Val) = turns_from b ws (length (proposers p)) in
    let many : length (proposers p) ≡ length p.members = length-map p.members proposers_of in
    let begun : standing_at (room_on p b inputs turns) ws es ≡ start =
    ap (standing_at (room_on p b inputs turns) ws) s
    ∙ ap (λ (n : ℕ). record { board = start.board; reports = replicate (n + 1) blank; words = ws; ended = start.ended }) (sym many) in
    let few : 0 + turns ≤ 100000 = omega (arith, l) in
    let settled : AreSettled turns 0 (standing_at u wu eu) =
    subst (λ n. AreSettled n 0 (standing_at u wu eu)) (omega arith)
    (g.settled 0 few (subst (λ (t : Turns (List Val)). AreSettled 0 0 t) (sym begun) (settled_first b ws (length (proposers p))))) in
    let turns_are : u.turns ≡ turns = ap (λ (q : ProgramRoom). q.turns) g.rest in
    let program : v.program ≡ p = ap (λ (q : ProgramRoom). q.program) d.rest ∙ ap (λ (q : ProgramRoom). q.program) g.rest in
    let board : v.board ≡ u.board = ap (λ (q : ProgramRoom). q.board) d.rest in
    let workers : length v.reports ≡ length p.members + 1 = told.workers ∙ ap (λ (q : Prog). length q.members + 1) program in
    let first : length es ≡ length (proposers p) + 1 = ap length s ∙ length-replicate (length (proposers p) + 1) false in
    let kept : length eu ≡ length es = g.follows.ended in
    let reports : length o.reports.items ≡ length v.reports = ap length k in
    let all : length o.reports.items ≤ length eu = omega (arith, reports, workers, first, many, kept) in
    settled_end turns (standing_at u wu eu) o.reports.items v.board.history (log_end o.end) settled all
    (λ w. ap (λ rs. slice_get rs w) k ∙ d.reports w ∙ ap (λ n. option_map (dismissed n eu w) (slice_get u.reports w)) turns_are)
    (log.ends ∙ ap (λ (x : Standing (List Val)). ending v.board.history x.failure) board)

-- what it gives is a board's, of which the reports tell what is new
pub outcome_from : (p : Prog) (b : Standing (List Val)) (inputs : List Act) (turns : ℕ) (u v : ProgramRoom) (o : Outcome)
    → u ≡ record (room_on p b inputs turns) { board = u.board; reports = u.reports } → v ≡ record u { reports = v.reports }
    → IsLogOf v.program v.board o.log.items o.end o.states.items → o.reports.items ≡ v.reports → IsRoom v → GoesOn v.before v.board.history
    → IsOutcomeFrom p b.history inputs turns o
outcome_from p b inputs turns u v o e d log k told goes =
    let program : v.program ≡ p = ap (λ (q : ProgramRoom). q.program) d ∙ ap (λ (q : ProgramRoom). q.program) e in
    let before : v.before ≡ b.history = ap (λ (q : ProgramRoom). q.before) d ∙ ap (λ (q : ProgramRoom). q.before) e in
    let script : v.inputs ≡ inputs = ap (λ (q : ProgramRoom). q.inputs) d ∙ ap (λ (q : ProgramRoom). q.inputs) e in
    let many : v.turns ≡ turns = ap (λ (q : ProgramRoom). q.turns) d ∙ ap (λ (q : ProgramRoom). q.turns) e in (
      v.board,
      subst (λ (q : Prog). IsLogOf q v.board o.log.items o.end o.states.items) program log,
      subst (λ (h : List (ℕ × Act)). GoesOn h v.board.history) before goes,
      subst (λ (q : Prog). AreTold (length q.members) inputs turns (since b.history v.board.history) v.board.failure o.reports.items) program
          (subst (λ (xs : List Act). AreTold (length v.program.members) xs turns (since b.history v.board.history) v.board.failure o.reports.items) script
          (subst (λ (n : ℕ). AreTold (length v.program.members) v.inputs n (since b.history v.board.history) v.board.failure o.reports.items) many
          (subst (λ (h : List (ℕ × Act)). AreTold (length v.program.members) v.inputs v.turns (since h v.board.history) v.board.failure o.reports.items) before
          (subst (λ (rs : List Report). AreTold (length v.program.members) v.inputs v.turns (since v.before v.board.history) v.board.failure rs) (sym k) told)))),
    )
