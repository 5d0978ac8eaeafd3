-- Turns of a room's workers are taken as they are defined.
use Rattle.std.proofs.Common.{◌≡◌, ◌≢◌, ℕ, suc, ◌+◌, ◌<◌, ◌≤◌, List, length, get_or, Bool, true, false, Option, None, Some, refl, sym, ◌∙◌, ap, subst, arith}
use Rattle.std.specs.Prelude.{slice_get, slice_set}
use Rattle.std.proofs.lemmas.List.{length-map}
use Rattle.std.proofs.lemmas.Option.{get_or_from_slice_get}
use Rattle.ioa_value.proofs.ItemLemmas.{item_there}
use Rattle.ioa_value.specs.Actions.{Act}
use Rattle.ioa_value.specs.Plain.{Val}
use Rattle.ioa_tree.specs.Proposing.{Words}
use Rattle.ioa_compile.specs.Tables.{tabled}
use Rattle.ioa_board.specs.declared.report.Why.{Why}
use Rattle.ioa_run.specs.declared.turn.TurnEnd.{TurnEnd}
use Rattle.ioa_board.specs.Boards.{Standing}
use Rattle.ioa_run.specs.Going.{AreSettled, Follows, IsTurn}
use Rattle.ioa_board.specs.ProgramRooms.{ProgramRoom, ChangesReport}
use Rattle.ioa_run.specs.Proposers.{proposers, proposers_of}
use Rattle.ioa_board.specs.Reports.{left, with_idle}
use Rattle.ioa_run.specs.Rounds.{GoesFirst, GoesRound, GoesRounds}
use Rattle.ioa_run.specs.Turning.{Acts, Attempts, HasPerformed, Refused, Takes, Took, Wishes, ends, standing_at}
use Rattle.ioa_run.specs.Turns.{Turns, turns_of_first}
use Rattle.ioa_run.proofs.Settled.{settled_ended, settled_refused, settled_round, settled_turn}
use Rattle.ioa_run.proofs.Going.{attempt_turn, follows_begin, follows_ended, follows_memory, follows_none, follows_round, follows_turn, idle_turn}

-- ---- one turn

took_attempt : (r r' : ProgramRoom) (ws ws' : List Words) (w : ℕ) (a : Act) (last : Bool) → Wishes r ws w (Some a) ws' → Attempts r w a last r' → Took r ws w last r' ws'
took_attempt r r' ws ws' w a last h k = record {
  rest = k.rest;
  turn = λ es e. attempt_turn (tabled r.program) (proposers r.program) r.inputs r.turns w h.taken a last r.board r'.board r.reports r'.reports ws ws' es (h.wish es) k.board k.answer k.report h.words;
}

took_idle : (r r' : ProgramRoom) (ws ws' : List Words) (w : ℕ) → Wishes r ws w None ws' → ChangesReport with_idle w r r' → Took r ws w false r' ws'
took_idle r r' ws ws' w h k =
    let board : r'.board ≡ r.board = ap (λ (q : ProgramRoom). q.board) k.rest in
    record {
      rest = k.rest ∙ ap (λ (b : Standing (List Val)). record r { board = b; reports = r'.reports }) (sym board);
      turn = λ es e.
          subst (λ (b : Standing (List Val)). IsTurn (tabled r.program) (proposers r.program) r.inputs w (standing_at r ws es) (record { board = b; reports = r'.reports; words = ws'; ended = slice_set es w false })) (sym board)
          (idle_turn (tabled r.program) (proposers r.program) r.inputs w h.taken r.board r.reports r'.reports ws ws' es (h.wish es) k.report h.words e);
    }

pub takes_turn : (r r' : ProgramRoom) (ws ws' : List Words) (w : ℕ) (o : Option Act) (e : TurnEnd) → Wishes r ws w o ws' → Acts r w o e r' → e ≢ TurnEnd.NoMemory → Takes r ws w e r' ws'
takes_turn r r' ws ws' w None TurnEnd.GoesOn h k d = took_idle r r' ws ws' w h k
takes_turn r r' ws ws' w None TurnEnd.IsLast h k d = absurd k
takes_turn r r' ws ws' w None TurnEnd.NoMemory h k d = absurd k
takes_turn r r' ws ws' w (Some a) TurnEnd.GoesOn h k d = took_attempt r r' ws ws' w a false h k
takes_turn r r' ws ws' w (Some a) TurnEnd.IsLast h k d = took_attempt r r' ws ws' w a true h k
takes_turn r r' ws ws' w (Some a) TurnEnd.NoMemory h k d = absurd (d refl)

pub nothing_taken : (r m : ProgramRoom) (w : ℕ) (o : Option Act) → Acts r w o TurnEnd.NoMemory m → m ≡ r
nothing_taken r m w None k = absurd k
nothing_taken r m w (Some a) k = k

pub refused_turn : (r m r' : ProgramRoom) (ws ws' : List Words) (w n : ℕ) → m ≡ r → HasPerformed r w n → ChangesReport (left m.turns Why.Memory) w m r' → length ws' ≡ length ws → Takes r ws w TurnEnd.NoMemory r' ws'
refused_turn r m r' ws ws' w n e p k l = record {
  report = p.report;
  there = p.there;
  leaves = subst (λ (q : ProgramRoom). ChangesReport (left q.turns Why.Memory) w q r') e k;
  words = l;
}

-- ---- turns of the first workers

next_worker : (n k : ℕ) (t : Turns (List Val)) → AreSettled n (k + 1) t → AreSettled n (suc k) t
next_worker n k t s = subst (λ j. AreSettled n j t) (omega arith) s

few : (n : ℕ) → n ≤ 100000 → n + 1 < 18446744073709551616
few n l = omega (arith, l)

pub first_none : (r : ProgramRoom) (ws : List Words) (es : List Bool) → GoesFirst 0 r ws es r ws es
first_none r ws es = record {
  rest = refl;
  follows = follows_begin (tabled r.program) (proposers r.program) r.inputs (standing_at r ws es);
  settled = λ m l s. subst (λ i. AreSettled i 0 (standing_at r ws es)) (omega arith) s;
}

pub first_ended : (n : ℕ) (r u : ProgramRoom) (ws wu : List Words) (es eu : List Bool) → GoesFirst n r ws es u wu eu → slice_get eu n ≡ Some true → GoesFirst (suc n) r ws es u wu eu
first_ended n r u ws wu es eu g e = record {
  rest = g.rest;
  follows = follows_ended (tabled r.program) (proposers r.program) r.inputs n (standing_at r ws es) (standing_at u wu eu) g.follows e;
  settled = λ m l s. next_worker (m + 0) n (standing_at u wu eu) (settled_ended (m + 0) n (standing_at u wu eu) e (g.settled m l s));
}

first_took : (n : ℕ) (r u v : ProgramRoom) (ws wu wv : List Words) (es eu : List Bool) (last : Bool) → GoesFirst n r ws es u wu eu → slice_get eu n ≡ Some false
    → Took (record r { board = u.board; reports = u.reports }) wu n last v wv → GoesFirst (suc n) r ws es v wv (slice_set eu n last)
first_took n r u v ws wu wv es eu last g e k = record {
  rest = k.rest;
  follows = follows_turn (tabled r.program) (proposers r.program) r.inputs n (standing_at r ws es) (standing_at u wu eu) (standing_at v wv (slice_set eu n last)) g.follows e (k.turn eu e);
  settled = λ m l s.
      next_worker (m + 0) n (standing_at v wv (slice_set eu n last))
      (settled_turn (tabled r.program) (proposers r.program) r.inputs (m + 0) n (standing_at u wu eu) (standing_at v wv (slice_set eu n last)) (few (m + 0) l) e (k.turn eu e) (g.settled m l s));
}

first_refused : (n : ℕ) (r u v : ProgramRoom) (ws wu wv : List Words) (es eu : List Bool) → GoesFirst n r ws es u wu eu → slice_get eu n ≡ Some false → n < length eu
    → Refused (record r { board = u.board; reports = u.reports }) wu n v wv → GoesFirst (suc n) r ws es v wv (slice_set eu n true)
first_refused n r u v ws wu wv es eu g e l k =
    let board : v.board ≡ u.board = ap (λ (q : ProgramRoom). q.board) k.leaves.rest in
    record {
      rest = k.leaves.rest ∙ ap (λ (b : Standing (List Val)). record r { board = b; reports = v.reports }) (sym board);
      follows = follows_memory (tabled r.program) (proposers r.program) r.inputs n r.turns (standing_at r ws es) (standing_at u wu eu) (standing_at v wv (slice_set eu n true)) g.follows e k.report k.there k.leaves.report refl k.words l;
      settled = λ m b s.
          next_worker (m + 0) n (standing_at v wv (slice_set eu n true))
          (settled_refused (m + 0) n r.turns (standing_at u wu eu) (standing_at v wv (slice_set eu n true)) e k.leaves.report board refl l (g.settled m b s));
    }

pub first_more : (n : ℕ) (r u v : ProgramRoom) (ws wu wv : List Words) (es eu : List Bool) (e : TurnEnd) → GoesFirst n r ws es u wu eu → slice_get eu n ≡ Some false → n < length eu
    → Takes u wu n e v wv → GoesFirst (suc n) r ws es v wv (slice_set eu n (ends e))
first_more n r u v ws wu wv es eu TurnEnd.GoesOn g e l k = first_took n r u v ws wu wv es eu false g e (subst (λ (q : ProgramRoom). Took q wu n false v wv) g.rest k)
first_more n r u v ws wu wv es eu TurnEnd.IsLast g e l k = first_took n r u v ws wu wv es eu true g e (subst (λ (q : ProgramRoom). Took q wu n true v wv) g.rest k)
first_more n r u v ws wu wv es eu TurnEnd.NoMemory g e l k = first_refused n r u v ws wu wv es eu g e l (subst (λ (q : ProgramRoom). Refused q wu n v wv) g.rest k)

-- ---- rounds

-- the turns of all workers are a round
pub round_taken : (n : ℕ) (r u : ProgramRoom) (ws wu : List Words) (es eu : List Bool) → n ≡ length r.program.members + 1 → length es ≡ length r.program.members + 1 → GoesFirst n r ws es u wu eu → GoesRound r ws es u wu eu
round_taken n r u ws wu es eu e l g =
    let many : length (proposers r.program) ≡ length r.program.members = length-map r.program.members proposers_of in
    let all : n ≡ length (proposers r.program) + 1 = omega (arith, e, many) in
    let kept : length eu ≡ length es = g.follows.ended in
    let ended : length eu ≤ n = omega (arith, e, l, kept) in
    record {
      rest = g.rest;
      follows = subst (λ k. Follows (turns_of_first (tabled r.program) (proposers r.program) r.inputs k) (standing_at r ws es) (standing_at u wu eu)) all g.follows;
      settled = λ m b s. subst (λ i. AreSettled i 0 (standing_at u wu eu)) (omega arith) (settled_round (m + 0) n (standing_at u wu eu) ended (g.settled m (omega (arith, b)) s));
    }

fewer_rounds : (m n : ℕ) → m + suc n ≤ 100000 → m + n ≤ 100000
fewer_rounds m n l = omega (arith, l)

one_more_round : (m n : ℕ) → m + suc n ≤ 100000 → m + n + 1 ≤ 100000
one_more_round m n l = omega (arith, l)

pub rounds_none : (r : ProgramRoom) (ws : List Words) (es : List Bool) → GoesRounds 0 r ws es r ws es
rounds_none r ws es = record {
  rest = refl;
  follows = follows_none (tabled r.program) (proposers r.program) r.inputs (standing_at r ws es);
  settled = λ m l s. subst (λ i. AreSettled i 0 (standing_at r ws es)) (omega arith) s;
}

pub rounds_more : (n : ℕ) (r u v : ProgramRoom) (ws wu wv : List Words) (es eu ev : List Bool) → GoesRounds n r ws es u wu eu → GoesRound u wu eu v wv ev → GoesRounds (suc n) r ws es v wv ev
rounds_more n r u v ws wu wv es eu ev g k =
    let k' : GoesRound (record r { board = u.board; reports = u.reports }) wu eu v wv ev = subst (λ (q : ProgramRoom). GoesRound q wu eu v wv ev) g.rest k in
    record {
      rest = k'.rest;
      follows = follows_round (tabled r.program) (proposers r.program) r.inputs n (standing_at r ws es) (standing_at u wu eu) (standing_at v wv ev) g.follows k'.follows;
      settled = λ m l s.
          subst (λ i. AreSettled i 0 (standing_at v wv ev)) (omega arith)
          (k'.settled (m + n) (one_more_round m n l) (g.settled m (fewer_rounds m n l) s));
    }

-- what is the same is gone through alike
pub first_same : (n m : ℕ) (r v v' : ProgramRoom) (ws wv wv' : List Words) (es ev ev' : List Bool) → n ≡ m → v' ≡ v → wv' ≡ wv → ev' ≡ ev → GoesFirst n r ws es v wv ev → GoesFirst m r ws es v' wv' ev'
first_same n m r v v' ws wv wv' es ev ev' a b c d h =
    subst (λ k. GoesFirst k r ws es v' wv' ev') a
    (subst (λ (x : ProgramRoom). GoesFirst n r ws es x wv' ev') (sym b) (subst (λ (x : List Words). GoesFirst n r ws es v x ev') (sym c) (subst (λ (x : List Bool). GoesFirst n r ws es v wv x) (sym d) h)))

pub rounds_same : (n m : ℕ) (r v : ProgramRoom) (ws wv : List Words) (es ev : List Bool) → n ≡ m → GoesRounds n r ws es v wv ev → GoesRounds m r ws es v wv ev
rounds_same n m r v ws wv es ev a h = subst (λ k. GoesRounds k r ws es v wv ev) a h

pub read_there : (es : List Bool) (n : ℕ) (d b : Bool) → n < length es → get_or es n d ≡ b → slice_get es n ≡ Some b
read_there es n d b l e =
    let there = item_there es n l in
    let same : there.0 ≡ b = sym (get_or_from_slice_get es n there.0 d there.1) ∙ e in
    there.1 ∙ ap Some same
