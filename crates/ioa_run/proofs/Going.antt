-- Turns one after another, as they are defined, unless memory is refused to a worker.
use Rattle.std.proofs.Common.{◌≡◌, ◌≢◌, ℕ, zero, suc, ◌+◌, ◌<◌, List, [], ◌∷◌, length, All, Bool, true, false, cond, Some, refl, sym, ◌∙◌, ap, subst, arith, ◌⊎◌, inl, inr}
use Rattle.std.specs.Prelude.{slice_get, slice_set, unwrap_or}
use Rattle.std.specs.Option.{option_map}
use Rattle.std.proofs.lemmas.List.{length-replicate, length-set}
use Rattle.ioa_value.specs.Actions.{Act}
use Rattle.ioa_tree.specs.Components.{Component}
use Rattle.ioa_tree.specs.Proposing.{Words, tries, idle}
use Rattle.ioa_board.specs.declared.answer.Answer.{Answer}
use Rattle.ioa_board.specs.declared.report.Report.{Report}
use Rattle.ioa_board.specs.declared.report.Why.{Why}
use Rattle.ioa_board.specs.Boards.{Standing, attempt}
use Rattle.ioa_board.specs.Reports.{told_in, Changes, blank, left, unless_faulted, with_idle, with_why, told}
use Rattle.ioa_run.specs.Going.{AreCounted, AreGoing, Follows, IsRefused, IsTurn, dismissed}
use Rattle.ioa_run.specs.Turns.{Proposer, Turns, after, alone_from, changed, turns_from, is_last, meant, round, rounds, turn, turned, turns_of_first, with_done}
use Rattle.ioa_run.proofs.Attempting.{set_there}
use Rattle.ioa_run.proofs.Scheduling.{set_got}
use Rattle.ioa_run.proofs.Counting.{counted_rounds, dismissed_is, first_counted, first_going, none_refused, refused_dismissed}
use Rattle.ioa_run.proofs.Turned.{changed_alike, changed_set, changes_is, going_first, going_rounds, length_changed}

-- ---- one turn

pub other_there : {X : Type 0} (xs : List X) (w v : ℕ) (x : X) → v ≢ w → slice_get (slice_set xs w x) v ≡ slice_get xs v
other_there [] w v x d = refl
other_there (y ∷ ys) zero zero x d = absurd (d refl)
other_there (y ∷ ys) zero (suc v) x d = refl
other_there (y ∷ ys) (suc w) zero x d = refl
other_there (y ∷ ys) (suc w) (suc v) x d = other_there ys w v x (λ e. d (ap suc e))

left_stopped : (turns : ℕ) (q : Report) → q.why ≡ Why.Stopped → left turns Why.Stopped q ≡ with_why Why.Stopped q
left_stopped turns q s = ap (λ y. with_why (unless_faulted y Why.Stopped) q) s

pub left_memory : (turns : ℕ) (q : Report) → q.why ≡ Why.Stopped → (left turns Why.Memory q).why ≡ Why.Memory
left_memory turns q s = ap (λ y. unless_faulted y Why.Memory) s

told_alike : (turns : ℕ) (x : Answer) (q : Report) → q.why ≡ Why.Stopped → told_in turns x q ≡ told x q
told_alike turns Answer.Stopped q s = left_stopped turns q s
told_alike turns (Answer.Committed n) q s = refl
told_alike turns (Answer.Faulted c f) q s = refl
told_alike turns Answer.NotAnAction q s = refl
told_alike turns Answer.NotYours q s = refl
told_alike turns Answer.NotEnabled q s = refl
told_alike turns Answer.Planned q s = refl
told_alike turns Answer.NoPlan q s = refl
told_alike turns Answer.Stale q s = refl

abbrev made : {S : Type 0} → Standing S → List Report → List Words → List Bool → Turns S
made b rs ws es = record { board = b; reports = rs; words = ws; ended = es }

module _ {S : Type 0} (ps : List (Component S)) (entries : List (List (Proposer S))) (inputs : List Act) where
  -- a turn with nothing to commit
  pub idle_turn : (w taken : ℕ) (b : Standing S) (rs rs' : List Report) (ws ws' : List Words) (es : List Bool) → meant ps entries inputs w (made b rs ws es) ≡ idle taken
      → Changes with_idle w rs rs' → ws' ≡ changed (after taken) w ws → slice_get es w ≡ Some false
      → IsTurn ps entries inputs w (made b rs ws es) (made b rs' ws' (slice_set es w false))
  idle_turn w taken b rs rs' ws ws' es m c e f = record {
    others = c.others;
    kept = λ v d. other_there es w v false d;
    words = ap length e ∙ length_changed (after taken) w ws;
    ended = length-set es w false;
    turn = λ _.
        ap (λ z. made b z ws' (slice_set es w false)) (changes_is with_idle w rs rs' c)
        ∙ ap (λ z. made b (changed with_idle w rs) z (slice_set es w false)) e
        ∙ ap (λ z. made b (changed with_idle w rs) (changed (after taken) w ws) z) (set_got es w false f)
        ∙ ap (λ o. turned ps w o (made b rs ws es)) (sym m);
  }

  -- a turn with an attempt
  pub attempt_turn : (turns w taken : ℕ) (a : Act) (last : Bool) (b b' : Standing S) (rs rs' : List Report) (ws ws' : List Words) (es : List Bool)
      → meant ps entries inputs w (made b rs ws es) ≡ tries a taken → b' ≡ (attempt ps w a b).1 → is_last (attempt ps w a b).0 ≡ last
      → Changes (told_in turns (attempt ps w a b).0) w rs rs' → ws' ≡ changed (after taken) w ws
      → IsTurn ps entries inputs w (made b rs ws es) (made b' rs' ws' (slice_set es w last))
  attempt_turn turns w taken a last b b' rs rs' ws ws' es m k l c e =
      let x : Answer = (attempt ps w a b).0 in
      record {
        others = c.others;
        kept = λ v d. other_there es w v last d;
        words = ap length e ∙ length_changed (after taken) w ws;
        ended = length-set es w last;
        turn = λ h.
            ap (λ z. made z rs' ws' (slice_set es w last)) k
            ∙ ap (λ z. made (attempt ps w a b).1 z ws' (slice_set es w last)) (changes_is (told_in turns x) w rs rs' c ∙ changed_alike (told_in turns x) (told x) w rs (λ q g. told_alike turns x q (h q g)))
            ∙ ap (λ z. made (attempt ps w a b).1 (changed (told x) w rs) z (slice_set es w last)) e
            ∙ ap (λ z. made (attempt ps w a b).1 (changed (told x) w rs) (changed (after taken) w ws) (slice_set es w z)) (sym l)
            ∙ ap (λ z. made (attempt ps w a b).1 (changed (told x) w rs) (changed (after taken) w ws) z) (changed_set w es (is_last x))
            ∙ ap (λ o. turned ps w o (made b rs ws es)) (sym m);
      }

  -- ---- turns of the first workers

  pub follows_begin : (t : Turns S) → Follows (turns_of_first ps entries inputs 0) t t
  follows_begin t = record { words = refl; ended = refl; follows = λ _. inl refl; refused = λ f. f }

  turn_ended : (n : ℕ) (u : Turns S) → slice_get u.ended n ≡ Some true → turn ps entries inputs n u ≡ u
  turn_ended n u e = ap (λ o. cond (unwrap_or o true) u (turned ps n (meant ps entries inputs n u) u)) e

  turn_taken : (n : ℕ) (u : Turns S) → slice_get u.ended n ≡ Some false → turn ps entries inputs n u ≡ turned ps n (meant ps entries inputs n u) u
  turn_taken n u e = ap (λ o. cond (unwrap_or o true) u (turned ps n (meant ps entries inputs n u) u)) e

  -- a worker that has ended takes none
  pub follows_ended : (n : ℕ) (t u : Turns S) → Follows (turns_of_first ps entries inputs n) t u → slice_get u.ended n ≡ Some true → Follows (turns_of_first ps entries inputs (suc n)) t u
  follows_ended n t u h e = record {
    words = h.words;
    ended = h.ended;
    follows = λ g. elim (h.follows g) as (λ _. (u ≡ turns_of_first ps entries inputs (suc n) t) ⊎ IsRefused u.reports u.ended) [
      | inl i ↦ inl (sym (turn_ended n u e) ∙ ap (turn ps entries inputs n) i)
      | inr f ↦ inr f
    ];
    refused = h.refused;
  }

  -- what was told of another worker stays told
  still_refused : (n : ℕ) (u v : Turns S) → IsTurn ps entries inputs n u v → slice_get u.ended n ≡ Some false → IsRefused u.reports u.ended → IsRefused v.reports v.ended
  still_refused n u v k e f =
      let other : f.worker ≢ n = λ p. (let q : Some true ≡ Some false = sym f.ended ∙ subst (λ w. slice_get u.ended w ≡ Some false) (sym p) e in cc) in
      record { worker = f.worker; report = f.report; there = k.others f.worker other ∙ f.there; memory = f.memory; ended = k.kept f.worker other ∙ f.ended }

  pub follows_turn : (n : ℕ) (t u v : Turns S) → Follows (turns_of_first ps entries inputs n) t u → slice_get u.ended n ≡ Some false → IsTurn ps entries inputs n u v
      → Follows (turns_of_first ps entries inputs (suc n)) t v
  follows_turn n t u v h e k = record {
    words = k.words ∙ h.words;
    ended = k.ended ∙ h.ended;
    follows = λ g. elim (h.follows g) as (λ _. (v ≡ turns_of_first ps entries inputs (suc n) t) ⊎ IsRefused v.reports v.ended) [
      | inl i ↦
          let going : AreGoing u = subst (λ (x : Turns S). AreGoing x) (sym i) (going_first ps entries inputs n t g) in
          inl (k.turn (λ q f. going n q e f) ∙ sym (turn_taken n u e) ∙ ap (turn ps entries inputs n) i)
      | inr f ↦ inr (still_refused n u v k e f)
    ];
    refused = λ f. still_refused n u v k e (h.refused f);
  }

  -- memory is refused to a worker in its turn
  pub follows_memory : (n turns : ℕ) (t u v : Turns S) → Follows (turns_of_first ps entries inputs n) t u → slice_get u.ended n ≡ Some false
      → (q : Report) → slice_get u.reports n ≡ Some q → Changes (left turns Why.Memory) n u.reports v.reports → v.ended ≡ slice_set u.ended n true → length v.words ≡ length u.words
      → n < length u.ended → Follows (turns_of_first ps entries inputs (suc n)) t v
  follows_memory n turns t u v h e q i c s l m =
      let kept : (w : ℕ) → w ≢ n → slice_get v.ended w ≡ slice_get u.ended w = λ w d. ap (λ xs. slice_get xs w) s ∙ other_there u.ended n w true d in
      let still : IsRefused u.reports u.ended → IsRefused v.reports v.ended = λ f.
      let other : f.worker ≢ n = λ p. (let z : Some true ≡ Some false = sym f.ended ∙ subst (λ w. slice_get u.ended w ≡ Some false) (sym p) e in cc) in
      record { worker = f.worker; report = f.report; there = c.others f.worker other ∙ f.there; memory = f.memory; ended = kept f.worker other ∙ f.ended } in
      record {
        words = l ∙ h.words;
        ended = ap length s ∙ length-set u.ended n true ∙ h.ended;
        follows = λ g. elim (h.follows g) as (λ _. (v ≡ turns_of_first ps entries inputs (suc n) t) ⊎ IsRefused v.reports v.ended) [
          | inl j ↦
              let going : AreGoing u = subst (λ (x : Turns S). AreGoing x) (sym j) (going_first ps entries inputs n t g) in
              inr (record {
                worker = n;
                report = left turns Why.Memory q;
                there = c.own ∙ ap (option_map (left turns Why.Memory)) i;
                memory = left_memory turns q (going n q e i);
                ended = ap (λ xs. slice_get xs n) s ∙ set_there u.ended n true m;
              })
          | inr f ↦ inr (still f)
        ];
        refused = λ f. still (h.refused f);
      }

  -- ---- rounds

  pub follows_none : (t : Turns S) → Follows (rounds ps entries inputs 0) t t
  follows_none t = record { words = refl; ended = refl; follows = λ _. inl refl; refused = λ f. f }

  pub follows_round : (n : ℕ) (t u v : Turns S) → Follows (rounds ps entries inputs n) t u → Follows (round ps entries inputs) u v → Follows (rounds ps entries inputs (suc n)) t v
  follows_round n t u v h k = record {
    words = k.words ∙ h.words;
    ended = k.ended ∙ h.ended;
    follows = λ g. elim (h.follows g) as (λ _. (v ≡ rounds ps entries inputs (suc n) t) ⊎ IsRefused v.reports v.ended) [
      | inl i ↦ elim (k.follows (subst (λ (x : Turns S). AreGoing x) (sym i) (going_rounds ps entries inputs n t g))) as (λ _. (v ≡ rounds ps entries inputs (suc n) t) ⊎ IsRefused v.reports v.ended) [
        | inl j ↦ inl (j ∙ ap (round ps entries inputs) i)
        | inr f ↦ inr f
      ]
      | inr f ↦ inr (k.refused f)
    ];
    refused = λ f. k.refused (h.refused f);
  }

  -- ---- the end of the run

  -- where no memory was refused, it is the run that is defined
  pub run_followed : (turns : ℕ) (b : Standing S) (ws : List Words) (v : Turns S) (rs : List Report) → turns < 18446744073709551616
      → Follows (rounds ps entries inputs turns) (turns_from b ws (length entries)) v
      → ((w : ℕ) → slice_get rs w ≡ option_map (dismissed turns v.ended w) (slice_get v.reports w))
      → All (λ (r : Report). r.why ≢ Why.Memory) rs
      → (v.board ≡ (alone_from ps entries inputs turns b ws).board) × (rs ≡ (alone_from ps entries inputs turns b ws).reports)
  run_followed turns b ws v rs l h d none =
      let t : Turns S = turns_from b ws (length entries) in
      let result : Turns S = alone_from ps entries inputs turns b ws in
      elim (h.follows (first_going b ws (length entries))) as (λ _. (v.board ≡ result.board) × (rs ≡ result.reports)) [
        | inl i ↦
            let going : AreGoing v = subst (λ (x : Turns S). AreGoing x) (sym i) (going_rounds ps entries inputs turns t (first_going b ws (length entries))) in
            let many : AreCounted turns 0 v = subst (λ (x : Turns S). AreCounted turns 0 x) (sym i) (counted_rounds ps entries inputs turns t l (length-replicate (length entries + 1) blank) (first_counted b ws (length entries))) in (
              ap (λ (x : Turns S). x.board) i,
              dismissed_is turns v.ended v.reports rs d (λ w q e f. (going w q e f, (many w q e f).before (omega arith)))
                  ∙ ap (λ (x : Turns S). with_done x.ended x.reports) i,
            )
        | inr f ↦ absurd (none_refused rs v.ended none (refused_dismissed turns v.ended v.reports rs d f))
      ]
