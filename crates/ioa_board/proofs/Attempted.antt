-- What an attempt does to a board.
use Rattle.std.proofs.Common.{◌≡◌, ◌≢◌, ℕ, List, [], ◌∷◌, ◌++◌, length, map, Option, None, Some, refl, sym, ◌∙◌, ap, subst}
use Rattle.std.specs.Option.{option_map}
use Rattle.std.specs.Prelude.{IsSome}
use Rattle.std.proofs.lemmas.List.{length-map}
use Rattle.ioa_arithmetic.specs.declared.arithmetic.Fault.{Fault}
use Rattle.ioa_value.specs.Actions.{Act}
use Rattle.ioa_value.specs.Plain.{Val}
use Rattle.ioa_parts.specs.Nodes.{Node}
use Rattle.ioa_tree.specs.Steps.{next, not_an_action, fault, step}
use Rattle.ioa_compile.specs.Programs.{Prog}
use Rattle.ioa_compile.specs.Tables.{start_states, tabled}
use Rattle.ioa_system.specs.declared.outcomes.Step.{Step}
use Rattle.ioa_system.specs.declared.log.LogEntry.{LogEntry}
use Rattle.ioa_system.specs.Outcomes.{step_of}
use Rattle.ioa_system.specs.Logs.{log_entry, worker}
use Rattle.ioa_system.specs.Systems.{types_of, values_of}
use Rattle.ioa_board.specs.declared.answer.Answer.{Answer}
use Rattle.ioa_board.specs.declared.planned.Planned.{Planned}
use Rattle.ioa_board.specs.declared.recorded.Recorded.{Recorded}
use Rattle.ioa_board.specs.Attempted.{BoardAttempt, Enters, OwnStep, stopped_answer}
use Rattle.ioa_board.specs.Boards.{Failure, Standing, with_entry, with_failure, intent, attempt, own_attempt}
use Rattle.ioa_board.specs.Planning.{answer_of, intent_of, PlansNow}
use Rattle.ioa_board.specs.ProgramBoards.{IsBoard, ProgramBoard, failure_of, standing}
use Rattle.ioa_board.proofs.Committing.{board_of}
use Rattle.ioa_board.proofs.Performing.{legal_more}
use Rattle.ioa_board.proofs.Tried.{calm_attempt, committed_attempt, foreign_attempt, refused_attempt}

attempted_by : (b b' : ProgramBoard) (w : ℕ) (a : Act) (x : Answer) (d : Standing (List Val)) → attempt (tabled b.program) w a b.board ≡ (x, d) → b'.board ≡ d
    → b'.program ≡ b.program → BoardAttempt b w a x b'
attempted_by b b' w a x d e k q = record {
  answer = sym (ap (λ (y : Answer × Standing (List Val)). y.0) e);
  board = k ∙ sym (ap (λ (y : Answer × Standing (List Val)). y.1) e);
  program = q;
}

-- ---- where a fault is recorded

-- nothing is performed
stopped_refused : (b : ProgramBoard) (w : ℕ) (a : Act) (q : Planned) → answer_of q ≢ Answer.Planned → stopped_answer q ≡ answer_of q → PlansNow b w a q → BoardAttempt b w a (stopped_answer q) b
stopped_refused b w a q d e h =
    attempted_by b b w a (stopped_answer q) b.board
    (refused_attempt (tabled b.program) w a b.board (intent (tabled b.program) a b.board.states) (answer_of q) (intent_of q) d h.plans ∙ ap (λ (x : Answer). (x, b.board)) (sym e)) refl refl

pub stopped_planned : (b : ProgramBoard) (w : ℕ) (a : Act) (q : Planned) → IsSome b.board.failure → PlansNow b w a q → BoardAttempt b w a (stopped_answer q) b
stopped_planned b w a (Planned.Ready p) s h =
    attempted_by b b w a Answer.Stopped b.board (committed_attempt (tabled b.program) w a b.board b.board h.plans.0 h.plans.1 h.plans.2 Answer.Stopped (s, refl)) refl refl
stopped_planned b w a Planned.NotAnAction s h = stopped_refused b w a Planned.NotAnAction (λ e. cc) refl h
stopped_planned b w a Planned.NotEnabled s h = stopped_refused b w a Planned.NotEnabled (λ e. cc) refl h
stopped_planned b w a Planned.NotYours s h = stopped_refused b w a Planned.NotYours (λ e. cc) refl h

-- ---- where none is

same_standing : (h h' : List LogEntry) (ns ms : List Node) (r r' : Option Recorded) → h' ≡ h → ms ≡ ns → r' ≡ r → standing h' ms r' ≡ standing h ns r
same_standing h h' ns ms r r' a b c = ap (λ (k : List LogEntry). standing k ms r') a ∙ ap (λ (ks : List Node). standing h ks r') b ∙ ap (λ (q : Option Recorded). standing h ns q) c

faulted_standing : (h h' : List LogEntry) (ns ms : List Node) (r r' : Option Recorded) (w : ℕ) (a : Act) (c : ℕ) (f : Fault) → h' ≡ h → ms ≡ ns
    → option_map failure_of r' ≡ Some (record { entry = (w, a); component = c; fault = f }) → standing h' ms r' ≡ with_failure (standing h ns r) w a c f
faulted_standing h h' ns ms r r' w a c f d e g =
    ap (λ (k : List LogEntry). standing k ms r') d ∙ ap (λ (ks : List Node). standing h ks r') e
    ∙ ap (λ (q : Option Failure). record { history = map log_entry h; states = values_of ns; failure = q }) g

next_standing : (h h' : List LogEntry) (ns ms : List Node) (r r' : Option Recorded) (w : ℕ) (a : Act) → map log_entry h' ≡ map log_entry h ++ (w, a) ∷ [] → r' ≡ r
    → standing h' ms r' ≡ with_entry (standing h ns r) w a (values_of ms)
next_standing h h' ns ms r r' w a d e =
    ap (λ (k : List (ℕ × Act)). record { history = k; states = values_of ms; failure = option_map failure_of r' }) d
    ∙ ap (λ (q : Option Recorded). record { history = map log_entry h ++ (w, a) ∷ []; states = values_of ms; failure = option_map failure_of q }) e

module _ (p : Prog) (h h' : List LogEntry) (ns ms : List Node) (r r' : Option Recorded) (w : ℕ) (a : Act) (x : Answer) (calm : option_map failure_of r ≡ None) where
  by_step : (s : Step) → OwnStep p w a ns (Some s) ms → attempt (tabled p) w a (standing h ns r) ≡ own_attempt w a (standing h ns r) None (step_of s (values_of ms))
  by_step s o = calm_attempt (tabled p) w a (standing h ns r) calm o.0 ∙ ap (own_attempt w a (standing h ns r) None) (sym o.1)

  to_answer : (y : Answer) (d : Standing (List Val)) → attempt (tabled p) w a (standing h ns r) ≡ (y, d) → x ≡ y → standing h' ms r' ≡ d → BoardAttempt (board_of p h ns r) w a x (board_of p h' ms r')
  to_answer y d e i k = attempted_by (board_of p h ns r) (board_of p h' ms r') w a x d (e ∙ ap (λ (z : Answer). (z, d)) (sym i)) k refl

  pub entered : (o : Option Step) → OwnStep p w a ns o ms → Enters (w, a) o h r x h' r' → BoardAttempt (board_of p h ns r) w a x (board_of p h' ms r')
  entered None o e = to_answer Answer.NotYours (standing h ns r) (foreign_attempt (tabled p) w a (standing h ns r) o.0 o.1) e.0 (same_standing h h' ns ms r r' e.1 o.2 e.2)
  entered (Some Step.NotAnAction) o e = to_answer Answer.NotAnAction (standing h ns r) (by_step Step.NotAnAction o) e.0 (same_standing h h' ns ms r r' e.1 o.2 e.2)
  entered (Some Step.NotEnabled) o e = to_answer Answer.NotEnabled (standing h ns r) (by_step Step.NotEnabled o) e.0 (same_standing h h' ns ms r r' e.1 o.2 e.2)
  entered (Some (Step.Fault c f)) o e =
      to_answer (Answer.Faulted c f) (with_failure (standing h ns r) w a c f) (by_step (Step.Fault c f) o) e.0 (faulted_standing h h' ns ms r r' w a c f e.1 o.2 e.2)
  entered (Some Step.Next) o e =
      to_answer (Answer.Committed (length (map log_entry h))) (with_entry (standing h ns r) w a (values_of ms)) (by_step Step.Next o)
      (e.0 ∙ ap Answer.Committed (sym (length-map h log_entry))) (next_standing h h' ns ms r r' w a e.1 e.2)

  module _ (board : IsBoard p ns (standing h ns r)) (types : types_of ms ≡ types_of ns) where
    kept : ms ≡ ns → h' ≡ h → r' ≡ r → IsBoard p ms (standing h' ms r')
    kept e d g = subst (IsBoard p ms) (sym (same_standing h h' ns ms r r' d e g)) (subst (λ (ks : List Node). IsBoard p ks (standing h ns r)) (sym e) board)

    pub board_entered : (o : Option Step) → OwnStep p w a ns o ms → Enters (w, a) o h r x h' r' → IsBoard p ms (standing h' ms r')
    board_entered None o e = kept o.2 e.1 e.2
    board_entered (Some Step.NotAnAction) o e = kept o.2 e.1 e.2
    board_entered (Some Step.NotEnabled) o e = kept o.2 e.1 e.2
    board_entered (Some (Step.Fault c f)) o e =
        let s : step (tabled p) a (values_of ns) ≡ fault c f = sym o.1 in
        let own : w ≡ worker (tabled p) a = o.0 (λ y. let q : fault c f ≡ not_an_action = sym s ∙ y in cc) in
        subst (IsBoard p ms) (sym (faulted_standing h h' ns ms r r' w a c f e.1 o.2 e.2))
        (record { types = types ∙ board.types; sound = record { legal = board.sound.legal; failure = (own, s) } })
    board_entered (Some Step.Next) o e =
        let s : step (tabled p) a (values_of ns) ≡ next (values_of ms) = sym o.1 in
        let own : w ≡ worker (tabled p) a = o.0 (λ y. let q : next (values_of ms) ≡ not_an_action = sym s ∙ y in cc) in
        subst (IsBoard p ms) (sym (next_standing h h' ns ms r r' w a e.1 e.2))
        (record {
          types = types ∙ board.types;
          sound = record {
            legal = legal_more (tabled p) (map log_entry h) (start_states p) (values_of ns) (values_of ms) w a board.sound.legal own s;
            failure = rw calm tt;
          };
        })
