-- What a program runs as goes on from the logs from which the program does, and refuses the others alike.
use Rattle.std.proofs.Common.{◌≡◌, ℕ, List, Result, Ok, Err, refl}
use Rattle.ioa_value.specs.Plain.{Val}
use Rattle.ioa_compile.specs.Programs.{Prog}
use Rattle.ioa_compile.specs.Subjects.{InSlots, RunsAs, State, Subject, its_components, its_starts}
use Rattle.ioa_compile.specs.Tables.{start_states, tabled}
use Rattle.ioa_system.specs.Logs.{Logged}
use Rattle.ioa_board.specs.Boards.{Standing}
use Rattle.ioa_board.specs.Resuming.{resumption}
use Rattle.ioa_run.specs.Subjects.{ResumedLike}
use Rattle.ioa_board.specs.declared.run_err.RunErr.{RunErr}
use Rattle.ioa_run.proofs.Subjects.{same_resumption}
use Rattle.ioa_serving.specs.Resuming.{IsResumable}

module _ {S T E : Type 0} (R : ℕ → S → T → Type 0) where
  left_ok : (r : Result (Standing S) E) (q : Result (Standing T) E) (b : Standing T) → ResumedLike R r q → q ≡ Ok b → (d : Standing S) × (r ≡ Ok d)
  left_ok (Ok d) (Ok c) b l e = (d, refl)
  left_ok (Ok d) (Err x) b l e = absurd l
  left_ok (Err y) (Ok c) b l e = absurd l
  left_ok (Err y) (Err x) b l e = absurd (cc)

  right_ok : (r : Result (Standing S) E) (q : Result (Standing T) E) (d : Standing S) → ResumedLike R r q → r ≡ Ok d → (b : Standing T) × (q ≡ Ok b)
  right_ok (Ok c) (Ok b) d l e = (b, refl)
  right_ok (Ok c) (Err x) d l e = absurd l
  right_ok (Err y) (Ok c) d l e = absurd l
  right_ok (Err y) (Err x) d l e = absurd (cc)

  left_err : (r : Result (Standing S) E) (q : Result (Standing T) E) (e : E) → ResumedLike R r q → q ≡ Err e → r ≡ Err e
  left_err (Ok d) (Ok c) e l k = absurd (cc)
  left_err (Ok d) (Err x) e l k = absurd l
  left_err (Err y) (Ok c) e l k = absurd l
  left_err (Err y) (Err x) e l k = let m : y ≡ x = l in cc

  right_err : (r : Result (Standing S) E) (q : Result (Standing T) E) (e : E) → ResumedLike R r q → r ≡ Err e → q ≡ Err e
  right_err (Ok d) (Ok c) e l k = absurd (cc)
  right_err (Ok d) (Err x) e l k = absurd l
  right_err (Err y) (Ok c) e l k = absurd l
  right_err (Err y) (Err x) e l k = let m : y ≡ x = l in cc

-- ---- the program and what it runs as

module _ (p : Prog) (x : Subject) (runs : RunsAs p x) (log : Logged) where
  pub resumed_as : (b : Standing (List Val)) → resumption (tabled p) (start_states p) log ≡ Ok b → IsResumable x log
  resumed_as b e = left_ok (InSlots p x) (resumption (its_components x) (its_starts x) log) (resumption (tabled p) (start_states p) log) b (same_resumption p x log runs) e

  pub table_resumed : (d : Standing (State x)) → resumption (its_components x) (its_starts x) log ≡ Ok d → (b : Standing (List Val)) × (resumption (tabled p) (start_states p) log ≡ Ok b)
  table_resumed d e = right_ok (InSlots p x) (resumption (its_components x) (its_starts x) log) (resumption (tabled p) (start_states p) log) d (same_resumption p x log runs) e

  pub refused_as : (e : RunErr) → resumption (tabled p) (start_states p) log ≡ Err e → resumption (its_components x) (its_starts x) log ≡ Err e
  refused_as e k = left_err (InSlots p x) (resumption (its_components x) (its_starts x) log) (resumption (tabled p) (start_states p) log) e (same_resumption p x log runs) k

  pub table_refuses : (e : RunErr) → resumption (its_components x) (its_starts x) log ≡ Err e → resumption (tabled p) (start_states p) log ≡ Err e
  table_refuses e k = right_err (InSlots p x) (resumption (its_components x) (its_starts x) log) (resumption (tabled p) (start_states p) log) e (same_resumption p x log runs) k
