-- What is said of every subject, said of tables, of compositions and of hosts.
use Rattle.std.proofs.Common.{List, []}
use Rattle.ioa_value.specs.Plain.{Val}
use Rattle.ioa_tree.specs.Components.{Component}
use Rattle.ioa_tree.specs.Compositions.{Composed}
use Rattle.ioa_tree.specs.Hosts.{HostState, Hosted}
use Rattle.ioa_tree.specs.Meaning.{Env}
use Rattle.ioa_compile.specs.Programs.{Prog}
use Rattle.ioa_compile.specs.Subjects.{State, Subject, of_composition, of_hosts, of_table}
use Rattle.ioa_device.specs.declared.failure.LogErr.{LogErr}
use Rattle.ioa_log.specs.Judging.{IsReplayErr, TellsVerdict, Verdict}

-- ---- errors

-- a verdict is told by no other error
pub replay_error : (e : LogErr) (v : Verdict) → TellsVerdict e v → IsReplayErr e
replay_error (LogErr.NotJson n) v t = t
replay_error (LogErr.BadEntry n) v t = t
replay_error (LogErr.WrongOwner n) v t = tt
replay_error (LogErr.Diverges n) v t = tt
replay_error LogErr.NoEnd v t = t
replay_error LogErr.AfterEnd v t = t
replay_error LogErr.Io v t = t
replay_error LogErr.OutOfMemory v t = tt

-- ---- laws

-- a law of the components and the states of subjects is one of tables', of compositions' and of hosts'
module _ (P : (S : Type 0) → List (Component S) → List S → Type 0) (law : (s : Subject) (ps : List (Component (State s))) (ss : List (State s)) → P (State s) ps ss) where
  no_table : Prog
  no_table = record { types = []; name = []; members = []; hidden = [] }

  no_composition : Composed
  no_composition = record { types = []; name = []; members = []; hidden = []; invariants = [] }

  no_hosts : Hosted
  no_hosts = record { types = []; name = []; hosts = []; hidden = []; invariants = [] }

  pub of_tables : (ps : List (Component (List Val))) (ss : List (List Val)) → P (List Val) ps ss
  of_tables ps ss = law (of_table no_table) ps ss

  pub of_compositions : (ps : List (Component Env)) (ss : List Env) → P Env ps ss
  of_compositions ps ss = law (of_composition no_composition) ps ss

  pub of_all_hosts : (ps : List (Component (HostState Env))) (ss : List (HostState Env)) → P (HostState Env) ps ss
  of_all_hosts ps ss = law (of_hosts no_hosts) ps ss
