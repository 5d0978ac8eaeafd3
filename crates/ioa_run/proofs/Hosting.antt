-- What a program's workers do is what hosts do, which its composition simulates.
use Rattle.std.proofs.Common.{ℕ, List}
use Rattle.ioa_value.specs.Actions.{Act}
use Rattle.ioa_value.specs.Plain.{Val}
use Rattle.ioa_tree.specs.Compositions.{Composed}
use Rattle.ioa_tree.specs.Hosts.{HostState, Hosted, host_starts, hosts_of}
use Rattle.ioa_tree.specs.Meaning.{Env}
use Rattle.ioa_tree.specs.Proposing.{Words}
use Rattle.ioa_compose.specs.Simulates.{Simulates}
use Rattle.ioa_compile.specs.Implements.{Implements}
use Rattle.ioa_compile.specs.Programs.{Prog}
use Rattle.ioa_compile.specs.Subjects.{of_hosts, of_table}
use Rattle.ioa_compile.specs.Tables.{IsProgram, start_states, tabled}
use Rattle.ioa_system.specs.Logs.{Logged}
use Rattle.ioa_run.specs.Alone.{IsAloneFrom, turns_since}
use Rattle.ioa_board.specs.Boards.{IsSound, Standing}
use Rattle.ioa_run.specs.Hosts.{Held}
use Rattle.ioa_board.specs.Resuming.{resumption}
use Rattle.ioa_run.specs.Subjects.{AreResumed, BoardsLike, IsAloneAs, ResumedLike, TurnsLike}
use Rattle.ioa_board.specs.declared.outcome.Outcome.{Outcome}
use Rattle.ioa_run.proofs.Subjects as of_any
use Rattle.ioa_run.proofs.Subjects.{same_alone, same_resumption, same_turns, subject_history}

-- the program resumes a log just where the hosts do, or both refuse it alike
pub host_resumption : (p : Prog) (h : Hosted) (c : Composed) (log : Logged) → Simulates h c → Implements p c
    → ResumedLike (Held h p) (resumption (hosts_of h) (host_starts h) log) (resumption (tabled p) (start_states p) log)
host_resumption p h c log s m = same_resumption p (of_hosts h) log (c, s, m)

pub host_turns : (p : Prog) (h : Hosted) (c : Composed) (log : Logged) (d : Standing (HostState Env)) (b : Standing (List Val)) (words : List Words) (inputs : List Act) (turns : ℕ)
    → IsProgram p → Simulates h c → Implements p c → AreResumed p (of_hosts h) log d b
    → TurnsLike (Held h p) (turns_since (of_hosts h) d words inputs turns) (turns_since (of_table p) b words inputs turns)
host_turns p h c log d b words inputs turns program s m r = same_turns p (of_hosts h) log d b words inputs turns program (c, s, m) r

pub host_alone : (p : Prog) (h : Hosted) (c : Composed) (log : Logged) (d : Standing (HostState Env)) (b : Standing (List Val)) (words : List Words) (inputs : List Act) (turns : ℕ)
    (o : Outcome) → IsProgram p → Simulates h c → Implements p c → AreResumed p (of_hosts h) log d b → IsAloneFrom p b words inputs turns o → IsAloneAs p (of_hosts h) d words inputs turns o
host_alone p h c log d b words inputs turns o program s m r a = same_alone p (of_hosts h) log d b words inputs turns o program (c, s, m) r a

pub host_history : (p : Prog) (h : Hosted) (c : Composed) (b : Standing (List Val)) → Simulates h c → Implements p c → IsSound (tabled p) (start_states p) b
    → (d : Standing (HostState Env)) × IsSound (hosts_of h) (host_starts h) d × BoardsLike (Held h p) d b
host_history p h c b s m k = subject_history p (of_hosts h) b (c, s, m) k

pub program_history : (p : Prog) (h : Hosted) (c : Composed) (d : Standing (HostState Env)) → Simulates h c → Implements p c → IsSound (hosts_of h) (host_starts h) d
    → (b : Standing (List Val)) × IsSound (tabled p) (start_states p) b × BoardsLike (Held h p) d b
program_history p h c d s m k = of_any.program_history p (of_hosts h) d (c, s, m) k
