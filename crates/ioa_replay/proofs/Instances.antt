-- What is said of every subject, said of a program's own table and of hosts.
use Rattle.std.proofs.Common.{ℕ, List, sym}
use Rattle.ioa_tree.specs.Hosts.{Hosted, hosts_of, host_starts}
use Rattle.ioa_tree.specs.Likes.{AllRelated}
use Rattle.ioa_tree.specs.Runs.{run}
use Rattle.ioa_compose.specs.Simulates.{SlotsHoldAt}
use Rattle.ioa_compile.specs.Programs.{Prog}
use Rattle.ioa_compile.specs.Subjects.{of_hosts, of_table}
use Rattle.ioa_compile.proofs.Subjects.{all_held, all_own}
use Rattle.ioa_system.specs.Systems.{values_of}
use Rattle.ioa_log.specs.declared.reading.Replayed.{Replayed}
use Rattle.ioa_log.specs.LogReadings.{IsLogReplayed}
use Rattle.ioa_log.specs.Readings.{IsReplayed}
use Rattle.ioa_replay.specs.ListReplays.{IsListReplayed}
use Rattle.ioa_replay.specs.LogReplays.{IsReplayedAs}

pub table_listed : (p : Prog) (bytes : List ℕ) (r : Replayed) → IsListReplayed p (of_table p) bytes r → IsReplayed p bytes r
table_listed p bytes r k = record { acts = k.acts; reads = k.reads; ending = k.ending; text = k.text; states = sym (all_own p p 0 _ _ k.states); types = k.types }

pub hosts_listed : (p : Prog) (h : Hosted) (bytes : List ℕ) (r : Replayed) (k : IsListReplayed p (of_hosts h) bytes r)
    → AllRelated (SlotsHoldAt h.hosts) 0 (run (hosts_of h) k.acts (host_starts h)).states (values_of r.states.items)
hosts_listed p h bytes r k = all_held p h 0 _ _ k.states

pub table_replayed : (p : Prog) (bytes : List ℕ) (r : Replayed) → IsReplayedAs p (of_table p) bytes r → IsLogReplayed p bytes r
table_replayed p bytes r k = record {
  log = k.log;
  reads = k.is_log.0;
  agreed = k.is_log.1;
  ending = k.ending;
  text = k.text;
  states = sym (all_own p p 0 _ _ k.states);
  types = k.types;
}
