-- A replay of a list, said of whatever the program runs as.
use Rattle.std.proofs.Common.{ℕ, List, take, Option, sym, ◌∙◌, subst}
use Rattle.std.specs.String.{string_bytes}
use Rattle.std.specs.Io.KnownBytes.{Appends}
use Rattle.ioa_value.specs.Lists.{ReadsList}
use Rattle.ioa_tree.specs.Likes.{AllRelated}
use Rattle.ioa_tree.specs.Runs.{run}
use Rattle.ioa_compile.specs.Programs.{Prog}
use Rattle.ioa_compile.specs.Subjects.{InSlots, RunsAs, Subject, its_components, its_starts}
use Rattle.ioa_compile.proofs.Subjects.{does_as, run_as}
use Rattle.ioa_system.specs.Outcomes.{ending_of}
use Rattle.ioa_log.specs.declared.reading.Replayed.{Replayed}
use Rattle.ioa_log.specs.Readings.{IsReplayed}
use Rattle.ioa_log.proofs.AgreeingLogs.{text_as}
use Rattle.ioa_replay.specs.ListReplays.{BeginsReplay, IsListReplayed, Replays}

pub list_replayed_as : (p : Prog) (s : Subject) → RunsAs p s → (bytes : List ℕ) (x : Replayed) → IsReplayed p bytes x → IsListReplayed p s bytes x
list_replayed_as p s runs bytes x k =
    let r = run_as p s runs k.acts in
    record {
      acts = k.acts;
      reads = subst (λ ts. ReadsList ts bytes k.acts) (does_as p s runs).types k.reads;
      ending = k.ending ∙ sym r.ending;
      text = k.text ∙ text_as p s runs k.acts;
      states = subst (λ vss. AllRelated (InSlots p s) 0 (run (its_components s) k.acts (its_starts s)).states vss) (sym k.states) r.states;
      types = k.types;
    }

-- what is written of it
module _ (p : Prog) (s : Subject) (bytes : List ℕ) (x : Replayed) (before after : Option (List ℕ)) (k : IsListReplayed p s bytes x) where
  pub list_written : Appends before after (string_bytes x.text) → Replays s bytes (ending_of x.end) before after
  list_written a = (k.acts, k.reads, k.ending, subst (λ bs. Appends before after bs) k.text a)

  pub list_begun : (n : ℕ) → Appends before after (take n (string_bytes x.text)) → BeginsReplay s bytes before after
  list_begun n a = (k.acts, k.reads, (n, subst (λ bs. Appends before after (take n bs)) k.text a))
