-- Texts of replays as objects, line by line, and what runs are told in them.
use Rattle.std.proofs.Common.{◌≡◌, ◌<◌, ◌++◌, ◌∷◌, [], ℕ, List, true, length, sym, ap, ap₂, ◌∙◌, append_assoc, append-nil}
use Rattle.ioa_value.specs.Lists.{after_line, first_line, lines}
use Rattle.ioa_value.proofs.ListLemmas.{cut_lines}
use Rattle.ioa_compile.specs.Programs.{Prog}
use Rattle.ioa_compile.specs.Subjects.{Subject}
use Rattle.ioa_system.specs.Outcomes.{ending_of}
use Rattle.ioa_replay.specs.LogReplays.{IsReplayedAs}
use Rattle.ioa_replay.specs.ListReplays.{IsListReplayed}
use Rattle.ioa_log.specs.declared.reading.Replayed.{Replayed}
use Rattle.ioa_serving.specs.declared.replay_objects.Told.{Told}
use Rattle.ioa_serving.specs.Objects.{IsListTold, IsLogTold, act_objects, object_before, objects_of, rendered}

-- one line more
pub act_put : (rest line after so_far all new : List ℕ) → 0 < length rest → line ≡ first_line rest → after ≡ after_line rest
    → so_far ++ act_objects (lines rest) ≡ all → new ≡ so_far ++ object_before (lines after) line → new ++ act_objects (lines after) ≡ all
act_put rest line after so_far all new long first others so e =
    let parted : line ∷ lines after ≡ lines rest =
    ap (λ l. l ∷ lines after) first ∙ ap (λ r. first_line rest ∷ lines r) others ∙ sym (cut_lines rest long) in
    ap (λ xs. xs ++ act_objects (lines after)) e ∙ append_assoc so_far (object_before (lines after) line) (act_objects (lines after))
    ∙ ap (λ xs. so_far ++ xs) (ap act_objects parted) ∙ so

-- no line more
pub acts_put : (rest so_far all : List ℕ) → rest ≡ [] → so_far ++ act_objects (lines rest) ≡ all → so_far ≡ all
acts_put rest so_far all none so = sym (append-nil so_far) ∙ ap (λ r. so_far ++ act_objects (lines r)) (sym none) ∙ so

-- a line is the last one where nothing follows it
pub put_last : (old after line : List ℕ) → after ≡ [] → old ≡ old ++ object_before (lines after) line
put_last old after line none = sym (append-nil old) ∙ ap (λ r. old ++ object_before (lines r) line) (sym none)

pub put_another : (old after line new : List ℕ) → 0 < length after → new ≡ old ++ object_before (first_line after ∷ lines (after_line after)) line
    → new ≡ old ++ object_before (lines after) line
put_another old after line new some e = e ∙ ap (λ ls. old ++ object_before ls line) (sym (cut_lines after some))

-- ---- runs

module _ (p : Prog) (s : Subject) (bytes : List ℕ) (r : Replayed) (t : Told) where
  pub list_told : IsListReplayed p s bytes r → t.end ≡ r.end → t.objects.items ≡ objects_of r → IsListTold s bytes t
  list_told k end made = record {
    acts = k.acts;
    reads = k.reads;
    ending = ap ending_of end ∙ k.ending;
    text = made ∙ ap₂ (rendered true) k.text k.ending;
  }

  pub log_told : IsReplayedAs p s bytes r → t.end ≡ r.end → t.objects.items ≡ objects_of r → IsLogTold s bytes t
  log_told k end made = record {
    log = k.log;
    is_log = k.is_log;
    ending = ap ending_of end ∙ k.ending;
    text = made ∙ ap₂ (rendered true) k.text k.ending;
  }
