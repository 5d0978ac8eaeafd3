-- Which local entry a word picks, and what its proposal gives.
use Rattle.std.proofs.Common.{◌≡◌, ℕ, ◌+◌, ◌<◌, List, length, map, get_or, Option, None, Some, sym, ◌∙◌, ap, arith}
use Rattle.std.proofs.lemmas.List.{length-map}
use Rattle.std.specs.Prelude.{slice_get, ◌%◌, ◌≢◌}
use Rattle.std.specs.Option.{option_map, option_map_or}
use Rattle.std.proofs.lemmas.Nat.{mod_below}
use Rattle.std.proofs.lemmas.Option.{same_Some, slice_get_past}
use mathlib.Core.Path.{fun_ext}
use Rattle.ioa_value.specs.Plain.{Val}
use Rattle.ioa_value.proofs.ItemLemmas.{at_map, image_at}
use Rattle.ioa_value.specs.Actions.{Act}
use Rattle.ioa_code.specs.Valid.{Part}
use Rattle.ioa_parts.specs.Proposals.{Left, proposal_of, words_of}
use Rattle.ioa_tree.specs.Proposing.{Words, idle}
use Rattle.ioa_compile.specs.Programs.{EntryCode}
use Rattle.ioa_compile.specs.Shown.{entry_code}
use Rattle.ioa_compile.specs.declared.table.Entry.{Entry}
use Rattle.ioa_run.specs.Choices.{Chooses, GivesAction}
use Rattle.ioa_run.specs.Locals.{code_of}
use Rattle.ioa_run.specs.Proposers.{action_with, by_code, local_entries, tried}
use Rattle.ioa_run.specs.Tallies.{IsPick, lost_by}
use Rattle.ioa_run.specs.Turns.{Proposer, after}
use Rattle.ioa_run.specs.declared.locals.Local.{Local}
use Rattle.ioa_run.specs.declared.tally.Pick.{Pick}

-- ---- local entries

abbrev pub local_in : List Entry → List EntryCode
local_in es = local_entries (map entry_code es)

-- ---- what is chosen

after_after : (k : ℕ) (words : Words) → after k (after 1 words) ≡ after (1 + k) words
after_after k words = fun_ext (λ j. ap words (omega arith))

pub one_after : (words rest : Words) → ((k : ℕ) → rest k ≡ words (k + 1)) → rest ≡ after 1 words
one_after words rest h = fun_ext h

-- the entry's code gives these values or none
pub gives_by : (e : EntryCode) (part : Part) (s : List Val) (words rest : Words) (r : Option (List Val)) → e.propose ≡ Some part → r ≡ proposal_of part s words
    → Left (words_of part s words) words rest → GivesAction e s words (option_map (action_with e) r) rest
gives_by e part s words rest r p g l = record {
  taken = words_of part s words;
  gives = λ earlier n h.
      ap (λ o. by_code e o s earlier n) p
      ∙ ap (λ w. tried (option_map (action_with e) (proposal_of part s w)) (n + words_of part s w)) h
      ∙ ap (λ o. tried (option_map (action_with e) o) (n + words_of part s words)) (sym g);
  left = fun_ext l;
}

-- the entry that a word picks
pub chosen_by : (es : List EntryCode) (s : List Val) (words mid rest : Words) (number : ℕ) (e : EntryCode) (a : Option Act) → number ≡ words 0 % length es
    → slice_get es number ≡ Some e → mid ≡ after 1 words → GivesAction e s mid a rest → Chooses es s words a rest
chosen_by es s words mid rest number e a n g m h =
    let code : EntryCode → Proposer (List Val) = λ d. by_code d d.propose in
    let there : slice_get (map code es) (words 0 % length (map code es)) ≡ Some (code e) =
    ap (λ k. slice_get (map code es) (words 0 % k)) (length-map es code) ∙ ap (slice_get (map code es)) (sym n) ∙ image_at code es number e g in
    record {
      taken = 1 + h.taken;
      chooses = ap (λ o. option_map_or (λ f. f s words 1) o (idle 0)) there ∙ h.gives words 1 (sym m);
      left = h.left ∙ ap (after h.taken) m ∙ after_after h.taken words;
    }

-- without local entries nothing is chosen
pub none_chosen : (es : List EntryCode) (s : List Val) (words : Words) → length es ≡ 0 → Chooses es s words None words
none_chosen es s words l =
    let code : EntryCode → Proposer (List Val) = λ d. by_code d d.propose in
    record {
      taken = 0;
      chooses = ap (λ o. option_map_or (λ f. f s words 1) o (idle 0)) (slice_get_past (map code es) (words 0 % length (map code es)) (omega (arith, length-map es code, l)));
      left = fun_ext (λ k. ap words (omega arith));
    }

-- ---- which entry is picked

-- it is among those that there are
pub within : (ls : List Local) (w : ℕ) → length ls ≢ 0 → w % length ls < length ls
within ls w some = mod_below w (length ls) (omega (arith, some))

pub picked_there : (ls : List Local) (w : ℕ) (l : Local) → length ls ≢ 0 → l ≡ get_or ls (w % length ls) l → slice_get (map code_of ls) (w % length ls) ≡ Some (code_of l)
picked_there ls w l some is = at_map code_of ls (w % length ls) l (within ls w some) is

-- by the first word
pub picked_by : (ls : List Local) (words : Words) (w : ℕ) → w ≡ words 0 → w % length ls ≡ words 0 % length (map code_of ls)
picked_by ls words w is = ap (λ x. x % length ls) is ∙ ap (λ k. words 0 % k) (sym (length-map ls code_of))

pub picks_by : (es : List EntryCode) (s : List Val) (words mid : Words) (number : ℕ) (e : EntryCode) (k : Pick) → number ≡ words 0 % length es
    → slice_get es number ≡ Some e → mid ≡ after 1 words → k.word ≡ words 0 → k.lost ≡ lost_by e.propose s mid → IsPick es s words k
picks_by es s words mid number e k n here m word lost = record {
  word = λ some. word;
  lost = λ d there.
      let at : slice_get es number ≡ Some d = ap (slice_get es) n ∙ there in
      let same : e ≡ d = same_Some e d (sym here ∙ at) in
      lost ∙ ap (lost_by e.propose s) m ∙ ap (λ (x : EntryCode). lost_by x.propose s (after 1 words)) same;
}

-- without local entries there is nothing to pick
pub none_picked : (es : List EntryCode) (s : List Val) (words : Words) (k : Pick) → length es ≡ 0 → IsPick es s words k
none_picked es s words k none = record {
  word = λ some. absurd (some none);
  lost = λ d there.
      let past = slice_get_past es (words 0 % length es) (omega (arith, none)) in
      let q : Some d ≡ None = sym there ∙ past in
      absurd (cc);
}
