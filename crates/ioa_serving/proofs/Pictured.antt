-- The chart of a log by a program is that by what the program runs as, and is made of the lines that are kept of each entry; and why no graph is written.
use Rattle.std.proofs.Common.{◌≡◌, ◌==◌, ◌&&◌, ℕ, ◌+◌, Bool, true, false, if◌then◌else◌, List, [], ◌∷◌, ◌++◌, drop, filter, length, map, not, take, Option, refl, sym, ap, ap₂, ◌∙◌}
use Rattle.std.specs.Io.KnownBytes.{Keeps}
use Rattle.std.specs.List.{flat_map}
use Rattle.std.proofs.Math.Seq.{drop-append_seam, take-append_seam}
use Rattle.std.proofs.lemmas.List.{flat_map_more, length-map}
use Rattle.ioa_value.specs.Actions.{Act, Name}
use Rattle.ioa_value.specs.Table.{Table}
use Rattle.ioa_value.specs.Written.{written_action}
use Rattle.ioa_tree.specs.Components.{Component}
use Rattle.ioa_tree.specs.Steps.{participants}
use Rattle.ioa_compile.specs.Programs.{Prog}
use Rattle.ioa_compile.specs.Subjects.{RunsAs, Subject, its_components, its_names, its_types}
use Rattle.ioa_compile.specs.Tables.{tabled}
use Rattle.ioa_compile.proofs.Subjects.{does_as, participants_as}
use Rattle.ioa_system.specs.Logs.{Logged}
use Rattle.ioa_picture.specs.Charts.{arrows_or_note, chart, drawn_lines, end_within, entry_lines, front, kept_lines, lines_within, names_of}
use Rattle.ioa_picture.specs.Lines.{numbered}
use Rattle.ioa_picture.specs.Selections.{Selection, is_drawn, is_left_out, is_within}
use Rattle.ioa_serving.specs.declared.failure.Failure.{Failure}
use Rattle.ioa_serving.specs.Failing.{IsRefusedGiven}
use Rattle.ioa_serving.specs.Pictures.{IsUngraphed, chart_by, framed}
use Rattle.ioa_serving.proofs.Hosted.{names_same}

-- components with the same participants have the same lines
module _ {S T : Type 0} (types : Table) (ps : List (Component S)) (qs : List (Component T)) (same : (a : Act) → participants ps a ≡ participants qs a) where
  entry_same : (selection : Selection) (n : ℕ) (e : ℕ × Act) → drawn_lines selection types ps n e ≡ drawn_lines selection types qs n e
  entry_same selection n e =
      ap (λ ns. if is_drawn selection n e.1.name then arrows_or_note e.0 (written_action types e.1) (filter (λ m. not (m == e.0)) ns) else []) (same e.1)

  lines_same : (selection : Selection) (n : ℕ) (es : List (ℕ × Act)) → numbered (drawn_lines selection types ps) n es ≡ numbered (drawn_lines selection types qs) n es
  lines_same selection n [] = refl
  lines_same selection n (e ∷ es) = ap₂ (λ ls rest. ls ++ rest) (entry_same selection n e) (lines_same selection (n + 1) es)

  pub chart_same : (selection : Selection) (names : List Name) (log : Logged) → chart selection types names ps log ≡ chart selection types names qs log
  chart_same selection names log =
      ap (λ ls. front names ++ (ls ++ end_within selection.to (length log.entries) log.ending)) (lines_same selection 0 log.entries)

pub charted_as : (selection : Selection) (p : Prog) (s : Subject) (log : Logged) → RunsAs p s
    → chart selection p.types (names_of p) (tabled p) log ≡ chart_by selection s log
charted_as selection p s log runs =
    ap₂ (λ ts ns. chart selection ts ns (tabled p) log) (does_as p s runs).types (names_same p s runs)
    ∙ chart_same (its_types s) (tabled p) (its_components s) (participants_as p s runs) selection (its_names s) log

-- ---- what is kept entry by entry

-- two texts in a row, of which the first ones are equally long
parted : (a b c d : List ℕ) → length a ≡ length b → a ++ c ≡ b ++ d → (a ≡ b) × (c ≡ d)
parted a b c d long e = (
  sym (take-append_seam a c) ∙ ap₂ take long e ∙ take-append_seam b d,
  sym (drop-append_seam a c) ∙ ap₂ drop long e ∙ drop-append_seam b d,
)

-- texts that are framed in a row are found again
pub framed_apart : {A : Type 0} (f : A → List ℕ) (xs : List (List ℕ)) (es : List A) → flat_map framed xs ≡ flat_map (λ e. framed (f e)) es → xs ≡ map f es
framed_apart f [] [] h = refl
framed_apart f [] (e ∷ es) h = absurd (cc)
framed_apart f (x ∷ xs) [] h = absurd (cc)
framed_apart f (x ∷ xs) (e ∷ es) h =
    let long : length x ≡ length (f e) = cc in
    let both : x ++ flat_map framed xs ≡ f e ++ flat_map (λ y. framed (f y)) es = cc in
    let parts = parted x (f e) (flat_map framed xs) (flat_map (λ y. framed (f y)) es) long both in
    ap₂ (λ y ys. y ∷ ys) parts.0 (framed_apart f xs es parts.1)

-- one more
pub framed_more : (old new : List (List ℕ)) (lines : List ℕ) → new ≡ old ++ lines ∷ [] → flat_map framed new ≡ flat_map framed old ++ framed lines
framed_more old new lines e = ap (flat_map framed) e ∙ sym (flat_map_more framed [] old lines)

-- what is within the bounds of what is not left out is what is drawn
within : (in_bounds left_out : Bool) (lines : List ℕ) → (if in_bounds then (if left_out then [] else lines) else []) ≡ (if in_bounds && not left_out then lines else [])
within false left_out lines = refl
within true false lines = refl
within true true lines = refl

module _ {S : Type 0} (selection : Selection) (types : Table) (ps : List (Component S)) where
  drawn_within : (n : ℕ) (es : List (ℕ × Act)) → numbered (lines_within selection.from selection.to) n (map (kept_lines selection.without types ps) es)
      ≡ numbered (drawn_lines selection types ps) n es
  drawn_within n [] = refl
  drawn_within n (e ∷ es) =
      ap₂ (λ ls rest. ls ++ rest) (within (is_within selection.from selection.to n) (is_left_out selection.without e.1.name) (entry_lines types ps e))
      (drawn_within (n + 1) es)

-- the text of the lines that are kept of each entry is the chart
pub drawn_as : (selection : Selection) (p : Prog) (s : Subject) (log : Logged) (kept : List (List ℕ)) → RunsAs p s
    → kept ≡ map (kept_lines selection.without p.types (tabled p)) log.entries
    → front (names_of p) ++ (numbered (lines_within selection.from selection.to) 0 kept ++ end_within selection.to (length kept) log.ending) ≡ chart_by selection s log
drawn_as selection p s log kept runs is =
    let lines = kept_lines selection.without p.types (tabled p) in
    ap (λ ks. front (names_of p) ++ (numbered (lines_within selection.from selection.to) 0 ks ++ end_within selection.to (length ks) log.ending)) is
    ∙ ap₂ (λ ls n. front (names_of p) ++ (ls ++ end_within selection.to n log.ending)) (drawn_within selection p.types (tabled p) 0 log.entries) (length-map log.entries lines)
    ∙ charted_as selection p s log runs

-- a file that gives nothing is why no graph is written
pub ungraphed : (text : List ℕ) (name : Option Name) (failed : Type 0) (before after : Option (List ℕ)) (e : Failure) → IsRefusedGiven text name e → Keeps before after
    → IsUngraphed text name failed before after e
ungraphed text name failed before after (Failure.Refused r) h k = (h, k)
ungraphed text name failed before after (Failure.Object e) h k = (h, k)
ungraphed text name failed before after Failure.SourceWanted h k = absurd h
ungraphed text name failed before after (Failure.List e) h k = absurd h
ungraphed text name failed before after Failure.SpecHasInternal h k = absurd h
ungraphed text name failed before after (Failure.BadWords n) h k = absurd h
ungraphed text name failed before after Failure.TooManyTurns h k = absurd h
ungraphed text name failed before after (Failure.BadInput i) h k = absurd h
ungraphed text name failed before after Failure.Threads h k = absurd h
ungraphed text name failed before after (Failure.BadLog i) h k = absurd h
ungraphed text name failed before after Failure.EndedByFault h k = absurd h
ungraphed text name failed before after (Failure.RunLog e) h k = absurd h
ungraphed text name failed before after Failure.Io h k = absurd h
ungraphed text name failed before after Failure.OutOfMemory h k = k
