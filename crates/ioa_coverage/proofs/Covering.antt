-- All that is counted of runs, before any, with one more, and as it is told.
use Rattle.std.proofs.Common.{◌≡◌, ◌==◌, ◌+◌, ◌++◌, ◌∷◌, ◌<◌, ℕ, zero, suc, All, List, [], Option, Some, None, ap, ap₂, append_assoc, arith, get_or, length, map, refl, subst, sym, ◌∙◌}
use Rattle.std.specs.Prelude.{count_by, slice_get}
use Rattle.std.specs.List.{AllZip, flat_map}
use Rattle.std.specs.String.{string_bytes}
use Rattle.std.proofs.lemmas.List.{flat_map_more, length-replicate, map-append}
use Rattle.std.proofs.lemmas.Simd.{map-map}
use Rattle.std.proofs.lemmas.List.Elements.{All-head, All-nil, All-cons, All-tail}
use Rattle.ioa_value.specs.Actions.{Act}
use Rattle.ioa_value.specs.Table.{Table}
use Rattle.ioa_tree.specs.Compositions.{Member}
use Rattle.ioa_tree.specs.Hosts.{Host, Hosted}
use Rattle.ioa_tree.specs.Instances.{Instance}
use Rattle.ioa_tree.specs.Tree.{EntryTree, SourceTree}
use Rattle.ioa_tree.specs.Types.{types_of}
use Rattle.ioa_tree.specs.View.{tree_of}
use Rattle.ioa_crash.specs.Rewriting.{with_signals}
use Rattle.ioa_compose.specs.Held.{composed_of}
use Rattle.ioa_compose.specs.Simulates.{IsMadeOf}
use Rattle.ioa_compile.specs.Matching.{MatchesEntry, MatchesMember}
use Rattle.ioa_compile.specs.Programs.{EntryCode, MemberCode, Prog}
use Rattle.ioa_compile.specs.Subjects.{RunsAs, Subject, of_composition, of_hosts, of_table}
use Rattle.ioa_compile.specs.Tables.{AreMembers, IsProgram}
use Rattle.ioa_coverage.specs.declared.coverage.Coverage.{Coverage}
use Rattle.ioa_coverage.specs.declared.coverage.Row.{Row}
use Rattle.ioa_coverage.specs.declared.effect.Effect.{Effect}
use Rattle.ioa_coverage.specs.declared.origin.Origin.{Origin}
use Rattle.ioa_coverage.specs.Counts.{told_row}
use Rattle.ioa_coverage.specs.Covered.{IsOriginOf, its_coverage}
use Rattle.ioa_coverage.specs.Effects.{CoversAll, EntryEffect, HasPlaces, IsFine, MayTake, TakesAll, counts_by, counts_of, effect_of, effects_in, entry_effect, entry_effects, none_taken, rows_of_counts, taken_by_run, taken_by_runs, told_effect, told_rows}
use Rattle.ioa_coverage.specs.Following.{with_marks}
use Rattle.ioa_coverage.specs.Performed.{Counted, all_of, counted_in, counted_table, of_entry, of_host}
use Rattle.ioa_coverage.specs.Taken.{Told, all_taken_text, effect_for, effect_labels, places_in, row_of_entry, row_of_place, rows_of_entry, rows_of_hosts, rows_of_places, taken_in_run, taken_in_runs, times_taken, told_of}
use Rattle.ioa_coverage.proofs.Adding.{all_told}
use Rattle.ioa_coverage.proofs.Hosting.{coverage_is_the_hosts}
use Rattle.ioa_coverage.proofs.Labelled.{labels_long}
use Rattle.ioa_coverage.proofs.Marked.{marks_joined, marks_keep, zeros_count}
use Rattle.ioa_coverage.proofs.Simulated.{HaveSame, all_effects, all_may, effects_are, host_effects, run_same, same_actions}

-- ---- with one run more

pub runs_more : (runs : List (List Act)) (acts : List Act) → all_of (runs ++ acts ∷ []) ≡ all_of runs ++ acts
runs_more runs acts = sym (flat_map_more (λ (r : List Act). r) [] runs acts)

counts_more : (p : Prog) (runs : List (List Act)) (acts : List Act) (e : EntryEffect) → with_marks (counts_by p runs e) (taken_by_run p e acts) ≡ counts_by p (runs ++ acts ∷ []) e
counts_more p runs acts e =
    sym (marks_joined (none_taken e) (taken_by_runs p runs e) (taken_by_run p e acts)) ∙ ap (with_marks (none_taken e)) (flat_map_more (taken_by_run p e) [] runs acts)

-- what each effect's counts are, with what this run takes
taken_more : (p : Prog) (runs : List (List Act)) (acts : List Act) (xs : List Effect) → map counts_of xs ≡ map (counts_by p runs) (map effect_of xs)
    → map (λ x. with_marks (counts_of x) (taken_by_run p (effect_of x) acts)) xs ≡ map (counts_by p (runs ++ acts ∷ [])) (map effect_of xs)
taken_more p runs acts [] h = refl
taken_more p runs acts (x ∷ xs) h =
    let first : counts_of x ≡ counts_by p runs (effect_of x) = cc in
    let rest : map counts_of xs ≡ map (counts_by p runs) (map effect_of xs) = cc in
    ap₂ (λ (n : List ℕ) (ns : List (List ℕ)). n ∷ ns) (ap (λ (cs : List ℕ). with_marks cs (taken_by_run p (effect_of x) acts)) first ∙ counts_more p runs acts (effect_of x))
    (taken_more p runs acts xs rest)

pub takes_more : (p : Prog) (es : List EntryEffect) (runs : List (List Act)) (acts : List Act) (xs ys : List Effect) → TakesAll p es runs xs → map effect_of ys ≡ map effect_of xs
    → All HasPlaces ys → map counts_of ys ≡ map (λ x. with_marks (counts_of x) (taken_by_run p (effect_of x) acts)) xs → TakesAll p es (runs ++ acts ∷ []) ys
takes_more p es runs acts xs ys h effects places counts = record {
  effects = effects ∙ h.effects;
  places = places;
  counts =
      counts ∙ taken_more p runs acts xs (h.counts ∙ ap (map (counts_by p runs)) (sym h.effects))
      ∙ ap (map (counts_by p (runs ++ acts ∷ []))) h.effects;
}

pub takes_none : (p : Prog) (es : List EntryEffect) (xs : List Effect) → map effect_of xs ≡ es → All HasPlaces xs → map counts_of xs ≡ map none_taken (map effect_of xs) → TakesAll p es [] xs
takes_none p es xs effects places none = record { effects = effects; places = places; counts = none ∙ ap (map none_taken) effects }

-- ---- as it is told, of entries alone

pub rows_alone : (rs : List Row) → told_rows rs [] ≡ map row_of_entry (map told_row rs)
rows_alone [] = refl
rows_alone (r ∷ rs) = ap (λ xs. row_of_entry (told_row r) ∷ xs) (rows_alone rs)

-- ---- as it is told, with arms and bodies

-- what an effect's arms and bodies are called, and their counts
abbrev Places : Type 0
Places = List (List ℕ) × List ℕ

abbrev told_places : List Counted → List Places → List Told
told_places [] ds = []
told_places (c ∷ cs) [] = row_of_entry c ∷ told_places cs []
told_places (c ∷ cs) (d ∷ ds) = row_of_entry c ∷ (rows_of_counts c.component c.entry d.0 d.1 ++ told_places cs ds)

abbrev places_of : Effect → Places
places_of x = (map string_bytes x.labels.items, x.taken.items)

abbrev places_by : Prog → List (List Act) → EntryEffect → Places
places_by p runs e = (effect_labels e.statements, counts_by p runs e)

rows_are : (rs : List Row) (xs : List Effect) → told_rows rs xs ≡ told_places (map told_row rs) (map places_of xs)
rows_are [] xs = refl
rows_are (r ∷ rs) [] = ap (λ ys. row_of_entry (told_row r) ∷ ys) (rows_are rs [])
rows_are (r ∷ rs) (x ∷ xs) = ap (λ ys. row_of_entry (told_row r) ∷ (told_effect r x ++ ys)) (rows_are rs xs)

places_are : (p : Prog) (runs : List (List Act)) (xs : List Effect) → All HasPlaces xs → map counts_of xs ≡ map (counts_by p runs) (map effect_of xs)
    → map places_of xs ≡ map (places_by p runs) (map effect_of xs)
places_are p runs [] places h = refl
places_are p runs (x ∷ xs) places h =
    let first : counts_of x ≡ counts_by p runs (effect_of x) = cc in
    let rest : map counts_of xs ≡ map (counts_by p runs) (map effect_of xs) = cc in
    ap₂ (λ (d : Places) (ds : List Places). d ∷ ds) (ap₂ (λ (ls : List (List ℕ)) (ns : List ℕ). (ls, ns)) (All-head HasPlaces x xs places).0 first)
    (places_are p runs xs (All-tail HasPlaces x xs places) rest)

-- the counts of an entry's arms and bodies, from a number on
counted_places : (h : Hosted) (runs : List (List Act)) (i : ℕ) (p : Host) (e : EntryTree) (k : ℕ) (labels : List (List ℕ)) (ns : List ℕ) → length ns ≡ length labels
    → ((j : ℕ) → j < length ns → get_or ns j 0 ≡ times_taken h runs i p e (k + j)) → rows_of_counts p.name e.name labels ns ≡ rows_of_places h runs i p e k labels
counted_places h runs i p e k [] [] long each = refl
counted_places h runs i p e k [] (n ∷ ns) long each = absurd (cc)
counted_places h runs i p e k (l ∷ ls) [] long each = absurd (cc)
counted_places h runs i p e k (l ∷ ls) (n ∷ ns) long each =
    let rest : length ns ≡ length ls = cc in
    let here : n ≡ times_taken h runs i p e k = each zero (omega arith) ∙ ap (times_taken h runs i p e) (let z : k + zero ≡ k = omega arith in z) in
    ap₂ (λ x xs. x ∷ xs) (ap (row_of_place p.name e.name l) here)
    (counted_places h runs i p e (k + 1) ls ns rest
    (λ j lt. each (suc j) (omega (arith, lt)) ∙ ap (times_taken h runs i p e) (let z : k + suc j ≡ k + 1 + j = omega arith in z)))

module _ (q : Prog) (h : Hosted) (runs : RunsAs q (of_hosts h)) (done : List (List Act)) where
  module _ (n : ℕ) (p : Host) (m : MemberCode) (at : slice_get h.hosts n ≡ Some p) (there : slice_get q.members n ≡ Some m) where
    taken_same : (e : EntryTree) (c : EntryCode) → HaveSame p m e c → taken_by_runs q done (entry_effect n m p.instance e c) ≡ taken_in_runs h n p e done
    taken_same e c same = go done
      where
        go : (rs : List (List Act)) → flat_map (taken_by_run q (entry_effect n m p.instance e c)) rs ≡ flat_map (taken_in_run h n p e) rs
        go [] = refl
        go (r ∷ rs) = ap₂ (λ (x y : List ℕ). x ++ y) (run_same q h runs n p m at there e c same r) (go rs)

    entry_told : (e : EntryTree) (c : EntryCode) → HaveSame p m e c
        → rows_of_counts p.name e.name (effect_labels (effect_for p e)) (counts_by q done (entry_effect n m p.instance e c)) ≡ rows_of_places h done n p e 0 (effect_labels (effect_for p e))
    entry_told e c same =
        let x = entry_effect n m p.instance e c in
        let long : length (counts_by q done x) ≡ places_in (effect_for p e) = marks_keep (none_taken x) (taken_by_runs q done x) ∙ length-replicate (places_in (effect_for p e)) 0 in
        counted_places h done n p e 0 (effect_labels (effect_for p e)) (counts_by q done x) (long ∙ sym (labels_long (effect_for p e)))
        (λ j lt. zeros_count (places_in (effect_for p e)) (taken_by_runs q done x) j (subst (λ (l : ℕ). j < l) long lt)
        ∙ ap (λ (ms : List ℕ). count_by (λ k. k == j) ms) (taken_same e c same) ∙ ap (times_taken h done n p e) (let z : j ≡ 0 + j = omega arith in z))

    entries_are : (es : List EntryTree) (cs : List EntryCode) (others : List Counted) (more : List Places) → AllZip (HaveSame p m) es cs
        → told_places (map (of_entry (all_of done) p) es ++ others) (map (places_by q done) (entry_effects n m p.instance es cs) ++ more)
        ≡ flat_map (rows_of_entry h done n p) es ++ told_places others more
    entries_are [] [] others more same = refl
    entries_are [] (c ∷ cs) others more same = absurd same
    entries_are (e ∷ es) [] others more same = absurd same
    entries_are (e ∷ es) (c ∷ cs) others more same =
        ap₂ (λ xs ys. row_of_entry (of_entry (all_of done) p e) ∷ (xs ++ ys)) (entry_told e c same.0) (entries_are es cs others more same.1)
        ∙ sym (append_assoc (rows_of_entry h done n p e) (flat_map (rows_of_entry h done n p) es) (told_places others more))

  zipped : (p : Host) (m : Member) (c : MemberCode) (es : List EntryTree) (ds : List EntryCode) → AllZip (MatchesEntry m) es ds
      → ((k : ℕ) (e : EntryTree) (d : EntryCode) → slice_get es k ≡ Some e → MatchesEntry m e d → HaveSame p c e d) → AllZip (HaveSame p c) es ds
  zipped p m c [] [] zip each = tt
  zipped p m c [] (d ∷ ds) zip each = absurd zip
  zipped p m c (e ∷ es) [] zip each = absurd zip
  zipped p m c (e ∷ es) (d ∷ ds) zip each = (each zero e d refl zip.0, zipped p m c es ds zip.1 (λ k. each (suc k)))

  all_are : (n : ℕ) (hs : List Host) (ms : List Member) (cs : List MemberCode) → ((j : ℕ) → slice_get hs j ≡ slice_get h.hosts (j + n)) → ((j : ℕ) → slice_get cs j ≡ slice_get q.members (j + n))
      → AllZip IsMadeOf hs ms → AllZip MatchesMember ms cs
      → told_places (flat_map (of_host (all_of done)) hs) (map (places_by q done) (all_effects n hs cs)) ≡ rows_of_hosts h done n hs
  all_are n [] ms cs from there made matches = refl
  all_are n (p ∷ ps) [] cs from there made matches = absurd made
  all_are n (p ∷ ps) (m ∷ ms) [] from there made matches = absurd matches
  all_are n (p ∷ ps) (m ∷ ms) (c ∷ cs) from there made matches =
      let at : slice_get h.hosts n ≡ Some p = let z : zero + n ≡ n = omega arith in ap (slice_get h.hosts) (sym z) ∙ sym (from zero) in
      let coded : slice_get q.members n ≡ Some c = let z : zero + n ≡ n = omega arith in ap (slice_get q.members) (sym z) ∙ sym (there zero) in
      let later : (j : ℕ) → slice_get ps j ≡ slice_get h.hosts (j + (n + 1)) = λ j. let z : suc j + n ≡ j + (n + 1) = omega arith in from (suc j) ∙ ap (slice_get h.hosts) z in
      let behind : (j : ℕ) → slice_get cs j ≡ slice_get q.members (j + (n + 1)) = λ j. let z : suc j + n ≡ j + (n + 1) = omega arith in there (suc j) ∙ ap (slice_get q.members) z in
      let entries = (with_signals p.crash p.instance.automaton).entries in
      let zip : AllZip (MatchesEntry m) entries c.entries = subst (λ (es : List EntryTree). AllZip (MatchesEntry m) es c.entries) made.0.entries matches.0.entries in
      ap (told_places (map (of_entry (all_of done) p) entries ++ flat_map (of_host (all_of done)) ps)) (map-append (places_by q done) (host_effects n p c) (all_effects (n + 1) ps cs))
      ∙ entries_are n p c at coded entries c.entries (flat_map (of_host (all_of done)) ps) (map (places_by q done) (all_effects (n + 1) ps cs))
      (zipped p m c entries c.entries zip (same_actions p m c made.0 matches.0))
      ∙ ap (λ xs. flat_map (rows_of_entry h done n p) entries ++ xs) (all_are (n + 1) ps ms cs later behind made.1 matches.1)

  pub hosts_told : (rs : List Row) (xs : List Effect) → map told_row rs ≡ counted_in h (all_of done) → TakesAll q (all_effects 0 h.hosts q.members) done xs
      → told_of (told_rows rs xs) ≡ all_taken_text h done
  hosts_told rs xs told takes =
      let places : map places_of xs ≡ map (places_by q done) (all_effects 0 h.hosts q.members) =
      places_are q done xs takes.places (takes.counts ∙ ap (map (counts_by q done)) (sym takes.effects)) ∙ ap (map (places_by q done)) takes.effects in
      ap told_of
      (rows_are rs xs ∙ ap₂ told_places told places
      ∙ all_are 0 h.hosts runs.0.members q.members (λ j. ap (slice_get h.hosts) (let z : j ≡ j + 0 = omega arith in z)) (λ j. ap (slice_get q.members) (let z : j ≡ j + 0 = omega arith in z))
      runs.1.members runs.2.tables)

-- ---- of what a program runs as, where its source is known or it is an object's

nothing_there : (xs : List Effect) → map effect_of xs ≡ [] → xs ≡ []
nothing_there [] h = refl
nothing_there (x ∷ xs) h = absurd (cc)

under : {X Y : Type 0} (P : Y → Type 0) (f : X → Y) (xs : List X) → All P (map f xs) → All (λ x. P (f x)) xs
under P f [] h = All-nil (λ x. P (f x))
under P f (x ∷ xs) h = All-cons (λ y. P (f y)) x xs (All-head P (f x) (map f xs) h) (under P f xs (All-tail P (f x) (map f xs) h))

over_types : (types wanted : Table) (ms : List MemberCode) → types ≡ wanted → AreMembers types ms → All (λ (m : MemberCode). m.start.table ≡ wanted) ms
over_types types wanted [] same h = All-nil (λ (m : MemberCode). m.start.table ≡ wanted)
over_types types wanted (m ∷ ms) same h = All-cons (λ (c : MemberCode). c.start.table ≡ wanted) m ms (h.0.types_are ∙ same) (over_types types wanted ms same h.1)

module _ (p : Prog) (x : Origin) (h : Hosted) (runs : RunsAs p (of_hosts h)) (declared : IsOriginOf (Some x) (of_hosts h)) where
  abbrev tree : SourceTree
  tree = tree_of x.checked

  its_types : h.types ≡ types_of tree
  its_types = declared.0.1.types

  names : map (λ (d : Host). d.instance.automaton.name) h.hosts ≡ map (λ (m : Member). m.instance.automaton.name) (composed_of x.composition).members
  names =
      sym (map-map (λ (i : Instance). i.automaton.name) (λ (d : Host). d.instance) h.hosts) ∙ sym declared.1.automata
      ∙ map-map (λ (i : Instance). i.automaton.name) (λ (m : Member). m.instance) (composed_of x.composition).members

  pub in_source : effects_in p (Some x) ≡ all_effects 0 h.hosts p.members
  in_source =
      effects_are tree x.composition.types 0 declared.0.0.instances h.hosts (composed_of x.composition).members p.members (declared.1.types ∙ its_types) declared.0.1.hosts declared.1.members names

  pub source_may : IsProgram p → IsFine (Some x) → All (MayTake p) (effects_in p (Some x))
  source_may sound fine =
      subst (All (MayTake p)) (sym in_source)
      (all_may tree fine.0 fine.1 p 0 declared.0.0.instances h.hosts runs.0.members p.members (λ j. ap (slice_get p.members) (let z : j ≡ j + 0 = omega arith in z)) declared.0.1.hosts
      runs.1.members runs.2.tables (over_types p.types (types_of tree) p.members (runs.2.types ∙ runs.1.types ∙ its_types) sound.members))

may : (p : Prog) (source : Option Origin) (s : Subject) → RunsAs p s → IsOriginOf source s → IsProgram p → IsFine source → All (MayTake p) (effects_in p source)
may p None s runs declared sound fine = All-nil (MayTake p)
may p (Some x) (of_hosts h) runs declared sound fine = source_may p x h runs declared sound fine
may p (Some x) (of_composition c) runs declared sound fine = absurd declared
may p (Some x) (of_table q) runs declared sound fine = absurd declared

-- all that is kept may be followed
pub all_follow : (p : Prog) (source : Option Origin) (s : Subject) (done : List (List Act)) (c : Coverage) → RunsAs p s → IsOriginOf source s → CoversAll p source done c
    → All (λ (x : Effect). MayTake c.program.now (effect_of x)) c.effects.items
all_follow p source s done c runs declared covers =
    under (MayTake c.program.now) effect_of c.effects.items
    (subst (λ (q : Prog). All (MayTake q) (map effect_of c.effects.items)) (sym covers.program)
    (subst (All (MayTake p)) (sym covers.effects.effects) (may p source s runs declared covers.sound covers.fine)))

-- what is told is what the subject says
pub all_is_told : (p : Prog) (source : Option Origin) (s : Subject) (done : List (List Act)) (c : Coverage) → RunsAs p s → IsOriginOf source s → CoversAll p source done c
    → told_of (told_rows c.rows.items c.effects.items) ≡ its_coverage s done
all_is_told p (Some x) (of_hosts h) done c runs declared covers =
    hosts_told p h runs done c.rows.items c.effects.items (all_told p (all_of done) c.rows.items covers.rows ∙ coverage_is_the_hosts p h (all_of done) runs)
    (subst (λ (es : List EntryEffect). TakesAll p es done c.effects.items) (in_source p x h runs declared) covers.effects)
all_is_told p (Some x) (of_composition d) done c runs declared covers = absurd declared
all_is_told p (Some x) (of_table q) done c runs declared covers = absurd declared
all_is_told p None (of_hosts h) done c runs declared covers = absurd declared
all_is_told p None (of_composition d) done c runs declared covers = absurd declared
all_is_told p None (of_table q) done c runs declared covers =
    ap (λ (xs : List Effect). told_of (told_rows c.rows.items xs)) (nothing_there c.effects.items covers.effects.effects)
    ∙ ap told_of (rows_alone c.rows.items) ∙ ap (λ (cs : List Counted). told_of (map row_of_entry cs)) (all_told p (all_of done) c.rows.items covers.rows)
    ∙ ap (λ (r : Prog). told_of (map row_of_entry (counted_table r (all_of done)))) runs
