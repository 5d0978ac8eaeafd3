-- The lines of tallies and of inputs, put one behind the other.
use Rattle.std.proofs.Common.{◌≡◌, ◌≤◌, ◌<◌, ◌++◌, ◌∷◌, ◌-◌, ◌+◌, ◌∙◌, ℕ, Bool, true, false, List, [], None, Some, append_assoc, ap, ap₂, arith, cond, drop, length, map, min, refl, slice_get, string_bytes, sym, take}
use Rattle.std.specs.List.{flat_map}
use Rattle.std.specs.Prelude.{get_or}
use Rattle.std.specs.Option.{option_map_or}
use Rattle.std.proofs.lemmas.List.{drop-map, drop-take, drop_all, drop_min, drop_more, flat_map_more, length-take-le, map_more, take-map, take_rest}
use Rattle.ioa_value.specs.Actions.{Act, Name}
use Rattle.ioa_tree.specs.Components.{is_local}
use Rattle.ioa_compile.specs.declared.table.Entry.{Entry}
use Rattle.ioa_compile.specs.declared.table.Member.{Member}
use Rattle.ioa_compile.specs.Programs.{EntryCode}
use Rattle.ioa_compile.specs.Shown.{entry_code, member_code}
use Rattle.ioa_board.specs.declared.report.Report.{Report}
use Rattle.ioa_run.specs.declared.tally.Tally.{Tally}
use Rattle.ioa_run.specs.declared.tally.Tries.{Tries}
use Rattle.ioa_run.specs.Proposers.{local_entries}
use Rattle.ioa_run.specs.Tallies.{own_names, performed_named, tally_of}
use Rattle.ioa_serving.specs.RunReports.{entry_line, entry_lines, inputs_left, tallies_text}

-- three texts, put one behind the other
pub put_thrice : (old one two three p w q : List ℕ) → one ≡ old ++ p → two ≡ one ++ w → three ≡ two ++ q → three ≡ old ++ (p ++ (w ++ q))
put_thrice old one two three p w q e f g = g ∙ ap (λ t. t ++ q) (f ∙ ap (λ t. t ++ w) e) ∙ append_assoc (old ++ p) w q ∙ append_assoc old p (w ++ q)

-- a line more
pub line_more : {X Y : Type 0} (f : Y → List ℕ) (g : X → Y) (xs : List X) (x : X) (i : ℕ) (old now new : List ℕ) → i < length xs → x ≡ get_or xs i x → now ≡ old ++ flat_map f (map g (take i xs))
    → new ≡ now ++ f (g x) → new ≡ old ++ flat_map f (map g (take (i + 1) xs))
line_more f g xs x i old now new lt at so one =
    one ∙ ap (λ t. t ++ f (g x)) so ∙ flat_map_more f old (map g (take i xs)) (g x)
    ∙ ap (λ ys. old ++ flat_map f ys) (ap (λ y. map g (take i xs) ++ g y ∷ []) at ∙ sym (map_more g xs i x lt))

-- ---- what is new, and what is left

pub between : {X Y : Type 0} (f : X → Y) (xs : List X) (before n : ℕ) → n ≤ length xs → map f (take (n - min before n) (drop (min before n) xs)) ≡ drop before (take n (map f xs))
between f xs before n within =
    let m = min before n in
    let whole : m + (n - m) ≡ n = omega arith in
    let long : n ≡ length (take n xs) = sym (length-take-le n xs within) in
    ap (map f)
    (sym (drop-take m (n - m) xs) ∙ ap (λ k. drop m (take k xs)) whole ∙ ap (λ k. drop (min before k) (take n xs)) long ∙ drop_min before (take n xs))
    ∙ sym (drop-map f before (take n xs)) ∙ ap (drop before) (sym (take-map f n xs))

pub behind_report : {X : Type 0} (f : X → Act) (xs : List X) (components : ℕ) (reports : List Report) (r : Report) (k : ℕ) → slice_get reports components ≡ Some r → k ≡ min r.committed (length xs)
    → map f (take (length xs - k) (drop k xs)) ≡ inputs_left components reports (map f xs)
behind_report f xs components reports r k at is =
    ap (map f) (take_rest xs k ∙ ap (λ m. drop m xs) is ∙ drop_min r.committed xs) ∙ sym (drop-map f r.committed xs) ∙ sym (ap (λ o. option_map_or (λ (s : Report). drop s.committed (map f xs)) o (map f xs)) at)

pub without_report : (acts : List Act) (components : ℕ) (reports : List Report) → slice_get reports components ≡ None → acts ≡ inputs_left components reports acts
without_report acts components reports none = sym (ap (λ o. option_map_or (λ (s : Report). drop s.committed acts) o acts) none)

-- ---- the entries of a component

pub none_of : (ts : List Tries) → length ts ≡ 0 → ts ≡ []
none_of [] none = refl
none_of (t ∷ ts) none = absurd (omega (arith, none))

module _ (h : List (ℕ × Act)) (w : ℕ) (n : Name) where
  abbrev names_from : List EntryCode → List Name
  names_from es = map (λ (e : EntryCode). e.name) (local_entries es)

  none_left : (xs : List Name) → entry_lines h w n xs [] ≡ []
  none_left [] = refl
  none_left (x ∷ xs) = refl

  module _ (es : List Entry) (i : ℕ) (e : Entry) (within : i < length es) (is : e ≡ get_or es i e) where
    at : drop i (map entry_code es) ≡ entry_code e ∷ drop (i + 1) (map entry_code es)
    at =
        drop-map entry_code i es ∙ ap (map entry_code) (drop_more es i e within) ∙ ap (λ (x : Entry). entry_code x ∷ map entry_code (drop (i + 1) es)) (sym is)
        ∙ ap (λ (xs : List EntryCode). entry_code e ∷ xs) (sym (drop-map entry_code (i + 1) es))

    one_more : (ts : List Tries) (b : Bool) → is_local (Some e.kind) ≡ b
        → entry_lines h w n (names_from (drop i (map entry_code es))) ts
        ≡ entry_lines h w n (map (λ (x : EntryCode). x.name) (cond b (entry_code e ∷ local_entries (drop (i + 1) (map entry_code es))) (local_entries (drop (i + 1) (map entry_code es))))) ts
    one_more ts b own =
        ap (λ (xs : List EntryCode). entry_lines h w n (names_from xs) ts) at
        ∙ ap (λ (c : Bool). entry_lines h w n (map (λ (x : EntryCode). x.name) (cond c (entry_code e ∷ local_entries (drop (i + 1) (map entry_code es))) (local_entries (drop (i + 1) (map entry_code es))))) ts) own

    -- one of its own, of which a line is put
    pub tried : (text new all : List ℕ) (ts others : List Tries) (t : Tries) (component name : Name) (k : ℕ) → is_local (Some e.kind) ≡ true → ts ≡ t ∷ others → component ≡ n → name ≡ string_bytes e.name
        → k ≡ performed_named h w name → new ≡ text ++ entry_line component name t k → text ++ entry_lines h w n (names_from (drop i (map entry_code es))) ts ≡ all
        → new ++ entry_lines h w n (names_from (drop (i + 1) (map entry_code es))) others ≡ all
    tried text new all ts others t component name k own split called named count put so =
        let x = string_bytes e.name in
        let line = entry_line n x t (performed_named h w x) in
        let rest = entry_lines h w n (names_from (drop (i + 1) (map entry_code es))) others in
        let same : entry_line component name t k ≡ line =
        ap (λ (m : ℕ). entry_line component name t m) count ∙ ap (λ (y : Name). entry_line component y t (performed_named h w y)) named ∙ ap (λ (y : Name). entry_line y x t (performed_named h w x)) called in
        ap (λ (s : List ℕ). s ++ rest) (put ∙ ap (λ (s : List ℕ). text ++ s) same) ∙ append_assoc text line rest
        ∙ sym (ap (λ (s : List ℕ). text ++ s) (one_more ts true own ∙ ap (λ (us : List Tries). entry_lines h w n (x ∷ names_from (drop (i + 1) (map entry_code es))) us) split)) ∙ so

    -- an input, or one of which nothing is counted: there is no line
    pub passed : (text all : List ℕ) (ts : List Tries) → is_local (Some e.kind) ≡ false → text ++ entry_lines h w n (names_from (drop i (map entry_code es))) ts ≡ all
        → text ++ entry_lines h w n (names_from (drop (i + 1) (map entry_code es))) ts ≡ all
    passed text all ts other so = sym (ap (λ (s : List ℕ). text ++ s) (one_more ts false other)) ∙ so

    pub run_out : (text all : List ℕ) (ts : List Tries) → ts ≡ [] → text ++ entry_lines h w n (names_from (drop i (map entry_code es))) ts ≡ all
        → text ++ entry_lines h w n (names_from (drop (i + 1) (map entry_code es))) ts ≡ all
    run_out text all ts none so =
        ap (λ (us : List Tries). text ++ entry_lines h w n (names_from (drop (i + 1) (map entry_code es))) us) none
        ∙ ap (λ (s : List ℕ). text ++ s) (none_left (names_from (drop (i + 1) (map entry_code es))) ∙ sym (none_left (names_from (drop i (map entry_code es)))))
        ∙ sym (ap (λ (us : List Tries). text ++ entry_lines h w n (names_from (drop i (map entry_code es))) us) none) ∙ so

-- ---- the components

abbrev lines_from : List (ℕ × Act) → ℕ → List Member → List Tally → List ℕ
lines_from h i ms ts = tallies_text h i (map (λ m. m.name) (map member_code ms)) (map own_names (map member_code ms)) (map tally_of ts)

no_tallies : (h : List (ℕ × Act)) (i : ℕ) (ms : List Member) → lines_from h i ms [] ≡ []
no_tallies h i [] = refl
no_tallies h i (m ∷ ms) = refl

pub member_more : (h : List (ℕ × Act)) (i : ℕ) (ms : List Member) (ts : List Tally) (m : Member) (t : Tally) (text new all : List ℕ) → i < length ms → m ≡ get_or ms i m → i < length ts → t ≡ get_or ts i t
    → new ≡ text ++ entry_lines h i (member_code m).name (own_names (member_code m)) t.entries.items → text ++ lines_from h i (drop i ms) (drop i ts) ≡ all
    → new ++ lines_from h (i + 1) (drop (i + 1) ms) (drop (i + 1) ts) ≡ all
member_more h i ms ts m t text new all within is with_tally has put so =
    let line = entry_lines h i (member_code m).name (own_names (member_code m)) t.entries.items in
    let rest = lines_from h (i + 1) (drop (i + 1) ms) (drop (i + 1) ts) in
    let components : drop i ms ≡ m ∷ drop (i + 1) ms = drop_more ms i m within ∙ ap (λ (x : Member). x ∷ drop (i + 1) ms) (sym is) in
    let tallies : drop i ts ≡ t ∷ drop (i + 1) ts = drop_more ts i t with_tally ∙ ap (λ (x : Tally). x ∷ drop (i + 1) ts) (sym has) in
    ap (λ (s : List ℕ). s ++ rest) put ∙ append_assoc text line rest ∙ sym (ap (λ (s : List ℕ). text ++ s) (ap₂ (lines_from h i) components tallies)) ∙ so

pub members_run_out : (h : List (ℕ × Act)) (i : ℕ) (ms : List Member) (ts : List Tally) (text all : List ℕ) → length ts ≤ i → text ++ lines_from h i (drop i ms) (drop i ts) ≡ all
    → text ++ lines_from h (i + 1) (drop (i + 1) ms) (drop (i + 1) ts) ≡ all
members_run_out h i ms ts text all past so =
    let more : length ts ≤ i + 1 = omega (arith, past) in
    ap (λ (s : List ℕ). text ++ s)
    (ap (lines_from h (i + 1) (drop (i + 1) ms)) (drop_all (i + 1) ts more) ∙ no_tallies h (i + 1) (drop (i + 1) ms)
    ∙ sym (no_tallies h i (drop i ms)) ∙ sym (ap (lines_from h i (drop i ms)) (drop_all i ts past)))
    ∙ so
