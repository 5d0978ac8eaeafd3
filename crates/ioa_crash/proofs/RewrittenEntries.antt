-- Which entry and which transition an action has in the rewritten automaton.
use Rattle.std.proofs.Common.{◌≡◌, Bool, true, false, not, cond, ◌&&◌, ◌||◌, ◌==◌, List, [], ◌∷◌, map, find, filter, length, Option, Some, None, refl, sym, ap, subst, ◌∙◌, true≢false}
use Rattle.std.specs.List.{list_all, list_any, flat_map}
use Rattle.std.specs.Option.{option_map, option_or, option_map_or}
use Rattle.std.specs.Str.{bytes_eq}
use Rattle.std.proofs.lemmas.Bool.{and_parts, or_parts}
use Rattle.std.proofs.lemmas.List.Folds.{find-append}
use Rattle.ioa_value.specs.Actions.{Name, Act}
use Rattle.ioa_value.specs.Plain.{Val}
use Rattle.ioa_value.specs.Same.{same}
use Rattle.ioa_value.specs.Table.{contains, distinct}
use Rattle.ioa_value.proofs.NameLemmas.{same_name, own_name, not_true}
use Rattle.ioa_value.proofs.ItemLemmas.{find_both, find_at}
use Rattle.ioa_tree.specs.declared.tree.Kind.{Kind}
use Rattle.ioa_tree.specs.declared.tree.Kind.TheVariants.{Input, Output, Internal}
use Rattle.ioa_tree.specs.Tree.{CrashTree, ConstantTree, positive, negative, truth_literal, reference, PositionTree, typed, only, EntryTree, TransitionTree, AutomatonTree}
use Rattle.ioa_tree.specs.Names.{names_of_position, names_of_constant, names_of_entry}
use Rattle.ioa_tree.specs.Types.{constant}
use Rattle.ioa_tree.specs.Meaning.{or_else}
use Rattle.ioa_tree.specs.Components.{is_local}
use Rattle.ioa_tree.specs.Instances.{Instance, constant_value, position_has, positions_have, entry_has, entry_for, transition_for}
use Rattle.ioa_tree.specs.Hosts.{is_signal, has_no_values, crash_fine}
use Rattle.ioa_tree.specs.WellFormed.{same_kind, is_input}
use Rattle.ioa_tree.proofs.Agreement.{all_both}
use Rattle.ioa_tree.proofs.FineParts.{FineParts, fine_parts}
use Rattle.ioa_crash.specs.Rewriting.{spelled, guarded, signal_entry, signals, crash_transition, recover_transition, rewritten, crashing}
use Rattle.ioa_crash.specs.Crashes.{MayCrash}
use Rattle.ioa_crash.proofs.SpelledNames.{not_both, other_way, found_among}
use Rattle.ioa_crash.proofs.RewrittenNames.{names, formals_same}

pub all_flat_at : (p : PositionTree) (ps : List PositionTree) → list_all spelled (flat_map names_of_position (p ∷ ps)) ≡ true
    → (list_all spelled (names_of_position p) ≡ true) × (list_all spelled (flat_map names_of_position ps) ≡ true)
all_flat_at p ps h = all_both spelled (names_of_position p) (flat_map names_of_position ps) h

-- ---- names of entries and transitions

abbrev pub entry_names : List EntryTree → List Name
entry_names es = map (λ e. e.name) es

abbrev pub transition_names : List TransitionTree → List Name
transition_names ts = map (λ t. t.name) ts

abbrev pub pairs : EntryTree → TransitionTree → Bool
pairs e t = same_kind e.kind t.kind && bytes_eq e.name t.name

pub paired_name : (es : List EntryTree) (t : TransitionTree) → list_any (λ e. pairs e t) es ≡ true → contains (entry_names es) t.name ≡ true
paired_name [] t h = absurd (true≢false (sym h))
paired_name (e ∷ es) t h = go (same_kind e.kind t.kind) (bytes_eq e.name t.name) h (paired_name es t)
  where
    go : (b c : Bool) → ((b && c) || list_any (λ d. pairs d t) es) ≡ true → (list_any (λ d. pairs d t) es ≡ true → contains (entry_names es) t.name ≡ true)
        → (c || contains (entry_names es) t.name) ≡ true
    go b true k more = refl
    go true false k more = more k
    go false false k more = more k

-- where each transition has an entry, names of no entry are names of no transition
pub none_named : (es : List EntryTree) (ts : List TransitionTree) (x : Name) → list_all (λ t. list_any (λ e. pairs e t) es) ts ≡ true
    → contains (entry_names es) x ≡ false → contains (transition_names ts) x ≡ false
none_named es [] x h k = refl
none_named es (t ∷ ts) x h k =
    let p = and_parts (list_any (λ e. pairs e t) es) (list_all (λ u. list_any (λ e. pairs e u) es) ts) h in
    go (bytes_eq t.name x) refl (paired_name es t p.0) (none_named es ts x p.1 k)
  where
    go : (b : Bool) → bytes_eq t.name x ≡ b → contains (entry_names es) t.name ≡ true → contains (transition_names ts) x ≡ false → (b || contains (transition_names ts) x) ≡ false
    go true e named more = not_both (contains (entry_names es) x) (sym (ap (contains (entry_names es)) (same_name t.name x e)) ∙ named) k
    go false e named more = more

-- an entry and a transition of one name are of one kind
pub kind_of_named : (q : EntryTree → Bool) (es : List EntryTree) (e : EntryTree) (t : TransitionTree) → distinct (entry_names es) ≡ true → find q es ≡ Some e
    → list_any (λ d. pairs d t) es ≡ true → bytes_eq t.name e.name ≡ true → same_kind e.kind t.kind ≡ true
kind_of_named q [] e t d f h k = absurd (cc)
kind_of_named q (y ∷ ys) e t d f h k =
    let p = and_parts (not (contains (entry_names ys) y.name)) (distinct (entry_names ys)) d in
    go (q y) (same_kind y.kind t.kind) (bytes_eq y.name t.name) refl refl f h (not_true (contains (entry_names ys) y.name) p.0) (λ g l. kind_of_named q ys e t p.1 g l k)
  where
    go : (a b c : Bool) → same_kind y.kind t.kind ≡ b → bytes_eq y.name t.name ≡ c → cond a (Some y) (find q ys) ≡ Some e → ((b && c) || list_any (λ d. pairs d t) ys) ≡ true
        → contains (entry_names ys) y.name ≡ false
        → (find q ys ≡ Some e → list_any (λ d. pairs d t) ys ≡ true → same_kind e.kind t.kind ≡ true) → same_kind e.kind t.kind ≡ true
    go true true true u v g l free more = let same : y ≡ e = cc in subst (λ (z : EntryTree). same_kind z.kind t.kind ≡ true) same u
    go true true false u v g l free more = let same : y ≡ e = cc in not_both (bytes_eq y.name t.name) (ap (λ (z : EntryTree). bytes_eq z.name t.name) same ∙ ap (λ z. bytes_eq z t.name) (sym (same_name t.name e.name k)) ∙ own_name t.name) v
    go true false c u v g l free more =
        let same : y ≡ e = cc in
        not_both (contains (entry_names ys) y.name) (ap (λ (z : EntryTree). contains (entry_names ys) z.name) same ∙ ap (contains (entry_names ys)) (sym (same_name t.name e.name k)) ∙ paired_name ys t l) free
    go false true true u v g l free more =
        not_both (contains (entry_names ys) y.name)
        (ap (contains (entry_names ys)) (same_name y.name t.name v ∙ same_name t.name e.name k) ∙ found_among (λ (z : EntryTree). z.name) q ys e g) free
    go false true false u v g l free more = more g l
    go false false c u v g l free more = more g l

pub local_kinds : (k l : Kind) → same_kind k l ≡ true → is_local (Some k) ≡ true → is_input l ≡ false
local_kinds Input l h e = absurd (true≢false (sym e))
local_kinds Output Input h e = absurd (true≢false (sym h))
local_kinds Output Output h e = refl
local_kinds Output Internal h e = refl
local_kinds Internal Input h e = absurd (true≢false (sym h))
local_kinds Internal Output h e = refl
local_kinds Internal Internal h e = refl

-- names that are not among those of a list
pub all_others : {X : Type 0} (f : X → Name) (xs : List X) (x : Name) → contains (map f xs) x ≡ false → list_all (λ y. not (bytes_eq (f y) x)) xs ≡ true
all_others f [] x h = refl
all_others f (y ∷ ys) x h = let k = or_parts (bytes_eq (f y) x) (contains (map f ys) x) h in rw k.0 (all_others f ys x k.1)

pub found_other : {X : Type 0} (f : X → Name) (q : X → Bool) (xs : List X) (y : X) (x : Name) → find q xs ≡ Some y → contains (map f xs) x ≡ false → bytes_eq (f y) x ≡ false
found_other f q xs y x h k = not_true (bytes_eq (f y) x) (find_both q (λ z. not (bytes_eq (f z) x)) xs y h (all_others f xs x k)).1

none_found : {X : Type 0} (f : X → Name) (xs : List X) (x : Name) → contains (map f xs) x ≡ false → find (λ y. bytes_eq (f y) x) xs ≡ None
none_found f [] x h = refl
none_found f (y ∷ ys) x h = let k = or_parts (bytes_eq (f y) x) (contains (map f ys) x) h in rw k.0 (none_found f ys x k.1)

empty_same : (i : Instance) (vs : List Val) → positions_have i [] vs ≡ has_no_values vs
empty_same i [] = refl
empty_same i (v ∷ vs) = refl

pub signal_same : (i : Instance) (x : Name) (a : Act) → entry_has i a (signal_entry x) ≡ is_signal x a
signal_same i x a = ap (λ (b : Bool). bytes_eq x a.name && b) (empty_same i a.vals)

find_guarded : (ts : List TransitionTree) (x : Name) → find (λ t. bytes_eq t.name x) (map guarded ts) ≡ option_map guarded (find (λ t. bytes_eq t.name x) ts)
find_guarded [] x = refl
find_guarded (t ∷ ts) x = go (bytes_eq t.name x) (find_guarded ts x)
  where
    go : (b : Bool) → find (λ t. bytes_eq t.name x) (map guarded ts) ≡ option_map guarded (find (λ t. bytes_eq t.name x) ts)
        → cond b (Some (guarded t)) (find (λ t. bytes_eq t.name x) (map guarded ts)) ≡ option_map guarded (cond b (Some t) (find (λ t. bytes_eq t.name x) ts))
    go true k = refl
    go false k = k

or_nothing : {X : Type 0} (o : Option X) → option_or o None ≡ o
or_nothing (Some x) = refl
or_nothing None = refl

-- an action of an entry is no signal of another name
pub not_signal : (i : Instance) (x : Name) (e : EntryTree) (a : Act) → bytes_eq e.name x ≡ false → entry_has i a e ≡ true → is_signal x a ≡ false
not_signal i x e a k q =
    let same : e.name ≡ a.name = same_name e.name a.name (and_parts (bytes_eq e.name a.name) (positions_have i e.positions a.vals) q).0 in
    let other : bytes_eq x a.name ≡ false = ap (bytes_eq x) (sym same) ∙ other_way e.name x k in
    ap (λ b. b && has_no_values a.vals) other

-- crash and recover have names of their own
pub record Apart (n : CrashTree) (es : List EntryTree) : Type 0 where
  pub two : bytes_eq n.crash n.recover ≡ false
  pub crash : contains (entry_names es) n.crash ≡ false
  pub recover : contains (entry_names es) n.recover ≡ false

pub apart_of : (n : CrashTree) (a : AutomatonTree) → crash_fine (Some n) a ≡ true → Apart n a.entries
apart_of n a h =
    let k = and_parts (not (bytes_eq n.crash n.recover) && not (contains (entry_names a.entries) n.crash)) (not (contains (entry_names a.entries) n.recover)) h in
    let j = and_parts (not (bytes_eq n.crash n.recover)) (not (contains (entry_names a.entries) n.crash)) k.0 in
    record {
      two = not_true (bytes_eq n.crash n.recover) j.0;
      crash = not_true (contains (entry_names a.entries) n.crash) j.1;
      recover = not_true (contains (entry_names a.entries) n.recover) k.1;
    }

module _ (n : CrashTree) (i : Instance) (starts : List Val) (h : MayCrash n i starts) where
  pub parts : FineParts i.types i.types h.automaton.0 i.automaton
  parts = fine_parts i.types i.types h.automaton.0 i.automaton h.automaton.1

  pub signals_apart : Apart n i.automaton.entries
  signals_apart = apart_of n i.automaton h.signals

  -- each transition has an entry
  pub owned : list_all (λ t. list_any (λ e. pairs e t) i.automaton.entries) i.automaton.transitions ≡ true
  owned = (and_parts (list_all (λ e. length (filter (pairs e) i.automaton.transitions) == 1) i.automaton.entries) (list_all (λ t. list_any (λ e. pairs e t) i.automaton.entries) i.automaton.transitions) parts.one_each).1

  abbrev added : List TransitionTree
  added = crash_transition i.automaton.variables n.crash ∷ recover_transition n.recover ∷ []

  find_added : (x : Name) → find (λ (t : TransitionTree). bytes_eq t.name x) (rewritten n i.automaton).transitions
      ≡ option_or (option_map guarded (find (λ (t : TransitionTree). bytes_eq t.name x) i.automaton.transitions)) (find (λ (t : TransitionTree). bytes_eq t.name x) added)
  find_added x = find-append (λ (t : TransitionTree). bytes_eq t.name x) (map guarded i.automaton.transitions) added
      ∙ ap (λ (o : Option TransitionTree). option_or o (find (λ (t : TransitionTree). bytes_eq t.name x) added)) (find_guarded i.automaton.transitions x)

  none_of : (x : Name) → contains (entry_names i.automaton.entries) x ≡ false → find (λ (t : TransitionTree). bytes_eq t.name x) i.automaton.transitions ≡ None
  none_of x k = none_found (λ (t : TransitionTree). t.name) i.automaton.transitions x (none_named i.automaton.entries i.automaton.transitions x owned k)

  pub crash_found : transition_for (rewritten n i.automaton) (signal_entry n.crash) ≡ Some (crash_transition i.automaton.variables n.crash)
  crash_found =
      let none = none_of n.crash signals_apart.crash in
      find_added n.crash ∙ (rw (none, own_name n.crash) refl)

  pub recover_found : transition_for (rewritten n i.automaton) (signal_entry n.recover) ≡ Some (recover_transition n.recover)
  recover_found =
      let none = none_of n.recover signals_apart.recover in
      let two = signals_apart.two in
      find_added n.recover ∙ (rw (none, two, own_name n.recover) refl)

  pub others_found : (e : EntryTree) → bytes_eq n.crash e.name ≡ false → bytes_eq n.recover e.name ≡ false
      → transition_for (rewritten n i.automaton) e ≡ option_map guarded (transition_for i.automaton e)
  others_found e c r = find_added e.name ∙ (rw (c, r) (or_nothing (option_map guarded (transition_for i.automaton e))))

  -- the transition that is found has the entry's kind, and spelled names
  pub found_kind : (a : Act) (e : EntryTree) (t : TransitionTree) → entry_for i a ≡ Some e → transition_for i.automaton e ≡ Some t → same_kind e.kind t.kind ≡ true
  found_kind a e t q f =
      let found = find_both (λ u. bytes_eq u.name e.name) (λ u. list_any (λ d. pairs d u) i.automaton.entries) i.automaton.transitions t f owned in
      kind_of_named (entry_has i a) i.automaton.entries e t parts.entry_names q found.1 found.0

  -- ---- entries

  pub constant_same : (c : ConstantTree) → list_all spelled (names_of_constant c) ≡ true → constant_value (crashing n i starts) c ≡ constant_value i c
  constant_same (positive k) s = refl
  constant_same (negative k) s = refl
  constant_same (truth_literal b) s = refl
  constant_same (reference x) s = ap (λ o. or_else o (constant i.types x)) (formals_same n i starts h x (and_parts (spelled x) true s).0)

  position_same : (p : PositionTree) (v : Val) → list_all spelled (names_of_position p) ≡ true → position_has (crashing n i starts) p v ≡ position_has i p v
  position_same (typed f) v s = refl
  position_same (only c) v s = ap (λ o. option_map_or (λ w. same w v) o false) (constant_same c s)

  positions_same : (ps : List PositionTree) (vs : List Val) → list_all spelled (flat_map names_of_position ps) ≡ true
      → positions_have (crashing n i starts) ps vs ≡ positions_have i ps vs
  positions_same [] [] s = refl
  positions_same [] (v ∷ vs) s = refl
  positions_same (p ∷ ps) [] s = refl
  positions_same (p ∷ ps) (v ∷ vs) s =
      let k = all_flat_at p ps s in
      ap (λ b. b && positions_have (crashing n i starts) ps vs) (position_same p v k.0) ∙ ap (λ b. position_has i p v && b) (positions_same ps vs k.1)

  pub entry_same : (a : Act) (e : EntryTree) → list_all spelled (names_of_entry e) ≡ true → entry_has (crashing n i starts) a e ≡ entry_has i a e
  entry_same a e s =
      ap (λ b. bytes_eq e.name a.name && b)
      (positions_same e.positions a.vals (and_parts (spelled e.name) (list_all spelled (flat_map names_of_position e.positions)) s).1)

  found_same : (a : Act) (es : List EntryTree) → list_all (λ e. list_all spelled (names_of_entry e)) es ≡ true → find (entry_has (crashing n i starts) a) es ≡ find (entry_has i a) es
  found_same a [] s = refl
  found_same a (e ∷ es) s =
      let k = and_parts (list_all spelled (names_of_entry e)) (list_all (λ d. list_all spelled (names_of_entry d)) es) s in
      ap (λ b. cond b (Some e) (find (entry_has (crashing n i starts) a) es)) (entry_same a e k.0) ∙ ap (λ o. cond (entry_has i a e) (Some e) o) (found_same a es k.1)

  -- a crash, a recovery, an action of the original, or none at all
  pub data View (a : Act) : Type 0 where
    crashes : is_signal n.crash a ≡ true → entry_for (crashing n i starts) a ≡ Some (signal_entry n.crash) → View a
    recovers : is_signal n.crash a ≡ false → is_signal n.recover a ≡ true → entry_for (crashing n i starts) a ≡ Some (signal_entry n.recover) → View a
    within : (e : EntryTree) → is_signal n.crash a ≡ false → is_signal n.recover a ≡ false → bytes_eq n.crash e.name ≡ false → bytes_eq n.recover e.name ≡ false
        → entry_for i a ≡ Some e → entry_for (crashing n i starts) a ≡ Some e → View a
    neither : is_signal n.crash a ≡ false → is_signal n.recover a ≡ false → entry_for i a ≡ None → entry_for (crashing n i starts) a ≡ None → View a

  entries_added : (a : Act) → entry_for (crashing n i starts) a
      ≡ option_or (entry_for i a) (cond (is_signal n.crash a) (Some (signal_entry n.crash)) (cond (is_signal n.recover a) (Some (signal_entry n.recover)) None))
  entries_added a =
      find-append (entry_has (crashing n i starts) a) i.automaton.entries (signals n)
      ∙ ap (λ o. option_or o (find (entry_has (crashing n i starts) a) (signals n))) (found_same a i.automaton.entries (names n i starts h).entries)
      ∙ ap (λ b. option_or (entry_for i a) (cond b (Some (signal_entry n.crash)) (cond (entry_has (crashing n i starts) a (signal_entry n.recover)) (Some (signal_entry n.recover)) None))) (signal_same (crashing n i starts) n.crash a)
      ∙ ap (λ b. option_or (entry_for i a) (cond (is_signal n.crash a) (Some (signal_entry n.crash)) (cond b (Some (signal_entry n.recover)) None))) (signal_same (crashing n i starts) n.recover a)

  pub view : (a : Act) → View a
  view a = go (entry_for i a) refl
    where
      at : (o : Option EntryTree) (b c : Bool) → entry_for i a ≡ o → is_signal n.crash a ≡ b → is_signal n.recover a ≡ c
          → entry_for (crashing n i starts) a ≡ option_or o (cond b (Some (signal_entry n.crash)) (cond c (Some (signal_entry n.recover)) None))
      at o b c q u v =
          entries_added a ∙ ap (λ z. option_or z (cond (is_signal n.crash a) (Some (signal_entry n.crash)) (cond (is_signal n.recover a) (Some (signal_entry n.recover)) None))) q
          ∙ ap (λ z. option_or o (cond z (Some (signal_entry n.crash)) (cond (is_signal n.recover a) (Some (signal_entry n.recover)) None))) u
          ∙ ap (λ z. option_or o (cond b (Some (signal_entry n.crash)) (cond z (Some (signal_entry n.recover)) None))) v

      bare : (b c : Bool) → is_signal n.crash a ≡ b → is_signal n.recover a ≡ c → entry_for i a ≡ None → View a
      bare true c u v q = crashes u (at None true c q u v)
      bare false true u v q = recovers u v (at None false true q u v)
      bare false false u v q = neither u v q (at None false false q u v)

      go : (o : Option EntryTree) → entry_for i a ≡ o → View a
      go None q = bare (is_signal n.crash a) (is_signal n.recover a) refl refl q
      go (Some e) q =
          let own : entry_has i a e ≡ true = (find_at (entry_has i a) i.automaton.entries e q).2 in
          let no_crash : bytes_eq e.name n.crash ≡ false = found_other (λ (x : EntryTree). x.name) (entry_has i a) i.automaton.entries e n.crash q signals_apart.crash in
          let no_recover : bytes_eq e.name n.recover ≡ false = found_other (λ (x : EntryTree). x.name) (entry_has i a) i.automaton.entries e n.recover q signals_apart.recover in
          within e (not_signal i n.crash e a no_crash own) (not_signal i n.recover e a no_recover own) (other_way e.name n.crash no_crash) (other_way e.name n.recover no_recover)
          q (at (Some e) (is_signal n.crash a) (is_signal n.recover a) q refl refl)
