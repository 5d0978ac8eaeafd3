-- The names of a program's entries: none twice, and each action of the program has one of them.
use Rattle.std.proofs.Common.{◌≡◌, ℕ, is_some, Bool, true, false, not, ◌&&◌, ◌||◌, if◌then◌else◌, cond, List, [], ◌∷◌, ◌++◌, Option, None, Some, map, find, refl, sym, ap, subst, ◌∙◌}
use Rattle.std.specs.List.{list_any}
use Rattle.std.specs.Option.{option_map}
use Rattle.std.specs.Str.{bytes_eq}
use Rattle.std.proofs.lemmas.Bool.{and_from, or_left, or_right}
use Rattle.std.proofs.lemmas.List.Folds.{list_any-append}
use Rattle.ioa_value.specs.Actions.{Name, Act}
use Rattle.ioa_value.specs.Positions.{all_take}
use Rattle.ioa_value.specs.Table.{Table, apart, contains, distinct, place_from}
use Rattle.ioa_value.proofs.NameLemmas.{distinct-append, own_name, place_inside, same_name}
use Rattle.ioa_tree.specs.Components.{has, is_kind}
use Rattle.ioa_compile.specs.Programs.{EntryCode, MemberCode, Prog}
use Rattle.ioa_compile.specs.Sites.{code_name}
use Rattle.ioa_compile.specs.Tables.{is_in, table_component, tabled}
use Rattle.ioa_watch.proofs.Counted.{no_place}
use Rattle.ioa_watch.specs.Names.{names_from, names_of, with_name, with_names}

-- ---- one name more

-- where it is there, or not
module _ (ns : List Name) (x : Name) where
  abbrev more_if : Bool → List Name
  more_if b = if b then ns else ns ++ x ∷ []

  kept : (y : Name) → contains ns y ≡ true → (b : Bool) → contains (more_if b) y ≡ true
  kept y h true = h
  kept y h false = list_any-append (λ n. bytes_eq n y) ns (x ∷ []) ∙ or_left (contains ns y) (contains (x ∷ []) y) h

  there : (b : Bool) → contains ns x ≡ b → contains (more_if b) x ≡ true
  there true e = e
  there false e = list_any-append (λ n. bytes_eq n x) ns (x ∷ []) ∙ or_right (contains ns x) (contains (x ∷ []) x) (or_left (bytes_eq x x) false (own_name x))

  lonely : (b : Bool) → b ≡ false → (true && (not b && true)) ≡ true
  lonely true e = absurd (cc)
  lonely false e = refl

  apart_still : (b : Bool) → contains ns x ≡ b → distinct ns ≡ true → distinct (more_if b) ≡ true
  apart_still true e d = d
  apart_still false e d =
      distinct-append ns (x ∷ []) ∙ and_from (distinct ns) (distinct (x ∷ []) && apart (x ∷ []) ns) d (lonely (contains ns x) e)

keeps_names : (ns xs : List Name) (y : Name) → contains ns y ≡ true → contains (with_names ns xs) y ≡ true
keeps_names ns [] y h = h
keeps_names ns (x ∷ xs) y h = keeps_names (with_name ns x) xs y (kept ns x y h (contains ns x))

has_names : (ns xs : List Name) (y : Name) → contains xs y ≡ true → contains (with_names ns xs) y ≡ true
has_names ns [] y h = absurd (cc)
has_names ns (x ∷ xs) y h = go (bytes_eq x y) refl h (has_names (with_name ns x) xs y)
  where
    go : (b : Bool) → bytes_eq x y ≡ b → (b || contains xs y) ≡ true → (contains xs y ≡ true → contains (with_names (with_name ns x) xs) y ≡ true)
        → contains (with_names (with_name ns x) xs) y ≡ true
    go true e h r = keeps_names (with_name ns x) xs y (subst (λ z. contains (with_name ns x) z ≡ true) (same_name x y e) (there ns x (contains ns x) refl))
    go false e h r = r h

apart_names : (ns xs : List Name) → distinct ns ≡ true → distinct (with_names ns xs) ≡ true
apart_names ns [] d = d
apart_names ns (x ∷ xs) d = apart_names (with_name ns x) xs (apart_still ns x (contains ns x) refl d)

-- ---- of all components

keeps_from : (ns : List Name) (ms : List MemberCode) (y : Name) → contains ns y ≡ true → contains (names_from ns ms) y ≡ true
keeps_from ns [] y h = h
keeps_from ns (m ∷ ms) y h = keeps_from (with_names ns (map code_name m.entries)) ms y (keeps_names ns (map code_name m.entries) y h)

apart_from : (ns : List Name) (ms : List MemberCode) → distinct ns ≡ true → distinct (names_from ns ms) ≡ true
apart_from ns [] d = d
apart_from ns (m ∷ ms) d = apart_from (with_names ns (map code_name m.entries)) ms (apart_names ns (map code_name m.entries) d)

pub names_apart : (ms : List MemberCode) → distinct (names_of ms) ≡ true
names_apart ms = apart_from [] ms refl

-- an entry that has the action has its name
entry_named : (types : Table) (a : Act) (es : List EntryCode) → is_kind (option_map (λ (e : EntryCode). e.kind) (find (is_in types a) es)) ≡ true
    → contains (map code_name es) a.name ≡ true
entry_named types a [] h = absurd (cc)
entry_named types a (e ∷ es) h = go (bytes_eq e.name a.name) h (entry_named types a es)
  where
    go : (b : Bool) → is_kind (option_map (λ (x : EntryCode). x.kind) (cond (b && all_take types e.positions a.vals) (Some e) (find (is_in types a) es))) ≡ true
        → (is_kind (option_map (λ (x : EntryCode). x.kind) (find (is_in types a) es)) ≡ true → contains (map code_name es) a.name ≡ true)
        → (b || contains (map code_name es) a.name) ≡ true
    go true h r = refl
    go false h r = r h

action_from : (ns : List Name) (ms : List MemberCode) (a : Act) → list_any (has a) (map table_component ms) ≡ true → contains (names_from ns ms) a.name ≡ true
action_from ns [] a h = absurd (cc)
action_from ns (m ∷ ms) a h = go (has a (table_component m)) refl h (action_from (with_names ns (map code_name m.entries)) ms a)
  where
    go : (b : Bool) → has a (table_component m) ≡ b → (b || list_any (has a) (map table_component ms)) ≡ true
        → (list_any (has a) (map table_component ms) ≡ true → contains (names_from (with_names ns (map code_name m.entries)) ms) a.name ≡ true)
        → contains (names_from (with_names ns (map code_name m.entries)) ms) a.name ≡ true
    go true e h r =
        keeps_from (with_names ns (map code_name m.entries)) ms a.name (has_names ns (map code_name m.entries) a.name (entry_named m.start.table a m.entries e))
    go false e h r = r h

pub action_named : (p : Prog) (a : Act) → list_any (has a) (tabled p) ≡ true → contains (names_of p.members) a.name ≡ true
action_named p a h = action_from [] p.members a h

-- ---- a name that has a place, or none

pub with_there : (ns : List Name) (x : Name) → is_some (place_from 0 ns x) ≡ true → ns ≡ with_name ns x
with_there ns x h = by (place_from 0 ns x) refl h
  where
    by : (o : Option ℕ) → place_from 0 ns x ≡ o → is_some o ≡ true → ns ≡ with_name ns x
    by None e h = absurd (cc)
    by (Some i) e h = ap (more_if ns x) (sym (place_inside 0 ns x i e))

pub no_name_there : (ns : List Name) (x : Name) → is_some (place_from 0 ns x) ≡ false → place_from 0 ns x ≡ None
no_name_there ns x h = by (place_from 0 ns x) h
  where
    by : (o : Option ℕ) → is_some o ≡ false → o ≡ None
    by None h = refl
    by (Some i) h = absurd (cc)

pub with_new : (ns : List Name) (x : Name) → is_some (place_from 0 ns x) ≡ false → ns ++ x ∷ [] ≡ with_name ns x
with_new ns x h = ap (more_if ns x) (sym (no_place 0 ns x (no_name_there ns x h)))

-- ---- whether a name is one of these

pub is_there : (ns : List Name) (x : Name) → is_some (place_from 0 ns x) ≡ contains ns x
is_there ns x = by (place_from 0 ns x) refl
  where
    by : (o : Option ℕ) → place_from 0 ns x ≡ o → is_some o ≡ contains ns x
    by None e = sym (no_place 0 ns x e)
    by (Some i) e = sym (place_inside 0 ns x i e)
