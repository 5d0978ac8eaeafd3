-- From the slots of a program's states to the lines of the hosts' states.
use Rattle.std.proofs.Common.{◌≡◌, ◌≤◌, ◌<◌, ◌+◌, ℕ, zero, suc, Bool, true, false, not, List, [], ◌∷◌, ◌++◌, append_assoc, append-nil, drop, length, map, Option, Some, None, Result, Ok, Err, OnOk, codes, refl, sym, ap, ap₂, ◌∙◌, arith}
use Rattle.std.specs.Prelude.{if◌then◌else◌, nat_lt, slice_get}
use Rattle.std.specs.List.{AllZip, flat_map}
use Rattle.std.specs.Option.{option_map_or}
use Rattle.std.specs.Str.{bytes_eq}
use Rattle.std.proofs.lemmas.Bool.{and_parts, false≢true}
use Rattle.std.proofs.lemmas.Bool.Decides.{nat_tests}
use Rattle.std.proofs.lemmas.List.{map-append}
use Rattle.std.proofs.lemmas.Option.{slice_get_past, slice_get_within}
use Rattle.std.proofs.lemmas.Slice.Eq.{bytes_eq-Decides}
use Rattle.ioa_value.specs.Actions.{Name}
use Rattle.ioa_value.specs.Plain.{Val, truth}
use Rattle.ioa_value.specs.Table.{Table, contains, distinct}
use Rattle.ioa_value.specs.declared.limits.Limits.{Limits}
use Rattle.ioa_value.proofs.ItemLemmas.{get_append, image_at}
use Rattle.ioa_value.proofs.NameLemmas.{distinct-append, item_inside}
use Rattle.ioa_tree.specs.Compositions.{Composed, Member}
use Rattle.ioa_tree.specs.Hosts.{Host, HostState, Hosted}
use Rattle.ioa_tree.specs.Instances.{field_names, variable_names}
use Rattle.ioa_tree.specs.Likes.{AllRelated}
use Rattle.ioa_tree.specs.Meaning.{Env, values_of}
use Rattle.ioa_tree.specs.Tree.{CrashTree, VariableTree}
use Rattle.ioa_tree.proofs.FineParts.{fine_parts}
use Rattle.ioa_compose.specs.Fine.{AllFine, IsFine, IsSound}
use Rattle.ioa_crash.specs.Limits.{component_limits}
use Rattle.ioa_crash.specs.Rewriting.{added_variables}
use Rattle.ioa_compose.specs.Simulates.{SlotsHold, SlotsHoldAt, IsMadeOf, Simulates, TellsUp}
use Rattle.ioa_picture.specs.Lines.{numbered}
use Rattle.ioa_account.specs.States.{component_lines, host_lines, is_down, is_down_at, is_down_by, is_down_in_slots, is_down_of, slot_line, slot_lines, slot_name, slots_at, slots_in, state_lines, tells_down, up_line, value_line, variable_line}

-- ---- slot i has the value of the variable that is the i-th

not_so : (b : Bool) → not b ≡ true → b ≡ false
not_so true e = absurd (false≢true e)
not_so false e = refl

values_at : (ns : List Name) (vs : List Val) (i : ℕ) (x : Name) → distinct ns ≡ true → slice_get ns i ≡ Some x → values_of ns vs x ≡ slice_get vs i
values_at [] vs i x d e = absurd (cc)
values_at (n ∷ ns) [] i x d e = refl
values_at (n ∷ ns) (v ∷ vs) zero x d e =
    let q : n ≡ x = cc in
    let same : bytes_eq n x ≡ true = (bytes_eq-Decides n x).1 q in
    ap (λ b. if b then Some v else values_of ns vs x) same
values_at (n ∷ ns) (v ∷ vs) (suc i) x d e =
    let parts = and_parts (not (contains ns n)) (distinct ns) d in
    go (bytes_eq n x) refl (not_so (contains ns n) parts.0) (item_inside ns i x e) (values_at ns vs i x parts.1 e)
  where
    go : (b : Bool) → bytes_eq n x ≡ b → contains ns n ≡ false → contains ns x ≡ true → values_of ns vs x ≡ slice_get vs i
        → (if b then Some v else values_of ns vs x) ≡ slice_get vs i
    go true t out inside rest = absurd (false≢true (sym out ∙ ap (contains ns) ((bytes_eq-Decides n x).0 t) ∙ inside))
    go false t out inside rest = rest

first_distinct : (ns ms : List Name) → distinct (ns ++ ms) ≡ true → distinct ns ≡ true
first_distinct ns ms d = (and_parts (distinct ns) _ (sym (distinct-append ns ms) ∙ d)).0

last_distinct : (ns ms : List Name) → distinct (ns ++ ms) ≡ true → distinct ms ≡ true
last_distinct ns ms d = (and_parts (distinct ms) _ (and_parts (distinct ns) _ (sym (distinct-append ns ms) ∙ d)).1).0

-- ---- and its name

slot_declared : (m : Member) (i : ℕ) (v : VariableTree) → slice_get m.instance.automaton.variables i ≡ Some v → i < m.declared → slot_name m i ≡ v.field.name
slot_declared m i v at less =
    let test : nat_lt i m.declared ≡ true = grind (arith, nat_tests) in
    ap (λ o. option_map_or (λ (u : VariableTree). if nat_lt i m.declared then u.field.name else codes "up") o (codes "up")) at
    ∙ ap (λ b. if b then v.field.name else codes "up") test

slot_behind : (m : Member) (i : ℕ) → m.declared ≤ i → slot_name m i ≡ codes "up"
slot_behind m i most = go (slice_get m.instance.automaton.variables i)
  where
    test : nat_lt i m.declared ≡ false
    test = grind (arith, nat_tests)

    go : (o : Option VariableTree) → option_map_or (λ (u : VariableTree). if nat_lt i m.declared then u.field.name else codes "up") o (codes "up") ≡ codes "up"
    go None = refl
    go (Some u) = ap (λ b. if b then u.field.name else codes "up") test

-- ---- the lines of slots that hold these variables, and then of the others

slots_show : (types : Table) (m : Member) (us : List VariableTree) (s : Env) (ws : List Val) (k : ℕ)
    → ((j : ℕ) (v : VariableTree) → slice_get us j ≡ Some v → slot_name m (k + j) ≡ v.field.name)
    → ((j : ℕ) (v : VariableTree) → slice_get us j ≡ Some v → s v.field.name ≡ slice_get ws j)
    → length us ≤ length ws
    → numbered (slot_line types m) k ws ≡ flat_map (variable_line types m.name s) us ++ numbered (slot_line types m) (k + length us) (drop (length us) ws)
slots_show types m [] s ws k names values long =
    let here : k ≡ k + 0 = omega arith in
    ap (λ n. numbered (slot_line types m) n ws) here
slots_show types m (u ∷ us) s [] k names values long = absurd (omega arith)
slots_show types m (u ∷ us) s (w ∷ ws) k names values long =
    let here : k ≡ k + 0 = omega arith in
    let name : slot_name m k ≡ u.field.name = ap (slot_name m) here ∙ names 0 u refl in
    let line : slot_line types m k w ≡ variable_line types m.name s u =
    ap (λ x. value_line types m.name x w) name ∙ ap (λ o. option_map_or (value_line types m.name u.field.name) o []) (sym (values 0 u refl)) in
    let rest = slots_show types m us s ws (k + 1)
    (λ j v at. let next : k + 1 + j ≡ k + suc j = omega arith in ap (slot_name m) next ∙ names (suc j) v at)
    (λ j v at. values (suc j) v at) (omega arith) in
    let past : k + 1 + length us ≡ k + suc (length us) = omega arith in
    ap₂ (λ a b. a ++ b) line rest
    ∙ sym (append_assoc (variable_line types m.name s u) (flat_map (variable_line types m.name s) us) (numbered (slot_line types m) (k + 1 + length us) (drop (length us) ws)))
    ∙ ap (λ n. (variable_line types m.name s u ++ flat_map (variable_line types m.name s) us) ++ numbered (slot_line types m) n (drop (length us) ws)) past

nothing_left : (vs : List Val) (n : ℕ) → length vs ≡ n → drop n vs ≡ []
nothing_left [] zero e = refl
nothing_left [] (suc n) e = absurd (omega (arith, e))
nothing_left (v ∷ vs) zero e = absurd (omega (arith, e))
nothing_left (v ∷ vs) (suc n) e = nothing_left vs n (omega (arith, e))

one_left : (vs : List Val) (n : ℕ) (v : Val) → length vs ≡ n + 1 → slice_get vs n ≡ Some v → drop n vs ≡ v ∷ []
one_left [] n v e at = absurd (cc)
one_left (w ∷ []) zero v e at = let q : w ≡ v = cc in ap (λ x. x ∷ []) q
one_left (w ∷ x ∷ vs) zero v e at = absurd (omega (arith, e))
one_left (w ∷ vs) (suc n) v e at = one_left vs n v (omega (arith, e)) at

-- ---- so of a host

up_shows : (types : Table) (m : Member) (crash : Option CrashTree) (n : ℕ) (up : Bool) (vs : List Val) → m.declared ≡ n → TellsUp crash n up vs
    → numbered (slot_line types m) n (drop n vs) ≡ up_line types m.name crash up
up_shows types m None n up vs same tells = ap (numbered (slot_line types m) n) (nothing_left vs n tells.0)
up_shows types m (Some names) n up vs same tells =
    let behind : m.declared ≤ n = omega (arith, same) in
    ap (numbered (slot_line types m) n) (one_left vs n (truth up) tells.0 tells.1)
    ∙ append-nil (value_line types m.name (slot_name m n) (truth up))
    ∙ ap (λ x. value_line types m.name x (truth up)) (slot_behind m n behind)

long_enough : (crash : Option CrashTree) (n : ℕ) (up : Bool) (vs : List Val) → TellsUp crash n up vs → n ≤ length vs
long_enough None n up vs tells = omega (arith, tells.0)
long_enough (Some names) n up vs tells = omega (arith, tells.0)

host_shows : (types : Table) (most : Limits) (p : Host) (m : Member) (h : HostState Env) (vs : List Val) → IsMadeOf p m → IsFine most m → SlotsHold p h vs
    → numbered (slot_line types m) 0 vs ≡ host_lines types p h
host_shows types most p m h vs made fine holds =
    let own = p.instance.automaton.variables in
    let all : List VariableTree = m.instance.automaton.variables in
    let n = length own in
    let parts = fine_parts m.instance.types m.instance.types fine.automaton.0 m.instance.automaton fine.automaton.1 in
    let named : variable_names m.instance.automaton ≡ variable_names p.instance.automaton ++ map (λ (v : VariableTree). v.field.name) (added_variables p.crash) =
    ap (map (λ (v : VariableTree). v.field.name)) made.variables ∙ map-append (λ (v : VariableTree). v.field.name) own (added_variables p.crash) in
    let different : distinct (variable_names p.instance.automaton) ≡ true =
    first_distinct (variable_names p.instance.automaton) _
    (ap distinct (sym named) ∙ last_distinct (field_names m.instance.automaton.formals) (variable_names m.instance.automaton) parts.distinct_names) in
    let names : (j : ℕ) (v : VariableTree) → slice_get own j ≡ Some v → slot_name m (0 + j) ≡ v.field.name = λ j v at.
    let first : j ≡ 0 + j = omega arith in
    let there : slice_get all j ≡ Some v = ap (λ (xs : List VariableTree). slice_get xs j) made.variables ∙ get_append own (added_variables p.crash) j v at in
    ap (slot_name m) (sym first) ∙ slot_declared m j v there (omega (arith, slice_get_within own j v at, made.declared)) in
    let values : (j : ℕ) (v : VariableTree) → slice_get own j ≡ Some v → h.inner v.field.name ≡ slice_get vs j = λ j v at.
    holds.values v.field.name
    ∙ values_at (variable_names p.instance.automaton) vs j v.field.name different (image_at (λ (u : VariableTree). u.field.name) own j v at) in
    let past : 0 + n ≡ n = omega arith in
    slots_show types m own h.inner vs 0 names values (long_enough p.crash n h.up vs holds.up)
    ∙ ap (λ k. flat_map (variable_line types m.name h.inner) own ++ numbered (slot_line types m) k (drop n vs)) past
    ∙ ap (λ l. flat_map (variable_line types m.name h.inner) own ++ l) (up_shows types m p.crash n h.up vs made.declared holds.up)
    ∙ ap (λ c. flat_map (variable_line types c h.inner) own ++ up_line types c p.crash h.up) made.name

-- ---- and of all hosts

same_at : {X : Type 0} (xs : List X) (i : ℕ) (o : Option X) → slice_get xs (i + 0) ≡ o → slice_get xs i ≡ o
same_at xs i o e = let here : i ≡ i + 0 = omega arith in ap (slice_get xs) here ∙ e

later : {X : Type 0} (xs ys : List X) (i : ℕ) (y : X) → ((k : ℕ) → slice_get xs (i + k) ≡ slice_get (y ∷ ys) k) → (k : ℕ) → slice_get xs (i + 1 + k) ≡ slice_get ys k
later xs ys i y at k = let next : i + 1 + k ≡ i + suc k = omega arith in ap (slice_get xs) next ∙ at (suc k)

none_later : {X : Type 0} (xs : List X) (i : ℕ) → ((k : ℕ) → slice_get xs (i + k) ≡ None) → (k : ℕ) → slice_get xs (i + 1 + k) ≡ None
none_later xs i at k = let next : i + 1 + k ≡ i + suc k = omega arith in ap (slice_get xs) next ∙ at (suc k)

none_show : (types : Table) (ms : List Member) (i : ℕ) (vss : List (List Val)) → ((k : ℕ) → slice_get ms (i + k) ≡ None) → numbered (slots_in types ms) i vss ≡ []
none_show types ms i [] none = refl
none_show types ms i (vs ∷ vss) none =
    ap₂ (λ a b. a ++ b) (ap (λ o. slot_lines types o vs) (same_at ms i None (none 0))) (none_show types ms (i + 1) vss (none_later ms i none))

hosts_show : (types : Table) (most : Limits) (all ps : List Host) (every ms : List Member) (i : ℕ) (hs : List (HostState Env)) (vss : List (List Val))
    → ((k : ℕ) → slice_get all (i + k) ≡ slice_get ps k) → ((k : ℕ) → slice_get every (i + k) ≡ slice_get ms k)
    → AllZip IsMadeOf ps ms → AllFine most ms → AllRelated (SlotsHoldAt all) i hs vss
    → numbered (slots_in types every) i vss ≡ state_lines types ps hs
hosts_show types most all [] every [] i hs vss at am made fine holds = none_show types every i vss am
hosts_show types most all [] every (m ∷ ms) i hs vss at am made fine holds = absurd made
hosts_show types most all (p ∷ ps) every [] i hs vss at am made fine holds = absurd made
hosts_show types most all (p ∷ ps) every (m ∷ ms) i [] [] at am made fine holds = refl
hosts_show types most all (p ∷ ps) every (m ∷ ms) i [] (vs ∷ vss) at am made fine holds = absurd holds
hosts_show types most all (p ∷ ps) every (m ∷ ms) i (h ∷ hs) [] at am made fine holds = absurd holds
hosts_show types most all (p ∷ ps) every (m ∷ ms) i (h ∷ hs) (vs ∷ vss) at am made fine holds =
    let here : slots_in types every i vs ≡ numbered (slot_line types m) 0 vs = ap (λ o. slot_lines types o vs) (same_at every i (Some m) (am 0)) in
    ap₂ (λ a b. a ++ b) (here ∙ host_shows types most p m h vs made.0 fine.0 (holds.0 p (same_at all i (Some p) (at 0))))
    (hosts_show types most all ps every ms (i + 1) hs vss (later all ps i p at) (later every ms i m am) made.1 fine.1 holds.1)

from_start : {X : Type 0} (xs : List X) (k : ℕ) → slice_get xs (0 + k) ≡ slice_get xs k
from_start xs k = let here : 0 + k ≡ k = omega arith in ap (slice_get xs) here

pub states_show : (types : Table) (c : Composed) (h : Hosted) (hs : List (HostState Env)) (vss : List (List Val)) → types ≡ c.types → IsSound c → Simulates h c
    → AllRelated (SlotsHoldAt h.hosts) 0 hs vss → numbered (slots_in types c.members) 0 vss ≡ state_lines h.types h.hosts hs
states_show types c h hs vss same sound stands holds =
    ap (λ ts. numbered (slots_in ts c.members) 0 vss) (same ∙ stands.types)
    ∙ hosts_show h.types component_limits h.hosts h.hosts c.members c.members 0 hs vss (from_start h.hosts) (from_start c.members) stands.members sound.members holds

-- the same of what is written behind a text
pub states_told : {E : Type 0} (r : Result Unit E) (types : Table) (c : Composed) (vss : List (List Val)) (old new : List ℕ) → types ≡ c.types → IsSound c
    → OnOk r (new ≡ old ++ numbered (slots_in types c.members) 0 vss)
    → OnOk r ((h : Hosted) (hs : List (HostState Env)) → Simulates h c → AllRelated (SlotsHoldAt h.hosts) 0 hs vss → new ≡ old ++ state_lines h.types h.hosts hs)
states_told (Ok x) types c vss old new same sound e = λ h hs stands holds. e ∙ ap (λ l. old ++ l) (states_show types c h hs vss same sound stands holds)
states_told (Err e) types c vss old new same sound k = tt

-- ---- and of one host alone

nothing : {X : Type 0} (o : Option X) → option_map_or {U = List ℕ} (λ (x : X). []) o [] ≡ []
nothing None = refl
nothing (Some x) = refl

no_slots : (types : Table) (ms : List Member) (i : ℕ) (o : Option (List Val)) → slice_get ms i ≡ None → option_map_or (slots_in types ms i) o [] ≡ []
no_slots types ms i None none = refl
no_slots types ms i (Some vs) none = ap (λ o. slot_lines types o vs) none

component_shows : (types : Table) (most : Limits) (all ps : List Host) (every ms : List Member) (i : ℕ) (hs : List (HostState Env)) (vss : List (List Val)) (k : ℕ)
    → ((j : ℕ) → slice_get all (i + j) ≡ slice_get ps j) → ((j : ℕ) → slice_get every (i + j) ≡ slice_get ms j)
    → AllZip IsMadeOf ps ms → AllFine most ms → AllRelated (SlotsHoldAt all) i hs vss
    → option_map_or (slots_in types every (i + k)) (slice_get vss k) [] ≡ component_lines types ps hs k
component_shows types most all [] every [] i hs vss k at am made fine holds = no_slots types every (i + k) (slice_get vss k) (am k) ∙ sym (nothing (slice_get hs k))
component_shows types most all [] every (m ∷ ms) i hs vss k at am made fine holds = absurd made
component_shows types most all (p ∷ ps) every [] i hs vss k at am made fine holds = absurd made
component_shows types most all (p ∷ ps) every (m ∷ ms) i [] [] k at am made fine holds = refl
component_shows types most all (p ∷ ps) every (m ∷ ms) i [] (vs ∷ vss) k at am made fine holds = absurd holds
component_shows types most all (p ∷ ps) every (m ∷ ms) i (h ∷ hs) [] k at am made fine holds = absurd holds
component_shows types most all (p ∷ ps) every (m ∷ ms) i (h ∷ hs) (vs ∷ vss) zero at am made fine holds =
    ap (λ o. slot_lines types o vs) (am 0) ∙ host_shows types most p m h vs made.0 fine.0 (holds.0 p (same_at all i (Some p) (at 0)))
component_shows types most all (p ∷ ps) every (m ∷ ms) i (h ∷ hs) (vs ∷ vss) (suc k) at am made fine holds =
    let next : i + suc k ≡ i + 1 + k = omega arith in
    ap (λ n. option_map_or (slots_in types every n) (slice_get vss k) []) next
    ∙ component_shows types most all ps every ms (i + 1) hs vss k (later all ps i p at) (later every ms i m am) made.1 fine.1 holds.1

pub component_told : {E : Type 0} (r : Result Unit E) (types : Table) (c : Composed) (vss : List (List Val)) (number : ℕ) (old new : List ℕ) → types ≡ c.types → IsSound c
    → OnOk r (new ≡ old ++ slots_at types c.members vss number)
    → OnOk r ((h : Hosted) (hs : List (HostState Env)) → Simulates h c → AllRelated (SlotsHoldAt h.hosts) 0 hs vss → new ≡ old ++ component_lines h.types h.hosts hs number)
component_told (Ok x) types c vss number old new same sound e = λ h hs stands holds.
    let here : number ≡ 0 + number = omega arith in
    e ∙ ap (λ ts. old ++ slots_at ts c.members vss number) (same ∙ stands.types)
    ∙ ap (λ n. old ++ option_map_or (slots_in h.types c.members n) (slice_get vss number) []) here
    ∙ ap (λ l. old ++ l)
    (component_shows h.types component_limits h.hosts h.hosts c.members c.members 0 hs vss number (from_start h.hosts) (from_start c.members) stands.members sound.members holds)
component_told (Err e) types c vss number old new same sound k = tt

-- ---- whether a host is down

not_down : {X : Type 0} (o : Option X) → option_map_or {U = Bool} (λ (x : X). false) o false ≡ false
not_down None = refl
not_down (Some x) = refl

none_down : (ms : List Member) (i : ℕ) (o : Option (List Val)) → slice_get ms i ≡ None → option_map_or (is_down_in_slots ms i) o false ≡ false
none_down ms i None none = refl
none_down ms i (Some vs) none = ap (λ (m : Option Member). is_down_of m vs) none

-- behind its declared variables stands whether it is up
down_shows : (crash : Option CrashTree) (m : Member) (n : ℕ) (up : Bool) (vs : List Val) → m.declared ≡ n → TellsUp crash n up vs → is_down_by m vs ≡ not up
down_shows None m n up vs same tells =
    let past : slice_get vs m.declared ≡ None = slice_get_past vs m.declared (omega (arith, same, tells.0)) in
    ap (λ o. option_map_or tells_down o false) past ∙ ap not (sym tells.1)
down_shows (Some names) m n up vs same tells = ap (λ o. option_map_or tells_down o false) (ap (slice_get vs) same ∙ tells.1)

host_down : (all ps : List Host) (every ms : List Member) (i : ℕ) (hs : List (HostState Env)) (vss : List (List Val)) (k : ℕ)
    → ((j : ℕ) → slice_get all (i + j) ≡ slice_get ps j) → ((j : ℕ) → slice_get every (i + j) ≡ slice_get ms j)
    → AllZip IsMadeOf ps ms → AllRelated (SlotsHoldAt all) i hs vss
    → option_map_or (is_down_in_slots every (i + k)) (slice_get vss k) false ≡ is_down ps hs k
host_down all [] every [] i hs vss k at am made holds = none_down every (i + k) (slice_get vss k) (am k) ∙ sym (not_down (slice_get hs k))
host_down all [] every (m ∷ ms) i hs vss k at am made holds = absurd made
host_down all (p ∷ ps) every [] i hs vss k at am made holds = absurd made
host_down all (p ∷ ps) every (m ∷ ms) i [] [] k at am made holds = refl
host_down all (p ∷ ps) every (m ∷ ms) i [] (vs ∷ vss) k at am made holds = absurd holds
host_down all (p ∷ ps) every (m ∷ ms) i (h ∷ hs) [] k at am made holds = absurd holds
host_down all (p ∷ ps) every (m ∷ ms) i (h ∷ hs) (vs ∷ vss) zero at am made holds =
    ap (λ (o : Option Member). is_down_of o vs) (am 0)
    ∙ down_shows p.crash m (length p.instance.automaton.variables) h.up vs made.0.declared (holds.0 p (same_at all i (Some p) (at 0))).up
host_down all (p ∷ ps) every (m ∷ ms) i (h ∷ hs) (vs ∷ vss) (suc k) at am made holds =
    let next : i + suc k ≡ i + 1 + k = omega arith in
    ap (λ n. option_map_or (is_down_in_slots every n) (slice_get vss k) false) next
    ∙ host_down all ps every ms (i + 1) hs vss k (later all ps i p at) (later every ms i m am) made.1 holds.1

pub down_alike : (c : Composed) (vss : List (List Val)) (number : ℕ) (down : Bool) → down ≡ is_down_at c.members vss number
    → (h : Hosted) (hs : List (HostState Env)) → Simulates h c → AllRelated (SlotsHoldAt h.hosts) 0 hs vss → down ≡ is_down h.hosts hs number
down_alike c vss number down e h hs stands holds =
    let here : number ≡ 0 + number = omega arith in
    e ∙ ap (λ n. option_map_or (is_down_in_slots c.members n) (slice_get vss number) false) here
    ∙ host_down h.hosts h.hosts c.members c.members 0 hs vss number (from_start h.hosts) (from_start c.members) stands.members holds
