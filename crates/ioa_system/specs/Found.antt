-- The participants that are found for an action, and the states that are lent to them.
use Rattle.std.specs.Prelude.{◌≡◌, ◌<◌, ◌+◌, ℕ, ℤ, Bool, true, false, List, [], ◌∷◌, All, Option, None, Some, filter, find, length, map, slice_get, slice_index_or, if◌then◌else◌}
use Rattle.std.specs.Option.{option_map_or}
use Rattle.ioa_value.specs.Actions.{Act}
use Rattle.ioa_value.specs.Plain.{Val}
use Rattle.ioa_value.specs.Positions.{all_take}
use Rattle.ioa_value.specs.Table.{Table}
use Rattle.ioa_words.specs.Layout.{flat_all}
use Rattle.ioa_parts.specs.Nodes.{Node}
use Rattle.ioa_tree.specs.declared.tree.Kind.{Kind}
use Rattle.ioa_tree.specs.Components.{Component, has, is_local}
use Rattle.ioa_tree.specs.Steps as steps
use Rattle.ioa_tree.specs.Steps.{participants}
use Rattle.ioa_sites.specs.declared.sites.Site.{Site}
use Rattle.ioa_compile.specs.Programs.{EntryCode, MemberCode, Prog}
use Rattle.ioa_compile.specs.Shown.{entry_code, member_code}
use Rattle.ioa_compile.specs.Sites.{sites_of}
use Rattle.ioa_compile.specs.Tables.{AreEntries, entry_of, table_component}
use Rattle.ioa_system.specs.declared.participation.Participant.{Participant}
use Rattle.ioa_system.specs.Systems.{Slots, slots_of}
use Rattle.ioa_system.specs.declared.steps.Consent.{Consent}

abbrev pub member_of : Participant → MemberCode
member_of q = member_code q.member.now

abbrev pub component_of : Participant → Component (List Val)
component_of q = table_component (member_of q)

abbrev pub components_of : List Participant → List (Component (List Val))
components_of qs = map component_of qs

abbrev pub numbers_of : List Participant → List ℕ
numbers_of qs = map (λ q. q.component) qs

-- the participants where their states alone are at hand, from place i on
abbrev pub placed : ℕ → List Participant → List Participant
placed i [] = []
placed i (q ∷ qs) = record q { place = i } ∷ placed (i + 1) qs

-- each entry is the component's that has the action
abbrev pub HaveEntries : Act → List Participant → Type 0
HaveEntries a qs = All (λ q. entry_of (member_of q) a ≡ Some (entry_code q.entry.now)) qs

-- of these members, the components that have the action, with their numbers and entries, each with its state in its place among those of
-- all
pub record AreParticipants (a : Act) (ms : List MemberCode) (qs : List Participant) : Type 0 where
  pub components : components_of qs ≡ filter (has a) (map table_component ms)
  pub numbers : numbers_of qs ≡ participants (map table_component ms) a
  pub members : All (λ q. slice_get ms q.component ≡ Some (member_of q)) qs
  pub entries : HaveEntries a qs
  pub places : All (λ q. q.place ≡ q.component) qs

-- an entry of these members stands in the site
abbrev pub IsSite : List MemberCode → Site → Type 0
IsSite ms s = (m : MemberCode) × (slice_get ms s.component ≡ Some m) × ((e : EntryCode) × (slice_get m.entries s.entry ≡ Some e))

-- the positions of the entry in this site take the action's values
abbrev pub takes_at : List MemberCode → Act → Site → Bool
takes_at ms a s = option_map_or (λ (m : MemberCode). option_map_or (λ (e : EntryCode). all_take m.start.table e.positions a.vals) (slice_get m.entries s.entry) false) (slice_get ms s.component) false

-- the entry in this site is an output or internal
abbrev pub is_local_at : List MemberCode → Site → Bool
is_local_at ms s = option_map_or (λ (m : MemberCode). option_map_or (λ (e : EntryCode). is_local (Some e.kind)) (slice_get m.entries s.entry) false) (slice_get ms s.component) false

-- the sites whose entries have the action, in ascending order
abbrev pub takers : Prog → Act → List Site
takers p a = filter (takes_at p.members a) (sites_of p a.name)

-- the first of them whose entry is an output or internal
abbrev pub owner_site : Prog → Act → Option Site
owner_site p a = find (is_local_at p.members) (takers p a)

-- the site that was found before, or this one of an entry of this kind, if it is an output or internal
abbrev pub first_local : Option Site → Kind → Site → Option Site
first_local (Some t) k s = Some t
first_local None k s = if is_local (Some k) then Some s else None

-- the participant's entry stands in this site and takes the action's values, and its state stands in its place among those of all
pub record IsTaker (ms : List MemberCode) (a : Act) (s : Site) (q : Participant) : Type 0 where
  pub component : q.component ≡ s.component
  pub place : q.place ≡ s.component
  pub here : slice_get ms s.component ≡ Some (member_of q)
  pub there : slice_get (member_of q).entries s.entry ≡ Some (entry_code q.entry.now)
  pub takes : all_take (member_of q).start.table (entry_code q.entry.now).positions a.vals ≡ true

-- the participant's state among those at hand
abbrev pub state_of : List Node → Participant → Node
state_of ns q = slice_index_or ns q.place (member_of q).start

-- the participants' states
abbrev pub lent : List Node → List Participant → List (List Val)
lent ns qs = map (λ q. (state_of ns q).values) qs

-- the types of the participants' variables
abbrev pub lent_types : List Participant → List Slots
lent_types qs = map (λ q. slots_of (member_of q).start) qs

abbrev pub IsLent : List Node → Participant → Type 0
IsLent ns q = (q.place < length ns) × (slots_of (state_of ns q) ≡ slots_of (member_of q).start)

-- the participants' variables are over one table of types
abbrev pub HaveOneTable : List Participant → Type 0
HaveOneTable qs = (types : Table) × All (λ q. (member_of q).start.table ≡ types) qs

-- the words are those of the action's values, by the types of each participant
abbrev pub AreArguments : Act → List Participant → List ℤ → Type 0
AreArguments a qs ws = All (λ q. ws ≡ flat_all (member_of q).start.table a.vals) qs

-- the participants' entries have the action and are sound, over one table of types, and their states are at hand
pub record AreReady (a : Act) (ns : List Node) (qs : List Participant) : Type 0 where
  pub entries : HaveEntries a qs
  pub table : HaveOneTable qs
  pub sound : All (λ q. AreEntries (member_of q) (member_of q).entries) qs
  pub states : All (IsLent ns) qs

-- what stands with the owner's consent, and what without it
abbrev pub consented : {S : Type 0} → Consent → steps.Moved S → steps.Moved S
consented Consent.Given m = m
consented Consent.Denied m = steps.not_enabled
consented (Consent.Faulted c f) m = steps.fault c f
