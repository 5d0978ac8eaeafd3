-- What is told of a program's entries is so of those of the hosts that its source declares.
use Rattle.std.specs.Prelude.{◌≡◌, ℕ, List, true, Some, slice_get}
use Rattle.ioa_value.specs.Actions.{Act}
use Rattle.ioa_value.specs.Plain.{Val}
use Rattle.ioa_tree.specs.Components.{is_local}
use Rattle.ioa_tree.specs.Hosts.{Host, HostState, Hosted, host_of}
use Rattle.ioa_tree.specs.Meaning.{Env}
use Rattle.ioa_tree.specs.Tree.{EntryTree}
use Rattle.ioa_compile.specs.Programs.{EntryCode, MemberCode, Prog}
use Rattle.ioa_compile.specs.Subjects.{HoldsTyped, Runs}
use Rattle.ioa_compile.specs.Tables.{IsProgram, table_component}
use Rattle.ioa_enabled.specs.Sampled.{HasWays}
use Rattle.ioa_enabled.specs.Ways.{is_enabled, ways}

-- the entry has the name of the host's, and its code the ways of the host's; and the same actions are enabled
pub record OffersAs (host : Host) (e : EntryTree) (state : HostState Env) (m : MemberCode) (d : EntryCode) (slots : List Val) : Type 0 where
  pub name : d.name ≡ e.name
  pub kind : d.kind ≡ e.kind
  pub has : HasWays d slots (ways host.instance e state.inner)
  pub enabled : (a : Act) → is_enabled (host_of host) state a ≡ is_enabled (table_component m) slots a

-- so of each local entry in its place, where the slots hold the host's state
abbrev pub OffersAreTheHosts : Type 0
OffersAreTheHosts =
    (p : Prog) (h : Hosted) → IsProgram p → Runs p h → (i k : ℕ) (host : Host) (e : EntryTree) (m : MemberCode) → slice_get h.hosts i ≡ Some host
    → host.instance.types ≡ h.types → slice_get host.instance.automaton.entries k ≡ Some e → is_local (Some e.kind) ≡ true → slice_get p.members i ≡ Some m
    → (d : EntryCode) × (slice_get m.entries k ≡ Some d)
    × ((state : HostState Env) (slots : List Val) → HoldsTyped h.hosts p.members i state slots → OffersAs host e state m d slots)
