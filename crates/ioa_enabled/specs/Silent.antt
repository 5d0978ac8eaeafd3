-- Where no line is told of the hosts' own actions, nothing more happens without an input, whatever words come.
use Rattle.std.specs.Prelude.{◌≡◌, ℕ, true, false, List, Some, slice_get}
use Rattle.ioa_value.specs.Actions.{Act}
use Rattle.ioa_value.specs.Table.{AreTypes, Table}
use Rattle.ioa_tree.specs.Components.{is_local}
use Rattle.ioa_tree.specs.Hosts.{Host, HostState, host_of}
use Rattle.ioa_tree.specs.Meaning.{Env}
use Rattle.ioa_tree.specs.Proposing.{Words, tries}
use Rattle.ioa_tree.specs.Tree.{EntryTree}
use Rattle.ioa_run.specs.Proposers.{by_entry}
use Rattle.ioa_enabled.specs.declared.part.Part.{Part}
use Rattle.ioa_enabled.specs.Next.{is_nothing}
use Rattle.ioa_enabled.specs.Told.{part_lines}
use Rattle.ioa_enabled.specs.Ways.{is_enabled}

-- no words make an entry that the host performs propose an action that is enabled
abbrev pub IsSilent : Host → HostState Env → Type 0
IsSilent p s =
    (k : ℕ) (e : EntryTree) (words : Words) (a : Act) (taken : ℕ) → slice_get p.instance.automaton.entries k ≡ Some e → is_local (Some e.kind) ≡ true
    → by_entry p.instance e s.inner words 0 ≡ tries a taken → is_enabled (host_of p) s a ≡ false

-- so of each host in its state
abbrev pub NothingMoreIsProposed : Type 0
NothingMoreIsProposed =
    (types : Table) (ps : List Host) (hs : List (HostState Env)) → is_nothing (part_lines Part.Own types ps hs) ≡ true
    → (i : ℕ) (p : Host) (s : HostState Env) → slice_get ps i ≡ Some p → slice_get hs i ≡ Some s → AreTypes p.instance.types → IsSilent p s
