-- What the entries of a program's table are, and what the code of their proposals gives, by the hosts of the source.
use Rattle.std.specs.Prelude.{◌≡◌, ℕ, List, Some, IfSome, slice_get}
use Rattle.ioa_value.specs.Plain.{Val}
use Rattle.ioa_value.specs.Typing.{HaveTypes}
use Rattle.ioa_tree.specs.Tree.{EntryTree}
use Rattle.ioa_tree.specs.Meaning.{Env}
use Rattle.ioa_tree.specs.Compositions.{Composed}
use Rattle.ioa_tree.specs.Hosts.{HostState, Host, Hosted}
use Rattle.ioa_tree.specs.Proposing.{Words, proposed}
use Rattle.ioa_compose.specs.Simulates.{SlotsHold, Simulates}
use Rattle.ioa_compile.specs.CodeEnds.{ProposalEnds}
use Rattle.ioa_compile.specs.Implements.{Implements}
use Rattle.ioa_compile.specs.Programs.{EntryCode, MemberCode, Prog}

-- The table's entry has the kind and the name of the host's. On slots of the component's types that hold the host's state, its proposals
-- give what the host's entry proposes, whatever the words are, and also while the host is down.
pub record IsOfHost (p : Host) (e : EntryTree) (m : MemberCode) (c : EntryCode) : Type 0 where
  pub kind : c.kind ≡ e.kind
  pub name : c.name ≡ e.name
  pub propose : IfSome c.propose (λ part. (h : HostState Env) (slots : List Val) (words : Words) → SlotsHold p h slots → HaveTypes m.start.table slots m.start.types → ProposalEnds part slots words (proposed p.instance e h.inner words 0))

-- a program that means a composition which stands for hosts has their entries, each in its place
abbrev pub EntriesAreTheHosts : Type 0
EntriesAreTheHosts =
    (p : Prog) (h : Hosted) (c : Composed) → Simulates h c → Implements p c → (i k : ℕ) (host : Host) (e : EntryTree) (m : MemberCode)
    → slice_get h.hosts i ≡ Some host → slice_get host.instance.automaton.entries k ≡ Some e → slice_get p.members i ≡ Some m
    → (d : EntryCode) × (slice_get m.entries k ≡ Some d) × IsOfHost host e m d
