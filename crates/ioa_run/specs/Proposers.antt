-- What the components of a program propose, and those of whatever it runs as.
use Rattle.std.specs.Prelude.{◌+◌, ℕ, List, [], ◌∷◌, Option, None, Some, filter, map}
use Rattle.std.specs.Option.{option_map, option_map_or}
use Rattle.ioa_value.specs.Actions.{Act}
use Rattle.ioa_value.specs.Plain.{Val}
use Rattle.ioa_value.specs.Positions.{Domain, every, single}
use Rattle.ioa_code.specs.Valid.{Part}
use Rattle.ioa_parts.specs.Proposals.{proposal_of, words_of}
use Rattle.ioa_tree.specs.Components.{is_local}
use Rattle.ioa_tree.specs.Compositions.{Member}
use Rattle.ioa_tree.specs.Hosts.{Host, HostState}
use Rattle.ioa_tree.specs.Instances.{Instance, constant_value}
use Rattle.ioa_tree.specs.Meaning.{Env}
use Rattle.ioa_tree.specs.Proposing.{Tried, tries, idle, proposed, then_try}
use Rattle.ioa_tree.specs.Tree.{EntryTree, PositionTree, only, typed}
use Rattle.ioa_compile.specs.Programs.{EntryCode, MemberCode, Prog}
use Rattle.ioa_compile.specs.Subjects.{State, Subject, of_composition, of_hosts, of_table}
use Rattle.ioa_run.specs.Turns.{Proposer, after}

-- ---- a program's table

-- values of parameters, each in its place among the constants
abbrev pub filled : List Domain → List Val → List Val
filled [] vs = []
filled (single c ∷ ds) vs = c ∷ filled ds vs
filled (every ty ∷ ds) [] = filled ds []
filled (every ty ∷ ds) (v ∷ vs) = v ∷ filled ds vs

-- the action of the entry with these values of its parameters
abbrev pub action_with : EntryCode → List Val → Act
action_with e vs = record { name = e.name; vals = filled e.positions vs }

abbrev pub tried : Option Act → ℕ → Tried Act
tried (Some a) taken = tries a taken
tried None taken = idle taken

-- what an entry's code gives, with the words after those taken
abbrev pub by_code : EntryCode → Option Part → Proposer (List Val)
by_code e None s words taken = idle taken
by_code e (Some part) s words taken =
    tried (option_map (action_with e) (proposal_of part s (after taken words))) (taken + words_of part s (after taken words))

-- the entries that their component performs, in order
abbrev pub local_entries : List EntryCode → List EntryCode
local_entries es = filter (λ e. is_local (Some e.kind)) es

abbrev pub proposers_of : MemberCode → List (Proposer (List Val))
proposers_of m = map (λ e. by_code e e.propose) (local_entries m.entries)

abbrev pub proposers : Prog → List (List (Proposer (List Val)))
proposers p = map proposers_of p.members

-- ---- trees

-- values of parameters, each in its place among the values that constants stand for
abbrev pub filled_in : Instance → List PositionTree → List Val → List Val
filled_in i [] vs = []
filled_in i (typed f ∷ ps) [] = filled_in i ps []
filled_in i (typed f ∷ ps) (v ∷ vs) = v ∷ filled_in i ps vs
filled_in i (only c ∷ ps) vs = option_map_or (λ v. v ∷ filled_in i ps vs) (constant_value i c) (filled_in i ps vs)

-- what an entry proposes in its component's state
abbrev pub by_entry : Instance → EntryTree → Proposer Env
by_entry i e s words taken = then_try (proposed i e s words taken) (λ vs. tries (record { name = e.name; vals = filled_in i e.positions vs }))

-- the entries that the component performs, in order
abbrev pub own_entries : List EntryTree → List EntryTree
own_entries es = filter (λ e. is_local (Some e.kind)) es

-- a host's propose so also while it is down
abbrev pub host_proposers_of : Host → List (Proposer (HostState Env))
host_proposers_of p = map (λ e h. by_entry p.instance e h.inner) (own_entries p.instance.automaton.entries)

abbrev pub member_proposers_of : Member → List (Proposer Env)
member_proposers_of m = map (by_entry m.instance) (own_entries m.instance.automaton.entries)

-- ---- whatever a program runs as

-- what the entries that each component performs propose, in their order
abbrev pub its_proposers : (s : Subject) → List (List (Proposer (State s)))
its_proposers (of_hosts h) = map host_proposers_of h.hosts
its_proposers (of_composition c) = map member_proposers_of c.members
its_proposers (of_table p) = proposers p
