-- What is said of hosts alone.
use Rattle.std.specs.Prelude.{ℕ, List}
use Rattle.ioa_value.specs.Plain.{Val}
use Rattle.ioa_tree.specs.Hosts.{HostState, Hosted}
use Rattle.ioa_tree.specs.Meaning.{Env}
use Rattle.ioa_compile.specs.Programs.{Prog}
use Rattle.ioa_compile.specs.Subjects.{HoldsTyped}

-- slots that hold the hosts' states, with the program's types
abbrev pub Held : Hosted → Prog → ℕ → HostState Env → List Val → Type 0
Held h p i state slots = HoldsTyped h.hosts p.members i state slots
