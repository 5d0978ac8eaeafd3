-- What is told of the states that a run reached: which of their own actions the components may perform next, or that they perform none.
use Rattle.std.specs.Prelude.{◌++◌, ◌==◌, ℕ, Bool, List, if◌then◌else◌, codes, length}
use Rattle.ioa_value.specs.Table.{Table}
use Rattle.ioa_tree.specs.Hosts.{Host, HostState}
use Rattle.ioa_tree.specs.Meaning.{Env}
use Rattle.ioa_enabled.specs.declared.part.Part.{Part}
use Rattle.ioa_enabled.specs.Told.{part_lines}

abbrev pub is_nothing : List ℕ → Bool
is_nothing text = length text == 0

-- by the lines of the entries of which an action is enabled, and by all lines that are told of entries: these have some of others only where more actions may be
-- proposed than are tried
abbrev pub heading : List ℕ → List ℕ → List ℕ
heading enabled own =
    if is_nothing own then
    codes "none is enabled in the state that the run reached, whatever words come: nothing more happens without an input\n"
    else
    (if is_nothing enabled then codes "none of those tried is enabled in the state that the run reached:\n" else codes "these are enabled in the state that the run reached:\n")

-- behind it all lines but those of inputs
abbrev pub headed : List ℕ → List ℕ → List ℕ
headed enabled own = heading enabled own ++ own

abbrev pub next_lines : Table → List Host → List (HostState Env) → List ℕ
next_lines types ps hs = headed (part_lines Part.Enabled types ps hs) (part_lines Part.Own types ps hs)
