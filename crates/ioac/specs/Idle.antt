-- What is told of a run that is done: which outputs and internal actions of its components none performed.
use Rattle.std.specs.Prelude.{ℕ, ◌+◌, ◌==◌, ◌&&◌, not, Bool, if◌then◌else◌, List, [], ◌∷◌, ◌++◌, Some, codes}
use Rattle.std.specs.List.{flat_map, list_any}
use Rattle.std.specs.Str.{bytes_eq}
use Rattle.std.specs.String.{string_bytes}
use Rattle.ioa_value.specs.Actions.{Act, Name}
use Rattle.ioa_tree.specs.Components.{is_local}
use Rattle.ioa_tree.specs.declared.tree.Entry.{Entry}
use Rattle.ioa_compose.specs.declared.member.Member.{Member}

-- the worker of this number performs an action of this name
abbrev pub is_of : ℕ → Name → ℕ × Act → Bool
is_of who x e = (e.0 == who) && bytes_eq (e.1).name x

-- the entry is the component's own, and no entry of the log is for it
abbrev pub is_idle : List (ℕ × Act) → ℕ → Entry → Bool
is_idle log who e = is_local (Some e.kind) && not (list_any (is_of who (string_bytes e.name.text)) log)

abbrev pub idle_line : Name → Name → List ℕ
idle_line component x = codes "no `" ++ (x ++ (codes "` of " ++ (component ++ codes " was performed\n")))

abbrev pub entry_idle : List (ℕ × Act) → ℕ → Name → Entry → List ℕ
entry_idle log who component e = if is_idle log who e then idle_line component (string_bytes e.name.text) else []

abbrev pub member_idle : List (ℕ × Act) → ℕ → Member → List ℕ
member_idle log who m = flat_map (entry_idle log who (string_bytes m.name)) m.automaton.entries.items

-- of the components from this number on
abbrev pub idle_text : List (ℕ × Act) → ℕ → List Member → List ℕ
idle_text log who [] = []
idle_text log who (m ∷ ms) = member_idle log who m ++ idle_text log (who + 1) ms
