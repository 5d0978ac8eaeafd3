-- What a chart of a log writes: a sequence diagram of its actions, in the form that Mermaid reads.
use Rattle.std.specs.Prelude.{◌≡◌, ℕ, ◌==◌, not, if◌then◌else◌, List, [], ◌∷◌, ◌++◌, Option, codes, filter, length, map}
use Rattle.std.specs.Fmt.{decimal}
use Rattle.std.specs.List.{flat_map}
use Rattle.ioa_value.specs.Actions.{Name, Act}
use Rattle.ioa_value.specs.Table.{Table}
use Rattle.ioa_value.specs.Written.{written_action}
use Rattle.ioa_tree.specs.Components.{Component}
use Rattle.ioa_tree.specs.Runs.{Ending, done, not_an_action_at, not_enabled_at, fault_at}
use Rattle.ioa_tree.specs.Steps.{participants}
use Rattle.ioa_compile.specs.Programs.{Prog}
use Rattle.ioa_system.specs.Endings.{ending_text}
use Rattle.ioa_system.specs.Logs.{Logged}
use Rattle.ioa_picture.specs.Lines.{numbered}
use Rattle.ioa_picture.specs.Selections.{Selection, is_drawn, is_left_out, is_within, reaches_end, whole}

-- the names of a program's components, in their order
abbrev pub names_of : Prog → List Name
names_of p = map (λ m. m.name) p.members

-- a worker has a line of its own, P and its number, with its name
abbrev pub worker_line : ℕ → Name → List ℕ
worker_line n x = codes "  participant P" ++ (decimal n ++ (codes " as " ++ (x ++ codes "\n")))

-- the components in order, and the environment, which has their number
abbrev pub workers : List Name → List ℕ
workers names = numbered worker_line 0 names ++ worker_line (length names) (codes "environment")

abbrev pub note : ℕ → List ℕ → List ℕ
note over text = codes "  Note over P" ++ (decimal over ++ (codes ": " ++ (text ++ codes "\n")))

abbrev pub arrow : ℕ → List ℕ → ℕ → List ℕ
arrow from text to = codes "  P" ++ (decimal from ++ (codes "->>P" ++ (decimal to ++ (codes ": " ++ (text ++ codes "\n")))))

-- an arrow to each of these, or a note where there are none
abbrev pub arrows_or_note : ℕ → List ℕ → List ℕ → List ℕ
arrows_or_note from text [] = note from text
arrows_or_note from text (to ∷ more) = flat_map (arrow from text) (to ∷ more)

-- the components that have the action, beside the worker that performs it
abbrev pub others : {S : Type 0} → List (Component S) → ℕ × Act → List ℕ
others ps e = filter (λ n. not (n == e.0)) (participants ps e.1)

abbrev pub entry_lines : {S : Type 0} → Table → List (Component S) → ℕ × Act → List ℕ
entry_lines types ps e = arrows_or_note e.0 (written_action types e.1) (others ps e)

-- an end that is not done is told over the component that faults
abbrev pub end_lines : Ending → List ℕ
end_lines (done n) = []
end_lines (not_an_action_at i) = []
end_lines (not_enabled_at i) = []
end_lines (fault_at c f i) = note c (ending_text (fault_at c f i))

-- of an entry of a name that is not left out
abbrev pub kept_lines : {S : Type 0} → List Name → Table → List (Component S) → ℕ × Act → List ℕ
kept_lines without types ps e = if is_left_out without e.1.name then [] else entry_lines types ps e

-- lines of the entry of this index, where that is within the bounds
abbrev pub lines_within : Option ℕ → Option ℕ → ℕ → List ℕ → List ℕ
lines_within from to i lines = if is_within from to i then lines else []

-- the end of a log of so many entries, unless the bound stands before the last of them
abbrev pub end_within : Option ℕ → ℕ → Ending → List ℕ
end_within to n end = if reaches_end to n then end_lines end else []

-- the entry of this index, where it is drawn
abbrev pub drawn_lines : {S : Type 0} → Selection → Table → List (Component S) → ℕ → ℕ × Act → List ℕ
drawn_lines s types ps i e = if is_drawn s i e.1.name then entry_lines types ps e else []

-- what stands before the entries
abbrev pub front : List Name → List ℕ
front names = codes "sequenceDiagram\n" ++ workers names

-- the workers, each entry that is drawn, in order, by its index from 0, and the end
abbrev pub chart : {S : Type 0} → Selection → Table → List Name → List (Component S) → Logged → List ℕ
chart s types names ps log =
    front names ++ (numbered (drawn_lines s types ps) 0 log.entries ++ end_within s.to (length log.entries) log.ending)

-- where nothing is left out, each entry is drawn once, in order, and then the end
abbrev pub DrawsEach : {S : Type 0} → List (Component S) → Type 0
DrawsEach ps = (types : Table) (names : List Name) (log : Logged)
    → chart whole types names ps log ≡ front names ++ (flat_map (entry_lines types ps) log.entries ++ end_lines log.ending)
