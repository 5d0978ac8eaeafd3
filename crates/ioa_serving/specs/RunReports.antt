-- How the reports of a run's workers are told, and behind them what became of the turns in which each entry was tried, and which inputs were not performed.
use Rattle.std.specs.Prelude.{◌≡◌, ◌↔◌, ℕ, zero, suc, ◌+◌, ◌++◌, ◌∷◌, All, List, [], codes, drop, map, slice_get}
use Rattle.std.specs.Fmt.{decimal}
use Rattle.std.specs.List.{flat_map}
use Rattle.std.specs.Option.{option_map_or}
use Rattle.ioa_value.specs.Actions.{Act, Name}
use Rattle.ioa_value.specs.Table.{Table}
use Rattle.ioa_value.specs.Written.{written_action}
use Rattle.ioa_tree.specs.Runs.{Ending}
use Rattle.ioa_compile.specs.Subjects.{Subject, of_composition, of_hosts, of_table}
use Rattle.ioa_board.specs.declared.report.Report.{Report}
use Rattle.ioa_board.specs.declared.report.Why.{Why}
use Rattle.ioa_run.specs.declared.tally.Tries.{Tries}
use Rattle.ioa_run.specs.Alone.{NoMemory}
use Rattle.ioa_board.specs.Outcomes.{HaveEnded, IsFault}
use Rattle.ioa_run.specs.Proposers.{own_entries}
use Rattle.ioa_board.specs.Reports.{counted}
use Rattle.ioa_run.specs.Tallies.{own_names, performed_named}

-- why a worker takes no more turns, in words
abbrev pub why_text : Why → List ℕ
why_text Why.TurnsDone = codes "turns done"
why_text Why.Faulted = codes "faulted"
why_text Why.Stopped = codes "stopped"
why_text Why.Memory = codes "memory"

-- the worker's name, and what became of its turns
abbrev pub counts_text : Name → Report → List ℕ
counts_text name r =
    name ++ (codes ": " ++ (decimal r.committed ++ (codes " committed, " ++ (decimal r.idle ++ (codes " idle, " ++ (decimal r.stale ++ codes " stale"))))))

-- a line with these, and why it takes no more
abbrev pub report_line : Name → Report → List ℕ
report_line name r = counts_text name r ++ (codes ", " ++ (why_text r.why ++ codes "\n"))

-- the name of the worker of this number; past all the names it is the environment
abbrev pub name_at : List Name → ℕ → Name
name_at [] i = codes "environment"
name_at (n ∷ ns) zero = n
name_at (n ∷ ns) (suc i) = name_at ns i

-- a line for each report: of the components, by their names in order, and then of the environment
abbrev pub reports_text : List Name → List Report → List ℕ
reports_text names [] = []
reports_text [] (r ∷ rs) = report_line (codes "environment") r ++ reports_text [] rs
reports_text (n ∷ ns) (r ∷ rs) = report_line n r ++ reports_text ns rs

-- ---- entries

-- the names of the entries that each component of a subject performs, in their order
abbrev pub its_own_names : Subject → List (List Name)
its_own_names (of_hosts h) = map (λ p. map (λ e. e.name) (own_entries p.instance.automaton.entries)) h.hosts
its_own_names (of_composition c) = map (λ m. map (λ e. e.name) (own_entries m.instance.automaton.entries)) c.members
its_own_names (of_table p) = map own_names p.members

-- how often an entry was tried: as often as one of these came of it
abbrev pub tried_in : Tries → ℕ → ℕ
tried_in t performed = t.no_proposal + t.proposal_faulted + t.not_enabled + t.stale + performed

-- what came of the turns in which it was tried
abbrev pub tries_text : Tries → ℕ → List ℕ
tries_text t performed =
    decimal (tried_in t performed) ++ (codes " tried, " ++ (decimal t.no_proposal ++ (codes " nothing proposed, " ++ (decimal t.proposal_faulted ++ codes " proposal faulted, "))))

abbrev pub performed_text : Tries → ℕ → List ℕ
performed_text t performed = decimal t.not_enabled ++ (codes " not enabled, " ++ (decimal t.stale ++ (codes " stale, " ++ (decimal performed ++ codes " performed\n"))))

-- the names of the component and of the entry, and these
abbrev pub entry_line : Name → Name → Tries → ℕ → List ℕ
entry_line component x t performed = component ++ (codes ": " ++ (x ++ (codes ": " ++ (tries_text t performed ++ performed_text t performed))))

-- a line for each of the own entries of the component of this number, by these names; what was performed the history tells
abbrev pub entry_lines : List (ℕ × Act) → ℕ → Name → List Name → List Tries → List ℕ
entry_lines h w component [] ts = []
entry_lines h w component (x ∷ xs) [] = []
entry_lines h w component (x ∷ xs) (t ∷ ts) = entry_line component x t (performed_named h w x) ++ entry_lines h w component xs ts

-- those of the components from this number on
abbrev pub tallies_text : List (ℕ × Act) → ℕ → List Name → List (List Name) → List (List Tries) → List ℕ
tallies_text h w [] entries ts = []
tallies_text h w (n ∷ ns) [] ts = []
tallies_text h w (n ∷ ns) (xs ∷ xss) [] = []
tallies_text h w (n ∷ ns) (xs ∷ xss) (t ∷ ts) = entry_lines h w n xs t ++ tallies_text h (w + 1) ns xss ts

-- ---- inputs

-- those of the script that the environment, whose report is behind those of so many components, does not count as performed
abbrev pub inputs_left : ℕ → List Report → List Act → List Act
inputs_left components reports script = option_map_or (λ (r : Report). drop r.committed script) (slice_get reports components) script

abbrev pub left_line : Table → Act → List ℕ
left_line types a = codes "environment: " ++ (written_action types a ++ codes " was not performed\n")

abbrev pub left_text : Table → List Act → List ℕ
left_text types as' = flat_map (left_line types) as'

-- ---- memory

-- a line with the worker's name, where memory was refused to it in its turn; of any other worker none
abbrev pub want_line : Name → Why → List ℕ
want_line name Why.TurnsDone = []
want_line name Why.Faulted = []
want_line name Why.Stopped = []
want_line name Why.Memory = name ++ codes ": memory\n"

-- such lines, by the same names in the same order
abbrev pub wants_text : List Name → List Report → List ℕ
wants_text names [] = []
wants_text [] (r ∷ rs) = want_line (codes "environment") r.why ++ wants_text [] rs
wants_text (n ∷ ns) (r ∷ rs) = want_line n r.why ++ wants_text ns rs

-- no such line is told just where memory was refused to no worker; all turns of workers that have ended are then counted, where the log does
-- not end by a fault
abbrev pub SilenceMeans : Type 0
SilenceMeans = (names : List Name) (turns : ℕ) (end : Ending) (reports : List Report) → HaveEnded turns end reports
    → ((wants_text names reports ≡ []) ↔ NoMemory reports) × (wants_text names reports ≡ [] → (IsFault end → ⊥) → All (λ r. counted r ≡ turns) reports)
