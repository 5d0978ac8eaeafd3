-- Which arms of `if` and which bodies of loops an effect takes, by the meaning of effects (`ioa_tree/specs/Meaning`), and how often over a run. In an effect they have
-- places, from 0, as they stand in the text: an arm before what stands in it, and an `else` behind the arms, where there is one.
use Rattle.std.specs.Prelude.{ℕ, ◌+◌, ◌==◌, ◌&&◌, ◌++◌, ◌∷◌, Bool, true, false, List, [], codes, cond, count_by, if◌then◌else◌, slice_get}
use Rattle.std.specs.Fmt.{decimal}
use Rattle.std.specs.List.{flat_map}
use Rattle.std.specs.Option.{option_map_or}
use Rattle.ioa_value.specs.Actions.{Act, Name}
use Rattle.ioa_value.specs.Operators.{Answer, faults, gives, nothing}
use Rattle.ioa_value.specs.Plain.{Vals, items, name, none as no_item, more as one_item, num, truth, tuple}
use Rattle.ioa_value.specs.Table.{Table}
use Rattle.ioa_tree.specs.Components.{Component}
use Rattle.ioa_tree.specs.Hosts.{Host, HostState, Hosted, host_starts, hosts_of}
use Rattle.ioa_tree.specs.Instances.{entry_has, environment, transition_for}
use Rattle.ioa_tree.specs.Meaning.{Env, Outcome, becomes, breaks, does, eff, nowhere, val, with_name, without}
use Rattle.ioa_tree.specs.Steps.{Moved, fault, next, not_an_action, not_enabled, step}
use Rattle.ioa_crash.specs.Rewriting.{with_signals}
use Rattle.ioa_tree.specs.Tree.{Arms, EntryTree, Stmt, Stmts, arm, assign, choose, each, no_arm, seq, stop}
use Rattle.ioa_coverage.specs.Performed.{Counted, all_of, of_entry}

-- ---- how many there are

-- the one where there are statements, else the other
abbrev pub if_any : {X : Type 0} → Stmts → X → X → X
if_any stop this other = other
if_any (seq s ss) this other = this

abbrev mutual
  pub places : Stmt → ℕ
  places (assign x e) = 0
  places (choose arms others) = places_of arms + if_any others (1 + places_in others) 0
  places (each x e ss) = 1 + places_in ss

  pub places_of : Arms → ℕ
  places_of no_arm = 0
  places_of (arm c ss more) = 1 + (places_in ss + places_of more)

  pub places_in : Stmts → ℕ
  places_in stop = 0
  places_in (seq s ss) = places s + places_in ss

-- ---- the places of those that are taken, in the order in which they are: of statements that begin at place n

-- the one where a condition is true, the other where it is false
abbrev pub by_condition : Answer → List ℕ → List ℕ → List ℕ
by_condition (gives (truth true)) this other = this
by_condition (gives (truth false)) this other = other
by_condition (gives (num z)) this other = []
by_condition (gives (name ty n)) this other = []
by_condition (gives (tuple ty vs)) this other = []
by_condition (gives (items ty vs)) this other = []
by_condition (faults f) this other = []
by_condition nothing this other = []

-- those for the items of a sequence
abbrev pub by_items : Answer → (Vals → List ℕ) → List ℕ
by_items (gives (items ty vs)) go = go vs
by_items (gives (truth b)) go = []
by_items (gives (num z)) go = []
by_items (gives (name ty n)) go = []
by_items (gives (tuple ty vs)) go = []
by_items (faults f) go = []
by_items nothing go = []

-- those that follow in the environment that is left, if one is
abbrev pub then_marks : Outcome → (Env → List ℕ) → List ℕ
then_marks (becomes env) go = go env
then_marks (breaks f) go = []
then_marks nowhere go = []

-- the body once for each value, on what the turn before left
abbrev pub marks_of_turns : (Env → List ℕ) → (Env → Outcome) → ℕ → Name → Vals → Env → List ℕ
marks_of_turns inner body n x no_item env = []
marks_of_turns inner body n x (one_item v vs) env =
    n ∷ (inner (with_name env x v) ++ then_marks (body (with_name env x v)) (λ next. marks_of_turns inner body n x vs (without x env next)))

abbrev mutual
  pub marks : Table → ℕ → Stmt → Env → List ℕ
  marks types n (assign x e) env = []
  marks types n (choose arms others) env = marks_of_arms types n arms env (λ m. if_any others (m ∷ marks_in types (m + 1) others env) [])
  marks types n (each x e ss) env = by_items (val types e env) (λ vs. marks_of_turns (marks_in types (n + 1) ss) (eff types ss) n x vs env)

  -- those of the first arm with a true condition, and otherwise the given, by their place
  pub marks_of_arms : Table → ℕ → Arms → Env → (ℕ → List ℕ) → List ℕ
  marks_of_arms types n no_arm env otherwise = otherwise n
  marks_of_arms types n (arm c ss more) env otherwise =
      by_condition (val types c env) (n ∷ marks_in types (n + 1) ss env) (marks_of_arms types (n + 1 + places_in ss) more env otherwise)

  -- those of statements in sequence
  pub marks_in : Table → ℕ → Stmts → Env → List ℕ
  marks_in types n stop env = []
  marks_in types n (seq s ss) env = marks types n s env ++ then_marks (does types s env) (λ next. marks_in types (n + places s) ss next)

-- ---- over runs

-- the effect of a host's entry; crashing and recovering have none of their own
abbrev pub effect_for : Host → EntryTree → Stmts
effect_for p e = option_map_or (λ t. t.effect) (transition_for p.instance.automaton e) stop

-- what it takes by this action in this state: of an action that the entry has; while the host is down no effect takes place
abbrev pub taken_by : Host → EntryTree → Act → HostState Env → List ℕ
taken_by p e a h =
    if entry_has p.instance a e && h.up
    then marks_in p.instance.types 0 (effect_for p e) (environment p.instance e a.vals h.inner)
    else []

-- what each action that is performed takes, in the states in which it is
abbrev pub then_run : {S : Type 0} → Moved S → (List S → List ℕ) → List ℕ
then_run (next ts) go = go ts
then_run not_an_action go = []
then_run not_enabled go = []
then_run (fault i f) go = []

abbrev pub taken_over : {S : Type 0} → List (Component S) → (Act → List S → List ℕ) → List Act → List S → List ℕ
taken_over ps inner [] ss = []
taken_over ps inner (a ∷ acts) ss = then_run (step ps a ss) (λ ts. inner a ss ++ taken_over ps inner acts ts)

-- in the host of this number
abbrev pub taken_in : ℕ → Host → EntryTree → Act → List (HostState Env) → List ℕ
taken_in i p e a hs = option_map_or (taken_by p e a) (slice_get hs i) []

-- over a run from the start, and over several of them
abbrev pub taken_in_run : Hosted → ℕ → Host → EntryTree → List Act → List ℕ
taken_in_run h i p e acts = taken_over (hosts_of h) (taken_in i p e) acts (host_starts h)

abbrev pub taken_in_runs : Hosted → ℕ → Host → EntryTree → List (List Act) → List ℕ
taken_in_runs h i p e runs = flat_map (taken_in_run h i p e) runs

-- how often the arm or body of this place is taken
abbrev pub times_taken : Hosted → List (List Act) → ℕ → Host → EntryTree → ℕ → ℕ
times_taken h runs i p e k = count_by (λ n. n == k) (taken_in_runs h i p e runs)

-- ---- what they are called: by the numbers, from 1, of the statement and of its arm, and so on inwards

abbrev pub dotted : List ℕ → ℕ → List ℕ
dotted at k = at ++ (codes "." ++ decimal k)

-- of a statement with this number; the numbers of what stands in an arm begin with the arm's
abbrev mutual
  pub labels : List ℕ → Stmt → List (List ℕ)
  labels at (assign x e) = []
  labels at (choose arms others) = labels_of at 1 arms (λ k. if_any others ((codes "else " ++ dotted at k) ∷ labels_in (dotted at k ++ codes ".") 1 others) [])
  labels at (each x e ss) = (codes "body " ++ dotted at 1) ∷ labels_in (dotted at 1 ++ codes ".") 1 ss

  pub labels_of : List ℕ → ℕ → Arms → (ℕ → List (List ℕ)) → List (List ℕ)
  labels_of at k no_arm otherwise = otherwise k
  labels_of at k (arm c ss more) otherwise = (codes "arm " ++ dotted at k) ∷ (labels_in (dotted at k ++ codes ".") 1 ss ++ labels_of at (k + 1) more otherwise)

  -- of statements, the first of which has this number, with what stands before it
  pub labels_in : List ℕ → ℕ → Stmts → List (List ℕ)
  labels_in before k stop = []
  labels_in before k (seq s ss) = labels (before ++ decimal k) s ++ labels_in before (k + 1) ss

-- those of an effect, by their places
abbrev pub effect_labels : Stmts → List (List ℕ)
effect_labels ss = labels_in [] 1 ss

-- ---- what is told, of each entry of the hosts and behind it of its arms and bodies

-- the name of a component; what in it: an entry, by its name, or an arm or a body of its effect, by the entry's name and its own; `performed` or `taken`; and how often
pub record Told : Type 0 where
  pub component : Name
  pub what : List ℕ
  pub verb : List ℕ
  pub times : ℕ

abbrev pub done_line : Told → List ℕ
done_line r = r.component ++ (codes ": " ++ (r.what ++ (codes ": " ++ (r.verb ++ (codes " " ++ (decimal r.times ++ codes "\n"))))))

abbrev pub never_line : Told → List ℕ
never_line r = r.component ++ (codes ": " ++ (r.what ++ (codes ": never " ++ (r.verb ++ codes "\n"))))

abbrev pub if_done : Told → List ℕ
if_done r = cond (r.times == 0) [] (done_line r)

abbrev pub if_not_done : Told → List ℕ
if_not_done r = cond (r.times == 0) (never_line r) []

-- the line of what was done, or the one of what never was
abbrev pub line_by : Bool → Told → List ℕ
line_by true = if_done
line_by false = if_not_done

abbrev pub row_of_entry : Counted → Told
row_of_entry c = record { component = c.component; what = c.entry; verb = codes "performed"; times = c.times }

-- of the arm or body of this name
abbrev pub row_of_place : Name → Name → List ℕ → ℕ → Told
row_of_place component entry label times = record { component = component; what = entry ++ (codes ": " ++ label); verb = codes "taken"; times = times }

-- those of the places from this one on
abbrev pub rows_of_places : Hosted → List (List Act) → ℕ → Host → EntryTree → ℕ → List (List ℕ) → List Told
rows_of_places h runs i p e k [] = []
rows_of_places h runs i p e k (label ∷ more) = row_of_place p.name e.name label (times_taken h runs i p e k) ∷ rows_of_places h runs i p e (k + 1) more

abbrev pub rows_of_entry : Hosted → List (List Act) → ℕ → Host → EntryTree → List Told
rows_of_entry h runs i p e = row_of_entry (of_entry (all_of runs) p e) ∷ rows_of_places h runs i p e 0 (effect_labels (effect_for p e))

abbrev pub rows_of_hosts : Hosted → List (List Act) → ℕ → List Host → List Told
rows_of_hosts h runs i [] = []
rows_of_hosts h runs i (p ∷ ps) = flat_map (rows_of_entry h runs i p) (with_signals p.crash p.instance.automaton).entries ++ rows_of_hosts h runs (i + 1) ps

-- what was performed or taken, and last what never was
abbrev pub told_of : List Told → List ℕ
told_of rows = flat_map if_done rows ++ flat_map if_not_done rows

abbrev pub all_taken_text : Hosted → List (List Act) → List ℕ
all_taken_text h runs = told_of (rows_of_hosts h runs 0 h.hosts)
