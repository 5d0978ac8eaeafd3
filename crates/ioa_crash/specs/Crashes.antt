-- What the rewriting of an automaton's tree promises: the rewritten tree means the component that crashes and recovers.
use Rattle.std.specs.Prelude.{◌≡◌, true, not, IsTrue, List, Some, None, Ok, All}
use Rattle.ioa_value.specs.Actions.{Name}
use Rattle.ioa_value.specs.Names.{IsName}
use Rattle.ioa_value.specs.Plain.{Val, truth as truth_value}
use Rattle.ioa_value.specs.Table.{AreTypes, contains}
use Rattle.ioa_value.specs.declared.limits.TheConstants.{LIMITS}
use Rattle.ioa_tree.specs.Tree.{CrashTree, AutomatonTree}
use Rattle.ioa_tree.specs.Names.{names_of_automaton}
use Rattle.ioa_tree.specs.Meaning.{Env}
use Rattle.ioa_tree.specs.Instances.{Instance, variable_names, component_of, start_values, Fit, state_of}
use Rattle.ioa_tree.specs.Likes.{IsLike}
use Rattle.ioa_tree.specs.Hosts.{HostState, host_state, wrapped, crash_fine, reset_to}
use Rattle.ioa_tree.specs.WellFormed.{variable_fields, automaton_fine, automaton_within}
use Rattle.ioa_crash.specs.Limits.{component_limits}
use Rattle.ioa_crash.specs.Rewriting.{spelled, up_name, rewritten, crashing, crashing_starts}

-- `#up` says whether the host is up, and each name that a text can spell stands for the same in both: a variable for a value, and no
-- other name for anything
pub record Corresponds (a : AutomatonTree) (h : HostState Env) (s : Env) : Type 0 where
  pub up : s up_name ≡ Some (truth_value h.up)
  pub agree : (x : Name) → IsTrue (spelled x) → h.inner x ≡ s x
  pub present : (x : Name) → contains (variable_names a) x ≡ true → (v : Val) × (h.inner x ≡ Some v)
  pub others : (x : Name) → IsTrue (not (contains (variable_names a) x)) → h.inner x ≡ None

-- what the rewriting asks of an instance that starts with these values
pub record MayCrash (n : CrashTree) (i : Instance) (starts : List Val) : Type 0 where
  pub automaton : (globals : List Name) × IsTrue (automaton_fine i.types i.types globals i.automaton)
  pub legal : All IsName (names_of_automaton i.automaton)
  pub arguments : Fit i.types i.automaton.formals i.arguments
  pub started : start_values i ≡ Ok starts
  pub signals : IsTrue (crash_fine (Some n) i.automaton)

-- the rewritten automaton's component is like the one that crashes and recovers, and starts up with the same values
pub record MeansCrash (n : CrashTree) (i : Instance) (starts : List Val) : Type 0 where
  pub like : IsLike (Corresponds i.automaton) (wrapped n (reset_to i.automaton.variables starts) (component_of i)) (component_of (crashing n i starts))
  pub started : start_values (crashing n i starts) ≡ Ok (crashing_starts starts)
  pub start : Corresponds i.automaton (host_state true (state_of i.automaton starts)) (state_of (rewritten n i.automaton) (crashing_starts starts))

-- it is well formed again, within wider limits, and so are its arguments and its start
pub record StaysFine (n : CrashTree) (i : Instance) (starts : List Val) : Type 0 where
  pub automaton : (globals : List Name) × IsTrue (automaton_fine i.types i.types globals (rewritten n i.automaton))
  pub arguments : Fit i.types (rewritten n i.automaton).formals (crashing n i starts).arguments
  pub values : Fit i.types (variable_fields (rewritten n i.automaton)) (crashing_starts starts)
  pub legal_entries : All (λ e. IsName e.name) (rewritten n i.automaton).entries
  pub within : IsTrue (automaton_within LIMITS i.automaton) → IsTrue (automaton_within component_limits (rewritten n i.automaton))

abbrev pub RewritingMeansCrash : Type 0
RewritingMeansCrash = (n : CrashTree) (i : Instance) (starts : List Val) → MayCrash n i starts → MeansCrash n i starts

abbrev pub RewritingStaysFine : Type 0
RewritingStaysFine = (n : CrashTree) (i : Instance) (starts : List Val)
    → AreTypes i.types → IsName n.crash → IsName n.recover → MayCrash n i starts → StaysFine n i starts
