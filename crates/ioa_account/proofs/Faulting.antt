-- From the slots of a program's states to the faults of invariants in the hosts' states.
use Rattle.std.proofs.Common.{◌≡◌, ℕ, zero, suc, ◌+◌, ◌≤◌, true, false, List, [], ◌∷◌, ◌++◌, drop, length, map, take, Option, Some, None, IfOk, IfSome, Result, Ok, Err, refl, sym, ap, ap₂, subst, ◌∙◌, arith}
use Rattle.std.specs.Prelude.{if◌then◌else◌, slice_get}
use Rattle.std.specs.List.{AllZip, list_all}
use Rattle.std.specs.Option.{option_and_then}
use Rattle.std.specs.Str.{bytes_eq}
use Rattle.std.proofs.lemmas.List.{length-map, take-append-drop}
use Rattle.std.proofs.lemmas.Option.{slice_get_past}
use Rattle.ioa_arithmetic.specs.declared.arithmetic.Fault.{Fault}
use Rattle.ioa_value.specs.Actions.{Name}
use Rattle.ioa_value.specs.Plain.{Val}
use Rattle.ioa_value.specs.Table.{Table}
use Rattle.ioa_tree.specs.Compositions.{Composed, Member}
use Rattle.ioa_tree.specs.Hosts.{Host, HostState, Hosted}
use Rattle.ioa_tree.specs.Instances.{Instance, formal_values, state_of, variable_names}
use Rattle.ioa_tree.specs.Likes.{AllRelated}
use Rattle.ioa_tree.specs.Meaning.{Env, or_else, over, values_of}
use Rattle.ioa_tree.specs.Names.{names_of_expr}
use Rattle.ioa_tree.specs.Tree.{Expr, InvariantTree, VariableTree}
use Rattle.ioa_tree.proofs.Agreement.{val_same}
use Rattle.ioa_compose.specs.Faults.{condition_fault, fault_of}
use Rattle.ioa_compose.specs.Fine.{AreOver, IsSound}
use Rattle.ioa_crash.specs.Rewriting.{added_variables, spelled}
use Rattle.ioa_compose.specs.Simulates.{SlotsHold, SlotsHoldAt, IsMadeOf, Simulates}
use Rattle.ioa_compose.proofs.FirstVariables.{values_before}
use Rattle.ioa_clash.proofs.ZipLemmas.{all_found}
use Rattle.ioa_compose.proofs.StandLemmas.{first_values, long_enough, none_spelled}
use Rattle.ioa_compile.specs.Correspondence.{CorrespondsAt}
use Rattle.ioa_inspect.specs.Breaking.{AreStates, IsState, states_in}
use Rattle.ioa_account.specs.Faults.{fault_among, fault_at, fault_in, host_fault, invariant_fault, member_fault, slots_fault, state_fault}

-- ---- of one component, made of a host

module _ (types : Table) (p : Host) (m : Member) (made : IsMadeOf p m) (e : Expr) (spells : list_all spelled (names_of_expr e) ≡ true) where
  declared_same : (h : HostState Env) (slots : List Val) → SlotsHold p h slots → (x : Name) → spelled x ≡ true → state_of m.instance.automaton slots x ≡ h.inner x
  declared_same h slots k x s =
      let vs = p.instance.automaton.variables in
      let n = length vs in
      ap (λ (us : List VariableTree). values_of (map (λ (v : VariableTree). v.field.name) us) slots x) made.variables
      ∙ ap (λ (ws : List Val). values_of (map (λ (v : VariableTree). v.field.name) (vs ++ added_variables p.crash)) ws x) (sym (take-append-drop n slots))
      ∙ values_before vs (added_variables p.crash) (take n slots) (drop n slots) x (long_enough p.crash n h.up slots k.up) (none_spelled p.crash) s
      ∙ ap (λ (j : ℕ). values_of (variable_names p.instance.automaton) (take j slots) x) (sym (length-map vs (λ (v : VariableTree). v.field.name)))
      ∙ first_values (variable_names p.instance.automaton) slots x ∙ sym (k.values x)

  pub condition_alike : (h : HostState Env) (slots : List Val) → SlotsHold p h slots
      → condition_fault types m.instance e (state_of m.instance.automaton slots) ≡ condition_fault types p.instance e h.inner
  condition_alike h slots k =
      ap fault_of (val_same types spelled (over (state_of m.instance.automaton slots) (formal_values m.instance)) (over h.inner (formal_values p.instance))
      (λ x s. ap₂ or_else (declared_same h slots k x s) (made.formals x s)) e spells)

abbrev IsSpelled : InvariantTree → Type 0
IsSpelled v = list_all spelled (names_of_expr v.condition) ≡ true

member_alike : (types : Table) (v : InvariantTree) (p : Host) (m : Member) → IsSpelled v → IsMadeOf p m → m.instance.automaton.name ≡ p.instance.automaton.name
    → (h : HostState Env) (slots : List Val) → SlotsHold p h slots → member_fault types slots v m ≡ host_fault types h v p
member_alike types v p m spells made name h slots k =
    ap (λ (x : Name). if bytes_eq v.automaton x then condition_fault types m.instance v.condition (state_of m.instance.automaton slots) else None) name
    ∙ ap (λ (f : Option Fault). if bytes_eq v.automaton p.instance.automaton.name then f else None) (condition_alike types p m made v.condition spells h slots k)

one_alike : (types : Table) (o : Option InvariantTree) (p : Host) (m : Member) → IfSome o IsSpelled → IsMadeOf p m → m.instance.automaton.name ≡ p.instance.automaton.name
    → (h : HostState Env) (slots : List Val) → SlotsHold p h slots
    → option_and_then (λ v. member_fault types slots v m) o ≡ option_and_then (λ v. host_fault types h v p) o
one_alike types None p m spells made name h slots k = refl
one_alike types (Some v) p m spells made name h slots k = member_alike types v p m spells made name h slots k

-- ---- by place

nothing : {X Y : Type 0} (o : Option X) → option_and_then {U = Y} (λ (x : X). None) o ≡ None
nothing None = refl
nothing (Some x) = refl

no_member : (types : Table) (o : Option InvariantTree) (vss : Option (List Val)) (k : ℕ) → option_and_then (fault_at types o [] k) vss ≡ None
no_member types o None k = refl
no_member types o (Some vs) k = nothing o

no_host : (types : Table) (o : Option InvariantTree) (hs : Option (HostState Env)) (k : ℕ)
    → option_and_then (λ h. option_and_then (λ v. option_and_then (host_fault types h v) (slice_get [] k)) o) hs ≡ None
no_host types o None k = refl
no_host types o (Some h) k = nothing o

same_at : (all : List Host) (i : ℕ) (o : Option Host) → slice_get all (i + 0) ≡ o → slice_get all i ≡ o
same_at all i o e = let none : i + 0 ≡ i = omega arith in sym (ap (slice_get all) none) ∙ e

abbrev names : List Instance → List Name
names is = map (λ (i : Instance). i.automaton.name) is

faults_from : (types : Table) (o : Option InvariantTree) → IfSome o IsSpelled → (all ps : List Host) (ms : List Member) (i : ℕ) (hs : List (HostState Env)) (vss : List (List Val)) (k : ℕ)
    → ((j : ℕ) → slice_get all (i + j) ≡ slice_get ps j) → AllZip IsMadeOf ps ms → names (map (λ (m : Member). m.instance) ms) ≡ names (map (λ (p : Host). p.instance) ps)
    → AllRelated (SlotsHoldAt all) i hs vss → fault_in types o ms vss k ≡ fault_among types o ps hs k
faults_from types o spells all [] [] i hs vss k at made same holds = no_member types o (slice_get vss k) k ∙ sym (no_host types o (slice_get hs k) k)
faults_from types o spells all [] (m ∷ ms) i hs vss k at made same holds = absurd made
faults_from types o spells all (p ∷ ps) [] i hs vss k at made same holds = absurd made
faults_from types o spells all (p ∷ ps) (m ∷ ms) i [] [] k at made same holds = refl
faults_from types o spells all (p ∷ ps) (m ∷ ms) i [] (vs ∷ vss) k at made same holds = absurd holds
faults_from types o spells all (p ∷ ps) (m ∷ ms) i (h ∷ hs) [] k at made same holds = absurd holds
faults_from types o spells all (p ∷ ps) (m ∷ ms) i (h ∷ hs) (vs ∷ vss) zero at made same holds =
    let name : m.instance.automaton.name ≡ p.instance.automaton.name = cc in
    one_alike types o p m spells made.0 name h vs (holds.0 p (same_at all i (Some p) (at 0)))
faults_from types o spells all (p ∷ ps) (m ∷ ms) i (h ∷ hs) (vs ∷ vss) (suc k) at made same holds =
    let rest : names (map (λ (m : Member). m.instance) ms) ≡ names (map (λ (p : Host). p.instance) ps) = cc in
    faults_from types o spells all ps ms (i + 1) hs vss k
    (λ j. let next : i + 1 + j ≡ i + suc j = omega arith in ap (slice_get all) next ∙ at (suc j)) made.1 rest holds.1

pub faults_alike : (c : Composed) (vss : List (List Val)) (i k : ℕ) (f : Option Fault) → IsSound c → f ≡ slots_fault c vss i k
    → (h : Hosted) (hs : List (HostState Env)) → Simulates h c → AllRelated (SlotsHoldAt h.hosts) 0 hs vss → f ≡ invariant_fault h hs i k
faults_alike c vss i k f sound e h hs stands holds =
    e
    ∙ faults_from c.types (slice_get c.invariants k) (spells (slice_get c.invariants k) refl) h.hosts h.hosts c.members 0 hs vss i
    (λ j. let none : 0 + j ≡ j = omega arith in ap (slice_get h.hosts) none) stands.members stands.automata holds
    ∙ ap₂ (λ types vs. fault_among types (slice_get vs k) h.hosts hs i) stands.types stands.invariants
  where
    spells : (o : Option InvariantTree) → slice_get c.invariants k ≡ o → IfSome o IsSpelled
    spells None at = tt
    spells (Some v) at = all_found IsSpelled c.invariants k v sound.conditions at

pub no_invariant : (c : Composed) (i k : ℕ) → length c.invariants ≤ k → (h : Hosted) (hs : List (HostState Env)) → Simulates h c → None ≡ invariant_fault h hs i k
no_invariant c i k past h hs stands =
    let none : slice_get h.invariants k ≡ None = ap (λ vs. slice_get vs k) (sym stands.invariants) ∙ slice_get_past c.invariants k past in
    sym (ap (λ o. fault_among h.types o h.hosts hs i) none ∙ nothing (slice_get hs i))

-- what follows of an answer that is given
pub on_answer : {A E : Type 0} {P Q : A → Type 0} (r : Result A E) → ((x : A) → P x → Q x) → IfOk r P → IfOk r Q
on_answer (Ok x) f p = f x p
on_answer (Err e) f p = tt

-- ---- of one component, where it has these slots

module _ (c : Composed) (vs : List Val) (i k : ℕ) (m : Member) (v : InvariantTree) (there : slice_get c.members i ≡ Some m) (stated : slice_get c.invariants k ≡ Some v) where
  at_both : state_fault c vs i k ≡ member_fault c.types vs v m
  at_both =
      ap (λ o. option_and_then (λ w. option_and_then (member_fault c.types vs w) (slice_get c.members i)) o) stated
      ∙ ap (λ o. option_and_then (member_fault c.types vs v) o) there

  pub is_of_another : bytes_eq v.automaton m.instance.automaton.name ≡ false → None ≡ state_fault c vs i k
  is_of_another other = sym (at_both ∙ ap (λ b. if b then condition_fault c.types m.instance v.condition (state_of m.instance.automaton vs) else None) other)

  pub is_its : bytes_eq v.automaton m.instance.automaton.name ≡ true → m.instance.types ≡ c.types → (f : Option Fault)
      → f ≡ condition_fault m.instance.types m.instance v.condition (state_of m.instance.automaton vs) → f ≡ state_fault c vs i k
  is_its its types f e =
      e ∙ ap (λ t. condition_fault t m.instance v.condition (state_of m.instance.automaton vs)) types
      ∙ sym (at_both ∙ ap (λ b. if b then condition_fault c.types m.instance v.condition (state_of m.instance.automaton vs) else None) its)

-- a component has the composition's types
pub over_types : (types : Table) (ms : List Member) (i : ℕ) (m : Member) → AreOver types ms → slice_get ms i ≡ Some m → m.instance.types ≡ types
over_types types [] i m over at = absurd (cc)
over_types types (n ∷ ms) zero m over at = let same : n ≡ m = cc in subst (λ (u : Member). u.instance.types ≡ types) same over.0
over_types types (n ∷ ms) (suc i) m over at = over_types types ms i m over.1 at

-- its values are of its variables' types, as those of each are
state_from : (ms : List Member) (i : ℕ) (vss : List (List Val)) (k : ℕ) (vs : List Val) → AllRelated (CorrespondsAt ms) i (states_in ms i vss) vss → slice_get vss k ≡ Some vs → IsState ms (i + k) vs
state_from ms i [] k vs h e = absurd (cc)
state_from ms i (ws ∷ vss) zero vs h e =
    let same : ws ≡ vs = cc in
    let none : i + 0 ≡ i = omega arith in
    subst (λ n. IsState ms n vs) (sym none) (subst (IsState ms i) same h.0)
state_from ms i (ws ∷ vss) (suc k) vs h e =
    let next : i + 1 + k ≡ i + suc k = omega arith in
    subst (λ n. IsState ms n vs) next (state_from ms (i + 1) vss k vs h.1 e)

pub state_at : (ms : List Member) (vss : List (List Val)) (k : ℕ) (vs : List Val) → AreStates ms vss → slice_get vss k ≡ Some vs → IsState ms k vs
state_at ms vss k vs h e =
    let none : 0 + k ≡ k = omega arith in
    subst (λ n. IsState ms n vs) none (state_from ms 0 vss k vs h e)
