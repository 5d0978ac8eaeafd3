-- A tree of a composition stands for one list of hosts.
use Rattle.std.proofs.Common.{◌≡◌, ◌∙◌, List, [], ◌∷◌, Option, Some, Result, Ok, Err, refl, sym, ap, ap₂, subst}
use Rattle.ioa_value.specs.Actions.{Name}
use Rattle.ioa_value.specs.Plain.{Val}
use Rattle.ioa_value.specs.Table.{Table}
use Rattle.ioa_tree.specs.Compositions.{automaton_named}
use Rattle.ioa_tree.specs.Hosts.{AreHosts, Host, Hosted, IsHost, IsHosted}
use Rattle.ioa_tree.specs.Instances.{Instance, argument_values, start_values}
use Rattle.ioa_tree.specs.Tree.{AutomatonTree, CompositionTree, CrashTree, InstanceTree, InvariantTree, SourceTree}
use Rattle.ioa_tree.specs.Types.{types_of}

pub some_same : {X : Type 0} (o : Option X) (x y : X) → o ≡ Some x → o ≡ Some y → x ≡ y
some_same o x y e f = let g : Some x ≡ Some y = sym e ∙ f in cc

ok_same : {X E : Type 0} (r : Result X E) (x y : X) → r ≡ Ok x → r ≡ Ok y → x ≡ y
ok_same (Ok z) x y e f =
    let a : z ≡ x = cc in
    let b : z ≡ y = cc in
    sym a ∙ b
ok_same (Err w) x y e f = absurd (cc)

abbrev instance_of : Table → AutomatonTree → List Val → Instance
instance_of types automaton arguments = record { types = types; automaton = automaton; arguments = arguments }

abbrev host_with : Name → Instance → List Val → Option CrashTree → Host
host_with name instance starts crash = record { name = name; instance = instance; starts = starts; crash = crash }

host_once : (s : SourceTree) (i : InstanceTree) (h k : Host) → IsHost s i h → IsHost s i k → h ≡ k
host_once s i h k a b =
    let types : h.instance.types ≡ k.instance.types = a.types ∙ sym b.types in
    let automaton : h.instance.automaton ≡ k.instance.automaton = some_same (automaton_named s i.automaton) h.instance.automaton k.instance.automaton a.automaton b.automaton in
    let arguments : h.instance.arguments ≡ k.instance.arguments =
    ok_same (argument_values (types_of s) i.arguments) h.instance.arguments k.instance.arguments a.arguments b.arguments in
    let same : h.instance ≡ k.instance =
    ap (λ (t : Table). instance_of t h.instance.automaton h.instance.arguments) types
    ∙ ap (λ (t : AutomatonTree). instance_of k.instance.types t h.instance.arguments) automaton
    ∙ ap (λ (vs : List Val). instance_of k.instance.types k.instance.automaton vs) arguments in
    let starts : h.starts ≡ k.starts = ok_same (start_values k.instance) h.starts k.starts (subst (λ x. start_values x ≡ Ok h.starts) same a.starts) b.starts in
    ap (λ (n : Name). host_with n h.instance h.starts h.crash) (a.name ∙ sym b.name)
    ∙ ap (λ (x : Instance). host_with k.name x h.starts h.crash) same
    ∙ ap (λ (vs : List Val). host_with k.name k.instance vs h.crash) starts
    ∙ ap (λ (o : Option CrashTree). host_with k.name k.instance k.starts o) (a.crash ∙ sym b.crash)

hosts_once : (s : SourceTree) (is : List InstanceTree) (hs ks : List Host) → AreHosts s is hs → AreHosts s is ks → hs ≡ ks
hosts_once s [] [] [] a b = refl
hosts_once s [] [] (k ∷ ks) a b = absurd b
hosts_once s [] (h ∷ hs) ks a b = absurd a
hosts_once s (i ∷ is) [] ks a b = absurd a
hosts_once s (i ∷ is) (h ∷ hs) [] a b = absurd b
hosts_once s (i ∷ is) (h ∷ hs) (k ∷ ks) a b = ap₂ (λ (x : Host) (xs : List Host). x ∷ xs) (host_once s i h k a.0 b.0) (hosts_once s is hs ks a.1 b.1)

abbrev hosted_with : Table → Name → List Host → List Name → List InvariantTree → Hosted
hosted_with types name hosts hidden invariants = record { types = types; name = name; hosts = hosts; hidden = hidden; invariants = invariants }

pub hosted_once : (s : SourceTree) (t : CompositionTree) (h k : Hosted) → IsHosted s t h → IsHosted s t k → h ≡ k
hosted_once s t h k a b =
    ap (λ (ts : Table). hosted_with ts h.name h.hosts h.hidden h.invariants) (a.types ∙ sym b.types)
    ∙ ap (λ (n : Name). hosted_with k.types n h.hosts h.hidden h.invariants) (a.name ∙ sym b.name)
    ∙ ap (λ (hs : List Host). hosted_with k.types k.name hs h.hidden h.invariants) (hosts_once s t.instances h.hosts k.hosts a.hosts b.hosts)
    ∙ ap (λ (ns : List Name). hosted_with k.types k.name k.hosts ns h.invariants) (a.hidden ∙ sym b.hidden)
    ∙ ap (λ (vs : List InvariantTree). hosted_with k.types k.name k.hosts k.hidden vs) (a.invariants ∙ sym b.invariants)
