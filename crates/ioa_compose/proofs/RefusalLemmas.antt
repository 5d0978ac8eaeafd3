-- Why there is no composition, and that there is none.
use Rattle.std.proofs.Common.{◌≡◌, ◌≢◌, ℕ, true, ◌||◌, zero, suc, List, [], ◌∷◌, map, Option, Some, Result, Ok, Err, IfErr, refl, sym, ap, subst, ◌∙◌, slice_get, inl, inr}
use Rattle.std.specs.List.{list_all}
use Rattle.std.proofs.lemmas.Bool.{both_ways}
use Rattle.std.proofs.lemmas.Simd.{map-map}
use Rattle.ioa_arithmetic.specs.declared.arithmetic.Fault.{Fault}
use Rattle.ioa_value.specs.Actions.{Name}
use Rattle.ioa_value.specs.Plain.{Val}
use Rattle.ioa_lex.specs.declared.refusal.Refusal.{Refusal}
use Rattle.ioa_lex.specs.declared.refusal.Refusal.TheVariants.{TextTooLong, BadByte, Syntax, TooDeep, DuplicateName, UnknownName, TypeMismatch, BadSignature, NoProposal, TooMany, TooWide, ArgMismatch, CrashName, Clash, HiddenUnknown, StartFault, NoComposition, OutOfMemory}
use Rattle.ioa_tree.specs.declared.tree.Declaration.{Declaration}
use Rattle.ioa_tree.specs.Tree.{InstanceTree, CompositionTree, SourceTree}
use Rattle.ioa_tree.specs.View.{tree_of}
use Rattle.ioa_tree.specs.Components.{Compatible}
use Rattle.ioa_tree.specs.Types.{types_of}
use Rattle.ioa_tree.specs.Instances.{Instance, Fit, start_values, component_of}
use Rattle.ioa_tree.specs.Compositions.{has_output, is_output_of, picked}
use Rattle.ioa_tree.specs.Hosts.{crash_fine, Host, Hosted, IsHost, AreHosts, IsHosted, host_instances}
use Rattle.ioa_compose.specs.Bindings.{instance_with, IsBound, AreBound}
use Rattle.ioa_crash.specs.Rewriting.{with_signals}
use Rattle.ioa_compose.specs.Simulates.{signalled}
use Rattle.ioa_compose.specs.Refusals.{Clashing, ClashOn, Reason, misfit, faulty, misnamed, clashing, hiding, no_memory, other, reason_of, IsUnbound, IsRefusedFor, IsRefused, NoClashBefore, NoClash, IsFirstFault, NoneClashes, NoneClash, NoneFaults, FaultsIn, ClashesIn, HidesIn, TellsClash}
use Rattle.ioa_value.proofs.ItemLemmas.{all_at}
use Rattle.ioa_compose.proofs.CompatibleLemmas.{compatible-from, none-from}
use Rattle.ioa_compose.proofs.HostLemmas.{hosts_named}
use Rattle.ioa_compose.proofs.SignalLemmas.{signals_decide}
use Rattle.ioa_compose.proofs.WithSignals.{more_starts, more_outputs}

-- the tree in the place of an instance
bound-place : (s : SourceTree) (is : List InstanceTree) (ns : List Instance) (k : ℕ) (n : Instance) → AreBound s is ns → slice_get ns k ≡ Some n → (i : InstanceTree) × (slice_get is k ≡ Some i) × IsBound s i n
bound-place s [] [] k n b e = absurd (cc)
bound-place s [] (m ∷ ms) k n b e = absurd b
bound-place s (i ∷ is) [] k n b e = absurd b
bound-place s (i ∷ is) (m ∷ ms) zero n b e = let q : m ≡ n = cc in (i, refl, subst (IsBound s i) q b.0)
bound-place s (i ∷ is) (m ∷ ms) (suc k) n b e = bound-place s is ms k n b.1 e

values-of : Result (List Val) Fault → List Val → List Val
values-of (Ok vs) d = vs
values-of (Err f) d = d

abbrev made : List Val → Result (List Val) Fault
made vs = Ok vs

same-ok : (vs ws : List Val) → made vs ≡ made ws → vs ≡ ws
unfolding values-of
same-ok vs ws e = ap (λ (r : Result (List Val) Fault). values-of r vs) e

same-instance : (m n : Instance) → m.types ≡ n.types → m.automaton ≡ n.automaton → m.arguments ≡ n.arguments → m ≡ n
same-instance m n t a v =
    ap (λ x. instance_with x m.automaton m.arguments) t ∙ ap (λ x. instance_with n.types x m.arguments) a ∙ ap (instance_with n.types n.automaton) v

-- its automaton is one
one-declared : (s : SourceTree) (i : InstanceTree) (m n : Instance) (h : IsBound s i m) (b : IsBound s i n) → h.declared ≡ b.declared
one-declared s i m n h b = let found : Some h.declared ≡ Some b.declared = sym h.named ∙ b.named in cc

-- a tree is bound to one instance only
one-bound : (s : SourceTree) (i : InstanceTree) (m n : Instance) → IsBound s i m → IsBound s i n → m ≡ n
one-bound s i m n h b =
    same-instance m n (h.types ∙ sym b.types) (h.automaton ∙ ap (with_signals i.crash) (one-declared s i m n h b) ∙ sym b.automaton)
    (same-ok m.arguments n.arguments (sym h.arguments ∙ b.arguments))

-- and trees in order to one list of them
all-one : (s : SourceTree) (is : List InstanceTree) (ms ns : List Instance) → AreBound s is ms → AreBound s is ns → ms ≡ ns
all-one s [] [] [] h b = refl
all-one s [] (m ∷ ms) ns h b = absurd h
all-one s [] [] (n ∷ ns) h b = absurd b
all-one s (i ∷ is) [] ns h b = absurd h
all-one s (i ∷ is) (m ∷ ms) [] h b = absurd b
all-one s (i ∷ is) (m ∷ ms) (n ∷ ns) h b = ap (λ x. x ∷ ms) (one-bound s i m n h.0 b.0) ∙ ap (λ xs. n ∷ xs) (all-one s is ms ns h.1 b.1)

-- the instance in the place of a tree
bound-at : (s : SourceTree) (is : List InstanceTree) (ns : List Instance) (k : ℕ) (i : InstanceTree) → AreBound s is ns → slice_get is k ≡ Some i → (n : Instance) × (slice_get ns k ≡ Some n) × IsBound s i n
bound-at s [] [] k i b e = absurd (cc)
bound-at s [] (m ∷ ms) k i b e = absurd b
bound-at s (j ∷ js) [] k i b e = absurd b
bound-at s (j ∷ js) (m ∷ ms) zero i b e = let q : j ≡ i = cc in (m, refl, subst (λ t. IsBound s t m) q b.0)
bound-at s (j ∷ js) (m ∷ ms) (suc k) i b e = bound-at s js ms k i b.1 e

-- components clash as the instances to which they are bound
clash-bound : (s : SourceTree) (i j : InstanceTree) (m n : Instance) (x : Name) → IsBound s i m → IsBound s j n → ClashOn s i j x → Clashing x m n
clash-bound s i j m n x p q d =
    subst (λ y. Clashing x m y) (one-bound s j d.second n d.second_bound q) (subst (λ y. Clashing x y d.second) (one-bound s i d.first m d.first_bound p) d.clash)

first-clash : (s : SourceTree) (is : List InstanceTree) (ns : List Instance) (i j : ℕ) → AreBound s is ns → NoneClashes ns i j → NoClashBefore s is i j
first-clash s is ns i j b none = λ k l m n x before e f d.
    let p = bound-at s is ns k m b e in
    let q = bound-at s is ns l n b f in
    none k l p.0 q.0 x before p.1 q.1 (clash-bound s m n p.0 q.0 x p.2 q.2 d)

-- where no instances clash, no components do
clash-free : (s : SourceTree) (is : List InstanceTree) (ns : List Instance) → AreBound s is ns → NoneClash ns → NoClash s is
clash-free s is ns b none = λ i j m n x less e f d.
    let p = bound-at s is ns i m b e in
    let q = bound-at s is ns j n b f in
    none i j p.0 q.0 x less p.1 q.1 (clash-bound s m n p.0 q.0 x p.2 q.2 d)

-- where no instance before this one faults as it starts, no component does
first-fault : (s : SourceTree) (is : List InstanceTree) (ns : List Instance) (i : ℕ) → AreBound s is ns → NoneFaults ns i → IsFirstFault s is i
first-fault s is ns i b none = λ k m f less e d.
    let p = bound-at s is ns k m b e in
    none k p.0 f less p.1 (ap start_values (one-bound s m p.0 d.instance p.2 d.bound) ∙ d.faulting)

-- ---- why there is none: arguments, a clash, a hidden name that is no output's, and a start that faults

pub unbound-refused : (s : SourceTree) (t : CompositionTree) (r : Reason) → IsUnbound s t.instances r → IsRefusedFor s t r
unbound-refused s t (misfit i) h = h
unbound-refused s t (faulty i f) h = inl h
unbound-refused s t (misnamed i) h = h
unbound-refused s t (clashing i j name) h = absurd h
unbound-refused s t (hiding x) h = absurd h
unbound-refused s t no_memory h = tt
unbound-refused s t other h = absurd h

pub clash-refused : (s : SourceTree) (t : CompositionTree) (ns : List Instance) (r : Reason) → AreBound s t.instances ns → ClashesIn ns r → IsRefusedFor s t r
clash-refused s t ns (misfit i) b h = absurd h
clash-refused s t ns (faulty i f) b h = absurd h
clash-refused s t ns (misnamed i) b h = absurd h
clash-refused s t ns (clashing i j name) b h =
    let p = bound-place s t.instances ns i h.0 b h.3 in
    let q = bound-place s t.instances ns j h.1 b h.4 in
    let on : ClashOn s p.0 q.0 name = record { first = h.0; second = h.1; first_bound = p.2; second_bound = q.2; clash = h.5 } in
    ((p.0, q.0, h.2, p.1, q.1, on, first-clash s t.instances ns i j b h.6, h.7), (ns, b))
clash-refused s t ns (hiding x) b h = absurd h
clash-refused s t ns no_memory b h = tt
clash-refused s t ns other b h = absurd h

pub hiding-refused : (s : SourceTree) (t : CompositionTree) (ns : List Instance) (r : Reason) → AreBound s t.instances ns → NoneClash ns → HidesIn ns t.hidden r → IsRefusedFor s t r
hiding-refused s t ns (misfit i) b none h = absurd h
hiding-refused s t ns (faulty i f) b none h = absurd h
hiding-refused s t ns (misnamed i) b none h = absurd h
hiding-refused s t ns (clashing i j name) b none h = absurd h
hiding-refused s t ns (hiding x) b none h = ((ns, b, h), clash-free s t.instances ns b none)
hiding-refused s t ns no_memory b none h = tt
hiding-refused s t ns other b none h = absurd h

pub start-refused : (s : SourceTree) (t : CompositionTree) (ns : List Instance) (r : Reason) → AreBound s t.instances ns → NoneClash ns → list_all (is_output_of ns) t.hidden ≡ true
    → FaultsIn ns r → IsRefusedFor s t r
start-refused s t ns (misfit i) b none outputs h = absurd h
start-refused s t ns (faulty k f) b none outputs h =
    let p = bound-place s t.instances ns k h.0 b h.1 in
    inr (
      (p.0, p.1, record { instance = h.0; bound = p.2; faulting = h.2 }, first-fault s t.instances ns k b h.3),
      clash-free s t.instances ns b none,
      (ns, b, outputs),
    )
start-refused s t ns (misnamed i) b none outputs h = absurd h
start-refused s t ns (clashing i j m) b none outputs h = absurd h
start-refused s t ns (hiding x) b none outputs h = absurd h
start-refused s t ns no_memory b none outputs h = tt
start-refused s t ns other b none outputs h = absurd h

-- ---- hosts

-- the host in the place of a tree
host-place : (s : SourceTree) (is : List InstanceTree) (hs : List Host) (k : ℕ) (i : InstanceTree) → AreHosts s is hs → slice_get is k ≡ Some i → (p : Host) × (slice_get hs k ≡ Some p) × IsHost s i p
host-place s [] [] k i b e = absurd (cc)
host-place s [] (p ∷ ps) k i b e = absurd b
host-place s (j ∷ js) [] k i b e = absurd b
host-place s (j ∷ js) (p ∷ ps) zero i b e = let q : j ≡ i = cc in (p, refl, subst (λ x. IsHost s x p) q b.0)
host-place s (j ∷ js) (p ∷ ps) (suc k) i b e = host-place s js ps k i b.1 e

-- with inputs for crash and recover it is bound to its tree
pub host-bound : (s : SourceTree) (i : InstanceTree) (p : Host) → IsHost s i p → IsBound s i (signalled p)
host-bound s i p h = record {
  declared = p.instance.automaton;
  types = h.types;
  named = h.automaton;
  automaton = ap (λ o. with_signals o p.instance.automaton) h.crash;
  arguments = h.arguments;
  fit = h.fit;
  fine = h.fine;
}

pub hosts-bound : (s : SourceTree) (is : List InstanceTree) (hs : List Host) → AreHosts s is hs → AreBound s is (map signalled hs)
hosts-bound s [] [] h = tt
hosts-bound s [] (p ∷ ps) h = absurd h
hosts-bound s (i ∷ is) [] h = absurd h
hosts-bound s (i ∷ is) (p ∷ ps) h = (host-bound s i p h.0, hosts-bound s is ps h.1)

-- crash and recover are no outputs
pub outputs-same : (hs : List Host) (x : Name) → is_output_of (map signalled hs) x ≡ is_output_of (map (λ (p : Host). p.instance) hs) x
outputs-same [] x = refl
outputs-same (p ∷ ps) x =
    ap (λ b. b || is_output_of (map signalled ps) x) (more_outputs x p.crash p.instance.automaton)
    ∙ ap (λ b. has_output x p.instance.automaton || b) (outputs-same ps x)

-- hosts that are compatible do not clash
hosts-apart : (s : SourceTree) (t : CompositionTree) (h : Hosted) → IsHosted s t h → NoneClash (map signalled h.hosts)
hosts-apart s t h i =
    none-from (map signalled h.hosts)
    (subst Compatible (sym (map-map component_of signalled h.hosts)) ((signals_decide h (hosts_named s t.instances h.hosts i.hosts)).1 i.compatible))

ok-err : (vs : List Val) (f : Fault) → made vs ≡ Err f → ⊥
ok-err vs f e = absurd (cc)

-- what is bound has arguments, and they fit
bound-fits : (s : SourceTree) (is : List InstanceTree) (ns : List Instance) (k : ℕ) → AreBound s is ns → IsUnbound s is (misfit k) → ⊥
bound-fits s is ns k b h =
    let p = bound-at s is ns k h.0 b h.1 in
    let m = h.2 in
    let q : Some m.automaton ≡ Some p.2.declared = sym m.declared ∙ p.2.named in
    let q' : m.automaton ≡ p.2.declared = cc in
    let v = same-ok m.arguments p.0.arguments (sym m.valued ∙ p.2.arguments) in
    m.unfit (subst (λ a. Fit (types_of s) a.formals m.arguments) (sym q') (subst (λ vs. Fit (types_of s) p.2.declared.formals vs) (sym v) p.2.fit))

bound-valued : (s : SourceTree) (is : List InstanceTree) (ns : List Instance) (k : ℕ) (f : Fault) → AreBound s is ns → IsUnbound s is (faulty k f) → ⊥
bound-valued s is ns k f b h = let p = bound-at s is ns k h.0 b h.1 in ok-err p.0.arguments f (sym p.2.arguments ∙ h.2)

bound-named : (s : SourceTree) (is : List InstanceTree) (ns : List Instance) (k : ℕ) → AreBound s is ns → IsUnbound s is (misnamed k) → ⊥
bound-named s is ns k b h =
    let p = bound-at s is ns k h.0 b h.1 in
    let m = h.2 in
    let q : Some m.automaton ≡ Some p.2.declared = sym m.declared ∙ p.2.named in
    let q' : m.automaton ≡ p.2.declared = cc in
    both_ways (crash_fine h.0.crash m.automaton) m.unfine (ap (crash_fine h.0.crash) q' ∙ p.2.fine)

-- of what is refused there is no composition
none-for : (s : SourceTree) (t : CompositionTree) (r : Reason) (h : Hosted) → IsRefusedFor s t r → r ≢ no_memory → IsHosted s t h → ⊥
none-for s t (misfit k) h u memory i = bound-fits s t.instances (map signalled h.hosts) k (hosts-bound s t.instances h.hosts i.hosts) u
none-for s t (faulty k f) h u memory i = elim u [
  | inl w ↦ bound-valued s t.instances (map signalled h.hosts) k f (hosts-bound s t.instances h.hosts i.hosts) w
  | inr w ↦ (let p = host-place s t.instances h.hosts k w.0.0 i.hosts w.0.1 in
      let b = w.0.2 in
      ok-err p.0.starts f (sym p.2.starts ∙ sym (more_starts p.0.instance.types p.0.crash p.0.instance.automaton p.0.instance.arguments)
      ∙ ap start_values (one-bound s w.0.0 (signalled p.0) b.instance (host-bound s w.0.0 p.0 p.2) b.bound) ∙ b.faulting))
]
none-for s t (misnamed k) h u memory i = bound-named s t.instances (map signalled h.hosts) k (hosts-bound s t.instances h.hosts i.hosts) u
none-for s t (clashing k l name) h w memory i =
    let u = w.0 in
    let bound = hosts-bound s t.instances h.hosts i.hosts in
    let p = bound-at s t.instances (map signalled h.hosts) k u.0 bound u.3 in
    let q = bound-at s t.instances (map signalled h.hosts) l u.1 bound u.4 in
    hosts-apart s t h i k l p.0 q.0 name u.2 p.1 q.1 (clash-bound s u.0 u.1 p.0 q.0 name p.2 q.2 u.5)
none-for s t (hiding x) h w memory i =
    let u = w.0 in
    let shown = outputs-same h.hosts x ∙ all_at (is_output_of (host_instances h)) t.hidden u.2.0 x i.outputs u.2.1 in
    let bound = hosts-bound s t.instances h.hosts i.hosts in
    both_ways (is_output_of u.0 x) u.2.2 (subst (λ ns. is_output_of ns x ≡ true) (all-one s t.instances (map signalled h.hosts) u.0 bound u.1) shown)
none-for s t no_memory h u memory i = memory refl
none-for s t other h u memory i = u

-- instances of components that do not clash do not
free-none : (s : SourceTree) (is : List InstanceTree) (ns : List Instance) → AreBound s is ns → NoClash s is → NoneClash ns
free-none s is ns b free = λ k l m n x less e f d.
    let p = bound-place s is ns k m b e in
    let q = bound-place s is ns l n b f in
    free k l p.0 q.0 x less p.1 q.1 (record { first = m; second = n; first_bound = p.2; second_bound = q.2; clash = d })

-- where all components have instances, and these are not compatible, a clash is told
clash-for : (s : SourceTree) (t : CompositionTree) (ns : List Instance) (r : Reason) → AreBound s t.instances ns → (Compatible (map component_of ns) → ⊥) → IsRefusedFor s t r → r ≢ no_memory → TellsClash r
clash-for s t ns (misfit k) b apart h memory = absurd (bound-fits s t.instances ns k b h)
clash-for s t ns (faulty k f) b apart h memory = elim h [
  | inl u ↦ absurd (bound-valued s t.instances ns k f b u)
  | inr u ↦ absurd (apart (compatible-from ns (free-none s t.instances ns b u.1)))
]
clash-for s t ns (misnamed k) b apart h memory = absurd (bound-named s t.instances ns k b h)
clash-for s t ns (clashing i j x) b apart h memory = (i, j, x, refl)
clash-for s t ns (hiding x) b apart h memory = absurd (apart (compatible-from ns (free-none s t.instances ns b h.1)))
clash-for s t ns no_memory b apart h memory = absurd (memory refl)
clash-for s t ns other b apart h memory = absurd h

-- no other refusal is for want of memory
memory-is : (r : Refusal) → reason_of r ≡ no_memory → r ≡ OutOfMemory
memory-is OutOfMemory e = refl
memory-is (ArgMismatch i) e = absurd (cc)
memory-is (StartFault i f) e = absurd (cc)
memory-is (Clash i j name) e = absurd (cc)
memory-is TextTooLong e = absurd (cc)
memory-is (BadByte l) e = absurd (cc)
memory-is (Syntax l) e = absurd (cc)
memory-is (TooDeep l) e = absurd (cc)
memory-is (DuplicateName l) e = absurd (cc)
memory-is (UnknownName l) e = absurd (cc)
memory-is (TypeMismatch l) e = absurd (cc)
memory-is (BadSignature l) e = absurd (cc)
memory-is (NoProposal l) e = absurd (cc)
memory-is (TooMany l) e = absurd (cc)
memory-is (TooWide l) e = absurd (cc)
memory-is (CrashName i) e = absurd (cc)
memory-is (HiddenUnknown name) e = absurd (cc)
memory-is NoComposition e = absurd (cc)

refused-none : (s : SourceTree) (t : CompositionTree) (r : Refusal) (h : Hosted) → IsRefused s t r → r ≢ OutOfMemory → IsHosted s t h → ⊥
refused-none s t r h u memory i = none-for s t (reason_of r) h u (λ e. memory (memory-is r e)) i

pub exact-from : {X : Type 0} (r : Result X Refusal) (ds es : List Declaration) (o : Option Name) (t : CompositionTree) → ds ≡ es → Some t ≡ picked (tree_of ds) o → IfErr r (λ e. IsRefused (tree_of ds) t e)
    → IfErr r (λ e. e ≢ OutOfMemory → (u : CompositionTree) → picked (tree_of es) o ≡ Some u → (c : Hosted) → IsHosted (tree_of es) u c → ⊥)
exact-from (Ok x) ds es o t q e h = tt
exact-from (Err x) ds es o t q e h = λ no_memory u f c i.
    let p : Some t ≡ Some u = e ∙ ap (λ xs. picked (tree_of xs) o) q ∙ f in
    let same : t ≡ u = cc in
    refused-none (tree_of es) u x c (subst (λ v. IsRefused (tree_of es) v x) same (subst (λ xs. IsRefused (tree_of xs) t x) q h)) no_memory i

pub refused-from : {X : Type 0} (r : Result X Refusal) (ds es : List Declaration) (o : Option Name) (t : CompositionTree) → ds ≡ es → Some t ≡ picked (tree_of ds) o → IfErr r (λ e. IsRefused (tree_of ds) t e)
    → (u : CompositionTree) → picked (tree_of es) o ≡ Some u → IfErr r (λ e. IsRefused (tree_of es) u e)
refused-from (Ok x) ds es o t q e h = λ u f. tt
refused-from (Err x) ds es o t q e h = λ u f.
    let p : Some t ≡ Some u = e ∙ ap (λ xs. picked (tree_of xs) o) q ∙ f in
    let same : t ≡ u = cc in
    subst (λ v. IsRefused (tree_of es) v x) same (subst (λ xs. IsRefused (tree_of xs) t x) q h)

pub clash-from : {X : Type 0} (r : Result X Refusal) (ds es : List Declaration) (o : Option Name) (t : CompositionTree) → ds ≡ es → Some t ≡ picked (tree_of ds) o → IfErr r (λ e. IsRefused (tree_of ds) t e)
    → IfErr r (λ e. e ≢ OutOfMemory → (u : CompositionTree) → picked (tree_of es) o ≡ Some u → (ns : List Instance) → AreBound (tree_of es) u.instances ns → (Compatible (map component_of ns) → ⊥) → TellsClash (reason_of e))
clash-from (Ok x) ds es o t q e h = tt
clash-from (Err x) ds es o t q e h = λ no_memory u f ns b apart.
    let p : Some t ≡ Some u = e ∙ ap (λ xs. picked (tree_of xs) o) q ∙ f in
    let same : t ≡ u = cc in
    clash-for (tree_of es) u ns (reason_of x) b apart (subst (λ v. IsRefused (tree_of es) v x) same (subst (λ xs. IsRefused (tree_of xs) t x) q h)) (λ m. no_memory (memory-is x m))
