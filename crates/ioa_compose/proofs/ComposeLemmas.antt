-- A composition from its parts.
use Rattle.std.proofs.Common.{◌≡◌, ◌<◌, ◌≤◌, ℕ, Bool, true, not, ◌&&◌, length, List, [], ◌∷◌, map, take, ◌||◌, Some, Result, Ok, Err, IfErr, refl, sym, ap, subst, ◌∙◌}
use Rattle.std.specs.Prelude.{slice_get}
use Rattle.std.specs.List.{AllZip, list_all}
use Rattle.std.proofs.lemmas.Simd.{map-map}
use Rattle.std.proofs.lemmas.List.{length-map}
use Rattle.ioa_value.specs.Actions.{Name}
use Rattle.ioa_value.specs.Names.{IsName}
use Rattle.ioa_value.specs.Table.{Table, AreTypes, contains, all_names}
use Rattle.ioa_value.specs.declared.limits.TheConstants.{LIMITS}
use Rattle.ioa_value.proofs.ItemLemmas.{get_map}
use Rattle.ioa_lex.specs.declared.refusal.Refusal.{Refusal}
use Rattle.ioa_tree.specs.declared.tree.Name.{Name as TreeName}
use Rattle.ioa_tree.specs.declared.tree.Instance.{Instance as TreeInstance}
use Rattle.ioa_tree.specs.declared.tree.Assembly.{Assembly}
use Rattle.ioa_tree.specs.Tree.{InstanceTree, InvariantTree, CompositionTree, SourceTree}
use Rattle.ioa_tree.specs.View.{name_of, automaton_of, instance_of, assembly_of}
use Rattle.ioa_tree.specs.Names.{LegalNames, names_of_expr}
use Rattle.ioa_tree.specs.Types.{types_of}
use Rattle.ioa_tree.specs.Components.{Compatible}
use Rattle.ioa_tree.specs.Instances.{Instance, component_of}
use Rattle.ioa_tree.specs.Compositions.{Member, Composed, has_output, is_output_of, invariants}
use Rattle.ioa_tree.specs.Hosts.{Host, Hosted, AreHosts, IsHosted, host_instances}
use Rattle.ioa_tree.specs.WellFormed.{distinct, well_formed}
use Rattle.ioa_compose.specs.declared.binding.Binding.{Binding}
use Rattle.ioa_compose.specs.declared.member.Member as held
use Rattle.ioa_compose.specs.Bindings.{crash_in, plain_in, instance_in, host_in, IsStarted, IsComposable, AreBound}
use Rattle.ioa_compose.specs.Fine.{IsSound, IsTyped, AreOver}
use Rattle.ioa_compose.specs.Held.{member_of}
use Rattle.ioa_compose.specs.Refusals.{Reason, misfit, faulty, misnamed, clashing, hiding, no_memory, other, reason_of, IsUnbound, IsFirstUnknown, IsRefused, NoneClash, FaultsIn, ClashesIn, HidesIn}
use Rattle.ioa_crash.specs.Rewriting.{spelled}
use Rattle.ioa_compose.specs.Simulates.{member_for, composed_for, signalled, Simulates}
use Rattle.ioa_compose.proofs.CompatibleLemmas.{compatible-from}
use Rattle.ioa_compose.proofs.FineLemmas.{AllBind, all-bound}
use Rattle.ioa_compose.proofs.HostLemmas.{same_names, same_outputs, typed_for, hosts_may, conditions_spelled, hosts_fine, hosts_over, hosts_types, hosts_called, hosts_named, hosts_stand}
use Rattle.ioa_compose.proofs.PositionLemmas.{host_of_started}
use Rattle.ioa_compose.proofs.InvariantLemmas.{invariants-few, hosts-typed}
use Rattle.ioa_compose.proofs.RefusalLemmas.{unbound-refused, clash-refused, hiding-refused, start-refused}
use Rattle.ioa_clash.proofs.ZipLemmas.{all_found}
use Rattle.ioa_compose.proofs.SignalLemmas.{signals_decide}
use Rattle.ioa_compose.proofs.StandLemmas.{AreSpelled, stands_compatible}
use Rattle.ioa_compose.proofs.WithSignals.{more_outputs}

-- ---- the composition that stands for hosts

all_same : {X : Type 0} (p q : X → Bool) (xs : List X) → ((x : X) → p x ≡ q x) → list_all p xs ≡ list_all q xs
all_same p q [] h = refl
all_same p q (x ∷ xs) h = ap (λ b. b && list_all p xs) (h x) ∙ ap (λ b. q x && b) (all_same p q xs h)

module _ (s : SourceTree) (t : CompositionTree) (h : Hosted) (declared : AreTypes (types_of s)) (fine : well_formed s ≡ true) (legal : LegalNames s)
    (k : IsComposable s t) (b : IsHosted s t h) where
  stands : Simulates h (composed_for h)
  stands = hosts_stand s t h fine legal b

  called : map (λ (m : Member). m.name) (map member_for h.hosts) ≡ map (λ (i : InstanceTree). i.name) t.instances
  called = same_names h.hosts ∙ hosts_called s t.instances h.hosts b.hosts

  long : length (map member_for h.hosts) ≡ length t.instances
  long =
      sym (length-map (map member_for h.hosts) (λ (m : Member). m.name)) ∙ ap length called ∙ length-map t.instances (λ (i : InstanceTree). i.name)

  spells : AreSpelled h.invariants
  spells = subst AreSpelled (sym b.invariants) (conditions_spelled s fine legal)

  -- it is sound
  pub hosted-sound : IsSound (composed_for h)
  hosted-sound = record {
    types = subst AreTypes (sym b.types) declared;
    legal = subst IsName (sym b.name) k.legal;
    apart = ap (λ ts. not (contains (all_names ts) h.name)) b.types ∙ ap (λ n. not (contains (all_names (types_of s)) n)) b.name ∙ k.apart;
    names = ap distinct called ∙ k.names;
    some = subst (λ n. 0 < n) (sym long) k.some;
    few = subst (λ n. n ≤ LIMITS.components) (sym long) k.few;
    hidden = ap distinct b.hidden ∙ k.hidden;
    few_hidden = subst (λ (ns : List Name). length ns ≤ LIMITS.hidden) (sym b.hidden) k.few_hidden;
    outputs = all_same (is_output_of (map (λ (m : Member). m.instance) (map member_for h.hosts))) (is_output_of (host_instances h)) h.hidden (same_outputs h.hosts)
        ∙ ap (list_all (is_output_of (host_instances h))) b.hidden ∙ b.outputs;
    over = subst (λ l. AreOver l (map member_for h.hosts)) (sym b.types) (hosts_over s t.instances h.hosts b.hosts);
    members = hosts_fine s fine legal t.instances h.hosts declared k.entries k.legal_names k.legal_crashes b.hosts;
    compatible = stands_compatible h (composed_for h) stands b.compatible;
    few_invariants = subst (λ (us : List InvariantTree). length us ≤ LIMITS.invariants) (sym b.invariants) (invariants-few s fine);
    invariants = λ i j m v e at.
        let p = get_map member_for h.hosts i m e in
        let own : slice_get (invariants s) j ≡ Some v = ap (λ (us : List InvariantTree). slice_get us j) (sym b.invariants) ∙ at in
        subst (λ (n : Member). IsTyped n.instance v) p.2
        (typed_for p.0.crash p.0 v (over_host i p.0 p.1) (hosts_may s fine legal t.instances h.hosts b.hosts i p.0 p.1)
        (all_found (λ (u : InvariantTree). list_all spelled (names_of_expr u.condition) ≡ true) h.invariants j v spells at)
        (hosts-typed s t.instances h.hosts fine b.hosts i j p.0 v p.1 own));
    conditions = spells;
  }
    where
      over_host : (i : ℕ) (p : Host) → slice_get h.hosts i ≡ Some p → AreTypes p.instance.types
      over_host i p e = subst AreTypes (sym (hosts_types s t.instances h.hosts b.hosts i p e)) declared

-- ---- what is made on the way to a composition

pub record Parts (s : SourceTree) (types : Table) (a : Assembly) (bs : List Binding) (ms : List held.Member) (hidden : List Name) (vs : List InvariantTree) : Type 0 where
  pub bound : AllBind s a.instances.items bs
  pub started : AllZip (λ b m. IsStarted types b (member_of m)) bs ms
  pub clear : NoneClash (map (instance_in types) bs)
  pub hides : hidden ≡ (assembly_of a).hidden
  pub outputs : list_all (is_output_of (map (plain_in types) bs)) (assembly_of a).hidden ≡ true
  pub of_source : vs ≡ invariants s

-- the hosts for which the components stand
pub record HostsFrom (s : SourceTree) (types : Table) (is : List TreeInstance) (bs : List Binding) (ms : List held.Member) : Type 0 where
  pub hosts : List Host
  pub are : AreHosts s (map instance_of is) hosts
  pub members : map member_for hosts ≡ map member_of ms
  pub instances : map (plain_in types) bs ≡ map (λ (p : Host). p.instance) hosts
  pub signals : map (instance_in types) bs ≡ map signalled hosts

hosts-from : (s : SourceTree) (types : Table) (is : List TreeInstance) (bs : List Binding) (ms : List held.Member) → types ≡ types_of s → AllBind s is bs
    → AllZip (λ b m. IsStarted types b (member_of m)) bs ms → HostsFrom s types is bs ms
hosts-from s types [] [] [] e z u = record { hosts = []; are = tt; members = refl; instances = refl; signals = refl }
hosts-from s types [] [] (m ∷ ms) e z u = absurd u
hosts-from s types [] (b ∷ bs) ms e z u = absurd z
hosts-from s types (i ∷ is) [] ms e z u = absurd z
hosts-from s types (i ∷ is) (b ∷ bs) [] e z u = absurd u
hosts-from s types (i ∷ is) (b ∷ bs) (m ∷ ms) e z u =
    let rest = hosts-from s types is bs ms e z.1 u.1 in
    let p = host_in types b u.0.0 in
    record {
      hosts = p ∷ rest.hosts;
      are = (host_of_started s types i b (member_of m) e z.0 u.0, rest.are);
      members = ap (λ (n : Member). n ∷ map member_for rest.hosts) (sym u.0.2) ∙ ap (λ (ns : List Member). member_of m ∷ ns) rest.members;
      instances = ap (λ (ns : List Instance). plain_in types b ∷ ns) rest.instances;
      signals = ap (λ (ns : List Instance). instance_in types b ∷ ns) rest.signals;
    }

module _ (s : SourceTree) (types : Table) (a : Assembly) (bs : List Binding) (ms : List held.Member) (hidden : List Name) (vs : List InvariantTree)
    (p : Parts s types a bs ms hidden vs) (name : Name) (same_types : types ≡ types_of s) (same_name : name ≡ name_of a.name) where
  pub from : HostsFrom s types a.instances.items bs ms
  from = hosts-from s types a.instances.items bs ms same_types p.bound p.started

  abbrev made : Composed
  made = record { types = types; name = name; members = map member_of ms; hidden = hidden; invariants = vs }

  abbrev pub parts-hosts : Hosted
  parts-hosts = record { types = types; name = name; hosts = from.hosts; hidden = hidden; invariants = vs }

  pub parts-hosted : IsHosted s (assembly_of a) parts-hosts
  parts-hosted = record {
    types = same_types;
    name = same_name;
    hosts = from.are;
    hidden = p.hides;
    outputs = subst (λ (ns : List Instance). list_all (is_output_of ns) (assembly_of a).hidden ≡ true) from.instances p.outputs;
    invariants = p.of_source;
    compatible = (signals_decide parts-hosts (hosts_named s (assembly_of a).instances from.hosts from.are)).0
        (subst Compatible (map-map component_of signalled from.hosts)
        (subst (λ (ns : List Instance). Compatible (map component_of ns)) from.signals (compatible-from (map (instance_in types) bs) p.clear)));
  }

  made-is : composed_for parts-hosts ≡ made
  made-is = ap (λ (ns : List Member). record { types = types; name = name; members = ns; hidden = hidden; invariants = vs }) from.members

  pub parts-sound : AreTypes (types_of s) → well_formed s ≡ true → LegalNames s → IsComposable s (assembly_of a) → IsSound made
  parts-sound d w l k = subst IsSound made-is (hosted-sound s (assembly_of a) parts-hosts d w l k parts-hosted)

  pub parts-stand : well_formed s ≡ true → LegalNames s → Simulates parts-hosts made
  parts-stand w l = subst (Simulates parts-hosts) made-is (hosts_stand s (assembly_of a) parts-hosts w l parts-hosted)

-- ---- the parts and the refusals, of what the calls give

-- crash and recover are no outputs
outputs-plain : (types : Table) (bs : List Binding) (x : Name) → is_output_of (map (instance_in types) bs) x ≡ is_output_of (map (plain_in types) bs) x
outputs-plain types [] x = refl
outputs-plain types (b ∷ bs) x =
    ap (λ c. c || is_output_of (map (instance_in types) bs) x) (more_outputs x (crash_in b) (automaton_of b.automaton.now))
    ∙ ap (λ c. has_output x (automaton_of b.automaton.now) || c) (outputs-plain types bs x)

-- the first hidden name that is no output's is no output's of the instances with inputs for crash and recover
first-unknown : (types : Table) (bs : List Binding) (hidden : List Name) (x : Name) → IsFirstUnknown (map (plain_in types) bs) hidden x → IsFirstUnknown (map (instance_in types) bs) hidden x
first-unknown types bs hidden x h = (
  h.0,
  h.1,
  outputs-plain types bs x ∙ h.2,
  all_same (is_output_of (map (instance_in types) bs)) (is_output_of (map (plain_in types) bs)) (take h.0 hidden) (outputs-plain types bs) ∙ h.3,
)

hides-plain : (types : Table) (bs : List Binding) (hidden : List Name) (r : Reason) → HidesIn (map (plain_in types) bs) hidden r → HidesIn (map (instance_in types) bs) hidden r
hides-plain types bs hidden (misfit i) h = h
hides-plain types bs hidden (faulty i f) h = h
hides-plain types bs hidden (misnamed i) h = h
hides-plain types bs hidden (clashing i j name) h = h
hides-plain types bs hidden (hiding x) h = first-unknown types bs hidden x h
hides-plain types bs hidden no_memory h = h
hides-plain types bs hidden other h = h

module _ (s : SourceTree) (types : Table) (a : Assembly) (is : List TreeInstance) (bs : List Binding)
    (types_same : types ≡ types_of s) (bound : AllBind s is bs) (same : is ≡ a.instances.items) where
  bindings-here : AllBind s a.instances.items bs
  bindings-here = subst (λ us. AllBind s us bs) same bound

  bound-here : AreBound s (assembly_of a).instances (map (instance_in types) bs)
  bound-here = all-bound s types a.instances.items bs types_same bindings-here

  pub clash-refuses : {X : Type 0} (r : Result X Refusal) (us : List Binding) → us ≡ bs → IfErr r (λ e. ClashesIn (map (instance_in types) us) (reason_of e)) → IfErr r (λ e. IsRefused s (assembly_of a) e)
  clash-refuses (Ok x) us p h = tt
  clash-refuses (Err x) us p h = clash-refused s (assembly_of a) (map (instance_in types) bs) (reason_of x) bound-here (subst (λ vs. ClashesIn (map (instance_in types) vs) (reason_of x)) p h)

  -- the components are clear of one another
  module _ (us : List Binding) (clear : NoneClash (map (instance_in types) us)) (p : us ≡ bs) where
    clear-here : NoneClash (map (instance_in types) bs)
    clear-here = subst (λ vs. NoneClash (map (instance_in types) vs)) p clear

    pub hiding-refuses : {X : Type 0} (r : Result X Refusal) (vs : List Binding) (hs : List TreeName) → vs ≡ bs → hs ≡ a.hidden.items
        → IfErr r (λ e. HidesIn (map (plain_in types) vs) (map name_of hs) (reason_of e)) → IfErr r (λ e. IsRefused s (assembly_of a) e)
    hiding-refuses (Ok x) vs hs q e h = tt
    hiding-refuses (Err x) vs hs q e h =
        hiding-refused s (assembly_of a) (map (instance_in types) bs) (reason_of x) bound-here clear-here
        (hides-plain types bs (assembly_of a).hidden (reason_of x)
        (subst (λ ns. HidesIn (map (plain_in types) bs) (map name_of ns) (reason_of x)) e (subst (λ ws. HidesIn (map (plain_in types) ws) (map name_of hs) (reason_of x)) q h)))

    -- and each hidden name is an output's
    module _ (vs : List Binding) (hs : List TreeName) (outputs : list_all (is_output_of (map (plain_in types) vs)) (map name_of hs) ≡ true) (q : vs ≡ bs) (e : hs ≡ a.hidden.items) where
      outputs-here : list_all (is_output_of (map (plain_in types) bs)) (assembly_of a).hidden ≡ true
      outputs-here =
          sym (ap (λ ws. list_all (is_output_of (map (plain_in types) ws)) (map name_of hs)) q
          ∙ ap (λ ns. list_all (is_output_of (map (plain_in types) bs)) (map name_of ns)) e) ∙ outputs

      pub start-refuses : {X : Type 0} (r : Result X Refusal) (ws : List Binding) → ws ≡ bs → IfErr r (λ e. FaultsIn (map (instance_in types) ws) (reason_of e)) → IfErr r (λ e. IsRefused s (assembly_of a) e)
      start-refuses (Ok x) ws w h = tt
      start-refuses (Err x) ws w h =
          start-refused s (assembly_of a) (map (instance_in types) bs) (reason_of x) bound-here clear-here
          (all_same (is_output_of (map (instance_in types) bs)) (is_output_of (map (plain_in types) bs)) (assembly_of a).hidden (outputs-plain types bs) ∙ outputs-here) (subst (λ us. FaultsIn (map (instance_in types) us) (reason_of x)) w h)

      pub parts-of : (ms : List held.Member) (hidden : List Name) (of : List InvariantTree) (ws : List Binding) → ws ≡ bs → hidden ≡ map name_of hs
          → AllZip (λ b m. IsStarted types b (member_of m)) ws ms → of ≡ invariants s → Parts s types a bs ms hidden of
      parts-of ms hidden of ws w k t v = record {
        bound = bindings-here;
        started = subst (λ us. AllZip (λ b m. IsStarted types b (member_of m)) us ms) w t;
        clear = clear-here;
        hides = k ∙ ap (map name_of) e;
        outputs = outputs-here;
        of_source = v;
      }

pub unbound-refuses : {X : Type 0} (r : Result X Refusal) (s : SourceTree) (a : Assembly) (is : List TreeInstance) → is ≡ a.instances.items
    → IfErr r (λ e. IsUnbound s (map instance_of is) (reason_of e)) → IfErr r (λ e. IsRefused s (assembly_of a) e)
unbound-refuses (Ok x) s a is p h = tt
unbound-refuses (Err x) s a is p h = unbound-refused s (assembly_of a) (reason_of x) (subst (λ us. IsUnbound s (map instance_of us) (reason_of x)) p h)
