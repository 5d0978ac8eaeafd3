-- An action has the same entry, and so the same kind, in the table as in the automaton.
use Rattle.std.proofs.Common.{All, ◌≡◌, ℕ, suc, ◌≤◌, not, ◌⊎◌, inl, inr, Bool, true, false, cond, ◌&&◌, List, [], ◌∷◌, length, map, Option, Some, None, IfSome, refl, sym, ap, ◌∙◌, subst, arith}
use Rattle.std.specs.Prelude.{slice_get}
use Rattle.std.specs.List.{AllZip, find, list_any, list_all}
use Rattle.std.specs.Option.{option_map}
use Rattle.std.specs.Str.{bytes_eq}
use Rattle.std.proofs.lemmas.List.{length-map}
use Rattle.ioa_value.specs.Actions.{Name, Act}
use Rattle.ioa_value.specs.Names.{IsName}
use Rattle.ioa_value.specs.Table.{Table, AreTypes, contains, all_names}
use Rattle.ioa_value.specs.Positions.{IsDomain}
use Rattle.ioa_value.specs.Typing.{HaveTypes}
use Rattle.ioa_value.specs.declared.limits.TheConstants.{LIMITS}
use Rattle.ioa_code.specs.declared.instr.PartKind.{PartKind}
use Rattle.ioa_code.specs.declared.instr.PartKind.TheVariants.{Pre, Propose, Eff}
use Rattle.ioa_code.specs.Machine.{Listing}
use Rattle.ioa_code.specs.Valid.{Part}
use Rattle.ioa_tree.specs.declared.tree.Kind.{Kind}
use Rattle.ioa_tree.specs.declared.tree.Kind.TheVariants.{Input, Output, Internal}
use Rattle.ioa_tree.specs.Tree.{Expr, EntryTree, PositionTree, ProposalTree}
use Rattle.ioa_tree.specs.Instances.{positions_have, entry_has, component_of}
use Rattle.ioa_tree.specs.Components.{Compatible, is_output}
use Rattle.ioa_tree.specs.Compositions.{Member, Composed, has_output, instances_of, is_output_of}
use Rattle.ioa_tree.specs.WellFormed.{distinct, variable_fields}
use Rattle.ioa_compose.specs.Fine.{IsFine, AreOver, IsSound}
use Rattle.ioa_crash.specs.Limits.{component_limits}
use Rattle.ioa_compile.specs.Programs.{EntryCode, MemberCode, Prog}
use Rattle.ioa_compile.specs.Tables as programs
use Rattle.ioa_compile.specs.Tables.{is_in, table_component, position_types, parameter_types, HasLocal, IsPart, IsPartOf, IsEntry, AreEntries, IsMember, AreMembers, IsProgram}
use Rattle.ioa_emit.specs.Scopes.{Scope, scope_of, scope_of_proposals}
use Rattle.ioa_compile.specs.Matching.{AreTypesOf, MatchesEntry}
use Rattle.ioa_emit.specs.Emitting.{guard_nodes, proposals_nodes}
use Rattle.ioa_compile.specs.Translated.{IsGuard, IsProposing, IsFor, codes_of, IsTranslated, IsEntryOf, DoesSame}
use Rattle.ioa_compile.proofs.Fine.{small_of, few_positions_of, domains_of, entry_of}
use Rattle.ioa_tree.proofs.Domains.{domains_have}
use Rattle.ioa_tree.proofs.FineParts.{fine_parts, within_parts}
use Rattle.ioa_clash.proofs.ZipLemmas.{all_found}
use Rattle.ioa_clash.proofs.CompatibleLemmas.{HaveSameKinds, compatible-like}
use Rattle.ioa_compile.proofs.Fits.{types_long, variables_names}
use Rattle.ioa_compile.proofs.Paired.{paired_map, paired_any, any_seen, all_same}
use Rattle.ioa_compile.proofs.Parameters.{domains_long}
use Rattle.ioa_compile.proofs.Sizes.{guard_short, stmts_short, proposals_short, proposals_few}

module _ (m : Member) (slots : List ℕ) (a : Act) where
  in_same : (types : Table) → types ≡ m.instance.types → (e : EntryTree) (c : EntryCode) → IsTranslated m slots e c → entry_has m.instance a e ≡ is_in types a c
  in_same types same e c h =
      ap (λ n. bytes_eq n a.name && positions_have m.instance e.positions a.vals) (sym h.name)
      ∙ ap (λ b. bytes_eq c.name a.name && b) (domains_have m.instance e.positions c.positions a.vals h.positions)
      ∙ ap (λ l. is_in l a c) (sym same)

  -- the entries of the action in tree and table
  pub record Both (es : List EntryTree) (o : Option EntryTree) (p : Option EntryCode) : Type 0 where
    pub entry : EntryTree
    pub code : EntryCode
    pub entry_is : o ≡ Some entry
    pub code_is : p ≡ Some code
    pub same : IsTranslated m slots entry code
    pub place : ℕ
    pub here : slice_get es place ≡ Some entry
    pub has : entry_has m.instance a entry ≡ true

  pub record Neither (o : Option EntryTree) (p : Option EntryCode) : Type 0 where
    pub no_entry : o ≡ None
    pub no_code : p ≡ None

  pub finds_same : (types : Table) → types ≡ m.instance.types → (es : List EntryTree) (cs : List EntryCode) → AllZip (IsTranslated m slots) es cs → Both es (find (entry_has m.instance a) es) (find (is_in types a) cs) ⊎ Neither (find (entry_has m.instance a) es) (find (is_in types a) cs)
  finds_same types same [] [] h = inr (record { no_entry = refl; no_code = refl })
  finds_same types same [] (c ∷ cs) h = absurd h
  finds_same types same (e ∷ es) [] h = absurd h
  finds_same types same (e ∷ es) (c ∷ cs) h = go (entry_has m.instance a e) refl (is_in types a c) (in_same types same e c h.0) (finds_same types same es cs h.1)
    where
      go : (b : Bool) → entry_has m.instance a e ≡ b → (d : Bool) → entry_has m.instance a e ≡ d → Both es (find (entry_has m.instance a) es) (find (is_in types a) cs) ⊎ Neither (find (entry_has m.instance a) es) (find (is_in types a) cs) → Both (e ∷ es) (cond b (Some e) (find (entry_has m.instance a) es)) (cond d (Some c) (find (is_in types a) cs)) ⊎ Neither (cond b (Some e) (find (entry_has m.instance a) es)) (cond d (Some c) (find (is_in types a) cs))
      go true t true u r = inl (record { entry = e; code = c; entry_is = refl; code_is = refl; same = h.0; place = 0; here = refl; has = t })
      go true t false u r = absurd (cc)
      go false t true u r = absurd (cc)
      go false t false u (inl r) = inl (record { entry = r.entry; code = r.code; entry_is = r.entry_is; code_is = r.code_is; same = r.same; place = suc r.place; here = r.here; has = r.has })
      go false t false u (inr r) = inr (record { no_entry = r.no_entry; no_code = r.no_code })

  pub kinds_same : (es : List EntryTree) (o : Option EntryTree) (p : Option EntryCode) → Both es o p ⊎ Neither o p → option_map (λ e. e.kind) o ≡ option_map (λ c. c.kind) p
  kinds_same es o p (inl r) =
      ap (option_map (λ e. e.kind)) r.entry_is ∙ ap Some (sym r.same.kind) ∙ sym (ap (option_map (λ c. c.kind)) r.code_is)
  kinds_same es o p (inr r) = ap (option_map (λ e. e.kind)) r.no_entry ∙ sym (ap (option_map (λ c. c.kind)) r.no_code)

-- the table's parts are for the component's variables, and short, since the trees are small
module _ (m : Member) (c : MemberCode) (fine : IsFine component_limits m) (same_types : c.start.table ≡ m.instance.types) where
  part_of : (k : PartKind) (values end : List ℕ) (p : Part) → IsFor p m.instance.types k end c.start.types values → length p.code.instrs ≤ 65535 → IsPart c k values end p
  part_of k values end p h short = record {
    verified = h.verified;
    types = h.types_are ∙ sym same_types;
    kind = h.kind;
    result = h.result;
    slots = h.slots;
    args = h.args;
    short = short;
  }

  guard_part : (values : List ℕ) (p : Part) (s : Scope) (g : Option Expr) → guard_nodes g ≤ component_limits.nodes → IsGuard p.code s g → IsFor p m.instance.types Pre (0 ∷ []) c.start.types values → IsPart c Pre values (0 ∷ []) p
  guard_part values p s g few h f = part_of Pre values (0 ∷ []) p f (omega (arith, guard_short p.code s g 0 (length p.code.instrs) h.has))

  proposals_part : (end : List ℕ) (p : Part) (s : Scope) (rs : List ProposalTree) (ps : List PositionTree) → proposals_nodes rs ps ≤ component_limits.nodes → length ps ≤ LIMITS.parameters → IsProposing p.code s rs ps → IsFor p m.instance.types Propose end c.start.types [] → IsPart c Propose [] end p
  proposals_part end p s rs ps few positions h f = part_of Propose [] end p f (omega (arith, proposals_short p.code s rs ps 0 (length p.code.instrs) h.has))

  -- what is so of a locally controlled entry's part
  local_part : (P Q : Part → Type 0) (H : Listing → Type 0) (k : Kind) (o : Option Part) → HasLocal H k (codes_of o) → IfSome o Q → ((p : Part) → H p.code → Q p → P p) → HasLocal P k o
  local_part P Q H Input None h q f = tt
  local_part P Q H Input (Some p) h q f = absurd h
  local_part P Q H Output None h q f = absurd h
  local_part P Q H Output (Some p) h q f = f p h q
  local_part P Q H Internal None h q f = absurd h
  local_part P Q H Internal (Some p) h q f = f p h q

  one_table : (o : Option Part) (k : Listing) → IfSome (codes_of o) (λ g. g.consts ≡ k.consts) → IfSome o (λ p. p.code.consts ≡ k.consts)
  one_table None k h = tt
  one_table (Some p) k h = h

  is_entry : (t : EntryTree) (e : EntryCode) → IsEntryOf m t → IsTranslated m c.start.types t e → IsEntry c e
  is_entry t e own h =
      let r = h.transition.0 in
      let few = small_of m t fine own r h.transition.1 in
      let made = h.transition.2 in
      let code = e.effect.code in
      let positions = few_positions_of m t fine own in
      let proposed : proposals_nodes r.proposals t.positions ≤ component_limits.nodes = omega (arith, few.proposals, proposals_few r.proposals t.positions (entry_of m t fine own).distinct_names) in
      let as_many = domains_long m.instance t.positions e.positions h.positions in
      record {
        legal = subst IsName (sym h.name) (all_found (λ u. IsName u.name) m.instance.automaton.entries own.place t fine.legal_entries own.here);
        few_positions = omega arith;
        positions = subst (λ l. All (IsDomain l) e.positions) (sym same_types) (domains_of m t fine own e.positions (subst AreTypes h.effect.types_are h.effect.verified.types) h.positions);
        pre = subst (λ k. HasLocal (IsPartOf c e Pre (0 ∷ [])) k e.pre) (sym h.kind)
            (local_part (IsPartOf c e Pre (0 ∷ [])) _ (λ code. IsGuard code (scope_of m t) r.pre) t.kind e.pre made.pre h.pre (λ p k f. guard_part (position_types e.positions) p (scope_of m t) r.pre few.guard k f));
        propose = subst (λ k. HasLocal (IsPart c Propose [] (parameter_types e.positions)) k e.propose) (sym h.kind)
            (local_part (IsPart c Propose [] (parameter_types e.positions)) _ (λ code. IsProposing code (scope_of_proposals m) r.proposals t.positions) t.kind e.propose made.propose h.propose
            (λ p k f. proposals_part (parameter_types e.positions) p (scope_of_proposals m) r.proposals t.positions proposed positions k f));
        effect = part_of Eff (position_types e.positions) [] e.effect h.effect (omega (arith, few.effect, stmts_short code (scope_of m t) r.effect 0 (length code.instrs) made.effect.has));
        consts = one_table e.pre code made.consts;
        same_consts = one_table e.propose code made.same_consts;
        few_consts = omega (arith, few.guard, proposed, few.effect, made.few);
      }

  are_entries : (ts : List EntryTree) (es : List EntryCode) → ((i : ℕ) (t : EntryTree) → slice_get ts i ≡ Some t → IsEntryOf m t) → AllZip (IsTranslated m c.start.types) ts es → AreEntries c es
  are_entries [] [] own h = tt
  are_entries [] (e ∷ es) own h = absurd h
  are_entries (t ∷ ts) [] own h = absurd h
  are_entries (t ∷ ts) (e ∷ es) own h = (is_entry t e (own 0 t refl) h.0, are_entries ts es (λ i u k. own (suc i) u k) h.1)

  pub is_member : c.name ≡ m.name → AreTypesOf m.instance.types (variable_fields m.instance.automaton) c.start.types → HaveTypes m.instance.types c.start.values c.start.types → AllZip (IsTranslated m c.start.types) m.instance.automaton.entries c.entries → IsMember m.instance.types c
  is_member name types start all =
      let a = m.instance.automaton in
      let whole = fine_parts m.instance.types m.instance.types fine.automaton.0 a fine.automaton.1 in
      let few = within_parts component_limits a fine.within in
      let names : map (λ e. e.name) c.entries ≡ map (λ t. t.name) a.entries =
      paired_map (IsTranslated m c.start.types) (λ t. t.name) (λ e. e.name) (λ t e h. h.name) a.entries c.entries all in
      record {
        legal = subst IsName (sym name) fine.legal;
        types_are = same_types;
        few_variables = omega (arith, types_long m.instance.types (variable_fields a) c.start.types types, ap length (variables_names a), length-map a.variables (λ v. v.field.name), few.variables);
        typed = start;
        some_entries = omega (arith, ap length names, length-map c.entries (λ e. e.name), length-map a.entries (λ t. t.name), fine.some_entries);
        few_entries = omega (arith, ap length names, length-map c.entries (λ e. e.name), length-map a.entries (λ t. t.name), few.entries);
        names = ap distinct names ∙ whole.entry_names;
        entries = are_entries a.entries c.entries (λ i t k. record { place = i; here = k }) all;
      }

-- ---- all components

all_kinds_same : (ms : List Member) (cs : List MemberCode) → AllZip DoesSame ms cs → AllZip HaveSameKinds (map (λ m. component_of m.instance) ms) (map table_component cs)
all_kinds_same [] [] h = tt
all_kinds_same [] (c ∷ cs) h = absurd h
all_kinds_same (m ∷ ms) [] h = absurd h
all_kinds_same (m ∷ ms) (c ∷ cs) h = (h.0.like.kinds, all_kinds_same ms cs h.1)

compatible_same : (ms : List Member) (cs : List MemberCode) → AllZip DoesSame ms cs → Compatible (map (λ m. component_of m.instance) ms) → Compatible (map table_component cs)
compatible_same ms cs h k = compatible-like (map (λ m. component_of m.instance) ms) (map table_component cs) (all_kinds_same ms cs h) k

are_members : (types : Table) (ms : List Member) (cs : List MemberCode) → AreOver types ms → AllZip DoesSame ms cs → AreMembers types cs
are_members types [] [] o h = tt
are_members types [] (c ∷ cs) o h = absurd h
are_members types (m ∷ ms) [] o h = absurd h
are_members types (m ∷ ms) (c ∷ cs) o h = (subst (λ t. IsMember t c) o.0 h.0.sound, are_members types ms cs o.1 h.1)

-- the program of a composition keeps what programs keep
pub is_program : (c : Composed) (p : Prog) → IsSound c → p.name ≡ c.name → p.types ≡ c.types → p.hidden ≡ c.hidden → AllZip DoesSame c.members p.members → IsProgram p
is_program c p h name typed_so hides all =
    let names : map (λ m. m.name) p.members ≡ map (λ m. m.name) c.members =
    paired_map DoesSame (λ m. m.name) (λ m. m.name) (λ m n k. k.matches.name) c.members p.members all in
    let labels : (x : Name) (e : EntryTree) (d : EntryCode) (m : Member) → MatchesEntry m e d → (is_output (Some d.kind) && bytes_eq d.name x) ≡ (is_output (Some e.kind) && bytes_eq e.name x) =
    λ x e d m k. ap (λ l. is_output (Some l) && bytes_eq d.name x) k.kind ∙ ap (λ n. is_output (Some e.kind) && bytes_eq n x) k.name in
    let outputs : (x : Name) → programs.is_output_of p x ≡ is_output_of (instances_of c) x =
    λ x. paired_any DoesSame (λ m. has_output x m.instance.automaton) (λ m. list_any (λ e. is_output (Some e.kind) && bytes_eq e.name x) m.entries)
    (λ m n k. paired_any (MatchesEntry m) (λ e. is_output (Some e.kind) && bytes_eq e.name x) (λ e. is_output (Some e.kind) && bytes_eq e.name x) (λ e d j. labels x e d m j) m.instance.automaton.entries n.entries k.matches.entries)
    c.members p.members all ∙ sym (any_seen (λ m. m.instance) (λ i. has_output x i.automaton) c.members) in
    record {
      types = subst AreTypes (sym typed_so) h.types;
      legal = subst IsName (sym name) h.legal;
      apart = ap (λ ts. not (contains (all_names ts) p.name)) typed_so ∙ ap (λ n. not (contains (all_names c.types) n)) name ∙ h.apart;
      some_members = omega (arith, ap length names, length-map p.members (λ m. m.name), length-map c.members (λ m. m.name), h.some);
      few_members = omega (arith, ap length names, length-map p.members (λ m. m.name), length-map c.members (λ m. m.name), h.few);
      names = ap distinct names ∙ h.names;
      members = subst (λ t. AreMembers t p.members) (sym typed_so) (are_members c.types c.members p.members h.over all);
      compatible = compatible_same c.members p.members all h.compatible;
      few_hidden = subst (λ ns. length ns ≤ LIMITS.hidden) (sym hides) h.few_hidden;
      hidden = ap distinct hides ∙ h.hidden;
      outputs = all_same (programs.is_output_of p) (is_output_of (instances_of c)) outputs p.hidden ∙ ap (list_all (is_output_of (instances_of c))) hides ∙ h.outputs;
    }
