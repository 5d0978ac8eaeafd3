-- Components, read and spelled.
use Rattle.std.proofs.Common.{◌≡◌, ℕ, ◌^◌, ◌<◌, ◌≤◌, Bool, List, [], ◌∷◌, ◌++◌, length, map, refl, sym, ◌∙◌, subst, All, arith}
use Rattle.std.proofs.lemmas.List.{append_assoc, length-map}
use Rattle.ioa_value.specs.Actions.{Name}
use Rattle.ioa_value.specs.Names.{IsName}
use Rattle.ioa_value.specs.Plain.{Val}
use Rattle.ioa_value.specs.Positions.{IsDomain}
use Rattle.ioa_value.specs.Table.{Table, AreTypes}
use Rattle.ioa_value.specs.Typing.{OwnTypes, own}
use Rattle.ioa_value.proofs.TypingLemmas.{HaveTypes-owns, HaveTypes-from_own, HaveTypes-length}
use Rattle.ioa_code.specs.declared.instr.PartKind.{PartKind}
use Rattle.ioa_code.specs.Valid.{Part}
use Rattle.ioa_crash.specs.Limits.{component_limits}
use Rattle.ioa_compile.specs.Programs.{EntryCode, MemberCode}
use Rattle.ioa_compile.specs.Tables.{IsPart, IsEntry, AreEntries, IsMember}
use Rattle.ioa_bytes.specs.Items.{list_at}
use Rattle.ioa_object.specs.Reading.{entry_at, component_at}
use Rattle.ioa_object.specs.Spelling.{text, list_of, value, entry, component}
use Rattle.ioa_bytes.specs.Spots.{Spot}
use Rattle.ioa_object.specs.Versions.{MayStand, entry_loops, member_loops}
use Rattle.ioa_object.proofs.Formats.{AreBytes, Finds, finds_ok, finds_on, Yields, yields_ok, yields_on, Taken, IsFormat, chained}
use Rattle.ioa_object.proofs.Texts.{name_format}
use Rattle.ioa_object.proofs.Lists.{AreFine, IsListed, Anywhere, list_format}
use Rattle.ioa_object.proofs.Fresh.{fine_weaker, fine_both, IsNew, distinct_new, new_distinct}
use Rattle.ioa_object.proofs.PartFormats.{over, own_types, types_own}
use Rattle.ioa_object.proofs.Entries.{local_weaker, values_format, IsEntryHere, entry_format}
use Rattle.ioa_object.proofs.Standing.{fine_stand, stand_fine}

-- ---- entries of components with the same types

module _ (m n : MemberCode) (table : m.start.table ≡ n.start.table) (slots : m.start.types ≡ n.start.types) where
  same_part : (kind : PartKind) (values end : List ℕ) (p : Part) → IsPart m kind values end p → IsPart n kind values end p
  same_part kind values end p h = record { verified = h.verified; types = h.types ∙ table; kind = h.kind; result = h.result; slots = h.slots ∙ slots; args = h.args; short = h.short }

  same_entry : (e : EntryCode) → IsEntry m e → IsEntry n e
  same_entry e h = record {
    legal = h.legal;
    few_positions = h.few_positions;
    positions = subst (λ (t : Table). All (IsDomain t) e.positions) table h.positions;
    pre = local_weaker _ _ (same_part _ _ _) e.kind e.pre h.pre;
    propose = local_weaker _ _ (same_part _ _ _) e.kind e.propose h.propose;
    effect = same_part _ _ _ e.effect h.effect;
    consts = h.consts;
    same_consts = h.same_consts;
    few_consts = h.few_consts;
  }

  entries_fine : (before es : List EntryCode) → AreEntries m es → AreFine (Anywhere (IsEntry n)) before es
  entries_fine before [] h = tt
  entries_fine before (e ∷ es) h = (same_entry e h.0, entries_fine (before ++ e ∷ []) es h.1)

  fine_entries : (before es : List EntryCode) → AreFine (Anywhere (IsEntry m)) before es → AreEntries n es
  fine_entries before [] h = tt
  fine_entries before (e ∷ es) h = (same_entry e h.0, fine_entries (before ++ e ∷ []) es h.1)

-- ---- components

module _ (loops : Bool) (types : Table) (are : AreTypes types) where
  -- the component has these types, and its name is none of those before
  pub record IsComponent (before : List MemberCode) (m : MemberCode) : Type 0 where
    pub member : IsMember types m
    pub new : IsNew (λ m. m.name) before m
    pub stand : MayStand loops (member_loops m)

  entries_format : (slots : List ℕ) (few : length slots < 2 ^ 16) → IsFormat (list_at 1 component_limits.entries (entry_at loops types slots)) (list_of entry) (IsListed 1 component_limits.entries (IsEntryHere loops types are slots few))
  entries_format slots few =
      list_format (entry_at loops types slots) entry (IsEntryHere loops types are slots few) (λ n before. Unit {0}) (λ n before h. entry_format loops types are slots few before) (λ n before e h k. tt) 1 component_limits.entries (omega arith) (λ n less. tt)

  -- a component of this name, with these start values and entries
  abbrev made : Name → List Val → List EntryCode → MemberCode
  made x vs es = record { name = x; start = record { table = types; types = map own vs; values = vs }; entries = es }

  made_again : (m : MemberCode) → IsMember types m → made m.name m.start.values m.entries ≡ m
  made_again m h =
      let owns = (HaveTypes-owns types m.start.values m.start.types h.typed).0 in
      λ i. record { name = m.name; start = record { table = sym h.types_are i; types = owns i; values = m.start.values }; entries = m.entries }

  few_slots : (vs : List Val) → length vs ≤ component_limits.variables → length (map own vs) < 2 ^ 16
  few_slots vs few = omega (arith, length-map vs own)

  listed_entries : (m : MemberCode) (h : IsMember types m) → MayStand loops (member_loops m) → (few : length (map own m.start.values) < 2 ^ 16)
      → IsListed 1 component_limits.entries (IsEntryHere loops types are (map own m.start.values) few) m.entries
  listed_entries m h stand few =
      let slots = map own m.start.values in
      let owns = (HaveTypes-owns types m.start.values m.start.types h.typed).0 in
      record {
        some = h.some_entries;
        few = h.few_entries;
        fine = fine_both (Anywhere (λ e. IsEntry (over types slots) e × MayStand loops (entry_loops e))) (IsNew (λ e. e.name)) (IsEntryHere loops types are slots few)
            (λ before e k n. record { entry = k.0; new = n; stand = k.1 }) [] m.entries
            (fine_both (Anywhere (IsEntry (over types slots))) (Anywhere (λ e. MayStand loops (entry_loops e))) _ (λ before e k s. (k, s)) [] m.entries
            (entries_fine m (over types slots) h.types_are (sym owns) [] m.entries h.entries) (fine_stand loops entry_loops [] m.entries stand))
            (distinct_new (λ e. e.name) [] m.entries h.names);
      }

  made_member : (x : Name) (vs : List Val) (es : List EntryCode) → IsName x → length vs ≤ component_limits.variables → OwnTypes types vs
      → (few : length (map own vs) < 2 ^ 16) → IsListed 1 component_limits.entries (IsEntryHere loops types are (map own vs) few) es → IsMember types (made x vs es)
  made_member x vs es legal few typed few' h = record {
    legal = legal;
    types_are = refl;
    few_variables = omega (arith, length-map vs own);
    typed = HaveTypes-from_own types vs (map own vs) refl typed;
    some_entries = h.some;
    few_entries = h.few;
    names = new_distinct (λ e. e.name) [] es refl (fine_weaker _ _ (λ before e k. k.new) [] es h.fine);
    entries = fine_entries (over types (map own vs)) (made x vs es) refl refl [] es (fine_weaker _ _ (λ before e k. k.entry) [] es h.fine);
  }

  pub component_format : (before : List MemberCode) → IsFormat (component_at loops types before) component (IsComponent before)
  unfolding component_at
  component_format before = record { finds = finds; yields = yields }
    where
      finds : (m : MemberCode) → IsComponent before m → (c : Spot) (more : List ℕ) → c.rest ≡ component m ++ more → Finds (component_at loops types before c) m more
      finds m h c more e =
          let vs = m.start.values in
          let owns = HaveTypes-owns types vs m.start.types h.member.typed in
          let long = HaveTypes-length types vs m.start.types h.member.typed in
          let tail = list_of value vs ++ list_of entry m.entries in
          subst (λ (x : MemberCode). Finds (component_at loops types before c) x more) (made_again m h.member)
          (finds_on _ _ _ _ _ _ ((name_format _).finds m.name (record { legal = h.member.legal; free = h.new }) c (tail ++ more) (e ∙ append_assoc (text m.name) tail more))
          (λ d1 at1. finds_on _ _ _ _ _ _ ((values_format types are component_limits.variables (omega arith)).finds vs (record {
            some = omega arith;
            few = omega (arith, long, h.member.few_variables);
            fine = types_own types vs owns.1;
          }) d1 (list_of entry m.entries ++ more) (at1 ∙ append_assoc (list_of value vs) (list_of entry m.entries) more))
          (λ d2 at2. finds_on _ _ _ _ _ _ ((entries_format (map own vs) (few_slots vs (omega (arith, long, h.member.few_variables)))).finds m.entries (listed_entries m h.member h.stand _) d2 more at2)
          (λ d3 at3. finds_ok _ d3 more at3))))

      yields : (c : Spot) → AreBytes c.rest → Yields (component_at loops types before c) (Taken component (IsComponent before) c.rest)
      yields c bytes =
          yields_on _ _ _ _ ((name_format _).yields c bytes) (λ x d1 h1.
          yields_on _ _ _ _ ((values_format types are component_limits.variables (omega arith)).yields d1 h1.after) (λ vs d2 h2.
          yields_on _ _ _ _ ((entries_format (map own vs) (few_slots vs h2.fine.few)).yields d2 h2.after) (λ es d3 h3.
          yields_ok _ d3 _ (record {
            fine = record { member = made_member x vs es h1.fine.legal h2.fine.few (own_types types vs h2.fine.fine) _ h3.fine; new = h1.fine.free; stand = stand_fine loops entry_loops [] es (fine_weaker _ _ (λ before e k. k.stand) [] es h3.fine.fine) };
            front = chained c.rest (text x) d1.rest (list_of value vs ++ list_of entry es) d3.rest h1.front (chained d1.rest (list_of value vs) d2.rest (list_of entry es) d3.rest h2.front h3.front);
            after = h3.after;
          }))))
