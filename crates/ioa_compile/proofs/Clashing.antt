-- Components of a table have the kinds of actions that their entries tell, as they are compared.
use Rattle.std.proofs.Common.{◌≡◌, Bool, true, false, cond, List, [], ◌∷◌, map, find, Option, Some, None, Result, Ok, Err, IfOk, refl, sym, ap, subst, ◌∙◌, slice_get, All}
use Rattle.std.specs.List.{AllZip}
use Rattle.std.specs.Option.{option_map, IfSome}
use Rattle.std.proofs.lemmas.List.Elements.{All-nil, All-cons}
use Rattle.ioa_value.specs.declared.memory.OutOfMemory.{OutOfMemory}
use Rattle.ioa_value.specs.Positions.{IsDomain}
use Rattle.ioa_value.specs.Table.{Table, distinct}
use Rattle.ioa_value.proofs.ItemLemmas.{get_map}
use Rattle.ioa_tree.specs.Components.{Component, Compatible}
use Rattle.ioa_clash.specs.declared.clashes.Clash.{Clash}
use Rattle.ioa_clash.specs.Clashes as compared
use Rattle.ioa_clash.specs.Clashes.{AreFirstToClash, SignedEntry, signed_has, signed_component, signed_components, IsSignature}
use Rattle.ioa_clash.proofs.CompatibleLemmas.{HaveSameKinds, compatible-like, first-like}
use Rattle.ioa_compile.specs.Programs.{EntryCode, MemberCode}
use Rattle.ioa_compile.specs.Tables.{is_in, table_component, AreEntries, IsMember, AreMembers}
use Rattle.ioa_compile.specs.Clashes.{signed_entry, signature_in, IsFirstClash}

module _ (types : Table) where
  -- ---- one component

  same_kinds : (m : MemberCode) → m.start.table ≡ types → HaveSameKinds (signed_component types (signature_in m)) (table_component m)
  same_kinds m over act =
      go m.entries ∙ ap (λ ts. option_map (λ (e : EntryCode). e.kind) (find (is_in ts act) m.entries)) (sym over)
    where
      either : (b : Bool) (e : EntryCode) (o : Option SignedEntry) (p : Option EntryCode) → option_map (λ d. d.kind) o ≡ option_map (λ d. d.kind) p
          → option_map (λ d. d.kind) (cond b (Some (signed_entry e)) o) ≡ option_map (λ d. d.kind) (cond b (Some e) p)
      either true e o p h = refl
      either false e o p h = h

      go : (es : List EntryCode) → option_map (λ d. d.kind) (find (signed_has types act) (map signed_entry es)) ≡ option_map (λ d. d.kind) (find (is_in types act) es)
      go [] = refl
      go (e ∷ es) = either (is_in types act e) e (find (signed_has types act) (map signed_entry es)) (find (is_in types act) es) (go es)

  is_signature : (m : MemberCode) → IsMember types m → IsSignature types (signature_in m)
  is_signature m h = record {
    names = subst (λ ns. distinct ns ≡ true) (names m.entries) h.names;
    positions = places m.entries h.entries;
  }
    where
      names : (es : List EntryCode) → map (λ e. e.name) es ≡ map (λ s. s.name) (map signed_entry es)
      names [] = refl
      names (e ∷ es) = ap (λ ns. e.name ∷ ns) (names es)

      places : (es : List EntryCode) → AreEntries m es → All (λ s. All (IsDomain types) s.domains) (map signed_entry es)
      places [] k = All-nil (λ (s : SignedEntry). All (IsDomain types) s.domains)
      places (e ∷ es) k =
          All-cons (λ (s : SignedEntry). All (IsDomain types) s.domains) (signed_entry e) (map signed_entry es)
          (subst (λ ts. All (IsDomain ts) e.positions) h.types_are k.0.positions) (places es k.1)

  -- ---- all components

  pub are_signatures : (ms : List MemberCode) → AreMembers types ms → All (IsSignature types) (map signature_in ms)
  are_signatures [] h = All-nil (IsSignature types)
  are_signatures (m ∷ ms) h = All-cons (IsSignature types) (signature_in m) (map signature_in ms) (is_signature m h.0) (are_signatures ms h.1)

  all_same_kinds : (ms : List MemberCode) → AreMembers types ms → AllZip HaveSameKinds (signed_components types (map signature_in ms)) (map table_component ms)
  all_same_kinds [] h = tt
  all_same_kinds (m ∷ ms) h = (same_kinds m h.0.types_are, all_same_kinds ms h.1)

  same_turned : (ms : List MemberCode) → AreMembers types ms → AllZip HaveSameKinds (map table_component ms) (signed_components types (map signature_in ms))
  same_turned [] h = tt
  same_turned (m ∷ ms) h = ((λ act. sym (same_kinds m h.0.types_are act)), same_turned ms h.1)

  pub compatible_by : (ms : List MemberCode) → AreMembers types ms → Compatible (signed_components types (map signature_in ms)) → Compatible (map table_component ms)
  compatible_by ms h k = compatible-like (signed_components types (map signature_in ms)) (map table_component ms) (all_same_kinds ms h) k

  pub compared_by : (ms : List MemberCode) → AreMembers types ms → Compatible (map table_component ms) → Compatible (signed_components types (map signature_in ms))
  compared_by ms h k = compatible-like (map table_component ms) (signed_components types (map signature_in ms)) (same_turned ms h) k

  pub first_by : (ms : List MemberCode) → AreMembers types ms → (c : Clash) → compared.IsFirstClash types (map signature_in ms) c → IsFirstClash ms c
  first_by ms h c k =
      let m = get_map signature_in ms c.first k.signature k.here in
      let e = get_map signed_entry m.0.entries c.entry k.entry (ap (λ es. slice_get es c.entry) m.2 ∙ k.among) in
      record {
        member = m.0;
        here = m.1;
        entry = e.0;
        among = e.1;
        first = subst (λ x. AreFirstToClash (map table_component ms) c.first c.second x) (sym (ap (λ (s : SignedEntry). s.name) e.2))
            (first-like (signed_components types (map signature_in ms)) (map table_component ms) c.first c.second k.entry.name (all_same_kinds ms h) k.first);
      }

  -- ---- what a search answers of these signatures

  -- none just where they are compatible
  abbrev TellsCompatible : {S : Type 0} → List (Component S) → Result (Option Clash) OutOfMemory → Type 0
  TellsCompatible ps r = IfOk r (λ clash. (clash ≡ None → Compatible ps) × (Compatible ps → clash ≡ None))

  -- else the first two that clash
  abbrev TellsFirst : List (List SignedEntry) → Result (Option Clash) OutOfMemory → Type 0
  TellsFirst ss r = IfOk r (λ clash. IfSome clash (compared.IsFirstClash types ss))

  module _ (ms : List MemberCode) (h : AreMembers types ms) (ss : List (List SignedEntry)) (same : ss ≡ map signature_in ms) where
    pub all_signatures : All (IsSignature types) ss
    all_signatures = subst (All (IsSignature types)) (sym same) (are_signatures ms h)

    pub exact_by : (r : Result (Option Clash) OutOfMemory) → TellsCompatible (signed_components types ss) r → TellsCompatible (map table_component ms) r
    exact_by r k = go r (subst (λ (us : List (List SignedEntry)). TellsCompatible (signed_components types us) r) same k)
      where
        go : (r : Result (Option Clash) OutOfMemory) → TellsCompatible (signed_components types (map signature_in ms)) r → TellsCompatible (map table_component ms) r
        go (Ok clash) k = ((λ none. compatible_by ms h (k.0 none)), (λ all. k.1 (compared_by ms h all)))
        go (Err e) k = tt

    pub first_told : (r : Result (Option Clash) OutOfMemory) → TellsFirst ss r → IfOk r (λ clash. IfSome clash (IsFirstClash ms))
    first_told r k = go r (subst (λ (us : List (List SignedEntry)). TellsFirst us r) same k)
      where
        go : (r : Result (Option Clash) OutOfMemory) → TellsFirst (map signature_in ms) r → IfOk r (λ clash. IfSome clash (IsFirstClash ms))
        go (Ok (Some c)) k = first_by ms h c k
        go (Ok None) k = tt
        go (Err e) k = tt
