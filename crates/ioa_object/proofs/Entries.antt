-- Entries, read and spelled: what stands before the code, and the code.
use Rattle.std.proofs.Common.{◌≡◌, ℕ, zero, suc, ◌^◌, ◌<◌, ◌≤◌, Bool, false, ◌||◌, nat_le, ◌==◌, List, [], ◌∷◌, ◌++◌, length, map, Option, Some, None, refl, sym, ap, ◌∙◌, subst, All, arith, if◌then◌else◌, IfSome}
use Rattle.std.proofs.lemmas.Bool.{leb-true}
use Rattle.std.proofs.lemmas.List.{append_assoc, length-map}
use Rattle.ioa_value.specs.Names.{IsName}
use Rattle.ioa_value.specs.Plain.{Val}
use Rattle.ioa_value.specs.Positions.{Domain, every, single, IsDomain, domain_type}
use Rattle.ioa_value.specs.Table.{Table, AreTypes, contains}
use Rattle.ioa_value.specs.Typing.{OwnTypes}
use Rattle.ioa_value.specs.declared.limits.TheConstants.{LIMITS}
use Rattle.ioa_value.proofs.TypingLemmas.{IsOwn}
use Rattle.ioa_code.specs.declared.instr.PartKind.{PartKind}
use Rattle.ioa_code.specs.declared.instr.PartKind.TheVariants.{Pre, Propose, Eff}
use Rattle.ioa_code.specs.Valid.{Part}
use Rattle.ioa_tree.specs.declared.tree.Kind.{Kind}
use Rattle.ioa_tree.specs.declared.tree.Kind.TheVariants.{Input, Output, Internal}
use Rattle.ioa_compile.specs.Programs.{EntryCode}
use Rattle.ioa_compile.specs.Tables.{IsPart, IsEntry, HasLocal, position_types, parameter_types}
use Rattle.ioa_compile.specs.declared.limits.TheConstants.{MOST_PLACES}
use Rattle.ioa_bytes.specs.Items.{built, list_at, type_at, value_at}
use Rattle.ioa_object.specs.Reading.{kind_of, kind_from, kind_at, position_at, Opening, opening_at, coded_at, entry_at, part_at, local_at}
use Rattle.ioa_object.specs.Spelling.{short, text, list_of, value, kind_byte, position, code, local_code, entry}
use Rattle.ioa_bytes.specs.Spots.{Spot}
use Rattle.ioa_object.specs.Versions.{MayStand, part_loops, local_loops, entry_loops}
use Rattle.ioa_object.proofs.Formats.{AreBytes, Finds, finds_ok, finds_on, finds_built, Yields, yields_ok, yields_none, yields_on, yields_right, yields_weaker, Taken, IsFormat, chained}
use Rattle.ioa_object.proofs.Numbers.{IsAny, byte_format, type_format}
use Rattle.ioa_object.proofs.Texts.{name_format}
use Rattle.ioa_object.proofs.Lists.{AreListed, plain_list_format}
use Rattle.ioa_object.proofs.Fresh.{IsNew}
use Rattle.ioa_object.proofs.ValueFormats.{value_format, few_types}
use Rattle.ioa_object.proofs.PartFormats.{over, own_types, types_own, IsPartHere, part_format, local_format}
use Rattle.ioa_object.proofs.Standing.{both_stand, each_stands, some_stands, local_stands}

-- ---- kinds

pub kind_format : IsFormat kind_at (λ k. kind_byte k ∷ []) IsAny
unfolding kind_at
kind_format = record {
  finds = λ k any c more e. finds_on _ _ _ _ _ _ (byte_format.finds (kind_byte k) tt c more e) (λ d at. found k c d more at);
  yields = λ c bytes. yields_on _ _ _ _ (byte_format.yields c bytes) (λ b d h. was c d b h.front h.after);
}
  where
    found : (k : Kind) (c d : Spot) (more : List ℕ) → d.rest ≡ more → Finds (kind_from c.place (kind_of (kind_byte k)) d) k more
    found Input c d more at = finds_ok Input d more at
    found Output c d more at = finds_ok Output d more at
    found Internal c d more at = finds_ok Internal d more at

    was : (c d : Spot) (b : ℕ) → c.rest ≡ b ∷ d.rest → AreBytes d.rest → Yields (kind_from c.place (kind_of b) d) (Taken (λ k. kind_byte k ∷ []) IsAny c.rest)
    was c d zero front after = yields_ok Input d _ (record { fine = tt; front = front; after = after })
    was c d (suc zero) front after = yields_ok Output d _ (record { fine = tt; front = front; after = after })
    was c d (suc (suc zero)) front after = yields_ok Internal d _ (record { fine = tt; front = front; after = after })
    was c d (suc (suc (suc n))) front after = yields_none _ _

module _ (types : Table) (are : AreTypes types) where
  -- ---- positions

  pub position_format : IsFormat (position_at types) position (IsDomain types)
  unfolding position_at
  position_format = record {
    finds = finds;
    yields = λ c bytes. yields_on _ _ _ _ (byte_format.yields c bytes) (λ tag d h. yields_right (nat_le tag 1) _ _ _ (λ low. was c d tag (leb-true tag 1 low) h.front h.after));
  }
    where
      finds : (p : Domain) → IsDomain types p → (c : Spot) (more : List ℕ) → c.rest ≡ position p ++ more → Finds (position_at types c) p more
      finds (every ty) h c more e =
          finds_on _ _ _ _ _ _ (byte_format.finds 0 tt c (short ty ++ more) e) (λ d at. finds_built every _ _ _ ((type_format (length types) (few_types types are)).finds ty h d more at))
      finds (single v) h c more e =
          finds_on _ _ _ _ _ _ (byte_format.finds 1 tt c (value v ++ more) e) (λ d at. finds_built single _ _ _ ((value_format types are).finds v h d more at))

      was : (c d : Spot) (tag : ℕ) → tag ≤ 1 → c.rest ≡ tag ∷ d.rest → AreBytes d.rest → Yields (if tag == 0 then built every (type_at (length types) d) else built single (value_at types d)) (Taken position (IsDomain types) c.rest)
      was c d zero low front after = yields_on _ _ _ _ ((type_format (length types) (few_types types are)).yields d after) (λ ty e k.
          yields_ok (every ty) e _ (record { fine = k.fine; front = front ∙ ap (λ l. 0 ∷ l) k.front; after = k.after }))
      was c d (suc zero) low front after = yields_on _ _ _ _ ((value_format types are).yields d after) (λ v e k.
          yields_ok (single v) e _ (record { fine = k.fine; front = front ∙ ap (λ l. 1 ∷ l) k.front; after = k.after }))
      was c d (suc (suc n)) low front after = absurd (omega arith)

  positions_format : IsFormat (list_at 0 LIMITS.parameters (λ _. position_at types)) (list_of position) (AreListed 0 LIMITS.parameters (IsDomain types))
  positions_format = plain_list_format (position_at types) position (IsDomain types) 0 LIMITS.parameters (omega arith) position_format

  pub values_format : (most : ℕ) → most < 2 ^ 16 → IsFormat (list_at 0 most (λ _. value_at types)) (list_of value) (AreListed 0 most (IsOwn types))
  values_format most fit = plain_list_format (value_at types) value (IsOwn types) 0 most fit (value_format types are)

  -- ---- what stands before the code

  pub record IsOpening (before : List EntryCode) (o : Opening) : Type 0 where
    pub legal : IsName o.name
    pub new : contains (map (λ e. e.name) before) o.name ≡ false
    pub positions : AreListed 0 LIMITS.parameters (IsDomain types) o.positions
    pub consts : AreListed 0 MOST_PLACES (IsOwn types) o.consts

  -- how it is spelled
  abbrev pub opened : Opening → List ℕ
  opened o = kind_byte o.kind ∷ (text o.name ++ (list_of position o.positions ++ list_of value o.consts))

  pub opening_format : (before : List EntryCode) → IsFormat (opening_at types before) opened (IsOpening before)
  unfolding opening_at
  opening_format before = record {
    finds = λ o h c more e.
        let tail = list_of position o.positions ++ list_of value o.consts in
        finds_on _ _ _ _ _ _ (kind_format.finds o.kind tt c ((text o.name ++ tail) ++ more) e)
        (λ d1 at1. finds_on _ _ _ _ _ _ ((name_format _).finds o.name (record { legal = h.legal; free = h.new }) d1 (tail ++ more) (at1 ∙ append_assoc (text o.name) tail more))
        (λ d2 at2. finds_on _ _ _ _ _ _ (positions_format.finds o.positions h.positions d2 (list_of value o.consts ++ more) (at2 ∙ append_assoc (list_of position o.positions) (list_of value o.consts) more))
        (λ d3 at3. finds_on _ _ _ _ _ _ ((values_format MOST_PLACES (omega arith)).finds o.consts h.consts d3 more at3) (λ d4 at4. finds_ok o d4 more at4))));
    yields = λ c bytes.
        yields_on _ _ _ _ (kind_format.yields c bytes) (λ kind d1 h1.
        yields_on _ _ _ _ ((name_format _).yields d1 h1.after) (λ x d2 h2.
        yields_on _ _ _ _ (positions_format.yields d2 h2.after) (λ ds d3 h3.
        yields_on _ _ _ _ ((values_format MOST_PLACES (omega arith)).yields d3 h3.after) (λ vs d4 h4.
        yields_ok _ d4 _ (record {
          fine = record { legal = h2.fine.legal; new = h2.fine.free; positions = h3.fine; consts = h4.fine };
          front = chained c.rest (kind_byte kind ∷ []) d1.rest (text x ++ (list_of position ds ++ list_of value vs)) d4.rest h1.front
              (chained d1.rest (text x) d2.rest (list_of position ds ++ list_of value vs) d4.rest h2.front (chained d2.rest (list_of position ds) d3.rest (list_of value vs) d4.rest h3.front h4.front));
          after = h4.after;
        })))));
  }

-- ---- the code

local_both : {X : Type 0} (P Q R : X → Type 0) → ((x : X) → P x → Q x → R x) → (k : Kind) (o : Option X) → HasLocal P k o → IfSome o Q → HasLocal R k o
local_both P Q R f Input None h q = tt
local_both P Q R f Input (Some x) h q = absurd h
local_both P Q R f Output None h q = absurd h
local_both P Q R f Output (Some x) h q = f x h q
local_both P Q R f Internal None h q = absurd h
local_both P Q R f Internal (Some x) h q = f x h q

pub local_weaker : {X : Type 0} (P Q : X → Type 0) → ((x : X) → P x → Q x) → (k : Kind) (o : Option X) → HasLocal P k o → HasLocal Q k o
local_weaker P Q f Input None h = tt
local_weaker P Q f Input (Some x) h = absurd h
local_weaker P Q f Output None h = absurd h
local_weaker P Q f Output (Some x) h = f x h
local_weaker P Q f Internal None h = absurd h
local_weaker P Q f Internal (Some x) h = f x h

local_some : {X : Type 0} (P Q : X → Type 0) → ((x : X) → P x → Q x) → (k : Kind) (o : Option X) → HasLocal P k o → IfSome o Q
local_some P Q f Input None h = tt
local_some P Q f Input (Some x) h = absurd h
local_some P Q f Output None h = absurd h
local_some P Q f Output (Some x) h = f x h
local_some P Q f Internal None h = absurd h
local_some P Q f Internal (Some x) h = f x h

module _ (loops : Bool) (types : Table) (are : AreTypes types) (slots : List ℕ) (few_slots : length slots < 2 ^ 16) where
  module _ (o : Opening) (few_consts : length o.consts ≤ MOST_PLACES) (typed : OwnTypes types o.consts) (few_positions : length o.positions ≤ LIMITS.parameters) where
    abbrev Here : PartKind → List ℕ → List ℕ → Part → Type 0
    Here = IsPartHere loops types are slots few_slots o.consts few_consts typed

    -- the entry has what stands before the code, and code that fits it
    pub record IsCoded (e : EntryCode) : Type 0 where
      pub kind : e.kind ≡ o.kind
      pub name : e.name ≡ o.name
      pub positions : e.positions ≡ o.positions
      pub pre : HasLocal (Here Pre (position_types o.positions) (0 ∷ [])) o.kind e.pre
      pub propose : HasLocal (Here Propose [] (parameter_types o.positions)) o.kind e.propose
      pub effect : Here Eff (position_types o.positions) [] e.effect

    abbrev pub coded : EntryCode → List ℕ
    coded e = local_code e.pre ++ (local_code e.propose ++ code e.effect)

    part_here : (kind : PartKind) (args end : List ℕ) → length args < 2 ^ 16 → IsFormat (part_at loops types slots o.consts kind args end) code (Here kind args end)
    part_here = part_format loops types are slots few_slots o.consts few_consts typed

    few_args : length (position_types o.positions) < 2 ^ 16
    few_args = omega (arith, length-map o.positions domain_type)

    pre_format : IsFormat (local_at o.kind (part_at loops types slots o.consts Pre (position_types o.positions) (0 ∷ []))) local_code (HasLocal (Here Pre (position_types o.positions) (0 ∷ [])) o.kind)
    pre_format = local_format o.kind _ _ (part_here Pre (position_types o.positions) (0 ∷ []) few_args)

    propose_format : IsFormat (local_at o.kind (part_at loops types slots o.consts Propose [] (parameter_types o.positions))) local_code (HasLocal (Here Propose [] (parameter_types o.positions)) o.kind)
    propose_format = local_format o.kind _ _ (part_here Propose [] (parameter_types o.positions) (omega arith))

    effect_format : IsFormat (part_at loops types slots o.consts Eff (position_types o.positions) []) code (Here Eff (position_types o.positions) [])
    effect_format = part_here Eff (position_types o.positions) [] few_args

    pub coded_format : IsFormat (coded_at loops types slots o) coded IsCoded
    unfolding coded_at
    coded_format = record { finds = finds; yields = yields }
      where
        finds : (e : EntryCode) → IsCoded e → (c : Spot) (more : List ℕ) → c.rest ≡ coded e ++ more → Finds (coded_at loops types slots o c) e more
        finds e h c more front =
            let tail = local_code e.propose ++ code e.effect in
            let same : record { kind = o.kind; name = o.name; positions = o.positions; pre = e.pre; propose = e.propose; effect = e.effect } ≡ e =
            λ i. record { kind = sym h.kind i; name = sym h.name i; positions = sym h.positions i; pre = e.pre; propose = e.propose; effect = e.effect } in
            subst (λ (x : EntryCode). Finds (coded_at loops types slots o c) x more) same
            (finds_on _ _ _ _ _ _ (pre_format.finds e.pre h.pre c (tail ++ more) (front ∙ append_assoc (local_code e.pre) tail more))
            (λ d1 at1. finds_on _ _ _ _ _ _ (propose_format.finds e.propose h.propose d1 (code e.effect ++ more) (at1 ∙ append_assoc (local_code e.propose) (code e.effect) more))
            (λ d2 at2. finds_on _ _ _ _ _ _ (effect_format.finds e.effect h.effect d2 more at2) (λ d3 at3. finds_ok _ d3 more at3))))

        yields : (c : Spot) → AreBytes c.rest → Yields (coded_at loops types slots o c) (Taken coded IsCoded c.rest)
        yields c bytes =
            yields_on _ _ _ _ (pre_format.yields c bytes) (λ pre d1 h1.
            yields_on _ _ _ _ (propose_format.yields d1 h1.after) (λ propose d2 h2.
            yields_on _ _ _ _ (effect_format.yields d2 h2.after) (λ effect d3 h3.
            yields_ok _ d3 _ (record {
              fine = record { kind = refl; name = refl; positions = refl; pre = h1.fine; propose = h2.fine; effect = h3.fine };
              front = chained c.rest (local_code pre) d1.rest (local_code propose ++ code effect) d3.rest h1.front (chained d1.rest (local_code propose) d2.rest (code effect) d3.rest h2.front h3.front);
              after = h3.after;
            }))))

  -- ---- entries

  -- the entry is one over variables of these types, and its name is none of those before
  pub record IsEntryHere (before : List EntryCode) (e : EntryCode) : Type 0 where
    pub entry : IsEntry (over types slots) e
    pub new : IsNew (λ e. e.name) before e
    pub stand : MayStand loops (entry_loops e)

  -- what stands of an entry before its code
  abbrev opening_of : EntryCode → Opening
  opening_of e = record { kind = e.kind; name = e.name; positions = e.positions; consts = e.effect.code.consts }

  effect_typed : (e : EntryCode) → IsEntry (over types slots) e → OwnTypes types e.effect.code.consts
  effect_typed e h = subst (λ (t : Table). OwnTypes t e.effect.code.consts) h.effect.types h.effect.verified.typed

  is_opening : (before : List EntryCode) (e : EntryCode) → IsEntryHere before e → IsOpening types are before (opening_of e)
  is_opening before e h = record {
    legal = h.entry.legal;
    new = h.new;
    positions = record { some = omega arith; few = h.entry.few_positions; fine = h.entry.positions };
    consts = record { some = omega arith; few = h.entry.few_consts; fine = types_own types e.effect.code.consts (effect_typed e h.entry) };
  }

  is_coded : (before : List EntryCode) (e : EntryCode) (h : IsEntryHere before e)
      → let o = is_opening before e h in IsCoded (opening_of e) o.consts.few (own_types types e.effect.code.consts o.consts.fine) o.positions.few e
  is_coded before e h =
      let first = each_stands loops (local_loops e.pre) (local_loops e.propose || part_loops e.effect) h.stand in
      let others = each_stands loops (local_loops e.propose) (part_loops e.effect) first.1 in
      record {
        kind = refl;
        name = refl;
        positions = refl;
        pre = local_both _ _ _ (λ p k q. record { part = k; same_consts = q.0; stand = q.1 }) e.kind e.pre h.entry.pre (some_stands loops _ e.pre h.entry.consts first.0);
        propose = local_both _ _ _ (λ p k q. record { part = k; same_consts = q.0; stand = q.1 }) e.kind e.propose h.entry.propose (some_stands loops _ e.propose h.entry.same_consts others.0);
        effect = record { part = h.entry.effect; same_consts = refl; stand = others.1 };
      }

  entry_is : (before : List EntryCode) (o : Opening) (opened : IsOpening types are before o) (e : EntryCode)
      → IsCoded o opened.consts.few (own_types types o.consts opened.consts.fine) opened.positions.few e → IsEntryHere before e
  entry_is before o opened e h = record {
    entry = record {
      legal = subst IsName (sym h.name) opened.legal;
      few_positions = subst (λ (ds : List Domain). length ds ≤ LIMITS.parameters) (sym h.positions) opened.positions.few;
      positions = subst (All (IsDomain types)) (sym h.positions) opened.positions.fine;
      pre = locally e.pre (λ ds. IsPart (over types slots) Pre (position_types ds) (0 ∷ [])) (local_weaker _ _ (λ p k. k.part) o.kind e.pre h.pre);
      propose = locally e.propose (λ ds. IsPart (over types slots) Propose [] (parameter_types ds)) (local_weaker _ _ (λ p k. k.part) o.kind e.propose h.propose);
      effect = subst (λ (ds : List Domain). IsPart (over types slots) Eff (position_types ds) [] e.effect) (sym h.positions) h.effect.part;
      consts = local_some _ _ (λ p k. k.same_consts ∙ sym h.effect.same_consts) o.kind e.pre h.pre;
      same_consts = local_some _ _ (λ p k. k.same_consts ∙ sym h.effect.same_consts) o.kind e.propose h.propose;
      few_consts = subst (λ (vs : List Val). length vs ≤ MOST_PLACES) (sym h.effect.same_consts) opened.consts.few;
    };
    new = ap (contains (map (λ e. e.name) before)) h.name ∙ opened.new;
    stand = both_stand loops (local_loops e.pre) (local_loops e.propose || part_loops e.effect) (local_stands loops _ (λ p k. k.stand) o.kind e.pre h.pre)
        (both_stand loops (local_loops e.propose) (part_loops e.effect) (local_stands loops _ (λ p k. k.stand) o.kind e.propose h.propose) h.effect.stand);
  }
    where
      locally : (x : Option Part) (P : List Domain → Part → Type 0) → HasLocal (P o.positions) o.kind x → HasLocal (P e.positions) e.kind x
      locally x P k =
          let by_kind : HasLocal (P o.positions) e.kind x = subst (λ (kind : Kind). HasLocal (P o.positions) kind x) (sym h.kind) k in
          subst (λ (ds : List Domain). HasLocal (P ds) e.kind x) (sym h.positions) by_kind

  -- how an entry is spelled, what stands before its code apart
  entry_spelled : (before : List EntryCode) (o : Opening) (opened' : IsOpening types are before o) (e : EntryCode)
      → IsCoded o opened'.consts.few (own_types types o.consts opened'.consts.fine) opened'.positions.few e
      → opened types are o ++ (local_code e.pre ++ (local_code e.propose ++ code e.effect)) ≡ entry e
  entry_spelled before o opened' e h =
      let back = local_code e.pre ++ (local_code e.propose ++ code e.effect) in
      ap (λ l. kind_byte o.kind ∷ l) (append_assoc (text o.name) (list_of position o.positions ++ list_of value o.consts) back
      ∙ ap (λ l. text o.name ++ l) (append_assoc (list_of position o.positions) (list_of value o.consts) back))
      ∙ ap (λ k. kind_byte k ∷ (text o.name ++ (list_of position o.positions ++ (list_of value o.consts ++ back)))) (sym h.kind)
      ∙ ap (λ x. kind_byte e.kind ∷ (text x ++ (list_of position o.positions ++ (list_of value o.consts ++ back)))) (sym h.name)
      ∙ ap (λ ds. kind_byte e.kind ∷ (text e.name ++ (list_of position ds ++ (list_of value o.consts ++ back)))) (sym h.positions)
      ∙ ap (λ vs. kind_byte e.kind ∷ (text e.name ++ (list_of position e.positions ++ (list_of value vs ++ back)))) (sym h.effect.same_consts)

  pub entry_format : (before : List EntryCode) → IsFormat (entry_at loops types slots before) entry (IsEntryHere before)
  unfolding entry_at
  entry_format before = record {
    finds = λ e h c more front.
        let o = opening_of e in
        let first = is_opening before e h in
        let second = is_coded before e h in
        let back = local_code e.pre ++ (local_code e.propose ++ code e.effect) in
        let split : c.rest ≡ opened types are o ++ (back ++ more) = front ∙ ap (λ l. l ++ more) (sym (entry_spelled before o first e second)) ∙ append_assoc (opened types are o) back more in
        finds_on _ _ _ _ _ _ ((opening_format types are before).finds o first c (back ++ more) split)
        (λ d at. (coded_format o _ _ _).finds e second d more at);
    yields = λ c bytes. yields_on _ _ _ _ ((opening_format types are before).yields c bytes) (λ o d h.
        yields_weaker _ _ _ ((coded_format o h.fine.consts.few (own_types types o.consts h.fine.consts.fine) h.fine.positions.few).yields d h.after) (λ e rest k. record {
          fine = entry_is before o h.fine e k.fine;
          front = chained c.rest (opened types are o) d.rest (local_code e.pre ++ (local_code e.propose ++ code e.effect)) rest h.front k.front ∙ ap (λ l. l ++ rest) (entry_spelled before o h.fine e k.fine);
          after = k.after;
        }));
  }
