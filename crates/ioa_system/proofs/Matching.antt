-- Entries that have an action, and the code that they hold.
use Rattle.std.proofs.Common.{◌≡◌, ℕ, Bool, true, false, cond, List, [], ◌∷◌, find, Option, Some, None, refl, ap, subst}
use Rattle.ioa_value.specs.Actions.{Act}
use Rattle.ioa_value.specs.Plain.{Val}
use Rattle.ioa_value.specs.Table.{Table}
use Rattle.ioa_value.specs.Positions.{all_take}
use Rattle.ioa_value.specs.Typing.{HaveTypes}
use Rattle.ioa_value.proofs.PositionLemmas.{all_take-typed}
use Rattle.ioa_system.specs.Systems.{Slots, slots_of}
use Rattle.std.specs.Str.{bytes_eq}
use Rattle.ioa_code.specs.declared.instr.PartKind.TheVariants.{Pre, Eff}
use Rattle.ioa_code.specs.Valid.{Part}
use Rattle.ioa_tree.specs.declared.tree.Kind.{Kind}
use Rattle.ioa_tree.specs.declared.tree.Kind.TheVariants.{Input, Output, Internal}
use Rattle.ioa_compile.specs.Programs.{EntryCode, MemberCode}
use Rattle.ioa_compile.specs.Tables.{position_types, is_in, entry_of, IsEntry, AreEntries, IsPartOf, HasPre}
use Rattle.std.proofs.lemmas.Bool.{and_parts}

-- values of types that are the part's
fit : {code types : Table} (vs : List Val) {args tys : List ℕ} → code ≡ types → args ≡ tys → HaveTypes types vs tys → HaveTypes code vs args
fit vs e f h = rw (e, f) h

pub record Found (m : MemberCode) (a : Act) (e : EntryCode) : Type 0 where
  pub entry : IsEntry m e
  pub typed : HaveTypes m.start.table a.vals (position_types e.positions)

found_here : (m : MemberCode) (a : Act) (x : EntryCode) → IsEntry m x → is_in m.start.table a x ≡ true → Found m a x
found_here m a x h k =
    record { entry = h; typed = all_take-typed m.start.table x.positions a.vals h.positions (and_parts (bytes_eq x.name a.name) (all_take m.start.table x.positions a.vals) k).1 }

found_first : (m : MemberCode) (a : Act) (x e : EntryCode) (more : Option EntryCode) (b : Bool) → is_in m.start.table a x ≡ b → IsEntry m x
    → (more ≡ Some e → Found m a e) → cond b (Some x) more ≡ Some e → Found m a e
found_first m a x e more true i h k g = let q : x ≡ e = cc in subst (Found m a) q (found_here m a x h i)
found_first m a x e more false i h k g = k g

found_in : (m : MemberCode) (a : Act) (e : EntryCode) (es : List EntryCode) → AreEntries m es → find (is_in m.start.table a) es ≡ Some e → Found m a e
found_in m a e [] h k = absurd (cc)
found_in m a e (x ∷ xs) h k = found_first m a x e (find (is_in m.start.table a) xs) (is_in m.start.table a x) refl h.0 (found_in m a e xs h.1) k

pre_part : (m : MemberCode) (e : EntryCode) (k : Kind) (o : Option Part) (part : Part) → HasPre m e k o → o ≡ Some part → IsPartOf m e Pre (0 ∷ []) part
pre_part m e Input None part h q = absurd (cc)
pre_part m e Input (Some x) part h q = absurd h
pre_part m e Output None part h q = absurd h
pre_part m e Output (Some x) part h q = let r : x ≡ part = cc in subst (IsPartOf m e Pre (0 ∷ [])) r h
pre_part m e Internal None part h q = absurd h
pre_part m e Internal (Some x) part h q = let r : x ≡ part = cc in subst (IsPartOf m e Pre (0 ∷ [])) r h

-- a precondition that may be run for the action in a state of these types
pub record Asks (a : Act) (slots : Slots) (part : Part) : Type 0 where
  pub types : slots.table ≡ part.code.types
  pub kind : part.kind ≡ Pre
  pub result : part.result ≡ 0 ∷ []
  pub slots_are : slots.types ≡ part.slots
  pub arguments : HaveTypes part.code.types a.vals part.args

pub asks : (m : MemberCode) (a : Act) (e : EntryCode) (part : Part) (slots : Slots)
    → AreEntries m m.entries → entry_of m a ≡ Some e → slots ≡ slots_of m.start → e.pre ≡ Some part → Asks a slots part
asks m a e part slots h k t q =
    let f : Found m a e = found_in m a e m.entries h k in
    let p : IsPartOf m e Pre (0 ∷ []) part = pre_part m e e.kind e.pre part f.entry.pre q in
    record {
      types = cc (ap (λ (s : Slots). s.table) t, p.types);
      kind = p.kind;
      result = p.result;
      slots_are = cc (ap (λ (s : Slots). s.types) t, p.slots);
      arguments = fit a.vals p.types p.args f.typed;
    }

-- an effect that may be run for the action in a state of these types
pub record Acts (a : Act) (slots : Slots) (part : Part) : Type 0 where
  pub types : slots.table ≡ part.code.types
  pub kind : part.kind ≡ Eff
  pub result : part.result ≡ []
  pub slots_are : slots.types ≡ part.slots
  pub arguments : HaveTypes part.code.types a.vals part.args

pub acts : (m : MemberCode) (a : Act) (e : EntryCode) (slots : Slots)
    → AreEntries m m.entries → entry_of m a ≡ Some e → slots ≡ slots_of m.start → Acts a slots e.effect
acts m a e slots h k t =
    let f : Found m a e = found_in m a e m.entries h k in
    let p : IsPartOf m e Eff [] e.effect = f.entry.effect in
    record {
      types = cc (ap (λ (s : Slots). s.table) t, p.types);
      kind = p.kind;
      result = p.result;
      slots_are = cc (ap (λ (s : Slots). s.types) t, p.slots);
      arguments = fit a.vals p.types p.args f.typed;
    }
