-- Parts of code, read and spelled: what is read is verified code.
use Rattle.std.proofs.Common.{◌≡◌, ℕ, ◌^◌, ◌<◌, ◌≤◌, Bool, List, [], ◌∷◌, ◌++◌, length, Option, Some, None, refl, sym, ap, ◌∙◌, subst, All, arith}
use Rattle.std.specs.List.{flat_map}
use Rattle.std.proofs.lemmas.List.{append_assoc}
use Rattle.std.proofs.lemmas.List.Elements.{All-head, All-tail, All-nil, All-cons, All-weaker}
use Rattle.ioa_value.specs.Plain.{Val}
use Rattle.ioa_value.specs.Table.{Table, AreTypes}
use Rattle.ioa_value.specs.Typing.{HasType, OwnTypes, own}
use Rattle.ioa_code.specs.declared.instr.Instr.{Instr}
use Rattle.ioa_code.specs.declared.instr.PartKind.{PartKind}
use Rattle.ioa_code.specs.Loops.{of_loops}
use Rattle.ioa_code.specs.Parts.{IsVerified}
use Rattle.ioa_code.specs.Scan.{Verdict, good, bad, scan}
use Rattle.ioa_code.specs.Valid.{Part}
use Rattle.ioa_code.proofs.Judged.{exact}
use Rattle.ioa_tree.specs.declared.tree.Kind.{Kind}
use Rattle.ioa_tree.specs.declared.tree.Kind.TheVariants.{Input, Output, Internal}
use Rattle.ioa_compile.specs.Programs.{MemberCode}
use Rattle.ioa_compile.specs.Tables.{IsPart, HasLocal}
use Rattle.ioa_compile.specs.declared.limits.TheConstants.{MOST_PLACES}
use Rattle.ioa_bytes.specs.Items.{Reader, built, counted}
use Rattle.ioa_object.specs.Reading.{instr_at, instrs_at, verified, part_of, part_at, local_at}
use Rattle.ioa_object.specs.Spelling.{short, list_of, instruction, code, local_code}
use Rattle.ioa_bytes.specs.Spots.{Spot}
use Rattle.ioa_object.specs.Versions.{MayStand, part_loops}
use Rattle.ioa_object.proofs.Formats.{AreBytes, Finds, finds_ok, finds_on, finds_built, Yields, yields_ok, yields_none, yields_on, yields_weaker, Taken, IsFormat, chained}
use Rattle.ioa_object.proofs.Numbers.{short_format}
use Rattle.ioa_object.proofs.Lists.{Anywhere, all_fine, fine_all, items_find, items_yield}
use Rattle.ioa_object.proofs.InstructionFormats.{IsShort, IsAllowed, instr_format}
use Rattle.ioa_object.proofs.Operands.{IsSmall, valid_short}
use Rattle.ioa_object.proofs.Standing.{all_stand, stand_all}

-- ---- instructions in a row

pub record AreInstrs (loops : Bool) (is : List Instr) : Type 0 where
  pub few : length is ≤ MOST_PLACES
  pub allowed : All (IsAllowed loops) is

allow : (loops : Bool) (is : List Instr) → All IsShort is → All (λ i. MayStand loops (of_loops i)) is → All (IsAllowed loops) is
allow loops [] h k = All-nil (IsAllowed loops)
allow loops (i ∷ is) h k =
    let Stands : Instr → Type 0 = λ i. MayStand loops (of_loops i) in
    All-cons (IsAllowed loops) i is (All-head IsShort i is h, All-head Stands i is k) (allow loops is (All-tail IsShort i is h) (All-tail Stands i is k))

pub instrs_format : (loops : Bool) → IsFormat (instrs_at loops) (list_of instruction) (AreInstrs loops)
unfolding instrs_at
instrs_format loops = record {
  finds = λ is h c more e.
      finds_on _ _ _ _ _ _ (short_format.finds (length is) (omega (arith, h.few)) c (flat_map instruction is ++ more) (e ∙ append_assoc (short (length is)) (flat_map instruction is) more))
      (λ d at. items_find (instr_at loops c.parts) instruction (Anywhere (IsAllowed loops)) (λ n before. Unit {0}) (λ n before h. instr_format loops c.parts before) (λ n before x h k. tt) (length is) [] is refl tt (fine_all (IsAllowed loops) [] is h.allowed) d more at);
  yields = λ c bytes. yields_on _ _ _ _ (short_format.yields c bytes) (λ n d t.
      yields_weaker _ _ _ (items_yield (instr_at loops c.parts) instruction (Anywhere (IsAllowed loops)) (λ n before. Unit {0}) (λ n before h. instr_format loops c.parts before) (λ n before x h k. tt) n [] tt d t.after) (λ all rest b.
      let same : length all ≡ n = ap length b.is ∙ b.long in
      record {
        fine = record { few = omega (arith, same, t.fine); allowed = subst (All (IsAllowed loops)) (sym b.is) (all_fine (IsAllowed loops) [] b.found b.fine) };
        front = chained c.rest (short (length all)) d.rest (flat_map instruction all) rest (t.front ∙ ap (λ m. short m ++ d.rest) (sym same)) (b.front ∙ ap (λ xs. flat_map instruction xs ++ rest) (sym b.is));
        after = b.after;
      }));
}

-- ---- parts

-- a component of which only the types of its variables are known
abbrev pub over : Table → List ℕ → MemberCode
over types slots = record { name = []; start = record { table = types; types = slots; values = [] }; entries = [] }

pub own_types : (types : Table) (vs : List Val) → All (λ v. HasType types v (own v)) vs → OwnTypes types vs
own_types types [] h = tt
own_types types (v ∷ vs) h =
    (All-head (λ v. HasType types v (own v)) v vs h, own_types types vs (All-tail (λ v. HasType types v (own v)) v vs h))

pub types_own : (types : Table) (vs : List Val) → OwnTypes types vs → All (λ v. HasType types v (own v)) vs
types_own types [] h = All-nil (λ v. HasType types v (own v))
types_own types (v ∷ vs) h = All-cons (λ v. HasType types v (own v)) v vs h.0 (types_own types vs h.1)

module _ (loops : Bool) (types : Table) (are : AreTypes types) (slots : List ℕ) (few_slots : length slots < 2 ^ 16) (consts : List Val) (few : length consts ≤ MOST_PLACES) (typed : OwnTypes types consts) where
  -- the part is of this kind, over these variables, constants and values, and ends with those types
  pub record IsPartHere (kind : PartKind) (args end : List ℕ) (p : Part) : Type 0 where
    pub part : IsPart (over types slots) kind args end p
    pub same_consts : p.code.consts ≡ consts
    pub stand : MayStand loops (part_loops p)

  part_is : (kind : PartKind) (args end : List ℕ) (p : Part) → IsPartHere kind args end p → p ≡ part_of types slots consts kind args end p.code.instrs
  part_is kind args end p h =
      λ i. record { code = record { types = h.part.types i; instrs = p.code.instrs; consts = h.same_consts i }; kind = h.part.kind i; slots = h.part.slots i; args = h.part.args i; result = h.part.result i }

  small : (kind : PartKind) (args end : List ℕ) → length args < 2 ^ 16 → (is : List Instr) → length is ≤ MOST_PLACES → IsSmall (part_of types slots consts kind args end is)
  small kind args end few_args is short = record { places = omega arith; consts = omega arith; slots = few_slots; args = few_args }

  pub part_format : (kind : PartKind) (args end : List ℕ) → length args < 2 ^ 16 → IsFormat (part_at loops types slots consts kind args end) code (IsPartHere kind args end)
  unfolding part_at
  part_format kind args end few_args = record { finds = finds; yields = yields }
    where
      whole : List Instr → Part
      whole is = part_of types slots consts kind args end is

      judged : (is : List Instr) (v : Verdict) → scan (whole is) ≡ v → AreInstrs loops is → (c d : Spot) → AreBytes d.rest → c.rest ≡ list_of instruction is ++ d.rest
          → Yields (verified v (whole is) d) (Taken code (IsPartHere kind args end) c.rest)
      judged is good e fine c d bytes front = yields_ok (whole is) (counted d) _ (record {
        fine = record {
          part = record {
            verified = record { types = are; valid = (exact (whole is)).0 e; typed = typed };
            types = refl;
            kind = refl;
            result = refl;
            slots = refl;
            args = refl;
            short = fine.few;
          };
          same_consts = refl;
          stand = stand_all loops of_loops is (All-weaker (IsAllowed loops) (λ i. MayStand loops (of_loops i)) (λ i k. k.1) is fine.allowed);
        };
        front = front;
        after = bytes;
      })
      judged is (bad at why) e fine c d bytes front = yields_none _ _

      found : (is : List Instr) (v : Verdict) → v ≡ good → (d : Spot) (more : List ℕ) → d.rest ≡ more → Finds (verified v (whole is) d) (whole is) more
      found is good e d more at = finds_ok (whole is) (counted d) more at
      found is (bad at' why) e d more at = absurd (cc)

      finds : (p : Part) → IsPartHere kind args end p → (c : Spot) (more : List ℕ) → c.rest ≡ code p ++ more → Finds (part_at loops types slots consts kind args end c) p more
      finds p h c more e =
          let is = p.code.instrs in
          let same : p ≡ whole is = part_is kind args end p h in
          let valid = subst (λ (p : Part). IsVerified p) same h.part.verified in
          let shorts = valid_short (whole is) are (small kind args end few_args is h.part.short) valid.valid in
          subst (λ (p : Part). Finds (part_at loops types slots consts kind args end c) p more) (sym same)
          (finds_on _ _ _ _ _ _ ((instrs_format loops).finds is (record { few = h.part.short; allowed = allow loops is shorts (all_stand loops of_loops is h.stand) }) c more e)
          (λ d at. found is (scan (whole is)) ((exact (whole is)).1 valid.valid) d more at))

      yields : (c : Spot) → AreBytes c.rest → Yields (part_at loops types slots consts kind args end c) (Taken code (IsPartHere kind args end) c.rest)
      yields c bytes = yields_on _ _ _ _ ((instrs_format loops).yields c bytes) (λ is d h. judged is (scan (whole is)) refl h.fine c d h.after h.front)

-- ---- parts that an input has not

some_format : (part : Reader Part) (Fine : Part → Type 0) (Has : Option Part → Type 0) → (Has None → ⊥) → ((p : Part) → Has (Some p) → Fine p) → ((p : Part) → Fine p → Has (Some p))
    → IsFormat part code Fine → IsFormat (λ c. built Some (part c)) local_code Has
some_format part Fine Has none to back f = record {
  finds = finds;
  yields = λ c bytes. yields_on _ _ _ _ (f.yields c bytes) (λ p d h. yields_ok (Some p) d _ (record { fine = back p h.fine; front = h.front; after = h.after }));
}
  where
    finds : (o : Option Part) → Has o → (c : Spot) (more : List ℕ) → c.rest ≡ local_code o ++ more → Finds (built Some (part c)) o more
    finds None h c more e = absurd (none h)
    finds (Some p) h c more e = finds_built Some _ _ _ (f.finds p (to p h) c more e)

pub local_format : (kind : Kind) (part : Reader Part) (Fine : Part → Type 0) → IsFormat part code Fine → IsFormat (local_at kind part) local_code (HasLocal Fine kind)
unfolding local_at
local_format Input part Fine f = record {
  finds = finds;
  yields = λ c bytes. yields_ok None c _ (record { fine = tt; front = refl; after = bytes });
}
  where
    finds : (o : Option Part) → HasLocal Fine Input o → (c : Spot) (more : List ℕ) → c.rest ≡ local_code o ++ more → Finds (local_at Input part c) o more
    finds None h c more e = finds_ok None c more e
    finds (Some p) h c more e = absurd h
local_format Output part Fine f = let s = some_format part Fine (HasLocal Fine Output) (λ h. h) (λ p h. h) (λ p h. h) f in record { finds = s.finds; yields = s.yields }
local_format Internal part Fine f = let s = some_format part Fine (HasLocal Fine Internal) (λ h. h) (λ p h. h) (λ p h. h) f in record { finds = s.finds; yields = s.yields }
