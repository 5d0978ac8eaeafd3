-- The operands of valid code fit 16 bits, where its places, constants, variables and arguments do.
use Rattle.std.proofs.Common.{◌≡◌, ℕ, suc, ◌+◌, ◌-◌, ◌^◌, ◌<◌, ◌≤◌, Bool, true, false, List, [], ◌∷◌, ◌++◌, length, map, take, drop, Option, Some, None, Result, refl, sym, ap, ◌∙◌, subst, Ok, Err, All, arith, inl, inr}
use Rattle.std.specs.Prelude.{nat_le, slice_get}
use Rattle.std.specs.Option.{option_map}
use Rattle.std.proofs.lemmas.List.{length-map}
use Rattle.std.proofs.lemmas.List.Elements.{All-nil, All-cons}
use Rattle.std.proofs.lemmas.Option.{slice_get_within, slice_get_past}
use Rattle.std.proofs.lemmas.Bool.{cases_lt}
use Rattle.ioa_value.specs.Table.{Table, Shape, truths, numbers, names, fields, sequence, shape_at, types_of, fields_of, field_types, AreTypes}
use Rattle.ioa_value.specs.Typing.{own, of_fields}
use Rattle.ioa_value.specs.Operators.{op_type, arity, given, are_these}
use Rattle.ioa_value.specs.declared.operator.Op.{Op}
use Rattle.ioa_value.specs.declared.operator.Op.TheVariants.{Neg, Add, Sub, Mul, Div, Mod, Lt, Le, Gt, Ge, Not, Eq, Ne, Len, Head, Tail, Last, Init, Append, At, Member, Without, Make, Field}
use Rattle.ioa_value.proofs.ItemLemmas.{item_there}
use Rattle.ioa_value.proofs.TableLemmas.{stands}
use Rattle.ioa_code.specs.declared.instr.Instr.{Instr}
use Rattle.ioa_code.specs.declared.instr.Instr.TheVariants.{Const, Slot, Arg, Store, Jump, JumpIfFalse, Any, Pick, Apply, Each, Again, Local}
use Rattle.ioa_code.specs.Picks.{counted_of, counted}
use Rattle.ioa_code.specs.Valid.{Part, Way, way, wanted, allowed, to_next, to_either, after, Leads, GoForward, Loops, Valid, found_in}
use Rattle.ioa_code.specs.Valid.{item_on}
use Rattle.ioa_code.proofs.Heights.{no_higher}
use Rattle.ioa_code.proofs.Sound.{unheld_is}
use Rattle.ioa_object.proofs.InstructionFormats.{IsShortOp, IsShort}

next_ok : (p : ℕ) (r : Result (List ℕ) _) (ways : List Way) → to_next p r ≡ Ok ways → (ts : List ℕ) × (r ≡ Ok ts)
next_ok p (Ok ts) ways e = (ts, refl)
next_ok p (Err why) ways e = absurd (cc)

either_ok : (t p : ℕ) (r : Result (List ℕ) _) (ways : List Way) → to_either t p r ≡ Ok ways → (ts : List ℕ) × (ways ≡ way t ts ∷ way (p + 1) ts ∷ [])
either_ok t p (Ok ts) ways e = let same : way t ts ∷ way (p + 1) ts ∷ [] ≡ ways = cc in (ts, sym same)
either_ok t p (Err why) ways e = absurd (cc)

wanted_ok : {A B : Type 0} (why : _) (o : Option A) (next : A → Result B _) (b : B) → wanted why o next ≡ Ok b → (x : A) × (o ≡ Some x) × (next x ≡ Ok b)
wanted_ok why (Some x) next b e = (x, refl, e)
wanted_ok why None next b e = absurd (cc)

allowed_ok : {B : Type 0} (t : Bool) (next : Result B _) (b : B) → allowed t next ≡ Ok b → next ≡ Ok b
allowed_ok true next b e = e
allowed_ok false next b e = absurd (cc)

same_ways : {B E : Type 0} (a b : B) → ◌≡◌ {A = Result B E} (Ok a) (Ok b) → a ≡ b
same_ways a b e = cc

not_ok : {B E : Type 0} (why : E) (b : B) → ◌≡◌ {A = Result B E} (Err why) (Ok b) → ⊥
not_ok why b e = cc

-- an item that is there has a place below the length
below : {A : Type 0} (xs : List A) (k n : ℕ) (x : A) → length xs ≤ n → slice_get xs k ≡ Some x → k < n
below xs k n x few e = let here = slice_get_within xs k x e in omega arith

module _ (types : Table) (are : AreTypes types) where
  -- a type that is there has a number of 16 bits
  shape_short : (ty : ℕ) (s : Shape) → shape_at types ty ≡ Some s → ty < 2 ^ 16
  shape_short ty s e =
      elim (cases_lt ty (length types)) [
        | inl less ↦ omega (arith, are.few)
        | inr past ↦ let none : Some s ≡ None = sym e ∙ ap (option_map (λ d. d.shape)) (slice_get_past types ty past) in absurd (cc)
      ]

  counted_short : (ty t : ℕ) → counted types ty ≡ Some t → ty < 2 ^ 16
  counted_short ty t e = go (shape_at types ty) refl e
    where
      go : (o : Option Shape) → shape_at types ty ≡ o → counted_of ty o ≡ Some t → ty < 2 ^ 16
      go (Some s) at e = shape_short ty s at
      go None at e = absurd (cc)

  made_short : (ty t : ℕ) (tys : List ℕ) → given ty (of_fields (shape_at types ty) (are_these tys)) ≡ Some t → ty < 2 ^ 16
  made_short ty t tys e = go (shape_at types ty) refl e
    where
      go : (o : Option Shape) → shape_at types ty ≡ o → given ty (of_fields o (are_these tys)) ≡ Some t → ty < 2 ^ 16
      go (Some s) at e = shape_short ty s at
      go None at e = absurd (cc)

  field_short : (j s t : ℕ) → slice_get (field_types types s) j ≡ Some t → j < 2 ^ 16
  field_short j s t e = go (shape_at types s) refl e
    where
      go : (o : Option Shape) → shape_at types s ≡ o → slice_get (types_of (fields_of o)) j ≡ Some t → j < 2 ^ 16
      go (Some (fields fs)) at e = below (types_of fs) j (2 ^ 16) t (omega (arith, length-map fs (λ f. f.ty), (stands types s (fields fs) are at).1)) e
      go (Some truths) at e = absurd (cc)
      go (Some numbers) at e = absurd (cc)
      go (Some (names ns)) at e = absurd (cc)
      go (Some (sequence most of)) at e = absurd (cc)
      go None at e = absurd (cc)

  op_short : (op : Op) (tys : List ℕ) (t : ℕ) → op_type types op tys ≡ Some t → IsShortOp op
  op_short Neg tys t e = tt
  op_short Add tys t e = tt
  op_short Sub tys t e = tt
  op_short Mul tys t e = tt
  op_short Div tys t e = tt
  op_short Mod tys t e = tt
  op_short Lt tys t e = tt
  op_short Le tys t e = tt
  op_short Gt tys t e = tt
  op_short Ge tys t e = tt
  op_short Not tys t e = tt
  op_short Eq tys t e = tt
  op_short Ne tys t e = tt
  op_short Len tys t e = tt
  op_short Head tys t e = tt
  op_short Tail tys t e = tt
  op_short Last tys t e = tt
  op_short Init tys t e = tt
  op_short Append tys t e = tt
  op_short At tys t e = tt
  op_short Member tys t e = tt
  op_short Without tys t e = tt
  op_short (Make ty) tys t e = made_short ty.0 t tys e
  op_short (Field j) [] t e = absurd (cc)
  op_short (Field j) (s ∷ []) t e = field_short j s t e
  op_short (Field j) (s ∷ u ∷ tys) t e = absurd (cc)

-- places, constants, variables and arguments fit 16 bits
pub record IsSmall (part : Part) : Type 0 where
  pub places : length part.code.instrs < 2 ^ 16
  pub consts : length part.code.consts < 2 ^ 16
  pub slots : length part.slots < 2 ^ 16
  pub args : length part.args < 2 ^ 16

module _ (part : Part) (are : AreTypes part.code.types) (small : IsSmall part) where
  -- an operator that finds its operands gives a type
  applies : (fast p : ℕ) (op : Op) (ts : List ℕ) (ways : List Way) → after part fast p (Apply op) ts ≡ Ok ways → (tys : List ℕ) × (t : ℕ) × (op_type part.code.types op tys ≡ Some t)
  applies fast p op ts ways e = go (nat_le (arity part.code.types op) (length ts)) refl
    where
      go : (b : Bool) → nat_le (arity part.code.types op) (length ts) ≡ b → (tys : List ℕ) × (t : ℕ) × (op_type part.code.types op tys ≡ Some t)
      go true enough =
          let operands = drop (length ts - arity part.code.types op) ts in
          let w = wanted_ok _ _ _ _ (unheld_is fast _ _ _ (next_ok _ _ _ (rw enough at e)).1).1 in
          (operands, w.0, w.1)
      go false enough = let none = rw enough at e in absurd (cc)

  -- an Each leads past its body
  each_ahead : (fast p t : ℕ) (ts : List ℕ) (ways : List Way) → after part fast p (Each t) ts ≡ Ok ways → (us : List ℕ) × Leads ways t us
  each_ahead fast p t ts ways e = go (nat_le 1 (length ts)) refl
    where
      below_item : List ℕ
      below_item = take (length ts - 1) ts

      ahead : (item : ℕ) → way t below_item ∷ way (p + 1) (ts ++ item ∷ []) ∷ [] ≡ ways → (us : List ℕ) × Leads ways t us
      ahead item same = (below_item, subst (λ (ws : List Way). Leads ws t below_item) same (inl (refl, refl)))

      go : (b : Bool) → nat_le 1 (length ts) ≡ b → (us : List ℕ) × Leads ways t us
      go true enough =
          let w = wanted_ok _ (item_on part.code.types (drop (length ts - 1) ts)) (λ item. Ok (way t below_item ∷ way (p + 1) (ts ++ item ∷ []) ∷ [])) ways (unheld_is fast below_item _ ways (allowed_ok _ _ ways (rw enough at e))).1 in
          ahead w.0 (same_ways _ _ w.2)
      go false enough = absurd (not_ok _ ways (allowed_ok _ _ _ (rw enough at e)))

  instr_short : (found : ℕ → List ℕ) (fast p : ℕ) (i : Instr) (ts : List ℕ) (ways : List Way) → p < length part.code.instrs → length ts ≤ p → after part fast p i ts ≡ Ok ways
      → GoForward (length part.code.instrs) p ways → Loops part found p i ts → IsShort i
  instr_short found fast p (Const k) ts ways here low e go loops =
      let w = wanted_ok _ _ _ _ (next_ok _ _ _ e).1 in below (map own part.code.consts) k (2 ^ 16) w.0 (omega (arith, small.consts, length-map part.code.consts own)) w.1
  instr_short found fast p (Slot i) ts ways here low e go loops = let w = wanted_ok _ _ _ _ (next_ok _ _ _ e).1 in below part.slots i (2 ^ 16) w.0 (omega (arith, small.slots)) w.1
  instr_short found fast p (Arg i) ts ways here low e go loops = let w = wanted_ok _ _ _ _ (allowed_ok _ _ _ (next_ok _ _ _ e).1) in below part.args i (2 ^ 16) w.0 (omega (arith, small.args)) w.1
  instr_short found fast p (Store i) ts ways here low e go loops = let w = wanted_ok _ _ _ _ (next_ok _ _ _ e).1 in below part.slots i (2 ^ 16) w.0 (omega (arith, small.slots)) w.1
  instr_short found fast p (Jump t) ts ways here low e go loops =
      let same : way t ts ∷ [] ≡ ways = cc in
      let leads : Leads ways t ts = subst (λ (ws : List Way). Leads ws t ts) same (inl (refl, refl)) in
      omega (arith, small.places, (go t ts leads).1)
  instr_short found fast p (JumpIfFalse t) ts ways here low e go loops =
      let w = either_ok t p _ ways e in
      let leads : Leads ways t w.0 = subst (λ (ws : List Way). Leads ws t w.0) (sym w.1) (inl (refl, refl)) in
      omega (arith, small.places, (go t w.0 leads).1)
  instr_short found fast p Any ts ways here low e go loops = tt
  instr_short found fast p (Pick ty) ts ways here low e go loops = let w = wanted_ok _ _ _ _ (allowed_ok _ _ _ (next_ok _ _ _ e).1) in counted_short part.code.types are ty.0 w.0 w.1
  instr_short found fast p (Apply op) ts ways here low e go loops = let a = applies fast p op ts ways e in op_short part.code.types are op a.0 a.1 a.2
  instr_short found fast p (Each t) ts ways here low e go loops =
      let ahead = each_ahead fast p t ts ways e in
      omega (arith, small.places, (go t ahead.0 ahead.1).1)
  instr_short found fast p (Again t) ts ways here low e go loops = let before = loops.1.0 in omega (arith, small.places)
  instr_short found fast p (Local d) ts ways here low e go loops =
      let w = wanted_ok _ _ _ _ (allowed_ok _ _ _ (next_ok _ _ _ e).1) in below ts d (2 ^ 16) w.0 (omega (arith, small.places)) w.1

  all_at : (P : Instr → Type 0) (is : List Instr) → ((p : ℕ) (i : Instr) → slice_get is p ≡ Some i → P i) → All P is
  all_at P [] h = All-nil P
  all_at P (i ∷ is) h = All-cons P i is (h 0 i refl) (all_at P is (λ p. h (suc p)))

  pub valid_short : Valid part → All IsShort part.code.instrs
  valid_short (table, is_table) = all_at IsShort part.code.instrs (λ p i at.
      let here = slice_get_within part.code.instrs p i at in
      let row = item_there table p (omega (arith, is_table.long)) in
      let passes = is_table.each p i row.0 at row.1 in
      instr_short (found_in table) _ p i row.0 passes.ways here (no_higher part table is_table p (omega arith) row.0 row.1) passes.finds passes.forward passes.loops)
