-- What operators take and give, by the types of their operands.
use Rattle.std.proofs.Common.{◌≡◌, ℕ, zero, suc, ◌<◌, ◌≤◌, ℤ, pos, negsuc, ◌+ℤ◌, ◌-ℤ◌, ◌*ℤ◌, neg_ℤ, Bool, true, false, not, IsTrue, cond, if◌then◌else◌, arith, ◌&&◌, ◌==◌, List, [], ◌∷◌, ◌++◌, length, Option, Some, None, Ok, Err, refl, sym, ap, subst, ◌∙◌}
use Rattle.std.specs.Prelude.{nat_lt, int_lt, int_le, slice_get}
use Rattle.std.specs.Int.{int_div_euclid}
use Rattle.std.specs.List.{list_any}
use Rattle.std.specs.Option.{option_map}
use Rattle.std.proofs.lemmas.Bool.{false≢true, and_parts}
use Rattle.std.proofs.lemmas.Bool.Decides.{nat_tests}
use Rattle.std.proofs.lemmas.Option.{slice_get_within}
use Rattle.ioa_arithmetic.specs.declared.arithmetic.Fault.{Fault}
use Rattle.ioa_arithmetic.specs.declared.arithmetic.Fault.TheVariants.{Overflow, Empty, OutOfRange, Full}
use Rattle.ioa_value.specs.declared.operator.Op.{Op}
use Rattle.ioa_value.specs.declared.operator.Op.TheVariants.{Neg, Add, Sub, Mul, Div, Mod, Lt, Le, Gt, Ge, Not, Eq, Ne, Len, Head, Tail, Last, Init, Append, At, Member, Without, Make, Field}
use Rattle.ioa_value.specs.declared.operator.Class.{Class}
use Rattle.ioa_value.specs.declared.operator.Class.TheVariants.{Negation, Arithmetic, Comparison, Denial, Equality, Size, Item, Shortening, Change, Index, Membership, Construction, Projection}
use Rattle.ioa_value.specs.declared.value.Ty.{Ty}
use Rattle.ioa_arithmetic.specs.Arithmetic.{fits, tested, quotient, remainder}
use Rattle.ioa_value.specs.Plain.{Val, Vals, truth, num, tuple, items, vals, listed}
use Rattle.ioa_value.specs.Table.{Table, TupleField, Shape, truths, numbers, names, fields, sequence, shape_at, types_of, item_of, most_of, fields_of, item_type, capacity, field_types, AreTypes}
use Rattle.ioa_value.specs.Typing.{of_fields, HasType, HaveTypes, own}
use Rattle.ioa_value.specs.Same.{same}
use Rattle.ioa_value.specs.Sequences.{last_item, all_but_first, all_but_last, item_at, without_first}
use Rattle.ioa_value.specs.Operators.{Answer, gives, faults, nothing, of_number, of_item, of_items, of_field, on_number, on_numbers, on_truth, on_alike, on_sequence, operate, class_of, of_one, of_two, given, is_that, are_these, type_of, op_type, arity_of, arity, TakesBy, Takes, IsTypedAnswer}
use Rattle.ioa_value.proofs.PlainLemmas.{length-listed}
use Rattle.ioa_value.proofs.SameLemmas.{equal, equal_numbers}
use Rattle.ioa_value.proofs.TableLemmas.{stands}
use Rattle.ioa_value.proofs.TypingLemmas.{own_type, is_truth, is_number, HaveTypes-length, HaveTypes-get}
use Rattle.ioa_value.proofs.SequenceTyping.{Fit, item_typed, at_typed, last_typed, rest_fits, init_fits, append_fits, without_fits, sequence_typed, made_typed, sequence_parts, tuple_parts}

given_passes : (ty t : ℕ) (b : Bool) → given ty b ≡ Some t → (b ≡ true) × (ty ≡ t)
given_passes ty t true e = (refl, cc)
given_passes ty t false e = absurd (cc)

mapped_passes : (k t : ℕ) (o : Option ℕ) → option_map (λ _. k) o ≡ Some t → (of : ℕ) × (o ≡ Some of) × (k ≡ t)
mapped_passes k t (Some of) e = (of, refl, cc)
mapped_passes k t None e = absurd (cc)

that_passes : (o : Option ℕ) (a : ℕ) → is_that o a ≡ true → o ≡ Some a
that_passes (Some of) a e = ap Some (sym (equal_numbers a of e))
that_passes None a e = absurd (cc)

cond_passes : (b : Bool) (o : Option ℕ) (t : ℕ) → cond b o None ≡ Some t → (b ≡ true) × (o ≡ Some t)
cond_passes true o t e = (refl, e)
cond_passes false o t e = absurd (cc)

these_equal : (tys us : List ℕ) → are_these tys us ≡ true → tys ≡ us
these_equal [] [] e = refl
these_equal [] (u ∷ us) e = absurd (cc)
these_equal (t ∷ tys) [] e = absurd (cc)
these_equal (t ∷ tys) (u ∷ us) e =
    let p = and_parts (t == u) (are_these tys us) e in
    ap (λ x. x ∷ tys) (equal_numbers t u p.0) ∙ ap (λ l. u ∷ l) (these_equal tys us p.1)

item_shape : (o : Option Shape) (of : ℕ) → item_of o ≡ Some of → (most : ℕ) × (o ≡ Some (sequence most of))
item_shape (Some (sequence most t)) of e = (most, let same : t ≡ of = cc in ap (λ k. Some (sequence most k)) same)
item_shape (Some truths) of e = absurd (cc)
item_shape (Some numbers) of e = absurd (cc)
item_shape (Some (names ns)) of e = absurd (cc)
item_shape (Some (fields fs)) of e = absurd (cc)
item_shape None of e = absurd (cc)

fields_shape : (o : Option Shape) (test : List ℕ → Bool) → of_fields o test ≡ true → (fs : List TupleField) × (o ≡ Some (fields fs)) × (test (types_of fs) ≡ true)
fields_shape (Some (fields fs)) test e = (fs, refl, e)
fields_shape (Some truths) test e = absurd (cc)
fields_shape (Some numbers) test e = absurd (cc)
fields_shape (Some (names ns)) test e = absurd (cc)
fields_shape (Some (sequence most of)) test e = absurd (cc)
fields_shape None test e = absurd (cc)

field_shape : (o : Option Shape) (j t : ℕ) → slice_get (types_of (fields_of o)) j ≡ Some t → (fs : List TupleField) × (o ≡ Some (fields fs)) × (slice_get (types_of fs) j ≡ Some t)
field_shape (Some (fields fs)) j t e = (fs, refl, e)
field_shape (Some truths) j t e = absurd (cc)
field_shape (Some numbers) j t e = absurd (cc)
field_shape (Some (names ns)) j t e = absurd (cc)
field_shape (Some (sequence most of)) j t e = absurd (cc)
field_shape None j t e = absurd (cc)

-- ---- an operator that has a type for operands takes so many

one_taken : (f : ℕ → Option ℕ) (tys : List ℕ) (ty : ℕ) → of_one f tys ≡ Some ty → 1 ≡ length tys
one_taken f [] ty e = absurd (cc)
one_taken f (a ∷ []) ty e = refl
one_taken f (a ∷ b ∷ tys) ty e = absurd (cc)

two_taken : (f : ℕ → ℕ → Option ℕ) (tys : List ℕ) (ty : ℕ) → of_two f tys ≡ Some ty → 2 ≡ length tys
two_taken f [] ty e = absurd (cc)
two_taken f (a ∷ []) ty e = absurd (cc)
two_taken f (a ∷ b ∷ []) ty e = refl
two_taken f (a ∷ b ∷ c ∷ tys) ty e = absurd (cc)

class_takes_all : (types : Table) (class : Class) (tys : List ℕ) (ty : ℕ) → type_of types class tys ≡ Some ty → arity_of types class ≡ length tys
class_takes_all types Negation tys ty e = one_taken _ tys ty e
class_takes_all types Arithmetic tys ty e = two_taken _ tys ty e
class_takes_all types Comparison tys ty e = two_taken _ tys ty e
class_takes_all types Denial tys ty e = one_taken _ tys ty e
class_takes_all types Equality tys ty e = two_taken _ tys ty e
class_takes_all types Size tys ty e = one_taken _ tys ty e
class_takes_all types Item tys ty e = one_taken _ tys ty e
class_takes_all types Shortening tys ty e = one_taken _ tys ty e
class_takes_all types Change tys ty e = two_taken _ tys ty e
class_takes_all types Index tys ty e = two_taken _ tys ty e
class_takes_all types Membership tys ty e = two_taken _ tys ty e
class_takes_all types (Construction s) tys ty e =
    let p = given_passes s.0 ty (of_fields (shape_at types s.0) (are_these tys)) e in
    let q = fields_shape (shape_at types s.0) (are_these tys) p.0 in
    ap (λ o. length (types_of (fields_of o))) q.1 ∙ ap length (sym (these_equal tys (types_of q.0) q.2))
class_takes_all types (Projection j) tys ty e = one_taken _ tys ty e

pub takes_all : (types : Table) (op : Op) (tys : List ℕ) (ty : ℕ) → op_type types op tys ≡ Some ty → arity types op ≡ length tys
takes_all types op tys ty e = class_takes_all types (class_of op) tys ty e

module _ (types : Table) (declared : AreTypes types) where
  -- ---- the operands of operators on one value and on two

  one_operand : (f : ℕ → Option ℕ) (vs : List Val) (tys : List ℕ) (ty : ℕ) → HaveTypes types vs tys → of_one f tys ≡ Some ty → (a : ℕ) × (v : Val) × HasType types v a × (vs ≡ v ∷ []) × (f a ≡ Some ty)
  one_operand f vs [] ty h e = absurd (cc)
  one_operand f vs (a ∷ b ∷ tys) ty h e = absurd (cc)
  one_operand f [] (a ∷ []) ty h e = absurd h
  one_operand f (v ∷ w ∷ ws) (a ∷ []) ty h e = absurd h.1
  one_operand f (v ∷ []) (a ∷ []) ty h e = (a, v, h.0, refl, e)

  two_operands : (f : ℕ → ℕ → Option ℕ) (vs : List Val) (tys : List ℕ) (ty : ℕ) → HaveTypes types vs tys → of_two f tys ≡ Some ty → (a : ℕ) × (b : ℕ) × (v : Val) × (w : Val) × HasType types v a × HasType types w b × (vs ≡ v ∷ w ∷ []) × (f a b ≡ Some ty)
  two_operands f vs [] ty h e = absurd (cc)
  two_operands f vs (a ∷ []) ty h e = absurd (cc)
  two_operands f vs (a ∷ b ∷ c ∷ tys) ty h e = absurd (cc)
  two_operands f [] (a ∷ b ∷ []) ty h e = absurd h
  two_operands f (v ∷ []) (a ∷ b ∷ []) ty h e = absurd h.1
  two_operands f (v ∷ w ∷ u ∷ us) (a ∷ b ∷ []) ty h e = absurd h.1.1
  two_operands f (v ∷ w ∷ []) (a ∷ b ∷ []) ty h e = (a, b, v, w, h.0, h.1.0, refl, e)

  number_at : (v : Val) (a : ℕ) → HasType types v a → (a == 1) ≡ true → (x : ℤ) × (v ≡ num x) × IsTrue (fits x)
  number_at v a h e = is_number types declared v (subst (HasType types v) (equal_numbers a 1 e) h)

  -- ---- numbers and truth values

  one_number : (g : ℕ) (vs : List Val) (tys : List ℕ) (ty : ℕ) → HaveTypes types vs tys → of_one (λ a. given g (a == 1)) tys ≡ Some ty → (x : ℤ) × (vs ≡ num x ∷ []) × (g ≡ ty)
  one_number g vs tys ty h e =
      let t = one_operand (λ a. given g (a == 1)) vs tys ty h e in
      let p = given_passes g ty (t.0 == 1) t.4 in
      let x = number_at t.1 t.0 t.2 p.0 in
      (x.0, t.3 ∙ ap (λ v. v ∷ []) x.1, p.1)

  two_numbers : (g : ℕ) (vs : List Val) (tys : List ℕ) (ty : ℕ) → HaveTypes types vs tys → of_two (λ a b. given g ((a == 1) && (b == 1))) tys ≡ Some ty → (x : ℤ) × (y : ℤ) × (vs ≡ num x ∷ num y ∷ []) × IsTrue (fits y) × (g ≡ ty)
  two_numbers g vs tys ty h e =
      let t = two_operands (λ a b. given g ((a == 1) && (b == 1))) vs tys ty h e in
      let p = given_passes g ty ((t.0 == 1) && (t.1 == 1)) t.7 in
      let q = and_parts (t.0 == 1) (t.1 == 1) p.0 in
      let x = number_at t.2 t.0 t.4 q.0 in
      let y = number_at t.3 t.1 t.5 q.1 in
      (x.0, y.0, t.6 ∙ ap (λ v. v ∷ t.3 ∷ []) x.1 ∙ ap (λ w. num x.0 ∷ w ∷ []) y.1, y.2, p.1)

  one_truth : (g : ℕ) (vs : List Val) (tys : List ℕ) (ty : ℕ) → HaveTypes types vs tys → of_one (λ a. given g (a == 0)) tys ≡ Some ty → (b : Bool) × (vs ≡ truth b ∷ []) × (g ≡ ty)
  one_truth g vs tys ty h e =
      let t = one_operand (λ a. given g (a == 0)) vs tys ty h e in
      let p = given_passes g ty (t.0 == 0) t.4 in
      let b = is_truth types declared t.1 (subst (HasType types t.1) (equal_numbers t.0 0 p.0) t.2) in
      (b.0, t.3 ∙ ap (λ v. v ∷ []) b.1, p.1)

  two_alike : (g : ℕ) (vs : List Val) (tys : List ℕ) (ty : ℕ) → HaveTypes types vs tys → of_two (λ a b. given g (a == b)) tys ≡ Some ty → (v : Val) × (w : Val) × (own v ≡ own w) × (vs ≡ v ∷ w ∷ []) × (g ≡ ty)
  two_alike g vs tys ty h e =
      let t = two_operands (λ a b. given g (a == b)) vs tys ty h e in
      let p = given_passes g ty (t.0 == t.1) t.7 in
      (t.2, t.3, own_type types t.2 t.0 t.4 ∙ equal_numbers t.0 t.1 p.0 ∙ sym (own_type types t.3 t.1 t.5), t.6, p.1)

  -- ---- sequences: the type, the items, and what they are

  record IsOf (v : Val) (s of : ℕ) : Type 0 where
    row : Vals
    most : ℕ
    shape : shape_at types s ≡ Some (sequence most of)
    is : v ≡ items s row
    fit : Fit types (listed row) most of

  sequence_at : (v : Val) (s of : ℕ) → HasType types v s → item_type types s ≡ Some of → IsOf v s of
  sequence_at v s of h e =
      let p = item_shape (shape_at types s) of e in
      let q = sequence_parts types declared v s p.0 of h p.1 in
      record { row = q.0; most = p.0; shape = p.1; is = q.1; fit = q.2 }

  record One (vs : List Val) : Type 0 where
    s : ℕ
    of : ℕ
    v : Val
    items_of : IsOf v s of
    are : vs ≡ items s items_of.row ∷ []

  record Two (vs : List Val) : Type 0 where
    s : ℕ
    of : ℕ
    v : Val
    items_of : IsOf v s of
    x : Val
    typed : HasType types x of
    are : vs ≡ items s items_of.row ∷ x ∷ []

  -- the sequence that an operator on one takes
  abbrev sequence_alone : (s of : ℕ) (v : Val) (vs : List Val) → HasType types v s → item_type types s ≡ Some of → vs ≡ v ∷ [] → One vs
  sequence_alone s of v vs h e are =
      let q = sequence_at v s of h e in
      record { s = s; of = of; v = v; items_of = q; are = are ∙ ap (λ w. w ∷ []) q.is }

  one_sequence : (g : ℕ → Option ℕ → Option ℕ) (vs : List Val) (tys : List ℕ) (ty : ℕ) → ((s : ℕ) → g s None ≡ None) → HaveTypes types vs tys → of_one (λ s. g s (item_type types s)) tys ≡ Some ty → (q : One vs) × (g q.s (Some q.of) ≡ Some ty)
  one_sequence g vs tys ty none h e =
      let t = one_operand (λ s. g s (item_type types s)) vs tys ty h e in
      go t.0 t.1 t.2 t.3 (item_type types t.0) refl t.4
    where
      go : (s : ℕ) (v : Val) → HasType types v s → vs ≡ v ∷ [] → (o : Option ℕ) → item_type types s ≡ o → g s o ≡ Some ty → (q : One vs) × (g q.s (Some q.of) ≡ Some ty)
      go s v h are (Some of) e f = (sequence_alone s of v vs h e are, f)
      go s v h are None e f = let no_type : None ≡ Some ty = sym (none s) ∙ f in absurd (cc)

  -- the sequence and the item
  sequence_and_item : (vs : List Val) (tys : List ℕ) (ty : ℕ) → HaveTypes types vs tys → type_of types Change tys ≡ Some ty → (q : Two vs) × (q.s ≡ ty)
  sequence_and_item vs tys ty h e =
      let t = two_operands (λ s a. given s (is_that (item_type types s) a)) vs tys ty h e in
      let p = given_passes t.0 ty (is_that (item_type types t.0) t.1) t.7 in
      let q = sequence_at t.2 t.0 t.1 t.4 (that_passes (item_type types t.0) t.1 p.0) in
      (record { s = t.0; of = t.1; v = t.2; items_of = q; x = t.3; typed = t.5; are = t.6 ∙ ap (λ w. w ∷ t.3 ∷ []) q.is }, p.1)

  -- the sequence and the number
  sequence_and_number : (vs : List Val) (tys : List ℕ) (ty : ℕ) → HaveTypes types vs tys → type_of types Index tys ≡ Some ty → (s : ℕ) × (v : Val) × (q : IsOf v s ty) × (z : ℤ) × (vs ≡ items s q.row ∷ num z ∷ [])
  sequence_and_number vs tys ty h e =
      let t = two_operands (λ s a. if a == 1 then item_type types s else None) vs tys ty h e in
      let p = cond_passes (t.1 == 1) (item_type types t.0) ty t.7 in
      let q = sequence_at t.2 t.0 ty t.4 p.1 in
      let z = number_at t.3 t.1 t.5 p.0 in
      (t.0, t.2, q, z.0, t.6 ∙ ap (λ w. w ∷ t.3 ∷ []) q.is ∙ ap (λ w. items t.0 q.row ∷ w ∷ []) z.1)

  -- the item and the sequence
  item_and_sequence : (vs : List Val) (tys : List ℕ) (ty : ℕ) → HaveTypes types vs tys → type_of types Membership tys ≡ Some ty → (x : Val) × (s : ℕ) × (xs : Vals) × (vs ≡ x ∷ items s xs ∷ []) × (0 ≡ ty)
  item_and_sequence vs tys ty h e =
      let t = two_operands (λ a s. given 0 (is_that (item_type types s) a)) vs tys ty h e in
      let p = given_passes 0 ty (is_that (item_type types t.1) t.0) t.7 in
      let q = sequence_at t.3 t.1 t.0 t.5 (that_passes (item_type types t.1) t.0 p.0) in
      (t.2, t.1, q.row, t.6 ∙ ap (λ w. t.2 ∷ w ∷ []) q.is, p.1)

  -- ---- tuples

  -- the fields that a tuple is made of
  fields_of_tuple : (s : Ty) (vs : List Val) (tys : List ℕ) (ty : ℕ) → HaveTypes types vs tys → type_of types (Construction s) tys ≡ Some ty → (fs : List TupleField) × (shape_at types s.0 ≡ Some (fields fs)) × HaveTypes types vs (types_of fs) × (s.0 ≡ ty)
  fields_of_tuple s vs tys ty h e =
      let p = given_passes s.0 ty (of_fields (shape_at types s.0) (are_these tys)) e in
      let q = fields_shape (shape_at types s.0) (are_these tys) p.0 in
      (q.0, q.1, subst (HaveTypes types vs) (these_equal tys (types_of q.0) q.2) h, p.1)

  as_many : (s : Ty) (vs : List Val) (fs : List TupleField) → shape_at types s.0 ≡ Some (fields fs) → HaveTypes types vs (types_of fs) → length vs ≡ length (field_types types s.0)
  as_many s vs fs e h = HaveTypes-length types vs (types_of fs) h ∙ sym (ap (λ o. length (types_of (fields_of o))) e)

  -- the field of a tuple
  field_of_tuple : (j : ℕ) (vs : List Val) (tys : List ℕ) (ty : ℕ) → HaveTypes types vs tys → type_of types (Projection j) tys ≡ Some ty → (s : ℕ) × (xs : Vals) × (w : Val) × (vs ≡ tuple s xs ∷ []) × (slice_get (listed xs) j ≡ Some w) × HasType types w ty
  field_of_tuple j vs tys ty h e =
      let t = one_operand (λ s. slice_get (field_types types s) j) vs tys ty h e in
      let p = field_shape (shape_at types t.0) j ty t.4 in
      let q = tuple_parts types declared t.1 t.0 p.0 t.2 p.1 in
      let w = HaveTypes-get types (listed q.0) (types_of p.0) j ty q.2 p.2 in
      (t.0, q.0, w.0, t.3 ∙ ap (λ x. x ∷ []) q.1, w.1, w.2)

  -- ---- what each class of operators takes

  class_takes : (class : Class) (vs : List Val) (tys : List ℕ) (ty : ℕ) → HaveTypes types vs tys → type_of types class tys ≡ Some ty → TakesBy types class vs
  class_takes Negation vs tys ty h e = let t = one_number 1 vs tys ty h e in (t.0, t.1)
  class_takes Arithmetic vs tys ty h e = let t = two_numbers 1 vs tys ty h e in (t.0, t.1, t.2)
  class_takes Comparison vs tys ty h e = let t = two_numbers 0 vs tys ty h e in (t.0, t.1, t.2)
  class_takes Denial vs tys ty h e = let t = one_truth 0 vs tys ty h e in (t.0, t.1)
  class_takes Equality vs tys ty h e = let t = two_alike 0 vs tys ty h e in (t.0, t.1, t.2, t.3)
  class_takes Size vs tys ty h e =
      let q = (one_sequence (λ s o. option_map (λ _. 1) o) vs tys ty (λ s. refl) h e).0 in (q.s, q.items_of.row, q.are)
  class_takes Item vs tys ty h e =
      let q = (one_sequence (λ s o. o) vs tys ty (λ s. refl) h e).0 in (q.s, q.items_of.row, q.are)
  class_takes Shortening vs tys ty h e =
      let q = (one_sequence (λ s o. option_map (λ _. s) o) vs tys ty (λ s. refl) h e).0 in (q.s, q.items_of.row, q.are)
  class_takes Change vs tys ty h e = let q = (sequence_and_item vs tys ty h e).0 in (q.s, q.items_of.row, q.x, q.are)
  class_takes Index vs tys ty h e = let q = sequence_and_number vs tys ty h e in (q.0, q.2.row, q.3, q.4)
  class_takes Membership vs tys ty h e = let q = item_and_sequence vs tys ty h e in (q.0, q.1, q.2, q.3)
  class_takes (Construction s) vs tys ty h e = let q = fields_of_tuple s vs tys ty h e in as_many s vs q.0 q.1 q.2
  class_takes (Projection j) vs tys ty h e =
      let q = field_of_tuple j vs tys ty h e in
      let lt : j < length (listed q.1) = slice_get_within (listed q.1) j q.2 q.4 in
      (q.0, q.1, omega (arith, lt, length-listed q.1), q.3)

  -- values of the operator's types are its operands
  pub op_takes : (op : Op) (vs : List Val) (tys : List ℕ) (ty : ℕ) → HaveTypes types vs tys → op_type types op tys ≡ Some ty → Takes types op vs
  op_takes op vs tys ty h e = class_takes (class_of op) vs tys ty h e

  -- ---- what each class of operators gives

  number_gives : (f : ℤ → Answer) (g : ℕ) → ((x : ℤ) → IsTypedAnswer types g (f x)) → (vs : List Val) (tys : List ℕ) (ty : ℕ) → HaveTypes types vs tys → of_one (λ a. given g (a == 1)) tys ≡ Some ty → IsTypedAnswer types ty (on_number f vs)
  number_gives f g typed vs tys ty h e =
      let t = one_number g vs tys ty h e in
      subst {A = List Val} (λ l. IsTypedAnswer types ty (on_number f l)) (sym t.1)
      (subst {A = ℕ} (λ k. IsTypedAnswer types k (f t.0)) t.2 (typed t.0))

  numbers_give : (f : ℤ → ℤ → Answer) (g : ℕ) → ((x y : ℤ) → IsTrue (fits y) → IsTypedAnswer types g (f x y)) → (vs : List Val) (tys : List ℕ) (ty : ℕ) → HaveTypes types vs tys → of_two (λ a b. given g ((a == 1) && (b == 1))) tys ≡ Some ty → IsTypedAnswer types ty (on_numbers f vs)
  numbers_give f g typed vs tys ty h e =
      let t = two_numbers g vs tys ty h e in
      subst {A = List Val} (λ l. IsTypedAnswer types ty (on_numbers f l)) (sym t.2)
      (subst {A = ℕ} (λ k. IsTypedAnswer types k (f t.0 t.1)) t.4 (typed t.0 t.1 t.3))

  truth_gives : (f : Bool → Answer) (g : ℕ) → ((b : Bool) → IsTypedAnswer types g (f b)) → (vs : List Val) (tys : List ℕ) (ty : ℕ) → HaveTypes types vs tys → of_one (λ a. given g (a == 0)) tys ≡ Some ty → IsTypedAnswer types ty (on_truth f vs)
  truth_gives f g typed vs tys ty h e =
      let t = one_truth g vs tys ty h e in
      subst {A = List Val} (λ l. IsTypedAnswer types ty (on_truth f l)) (sym t.1)
      (subst {A = ℕ} (λ k. IsTypedAnswer types k (f t.0)) t.2 (typed t.0))

  alike_gives : (f : Val → Val → Answer) (g : ℕ) (x y : Val) (b : Bool) → IsTypedAnswer types g (f x y) → (own x == own y) ≡ b → own x ≡ own y → IsTypedAnswer types g (cond b (f x y) nothing)
  alike_gives f g x y true typed e h = typed
  alike_gives f g x y false typed e h = absurd (false≢true (sym e ∙ equal (own x) (own y) h))

  alike_give : (f : Val → Val → Answer) (g : ℕ) → ((x y : Val) → IsTypedAnswer types g (f x y)) → (vs : List Val) (tys : List ℕ) (ty : ℕ) → HaveTypes types vs tys → of_two (λ a b. given g (a == b)) tys ≡ Some ty → IsTypedAnswer types ty (on_alike f vs)
  alike_give f g typed vs tys ty h e =
      let t = two_alike g vs tys ty h e in
      subst {A = List Val} (λ l. IsTypedAnswer types ty (on_alike f l)) (sym t.3)
      (subst {A = ℕ} (λ k. IsTypedAnswer types k (on_alike f (t.0 ∷ t.1 ∷ []))) t.4 (alike_gives f g t.0 t.1 (own t.0 == own t.1) (typed t.0 t.1) refl t.2))

  fitting_typed : (z : ℤ) (b : Bool) → fits z ≡ b → IsTypedAnswer types 1 (of_number (cond b (Ok z) (Err Overflow)))
  fitting_typed z true e = e
  fitting_typed z false e = tt

  tested_typed : (z : ℤ) → IsTypedAnswer types 1 (of_number (tested z))
  tested_typed z = fitting_typed z (fits z) refl

  quotient_typed : (x y : ℤ) → IsTypedAnswer types 1 (of_number (quotient x y))
  quotient_typed x (pos zero) = tt
  quotient_typed x (pos (suc n)) = tested_typed (int_div_euclid x (pos (suc n)))
  quotient_typed x (negsuc n) = tested_typed (int_div_euclid x (negsuc n))

  remainder_typed : (x y : ℤ) → IsTrue (fits y) → IsTypedAnswer types 1 (of_number (remainder x y))
  remainder_typed x (pos zero) h = tt
  remainder_typed (pos a) (pos (suc n)) h = grind (arith, nat_tests)
  remainder_typed (negsuc a) (pos (suc n)) h = grind (arith, nat_tests)
  remainder_typed (pos a) (negsuc n) h = grind (arith, nat_tests)
  remainder_typed (negsuc a) (negsuc n) h = grind (arith, nat_tests)

  -- ---- sequences

  item_answer : (f : Fault) (of : ℕ) (o : Option Val) → ((x : Val) → o ≡ Some x → HasType types x of) → IsTypedAnswer types of (of_item f o)
  item_answer f of (Some x) typed = typed x refl
  item_answer f of None typed = tt

  items_answer : (s : ℕ) (o : Option (List Val)) → ((xs : List Val) → o ≡ Some xs → HasType types (items s (vals xs)) s) → IsTypedAnswer types s (of_items s o)
  items_answer s (Some xs) typed = typed xs refl
  items_answer s None typed = tt

  -- no sequence has more items than fit a number
  length_fits : (v : Val) (s of : ℕ) (q : IsOf v s of) → IsTrue (fits (pos (length (listed q.row))))
  length_fits v s of q =
      let m = stands types s (sequence q.most of) declared q.shape in
      let le : length (listed q.row) ≤ 256 = omega (arith, q.fit.0, m.1) in
      grind (arith, nat_tests, le)

  len_typed : (vs : List Val) (tys : List ℕ) (ty : ℕ) → HaveTypes types vs tys → op_type types Len tys ≡ Some ty → IsTypedAnswer types ty (operate types Len vs)
  len_typed vs tys ty h e =
      let r = one_sequence (λ s o. option_map (λ _. 1) o) vs tys ty (λ s. refl) h e in
      let q = r.0 in
      let is : 1 ≡ ty = (mapped_passes 1 ty (Some q.of) r.1).2 in
      subst {A = List Val} (λ l. IsTypedAnswer types ty (operate types Len l)) (sym q.are)
      (subst (λ k. HasType types (num (pos (length (listed q.items_of.row)))) k) is (length_fits q.v q.s q.of q.items_of))

  -- an operator that gives an item of a sequence
  item_gives : (f : List Val → Option Val) → ((xs : List Val) (most of : ℕ) (x : Val) → Fit types xs most of → f xs ≡ Some x → HasType types x of) → (vs : List Val) (tys : List ℕ) (ty : ℕ) → HaveTypes types vs tys → type_of types Item tys ≡ Some ty → IsTypedAnswer types ty (on_sequence (λ s xs. of_item Empty (f xs)) vs)
  item_gives f typed vs tys ty h e =
      let r = one_sequence (λ s o. o) vs tys ty (λ s. refl) h e in
      let q = r.0 in
      let is : q.of ≡ ty = cc in
      subst {A = List Val} (λ l. IsTypedAnswer types ty (on_sequence (λ s xs. of_item Empty (f xs)) l)) (sym q.are)
      (subst (λ k. IsTypedAnswer types k (of_item Empty (f (listed q.items_of.row)))) is (item_answer Empty q.of (f (listed q.items_of.row)) (λ x g. typed (listed q.items_of.row) q.items_of.most q.of x q.items_of.fit g)))

  -- an operator that gives some of the items of a sequence
  rest_gives : (f : List Val → Option (List Val)) → ((xs ys : List Val) (most of : ℕ) → Fit types xs most of → f xs ≡ Some ys → Fit types ys most of) → (vs : List Val) (tys : List ℕ) (ty : ℕ) → HaveTypes types vs tys → type_of types Shortening tys ≡ Some ty → IsTypedAnswer types ty (on_sequence (λ s xs. of_items s (f xs)) vs)
  rest_gives f kept vs tys ty h e =
      let r = one_sequence (λ s o. option_map (λ _. s) o) vs tys ty (λ s. refl) h e in
      let q = r.0 in
      let p = q.items_of in
      let is : q.s ≡ ty = (mapped_passes q.s ty (Some q.of) r.1).2 in
      subst {A = List Val} (λ l. IsTypedAnswer types ty (on_sequence (λ s xs. of_items s (f xs)) l)) (sym q.are)
      (subst (λ k. IsTypedAnswer types k (of_items q.s (f (listed p.row)))) is (items_answer q.s (f (listed p.row)) (λ ys g. sequence_typed types ys q.s p.most q.of p.shape (kept (listed p.row) ys p.most q.of p.fit g))))

  append_typed : (vs : List Val) (tys : List ℕ) (ty : ℕ) → HaveTypes types vs tys → op_type types Append tys ≡ Some ty → IsTypedAnswer types ty (operate types Append vs)
  append_typed vs tys ty h e =
      let r = sequence_and_item vs tys ty h e in
      let q = r.0 in
      subst {A = List Val} (λ l. IsTypedAnswer types ty (operate types Append l)) (sym q.are)
      (subst (λ k. IsTypedAnswer types k (operate types Append (items q.s q.items_of.row ∷ q.x ∷ []))) r.1 (by q.v q.s q.of q.items_of q.x q.typed (nat_lt (length (listed q.items_of.row)) (capacity types q.s)) refl))
    where
      below : (a b : ℕ) → nat_lt a b ≡ true → a < b
      below a b e = grind (arith, nat_tests)

      by : (v : Val) (s of : ℕ) (p : IsOf v s of) (x : Val) → HasType types x of → (b : Bool) → nat_lt (length (listed p.row)) (capacity types s) ≡ b → IsTypedAnswer types s (cond b (gives (items s (vals (listed p.row ++ x ∷ [])))) (faults Full))
      by v s of p x t true g =
          let room : length (listed p.row) < p.most = subst (λ n. length (listed p.row) < n) (ap most_of p.shape) (below _ _ g) in
          sequence_typed types (listed p.row ++ x ∷ []) s p.most of p.shape (append_fits types (listed p.row) x p.most of room p.fit.1 t)
      by v s of p x t false g = tt

  without_typed : (vs : List Val) (tys : List ℕ) (ty : ℕ) → HaveTypes types vs tys → op_type types Without tys ≡ Some ty → IsTypedAnswer types ty (operate types Without vs)
  without_typed vs tys ty h e =
      let r = sequence_and_item vs tys ty h e in
      let q = r.0 in
      let p = q.items_of in
      let left = without_first q.x (listed p.row) in
      subst {A = List Val} (λ l. IsTypedAnswer types ty (operate types Without l)) (sym q.are)
      (subst (λ k. HasType types (items q.s (vals left)) k) r.1 (sequence_typed types left q.s p.most q.of p.shape (without_fits types q.x (listed p.row) p.most q.of p.fit)))

  index_typed : (vs : List Val) (tys : List ℕ) (ty : ℕ) → HaveTypes types vs tys → op_type types At tys ≡ Some ty → IsTypedAnswer types ty (operate types At vs)
  index_typed vs tys ty h e =
      let q = sequence_and_number vs tys ty h e in
      subst {A = List Val} (λ l. IsTypedAnswer types ty (operate types At l)) (sym q.4)
      (item_answer OutOfRange ty (item_at (listed q.2.row) q.3) (λ x g. at_typed types (listed q.2.row) ty q.3 x q.2.fit.1 g))

  member_typed : (vs : List Val) (tys : List ℕ) (ty : ℕ) → HaveTypes types vs tys → op_type types Member tys ≡ Some ty → IsTypedAnswer types ty (operate types Member vs)
  member_typed vs tys ty h e =
      let q = item_and_sequence vs tys ty h e in
      subst {A = List Val} (λ l. IsTypedAnswer types ty (operate types Member l)) (sym q.3)
      (subst (λ k. HasType types (truth (list_any (same q.0) (listed q.2))) k) q.4 refl)

  -- ---- tuples

  make_typed : (s : Ty) (vs : List Val) (tys : List ℕ) (ty : ℕ) → HaveTypes types vs tys → op_type types (Make s) tys ≡ Some ty → IsTypedAnswer types ty (operate types (Make s) vs)
  make_typed s vs tys ty h e =
      let q = fields_of_tuple s vs tys ty h e in
      subst (λ k. IsTypedAnswer types k (operate types (Make s) vs)) q.3
      (subst (λ b. IsTypedAnswer types s.0 (cond b (gives (tuple s.0 (vals vs))) nothing)) (sym (equal _ _ (as_many s vs q.0 q.1 q.2))) (made_typed types vs s.0 q.0 q.1 q.2))

  field_typed : (j : ℕ) (vs : List Val) (tys : List ℕ) (ty : ℕ) → HaveTypes types vs tys → op_type types (Field j) tys ≡ Some ty → IsTypedAnswer types ty (operate types (Field j) vs)
  field_typed j vs tys ty h e =
      let q = field_of_tuple j vs tys ty h e in
      subst {A = List Val} (λ l. IsTypedAnswer types ty (operate types (Field j) l)) (sym q.3)
      (subst (λ o. IsTypedAnswer types ty (of_field o)) (sym q.4) q.5)

  -- what the operator gives of them is of the stated type
  pub op_typed : (op : Op) (vs : List Val) (tys : List ℕ) (ty : ℕ) → HaveTypes types vs tys → op_type types op tys ≡ Some ty → IsTypedAnswer types ty (operate types op vs)
  op_typed Neg vs tys ty h e = number_gives (λ x. of_number (tested (neg_ℤ x))) 1 (λ x. tested_typed (neg_ℤ x)) vs tys ty h e
  op_typed Add vs tys ty h e = numbers_give (λ x y. of_number (tested (x +ℤ y))) 1 (λ x y _. tested_typed (x +ℤ y)) vs tys ty h e
  op_typed Sub vs tys ty h e = numbers_give (λ x y. of_number (tested (x -ℤ y))) 1 (λ x y _. tested_typed (x -ℤ y)) vs tys ty h e
  op_typed Mul vs tys ty h e = numbers_give (λ x y. of_number (tested (x *ℤ y))) 1 (λ x y _. tested_typed (x *ℤ y)) vs tys ty h e
  op_typed Div vs tys ty h e = numbers_give (λ x y. of_number (quotient x y)) 1 (λ x y _. quotient_typed x y) vs tys ty h e
  op_typed Mod vs tys ty h e = numbers_give (λ x y. of_number (remainder x y)) 1 remainder_typed vs tys ty h e
  op_typed Lt vs tys ty h e = numbers_give (λ x y. gives (truth (int_lt x y))) 0 (λ x y _. refl) vs tys ty h e
  op_typed Le vs tys ty h e = numbers_give (λ x y. gives (truth (int_le x y))) 0 (λ x y _. refl) vs tys ty h e
  op_typed Gt vs tys ty h e = numbers_give (λ x y. gives (truth (int_lt y x))) 0 (λ x y _. refl) vs tys ty h e
  op_typed Ge vs tys ty h e = numbers_give (λ x y. gives (truth (int_le y x))) 0 (λ x y _. refl) vs tys ty h e
  op_typed Not vs tys ty h e = truth_gives (λ b. gives (truth (not b))) 0 (λ b. refl) vs tys ty h e
  op_typed Eq vs tys ty h e = alike_give (λ v w. gives (truth (same v w))) 0 (λ v w. refl) vs tys ty h e
  op_typed Ne vs tys ty h e = alike_give (λ v w. gives (truth (not (same v w)))) 0 (λ v w. refl) vs tys ty h e
  op_typed Len vs tys ty h e = len_typed vs tys ty h e
  op_typed Head vs tys ty h e = item_gives (λ xs. slice_get xs 0) (λ xs most of x f g. item_typed types xs of 0 x f.1 g) vs tys ty h e
  op_typed Tail vs tys ty h e = rest_gives all_but_first (rest_fits types) vs tys ty h e
  op_typed Last vs tys ty h e = item_gives last_item (λ xs most of x f g. last_typed types xs of x f.1 g) vs tys ty h e
  op_typed Init vs tys ty h e = rest_gives all_but_last (init_fits types) vs tys ty h e
  op_typed Append vs tys ty h e = append_typed vs tys ty h e
  op_typed At vs tys ty h e = index_typed vs tys ty h e
  op_typed Member vs tys ty h e = member_typed vs tys ty h e
  op_typed Without vs tys ty h e = without_typed vs tys ty h e
  op_typed (Make s) vs tys ty h e = make_typed s vs tys ty h e
  op_typed (Field j) vs tys ty h e = field_typed j vs tys ty h e
