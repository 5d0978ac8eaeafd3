-- Membership, over any table: of tuples and sequences by their parts, of values in lists.
use Rattle.std.proofs.Common.{◌≡◌, ℕ, zero, suc, ℤ, Bool, true, false, IsTrue, ◌&&◌, ◌==◌, List, [], ◌∷◌, ◌++◌, length, map, take, drop, Option, Some, refl, sym, ap, subst, ◌∙◌}
use Rattle.std.specs.Prelude.{nat_le, slice_get, slice_set}
use Rattle.std.specs.Option.{option_map}
use Rattle.std.proofs.lemmas.Bool.{false≢true, and_parts}
use Rattle.ioa_value.specs.declared.value.Value.{Value}
use Rattle.ioa_arithmetic.specs.Arithmetic.{fits}
use Rattle.ioa_value.specs.Plain.{Val, Vals, truth, num, name, tuple, items, plain_all, count}
use Rattle.ioa_value.specs.Table.{Table, TupleField, Shape, truths, numbers, fields, sequence, shape_at, types_of, AreTypes}
use Rattle.ioa_value.specs.Typing.{is_name_of, of_fields, of_sequence, is_of, parts_are, items_are, HasType, HaveTypes, OwnTypes, own}
use Rattle.ioa_value.specs.Reads.{IsTyped}
use Rattle.ioa_value.proofs.SameLemmas.{equal, equal_numbers, both_false}

pub tuple_typed : (types : Table) (v : Val) (ty own : ℕ) (vs : Vals) (b : Bool) → v ≡ tuple own vs → ty ≡ own → b ≡ of_fields (shape_at types own) (λ tys. parts_are types vs tys) → b ≡ is_of types v ty
tuple_typed types v ty own vs b e f h =
    h ∙ sym (ap (λ w. is_of types w ty) e ∙ ap (λ t. t && of_fields (shape_at types own) (λ tys. parts_are types vs tys)) (equal ty own f))

pub items_typed : (types : Table) (v : Val) (ty own : ℕ) (vs : Vals) (b : Bool) → v ≡ items own vs → ty ≡ own → b ≡ of_sequence (shape_at types own) (λ most of. nat_le (count vs) most && items_are types vs of) → b ≡ is_of types v ty
items_typed types v ty own vs b e f h =
    h ∙ sym (ap (λ w. is_of types w ty) e ∙ ap (λ t. t && of_sequence (shape_at types own) (λ most of. nat_le (count vs) most && items_are types vs of)) (equal ty own f))

-- there are as many values as types
pub uneven_parts : (types : Table) (xs : List Value) (tys : List ℕ) → (length xs ≡ length tys → ⊥) → false ≡ parts_are types (plain_all xs) tys
uneven_parts types [] [] e = absurd (e refl)
uneven_parts types [] (ty ∷ tys) e = refl
uneven_parts types (x ∷ xs) [] e = refl
uneven_parts types (x ∷ xs) (ty ∷ tys) e = both_false _ _ (uneven_parts types xs tys (λ q. e (ap suc q)))

-- a number that fits is of a type
pub number_typed : (types : Table) (z : ℤ) → IsTrue (fits z) → IsTyped types (num z)
number_typed types z h = (1, h)

-- ---- values that have types

module _ (types : Table) where
  pub own_type : (v : Val) (ty : ℕ) → HasType types v ty → own v ≡ ty
  own_type (truth b) ty h = sym (equal_numbers ty 0 h)
  own_type (num z) ty h = sym (equal_numbers ty 1 (and_parts (ty == 1) (fits z) h).0)
  own_type (name s n) ty h = sym (equal_numbers ty s (and_parts (ty == s) (is_name_of (shape_at types s) n) h).0)
  own_type (tuple s vs) ty h =
      sym (equal_numbers ty s (and_parts (ty == s) (of_fields (shape_at types s) (λ tys. parts_are types vs tys)) h).0)
  own_type (items s vs) ty h =
      sym (equal_numbers ty s (and_parts (ty == s) (of_sequence (shape_at types s) (λ most of. nat_le (count vs) most && items_are types vs of)) h).0)

  -- the value is one of its own type
  abbrev pub IsOwn : Val → Type 0
  IsOwn v = HasType types v (own v)

  pub has_own : (v : Val) (ty : ℕ) → HasType types v ty → IsOwn v
  has_own v ty h = subst (HasType types v) (sym (own_type v ty h)) h

  -- two values of one type say that they have one type
  pub alike_own : (v w : Val) (ty : ℕ) → HasType types v ty → HasType types w ty → (own v == own w) ≡ true
  alike_own v w ty h k = equal _ _ (own_type v ty h ∙ sym (own_type w ty k))

  -- ---- values in lists

  pub HaveTypes-owns : (vs : List Val) (tys : List ℕ) → HaveTypes types vs tys → (map own vs ≡ tys) × OwnTypes types vs
  HaveTypes-owns [] [] h = (refl, tt)
  HaveTypes-owns [] (ty ∷ tys) h = absurd h
  HaveTypes-owns (v ∷ vs) [] h = absurd h
  HaveTypes-owns (v ∷ vs) (ty ∷ tys) h =
      let rest = HaveTypes-owns vs tys h.1 in
      let e : own v ∷ map own vs ≡ ty ∷ tys = ap (λ t. t ∷ map own vs) (own_type v ty h.0) ∙ ap (λ l. ty ∷ l) rest.0 in
      (e, (has_own v ty h.0, rest.1))

  OwnTypes-have : (vs : List Val) → OwnTypes types vs → HaveTypes types vs (map own vs)
  OwnTypes-have [] h = tt
  OwnTypes-have (v ∷ vs) h = (h.0, OwnTypes-have vs h.1)

  pub HaveTypes-from_own : (vs : List Val) (tys : List ℕ) → map own vs ≡ tys → OwnTypes types vs → HaveTypes types vs tys
  HaveTypes-from_own vs tys e h = subst (HaveTypes types vs) e (OwnTypes-have vs h)

  pub HaveTypes-length : (vs : List Val) (tys : List ℕ) → HaveTypes types vs tys → length vs ≡ length tys
  HaveTypes-length [] [] h = refl
  HaveTypes-length [] (ty ∷ tys) h = absurd h
  HaveTypes-length (v ∷ vs) [] h = absurd h
  HaveTypes-length (v ∷ vs) (ty ∷ tys) h = ap suc (HaveTypes-length vs tys h.1)

  -- the value in the place of a type
  pub HaveTypes-get : (vs : List Val) (tys : List ℕ) (i ty : ℕ) → HaveTypes types vs tys → slice_get tys i ≡ Some ty → (v : Val) × (slice_get vs i ≡ Some v) × HasType types v ty
  HaveTypes-get [] [] i ty h e = absurd (cc)
  HaveTypes-get [] (t ∷ ts) i ty h e = absurd h
  HaveTypes-get (v ∷ vs) [] i ty h e = absurd h
  HaveTypes-get (v ∷ vs) (t ∷ ts) zero ty h e =
      let same : t ≡ ty = cc in (v, refl, subst (HasType types v) same h.0)
  HaveTypes-get (v ∷ vs) (t ∷ ts) (suc i) ty h e = HaveTypes-get vs ts i ty h.1 e

  -- the type in the place of a value
  pub HaveTypes-type : (vs : List Val) (tys : List ℕ) (i : ℕ) (v : Val) → HaveTypes types vs tys → slice_get vs i ≡ Some v → (ty : ℕ) × (slice_get tys i ≡ Some ty) × HasType types v ty
  HaveTypes-type [] [] i v h e = absurd (cc)
  HaveTypes-type [] (t ∷ ts) i v h e = absurd h
  HaveTypes-type (w ∷ vs) [] i v h e = absurd h
  HaveTypes-type (w ∷ vs) (t ∷ ts) zero v h e =
      let same : w ≡ v = cc in (t, refl, subst (λ x. HasType types x t) same h.0)
  HaveTypes-type (w ∷ vs) (t ∷ ts) (suc i) v h e = HaveTypes-type vs ts i v h.1 e

  pub HaveTypes-set : (vs : List Val) (tys : List ℕ) (i ty : ℕ) (v : Val) → HaveTypes types vs tys → slice_get tys i ≡ Some ty → HasType types v ty → HaveTypes types (slice_set vs i v) tys
  HaveTypes-set [] [] i ty v h e k = tt
  HaveTypes-set [] (t ∷ ts) i ty v h e k = absurd h
  HaveTypes-set (w ∷ ws) [] i ty v h e k = absurd h
  HaveTypes-set (w ∷ ws) (t ∷ ts) zero ty v h e k =
      let same : ty ≡ t = cc in (subst (HasType types v) same k, h.1)
  HaveTypes-set (w ∷ ws) (t ∷ ts) (suc i) ty v h e k = (h.0, HaveTypes-set ws ts i ty v h.1 e k)

  pub HaveTypes-append : (vs ws : List Val) (ts us : List ℕ) → HaveTypes types vs ts → HaveTypes types ws us → HaveTypes types (vs ++ ws) (ts ++ us)
  HaveTypes-append [] ws [] us h k = k
  HaveTypes-append [] ws (t ∷ ts) us h k = absurd h
  HaveTypes-append (v ∷ vs) ws [] us h k = absurd h
  HaveTypes-append (v ∷ vs) ws (t ∷ ts) us h k = (h.0, HaveTypes-append vs ws ts us h.1 k)

  pub HaveTypes-take : (n : ℕ) (vs : List Val) (tys : List ℕ) → HaveTypes types vs tys → HaveTypes types (take n vs) (take n tys)
  HaveTypes-take zero vs tys h = tt
  HaveTypes-take (suc n) [] [] h = tt
  HaveTypes-take (suc n) [] (ty ∷ tys) h = absurd h
  HaveTypes-take (suc n) (v ∷ vs) [] h = absurd h
  HaveTypes-take (suc n) (v ∷ vs) (ty ∷ tys) h = (h.0, HaveTypes-take n vs tys h.1)

  pub HaveTypes-drop : (n : ℕ) (vs : List Val) (tys : List ℕ) → HaveTypes types vs tys → HaveTypes types (drop n vs) (drop n tys)
  HaveTypes-drop zero vs tys h = h
  HaveTypes-drop (suc n) [] [] h = tt
  HaveTypes-drop (suc n) [] (ty ∷ tys) h = absurd h
  HaveTypes-drop (suc n) (v ∷ vs) [] h = absurd h
  HaveTypes-drop (suc n) (v ∷ vs) (ty ∷ tys) h = HaveTypes-drop n vs tys h.1

  pub OwnTypes-get : (vs : List Val) (k : ℕ) (v : Val) → OwnTypes types vs → slice_get vs k ≡ Some v → IsOwn v
  OwnTypes-get [] k v h e = absurd (cc)
  OwnTypes-get (x ∷ xs) zero v h e = let same : x ≡ v = cc in subst IsOwn same h.0
  OwnTypes-get (x ∷ xs) (suc k) v h e = OwnTypes-get xs k v h.1 e

  pub OwnTypes-set : (vs : List Val) (k : ℕ) (v : Val) → OwnTypes types vs → IsOwn v → OwnTypes types (slice_set vs k v)
  OwnTypes-set [] k v h e = h
  OwnTypes-set (x ∷ xs) zero v h e = (e, h.1)
  OwnTypes-set (x ∷ xs) (suc k) v h e = (h.0, OwnTypes-set xs k v h.1 e)

  pub OwnTypes-push : (vs : List Val) (v : Val) → OwnTypes types vs → IsOwn v → OwnTypes types (vs ++ v ∷ [])
  OwnTypes-push [] v h e = (e, tt)
  OwnTypes-push (x ∷ xs) v h e = (h.0, OwnTypes-push xs v h.1 e)

  pub OwnTypes-parts : (below args : List Val) → OwnTypes types (below ++ args) → OwnTypes types below × OwnTypes types args
  OwnTypes-parts [] args h = (tt, h)
  OwnTypes-parts (x ∷ xs) args h = let r = OwnTypes-parts xs args h.1 in ((h.0, r.0), r.1)

-- ---- what a table of types settles: the values of Bool and Int, of sequences and of tuples

module _ (types : Table) (declared : AreTypes types) where
  -- a value that is told by the shape of its own type is told by that of the type that it has
  told_by : (test : Option Shape → Bool) (k s : ℕ) (o : Option Shape) → ((k == s) && test (shape_at types s)) ≡ true → shape_at types k ≡ o → test o ≡ true
  told_by test k s o h e =
      let p = and_parts (k == s) (test (shape_at types s)) h in
      ap test (sym e ∙ ap (shape_at types) (equal_numbers k s p.0)) ∙ p.1

  first_shape : shape_at types 0 ≡ Some truths
  first_shape = ap (option_map (λ d. d.shape)) declared.first

  second_shape : shape_at types 1 ≡ Some numbers
  second_shape = ap (option_map (λ d. d.shape)) declared.second

  pub is_truth : (v : Val) → HasType types v 0 → (b : Bool) × (v ≡ truth b)
  is_truth (truth b) h = (b, refl)
  is_truth (num z) h = absurd (cc)
  is_truth (name s n) h = absurd (false≢true (told_by (λ o. is_name_of o n) 0 s (Some truths) h first_shape))
  is_truth (tuple s vs) h =
      absurd (false≢true (told_by (λ o. of_fields o (λ tys. parts_are types vs tys)) 0 s (Some truths) h first_shape))
  is_truth (items s vs) h =
      absurd (false≢true (told_by (λ o. of_sequence o (λ most of. nat_le (count vs) most && items_are types vs of)) 0 s (Some truths) h first_shape))

  pub is_number : (v : Val) → HasType types v 1 → (z : ℤ) × (v ≡ num z) × IsTrue (fits z)
  is_number (truth b) h = absurd (cc)
  is_number (num z) h = (z, refl, h)
  is_number (name s n) h = absurd (false≢true (told_by (λ o. is_name_of o n) 1 s (Some numbers) h second_shape))
  is_number (tuple s vs) h =
      absurd (false≢true (told_by (λ o. of_fields o (λ tys. parts_are types vs tys)) 1 s (Some numbers) h second_shape))
  is_number (items s vs) h =
      absurd (false≢true (told_by (λ o. of_sequence o (λ most of. nat_le (count vs) most && items_are types vs of)) 1 s (Some numbers) h second_shape))

  -- a value of a sequence type is a sequence of it
  pub is_sequence : (v : Val) (s most of : ℕ) → HasType types v s → shape_at types s ≡ Some (sequence most of) → (xs : Vals) × (v ≡ items s xs) × IsTrue (nat_le (count xs) most && items_are types xs of)
  is_sequence (truth b) s most of h e =
      let t : Some (sequence most of) ≡ Some truths = sym e ∙ ap (shape_at types) (equal_numbers s 0 h) ∙ first_shape in absurd (cc)
  is_sequence (num z) s most of h e =
      let t : Some (sequence most of) ≡ Some numbers = sym e ∙ ap (shape_at types) (equal_numbers s 1 (and_parts (s == 1) (fits z) h).0) ∙ second_shape in
      absurd (cc)
  is_sequence (name o n) s most of h e = absurd (false≢true (told_by (λ x. is_name_of x n) s o (Some (sequence most of)) h e))
  is_sequence (tuple o vs) s most of h e =
      absurd (false≢true (told_by (λ x. of_fields x (λ tys. parts_are types vs tys)) s o (Some (sequence most of)) h e))
  is_sequence (items o vs) s most of h e =
      let test : Option Shape → Bool = λ x. of_sequence x (λ m t. nat_le (count vs) m && items_are types vs t) in
      (vs, ap (λ k. items k vs) (sym (equal_numbers s o (and_parts (s == o) (test (shape_at types o)) h).0)), told_by test s o (Some (sequence most of)) h e)

  -- a value of a tuple type is a tuple of it
  pub is_tuple : (v : Val) (s : ℕ) (fs : List TupleField) → HasType types v s → shape_at types s ≡ Some (fields fs) → (xs : Vals) × (v ≡ tuple s xs) × IsTrue (parts_are types xs (types_of fs))
  is_tuple (truth b) s fs h e =
      let t : Some (fields fs) ≡ Some truths = sym e ∙ ap (shape_at types) (equal_numbers s 0 h) ∙ first_shape in absurd (cc)
  is_tuple (num z) s fs h e =
      let t : Some (fields fs) ≡ Some numbers = sym e ∙ ap (shape_at types) (equal_numbers s 1 (and_parts (s == 1) (fits z) h).0) ∙ second_shape in
      absurd (cc)
  is_tuple (name o n) s fs h e = absurd (false≢true (told_by (λ x. is_name_of x n) s o (Some (fields fs)) h e))
  is_tuple (items o vs) s fs h e =
      absurd (false≢true (told_by (λ x. of_sequence x (λ m t. nat_le (count vs) m && items_are types vs t)) s o (Some (fields fs)) h e))
  is_tuple (tuple o vs) s fs h e =
      let test : Option Shape → Bool = λ x. of_fields x (λ tys. parts_are types vs tys) in
      (vs, ap (λ k. tuple k vs) (sym (equal_numbers s o (and_parts (s == o) (test (shape_at types o)) h).0)), told_by test s o (Some (fields fs)) h e)
