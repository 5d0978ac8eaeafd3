-- Values, read and spelled, each by its type.
use Rattle.std.proofs.Common.{◌≡◌, ℕ, zero, suc, ◌^◌, ◌<◌, ◌≤◌, Bool, true, false, ◌&&◌, ◌==◌, nat_le, nat_lt, List, [], ◌∷◌, ◌++◌, length, Option, Some, None, refl, sym, ap, ◌∙◌, subst, Ok, All, arith, inl, inr}
use Rattle.std.specs.Option.{option_map}
use Rattle.std.specs.List.{flat_map}
use Rattle.std.proofs.lemmas.Bool.{leb-true, lt-ltb, ltb-true, and_parts, and_from, false≢true, cases_lt}
use Rattle.std.proofs.lemmas.Option.{slice_get_past}
use Rattle.std.proofs.lemmas.List.{append_assoc, append-nil}
use Rattle.std.proofs.lemmas.List.Elements.{All-nil, All-cons, All-head, All-tail}
use Rattle.ioa_arithmetic.specs.Arithmetic.{fits}
use Rattle.ioa_value.specs.Plain.{Val, truth, num, name, tuple, items, vals, listed, count}
use Rattle.ioa_value.specs.Table.{Table, TupleField, Shape, truths, numbers, names, fields, sequence, shape_at, types_of, MayStand, AreTypes}
use Rattle.ioa_value.specs.Typing.{is_name_of, of_fields, of_sequence, is_of, parts_are, items_are, HasType, HaveTypes, own}
use Rattle.ioa_value.proofs.ItemLemmas.{item_there}
use Rattle.ioa_value.proofs.PlainLemmas.{vals-listed}
use Rattle.ioa_value.proofs.SameLemmas.{equal, equal_numbers}
use Rattle.ioa_value.proofs.TableLemmas.{stands}
use Rattle.ioa_value.proofs.TypingLemmas.{IsOwn, is_truth, is_number, has_own, own_type}
use Rattle.ioa_value.proofs.SequenceTyping.{AreItems, sequence_typed, made_typed, sequence_parts, tuple_parts}
use Rattle.ioa_bytes.specs.Items.{Reader, ◌>>◌, right, built, list_at, truth_at, long_at, constant_at, parts_at, payload_shaped, payload_in, value_at}
use Rattle.ioa_object.specs.Spelling.{short, bit, payload, payloads, value, list_of}
use Rattle.ioa_bytes.specs.Spots.{Spot}
use Rattle.ioa_object.proofs.Formats.{AreBytes, Finds, finds_ok, finds_on, finds_right, finds_built, Yields, yields_ok, yields_on, yields_right, yields_weaker, IsFormat, same_format, chained}
use Rattle.ioa_object.proofs.Numbers.{IsLong, byte_format, long_format, type_format}
use Rattle.ioa_object.proofs.TypeFormats.{two_types}
use Rattle.ioa_object.proofs.Lists.{AreListed, plain_list_format}

payloads-vals : (vs : List Val) → payloads (vals vs) ≡ flat_map payload vs
payloads-vals [] = refl
payloads-vals (v ∷ vs) = ap (λ l. payload v ++ l) (payloads-vals vs)

count-vals : (vs : List Val) → count (vals vs) ≡ length vs
count-vals [] = refl
count-vals (v ∷ vs) = ap suc (count-vals vs)

pub are_items : (types : Table) (of : ℕ) (vs : List Val) → All (λ v. HasType types v of) vs → AreItems types vs of
are_items types of [] h = refl
are_items types of (v ∷ vs) h =
    and_from (is_of types v of) (items_are types (vals vs) of) (All-head (λ v. HasType types v of) v vs h) (are_items types of vs (All-tail (λ v. HasType types v of) v vs h))

items_all : (types : Table) (of : ℕ) (vs : List Val) → AreItems types vs of → All (λ v. HasType types v of) vs
items_all types of [] h = All-nil (λ v. HasType types v of)
items_all types of (v ∷ vs) h =
    let p = and_parts (is_of types v of) (items_are types (vals vs) of) h in All-cons (λ v. HasType types v of) v vs p.0 (items_all types of vs p.1)

module _ (types : Table) (are : AreTypes types) where
  told_by : (test : Option Shape → Bool) (k s : ℕ) (o : Option Shape) → ((k == s) && test (shape_at types s)) ≡ true → shape_at types k ≡ o → test o ≡ true
  told_by test k s o h e =
      let p = and_parts (k == s) (test (shape_at types s)) h in
      ap test (sym e ∙ ap (shape_at types) (equal_numbers k s p.0)) ∙ p.1

  is_constant : (v : Val) (s : ℕ) (ns : List (List ℕ)) → HasType types v s → shape_at types s ≡ Some (names ns) → (n : ℕ) × (v ≡ name s n) × (n < length ns)
  is_constant (truth b) s ns h e =
      let t : Some (names ns) ≡ Some truths = sym e ∙ ap (shape_at types) (equal_numbers s 0 h) ∙ ap (option_map (λ d. d.shape)) are.first in absurd (cc)
  is_constant (num z) s ns h e =
      let t : Some (names ns) ≡ Some numbers = sym e ∙ ap (shape_at types) (equal_numbers s 1 (and_parts (s == 1) (fits z) h).0) ∙ ap (option_map (λ d. d.shape)) are.second in
      absurd (cc)
  is_constant (name o n) s ns h e =
      (n, ap (λ k. name k n) (sym (equal_numbers s o (and_parts (s == o) (is_name_of (shape_at types o) n) h).0)), ltb-true n (length ns) (told_by (λ x. is_name_of x n) s o (Some (names ns)) h e))
  is_constant (tuple o vs) s ns h e =
      absurd (false≢true (told_by (λ x. of_fields x (λ tys. parts_are types vs tys)) s o (Some (names ns)) h e))
  is_constant (items o vs) s ns h e =
      absurd (false≢true (told_by (λ x. of_sequence x (λ most of. nat_le (count vs) most && items_are types vs of)) s o (Some (names ns)) h e))

  -- the value is one of the type
  abbrev pub IsOf : ℕ → Val → Type 0
  IsOf ty v = HasType types v ty

  truth_format : IsFormat truth_at payload (IsOf 0)
  unfolding truth_at
  truth_format = record {
    finds = λ v h c more e.
        let b = is_truth types are v h in
        finds_on _ _ _ _ _ _ (byte_format.finds (bit b.0) tt c more (e ∙ ap (λ v. payload v ++ more) b.1)) (λ d at. bits b.0 v b.1 c d more at);
    yields = λ c bytes. yields_on _ _ _ _ (byte_format.yields c bytes) (λ n d h. yields_right (nat_le n 1) _ _ _ (λ low.
        yields_ok _ d _ (record { fine = refl; front = h.front ∙ ap (λ m. m ∷ d.rest) (sym (bit_of n (leb-true n 1 low))); after = h.after })));
  }
    where
      bit_of : (n : ℕ) → n ≤ 1 → bit (n == 1) ≡ n
      bit_of zero h = refl
      bit_of (suc zero) h = refl
      bit_of (suc (suc n)) h = absurd (omega arith)

      bits : (b : Bool) (v : Val) → v ≡ truth b → (c d : Spot) (more : List ℕ) → d.rest ≡ more → Finds (right (nat_le (bit b) 1) c.place >> Ok (truth (bit b == 1), d)) v more
      bits true v e c d more at = subst (λ (v : Val). Finds (Ok (truth true, d)) v more) (sym e) (finds_ok (truth true) d more at)
      bits false v e c d more at = subst (λ (v : Val). Finds (Ok (truth false, d)) v more) (sym e) (finds_ok (truth false) d more at)

  constant_format : (s : ℕ) (ns : List (List ℕ)) → shape_at types s ≡ Some (names ns) → IsFormat (constant_at s (length ns)) payload (IsOf s)
  unfolding constant_at
  constant_format s ns at = record {
    finds = λ v h c more e.
        let (n, is, less) = is_constant v s ns h at in
        finds_on _ _ _ _ _ _ (byte_format.finds n tt c more (e ∙ ap (λ v. payload v ++ more) is))
        (λ d left. finds_right _ _ _ _ _ (lt-ltb n (length ns) less) (subst (λ (v : Val). Finds (Ok (name s n, d)) v more) (sym is) (finds_ok (name s n) d more left)));
    yields = λ c bytes. yields_on _ _ _ _ (byte_format.yields c bytes) (λ n d h. yields_right (nat_lt n (length ns)) _ _ _ (λ less.
        yields_ok _ d _ (record { fine = and_from (s == s) (is_name_of (shape_at types s) n) (equal s s refl) (ap (λ o. is_name_of o n) at ∙ less); front = h.front; after = h.after })));
  }

  -- ---- parts and items, by what reads values of earlier types

  module _ (inner : ℕ → Reader Val) (n : ℕ) (each : (ty : ℕ) → ty < n → IsFormat (inner ty) payload (IsOf ty)) where
    parts_find : (tys : List ℕ) → All (λ t. t < n) tys → (before vs : List Val) → HaveTypes types vs tys → (c : Spot) (more : List ℕ)
        → c.rest ≡ flat_map payload vs ++ more → Finds (parts_at inner before tys c) (before ++ vs) more
    unfolding parts_at
    parts_find [] early before [] h c more e = subst (λ (ws : List Val). Finds (Ok (before, c)) ws more) (sym (append-nil before)) (finds_ok before c more e)
    parts_find [] early before (v ∷ vs) h c more e = absurd h
    parts_find (ty ∷ tys) early before [] h c more e = absurd h
    parts_find (ty ∷ tys) early before (v ∷ vs) h c more e =
        subst (λ (ws : List Val). Finds (parts_at inner before (ty ∷ tys) c) ws more) (append_assoc before (v ∷ []) vs)
        (finds_on _ _ _ _ _ _ ((each ty (All-head (λ t. t < n) ty tys early)).finds v h.0 c (flat_map payload vs ++ more) (e ∙ append_assoc (payload v) (flat_map payload vs) more))
        (λ d at. parts_find tys (All-tail (λ t. t < n) ty tys early) (before ++ v ∷ []) vs h.1 d more at))

    -- the parts that come behind
    record Parts (bytes : List ℕ) (tys : List ℕ) (before all : List Val) (rest : List ℕ) : Type 0 where
      found : List Val
      is : all ≡ before ++ found
      fine : HaveTypes types found tys
      front : bytes ≡ flat_map payload found ++ rest
      after : AreBytes rest

    parts_yield : (tys : List ℕ) → All (λ t. t < n) tys → (before : List Val) (c : Spot) → AreBytes c.rest → Yields (parts_at inner before tys c) (Parts c.rest tys before)
    unfolding parts_at
    parts_yield [] early before c bytes = yields_ok before c _ (record { found = []; is = sym (append-nil before); fine = tt; front = refl; after = bytes })
    parts_yield (ty ∷ tys) early before c bytes = yields_on _ _ _ _ ((each ty (All-head (λ t. t < n) ty tys early)).yields c bytes) (λ v d t.
        yields_weaker _ _ _ (parts_yield tys (All-tail (λ t. t < n) ty tys early) (before ++ v ∷ []) d t.after) (λ all rest b. record {
          found = v ∷ b.found;
          is = b.is ∙ append_assoc before (v ∷ []) b.found;
          fine = (t.fine, b.fine);
          front = chained c.rest (payload v) d.rest (flat_map payload b.found) rest t.front b.front;
          after = b.after;
        }))

    tuple_format : (s : ℕ) (fs : List TupleField) → shape_at types s ≡ Some (fields fs) → All (λ t. t < n) (types_of fs)
        → IsFormat (λ c. built (λ vs. tuple s (vals vs)) (parts_at inner [] (types_of fs) c)) payload (IsOf s)
    tuple_format s fs at early = record {
      finds = λ v h c more e.
          let (xs, is, typed) = tuple_parts types are v s fs h at in
          let same : tuple s (vals (listed xs)) ≡ v = ap (λ x. tuple s x) (vals-listed xs) ∙ sym is in
          let spelled : payload v ≡ flat_map payload (listed xs) = ap payload (sym same) ∙ payloads-vals (listed xs) in
          subst (λ (v : Val). Finds (built (λ vs. tuple s (vals vs)) (parts_at inner [] (types_of fs) c)) v more) same
          (finds_built _ _ _ _ (parts_find (types_of fs) early [] (listed xs) typed c more (e ∙ ap (λ l. l ++ more) spelled)));
      yields = λ c bytes. yields_on _ _ _ _ (parts_yield (types_of fs) early [] c bytes) (λ vs d h. yields_ok _ d _ (record {
        fine = made_typed types vs s fs at (subst (λ (ws : List Val). HaveTypes types ws (types_of fs)) (sym h.is) h.fine);
        front = h.front ∙ ap (λ ws. flat_map payload ws ++ d.rest) (sym h.is) ∙ ap (λ l. l ++ d.rest) (sym (payloads-vals vs));
        after = h.after;
      }));
    }

    items_format : (s most of : ℕ) → shape_at types s ≡ Some (sequence most of) → most < 2 ^ 16 → of < n
        → IsFormat (λ c. built (λ vs. items s (vals vs)) (list_at 0 most (λ _. inner of) c)) payload (IsOf s)
    items_format s most of at fit early = record {
      finds = λ v h c more e.
          let (xs, is, fit_in) = sequence_parts types are v s most of h at in
          let same : items s (vals (listed xs)) ≡ v = ap (λ x. items s x) (vals-listed xs) ∙ sym is in
          let spelled : payload v ≡ list_of payload (listed xs) = ap payload (sym same) ∙ ap (λ n. short n ++ payloads (vals (listed xs))) (count-vals (listed xs)) ∙ ap (λ l. short (length (listed xs)) ++ l) (payloads-vals (listed xs)) in
          subst (λ (v : Val). Finds (built (λ vs. items s (vals vs)) (list_at 0 most (λ _. inner of) c)) v more) same
          (finds_built _ _ _ _ (listed_format.finds (listed xs) (record { some = omega arith; few = fit_in.0; fine = items_all types of (listed xs) fit_in.1 }) c more (e ∙ ap (λ l. l ++ more) spelled)));
      yields = λ c bytes. yields_on _ _ _ _ (listed_format.yields c bytes) (λ vs d h. yields_ok _ d _ (record {
        fine = sequence_typed types vs s most of at (h.fine.few, are_items types of vs h.fine.fine);
        front = h.front ∙ ap (λ l. l ++ d.rest) (ap (λ l. short (length vs) ++ l) (sym (payloads-vals vs)) ∙ ap (λ n. short n ++ payloads (vals vs)) (sym (count-vals vs)));
        after = h.after;
      }));
    }
      where
        listed_format : IsFormat (list_at 0 most (λ _. inner of)) (list_of payload) (AreListed 0 most (IsOf of))
        listed_format = plain_list_format (inner of) payload (IsOf of) 0 most fit (each of early)

    shaped_format : (shape : Shape) → shape_at types n ≡ Some shape → MayStand n shape → IsFormat (payload_shaped inner n (Some shape)) payload (IsOf n)
    shaped_format truths at may = record { finds = whole.finds; yields = whole.yields }
      where
        whole : IsFormat truth_at payload (IsOf n)
        whole = subst (λ (t : ℕ). IsFormat truth_at payload (IsOf t)) (sym may) truth_format
    shaped_format numbers at may = record { finds = whole.finds; yields = whole.yields }
      where
        whole : IsFormat long_at payload (IsOf n)
        whole = same_format long_at payload payload IsLong (IsOf n) long_format
            (λ v h. is_number types are v (subst (HasType types v) may h))
            (λ v h. subst (HasType types v) (sym may) (subst (λ (w : Val). HasType types w 1) (sym h.1) h.2))
            (λ v h. refl)
    shaped_format (names ns) at may = record { finds = (constant_format n ns at).finds; yields = (constant_format n ns at).yields }
    shaped_format (fields fs) at may = let whole = tuple_format n fs at may.2 in record { finds = whole.finds; yields = whole.yields }
    shaped_format (sequence most of) at may = let whole = items_format n most of at (omega (arith, may.1)) may.2 in record { finds = whole.finds; yields = whole.yields }

  -- ---- whole values

  shape_there : (s : ℕ) → s < length types → (shape : Shape) × (shape_at types s ≡ Some shape)
  shape_there s less = let d = item_there types s less in (d.0.shape, ap (option_map (λ d. d.shape)) d.1)

  pub payload_format : (n s : ℕ) → s < n → s < length types → IsFormat (payload_in n types s) payload (IsOf s)
  unfolding payload_in
  payload_format zero s less there = absurd (omega arith)
  payload_format (suc n) s less there =
      let (shape, at) = shape_there s there in
      let whole = shaped_format (λ t. payload_in n types t) s (λ t earlier. payload_format n t (omega arith) (omega arith)) shape at (stands types s shape are at) in
      subst (λ (o : Option Shape). IsFormat (payload_shaped (λ t. payload_in n types t) s o) payload (IsOf s)) (sym at) whole

  pub few_types : length types ≤ 2 ^ 16
  few_types = omega (arith, are.few)

  -- a type whose shape passes a test that none passes
  tested_there : (test : Option Shape → Bool) (s : ℕ) → test None ≡ false → test (shape_at types s) ≡ true → s < length types
  tested_there test s none some =
      elim (cases_lt s (length types)) [
        | inl less ↦ less
        | inr past ↦ absurd (false≢true (sym none ∙ ap (λ o. test (option_map (λ d. d.shape) o)) (sym (slice_get_past types s past)) ∙ some))
      ]

  own_there : (v : Val) → IsOwn types v → own v < length types
  own_there (truth b) h = omega (arith, two_types types are)
  own_there (num z) h = omega (arith, two_types types are)
  own_there (name s n) h = tested_there (λ o. is_name_of o n) s refl (and_parts (s == s) (is_name_of (shape_at types s) n) h).1
  own_there (tuple s vs) h =
      let test : Option Shape → Bool = λ o. of_fields o (λ tys. parts_are types vs tys) in
      tested_there test s refl (and_parts (s == s) (test (shape_at types s)) h).1
  own_there (items s vs) h =
      let test : Option Shape → Bool = λ o. of_sequence o (λ most of. nat_le (count vs) most && items_are types vs of) in
      tested_there test s refl (and_parts (s == s) (test (shape_at types s)) h).1

  pub value_format : IsFormat (value_at types) value (IsOwn types)
  unfolding value_at
  value_format = record {
    finds = λ v h c more e.
        finds_on _ _ _ _ _ _ ((type_format (length types) few_types).finds (own v) (own_there v h) c (payload v ++ more) (e ∙ append_assoc (short (own v)) (payload v) more))
        (λ d at. (payload_format (suc (own v)) (own v) (omega arith) (own_there v h)).finds v h d more at);
    yields = λ c bytes. yields_on _ _ _ _ ((type_format (length types) few_types).yields c bytes) (λ s d h.
        yields_weaker _ _ _ ((payload_format (suc s) s (omega arith) h.fine).yields d h.after) (λ v rest k.
        let same : own v ≡ s = own_type types v s k.fine in
        record {
          fine = has_own types v s k.fine;
          front = chained c.rest (short (own v)) d.rest (payload v) rest (h.front ∙ ap (λ t. short t ++ d.rest) (sym same)) k.front;
          after = k.after;
        }));
  }
