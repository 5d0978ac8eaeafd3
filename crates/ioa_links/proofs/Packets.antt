-- The values of positions: numbers, packets and constants.
use Rattle.std.proofs.Common.{◌≡◌, ℕ, ◌==◌, nat_le, ◌&&◌, ℤ, true, false, IsTrue, List, [], ◌∷◌, refl, sym, ap, subst}
use Rattle.std.proofs.lemmas.Bool.{and_parts}
use Rattle.ioa_value.specs.Plain.{Val, Vals, truth, num, name, tuple, items, none, more, count}
use Rattle.ioa_value.specs.Table.{shape_at}
use Rattle.ioa_value.specs.Typing.{is_of, parts_are, items_are, is_name_of, of_fields, of_sequence}
use Rattle.ioa_value.specs.Same.{same}
use Rattle.ioa_value.proofs.SameLemmas.{equal_numbers, same_equal}
use Rattle.ioa_links.proofs.Rules.{types, is_int, is_packet, positions_have, constant, an_int, a_packet}

pub int_is : (v : Val) → is_int v ≡ true → (z : ℤ) × (v ≡ num z)
int_is (num z) h = (z, refl)
int_is (truth b) h = absurd (cc)
int_is (name ty n) h = let e : 1 ≡ ty = equal_numbers 1 ty (and_parts (1 == ty) (is_name_of (shape_at types ty) n) h).0 in absurd (name_no ty n e h)
  where
    name_no : (ty n : ℕ) → 1 ≡ ty → ((1 == ty) && is_name_of (shape_at types ty) n) ≡ true → ⊥
    name_no ty n e h = let k : false ≡ true = subst (λ t. ((1 == t) && is_name_of (shape_at types t) n) ≡ true) (sym e) h in absurd (cc)
int_is (tuple ty vs) h = let e : 1 ≡ ty = equal_numbers 1 ty (and_parts (1 == ty) (of_fields (shape_at types ty) (λ tys. parts_are types vs tys)) h).0 in absurd (tuple_no ty vs e h)
  where
    tuple_no : (ty : ℕ) (vs : Vals) → 1 ≡ ty → ((1 == ty) && of_fields (shape_at types ty) (λ tys. parts_are types vs tys)) ≡ true → ⊥
    tuple_no ty vs e h = let k : false ≡ true = subst (λ t. ((1 == t) && of_fields (shape_at types t) (λ tys. parts_are types vs tys)) ≡ true) (sym e) h in absurd (cc)
int_is (items ty vs) h =
    let e : 1 ≡ ty = equal_numbers 1 ty (and_parts (1 == ty) (of_sequence (shape_at types ty) (λ most of. nat_le (count vs) most && items_are types vs of)) h).0 in absurd (items_no ty vs e h)
  where
    items_no : (ty : ℕ) (vs : Vals) → 1 ≡ ty → ((1 == ty) && of_sequence (shape_at types ty) (λ most of. nat_le (count vs) most && items_are types vs of)) ≡ true → ⊥
    items_no ty vs e h =
        let k : false ≡ true = subst (λ t. ((1 == t) && of_sequence (shape_at types t) (λ most of. nat_le (count vs) most && items_are types vs of)) ≡ true) (sym e) h in absurd (cc)

kind_is : (v : Val) → is_of types v 2 ≡ true → (k : ℕ) × (v ≡ name 2 k)
kind_is (name ty n) h = (n, ap (λ t. name t n) (sym (equal_numbers 2 ty (and_parts (2 == ty) (is_name_of (shape_at types ty) n) h).0)))
kind_is (num z) h = absurd (cc)
kind_is (truth b) h = absurd (cc)
kind_is (tuple ty vs) h = let e : 2 ≡ ty = equal_numbers 2 ty (and_parts (2 == ty) (of_fields (shape_at types ty) (λ tys. parts_are types vs tys)) h).0 in absurd (tuple_no ty vs e h)
  where
    tuple_no : (ty : ℕ) (vs : Vals) → 2 ≡ ty → ((2 == ty) && of_fields (shape_at types ty) (λ tys. parts_are types vs tys)) ≡ true → ⊥
    tuple_no ty vs e h = let k : false ≡ true = subst (λ t. ((2 == t) && of_fields (shape_at types t) (λ tys. parts_are types vs tys)) ≡ true) (sym e) h in absurd (cc)
kind_is (items ty vs) h =
    let e : 2 ≡ ty = equal_numbers 2 ty (and_parts (2 == ty) (of_sequence (shape_at types ty) (λ most of. nat_le (count vs) most && items_are types vs of)) h).0 in absurd (items_no ty vs e h)
  where
    items_no : (ty : ℕ) (vs : Vals) → 2 ≡ ty → ((2 == ty) && of_sequence (shape_at types ty) (λ most of. nat_le (count vs) most && items_are types vs of)) ≡ true → ⊥
    items_no ty vs e h =
        let k : false ≡ true = subst (λ t. ((2 == t) && of_sequence (shape_at types t) (λ most of. nat_le (count vs) most && items_are types vs of)) ≡ true) (sym e) h in absurd (cc)

abbrev pub made : ℕ → ℤ → ℤ → ℤ → Val
made k t i m = tuple 3 (more (name 2 k) (more (num t) (more (num i) (more (num m) none))))

pub record IsMade (p : Val) : Type 0 where
  pub kind : ℕ
  pub tag : ℤ
  pub id : ℤ
  pub message : ℤ
  pub is : p ≡ made kind tag id message

one_part : (vs : Vals) (ty : ℕ) (tys : List ℕ) → parts_are types vs (ty ∷ tys) ≡ true
    → (v : Val) × (rest : Vals) × (vs ≡ more v rest) × (is_of types v ty ≡ true) × (parts_are types rest tys ≡ true)
one_part none ty tys h = absurd (cc)
one_part (more v vs) ty tys h = let k = and_parts (is_of types v ty) (parts_are types vs tys) h in (v, vs, refl, k.0, k.1)

no_part : (vs : Vals) → parts_are types vs [] ≡ true → vs ≡ none
no_part none h = refl
no_part (more v vs) h = absurd (cc)

joined : (ty : ℕ) (vs r0 r1 r2 r3 : Vals) (v0 v1 v2 v3 : Val) (k : ℕ) (t i m : ℤ) → 3 ≡ ty → vs ≡ more v0 r0 → r0 ≡ more v1 r1 → r1 ≡ more v2 r2 → r2 ≡ more v3 r3 → r3 ≡ none
    → v0 ≡ name 2 k → v1 ≡ num t → v2 ≡ num i → v3 ≡ num m → tuple ty vs ≡ made k t i m
joined ty vs r0 r1 r2 r3 v0 v1 v2 v3 k t i m e e0 e1 e2 e3 e4 f0 f1 f2 f3 = cc

tuple_is : (ty : ℕ) (vs : Vals) → 3 ≡ ty → parts_are types vs (2 ∷ 1 ∷ 1 ∷ 1 ∷ []) ≡ true → IsMade (tuple ty vs)
tuple_is ty vs e h =
    let a = one_part vs 2 (1 ∷ 1 ∷ 1 ∷ []) h in
    let b = one_part a.1 1 (1 ∷ 1 ∷ []) a.4 in
    let c = one_part b.1 1 (1 ∷ []) b.4 in
    let d = one_part c.1 1 [] c.4 in
    let k = kind_is a.0 a.3 in let t = int_is b.0 b.3 in let i = int_is c.0 c.3 in let m = int_is d.0 d.3 in
    record {
      kind = k.0;
      tag = t.0;
      id = i.0;
      message = m.0;
      is = joined ty vs a.1 b.1 c.1 d.1 a.0 b.0 c.0 d.0 k.0 t.0 i.0 m.0 e a.2 b.2 c.2 d.2 (no_part d.1 d.4) k.1 t.1 i.1 m.1;
    }

pub packet_is : (p : Val) → is_packet p ≡ true → IsMade p
packet_is (tuple ty vs) h =
    let k = and_parts (3 == ty) (of_fields (shape_at types ty) (λ tys. parts_are types vs tys)) h in
    let e : 3 ≡ ty = equal_numbers 3 ty k.0 in
    tuple_is ty vs e (subst (λ t. of_fields (shape_at types t) (λ tys. parts_are types vs tys) ≡ true) (sym e) k.1)
packet_is (num z) h = absurd (cc)
packet_is (truth b) h = absurd (cc)
packet_is (name ty n) h = let e : 3 ≡ ty = equal_numbers 3 ty (and_parts (3 == ty) (is_name_of (shape_at types ty) n) h).0 in absurd (name_no ty n e h)
  where
    name_no : (ty n : ℕ) → 3 ≡ ty → ((3 == ty) && is_name_of (shape_at types ty) n) ≡ true → ⊥
    name_no ty n e h = let k : false ≡ true = subst (λ t. ((3 == t) && is_name_of (shape_at types t) n) ≡ true) (sym e) h in absurd (cc)
packet_is (items ty vs) h =
    let e : 3 ≡ ty = equal_numbers 3 ty (and_parts (3 == ty) (of_sequence (shape_at types ty) (λ most of. nat_le (count vs) most && items_are types vs of)) h).0 in absurd (items_no ty vs e h)
  where
    items_no : (ty : ℕ) (vs : Vals) → 3 ≡ ty → ((3 == ty) && of_sequence (shape_at types ty) (λ most of. nat_le (count vs) most && items_are types vs of)) ≡ true → ⊥
    items_no ty vs e h =
        let k : false ≡ true = subst (λ t. ((3 == t) && of_sequence (shape_at types t) (λ most of. nat_le (count vs) most && items_are types vs of)) ≡ true) (sym e) h in absurd (cc)

-- ---- the values of an action, by the positions of its entry

pub bare : (P : List Val → Type 0) (vs : List Val) → IsTrue (positions_have [] vs) → P [] → P vs
bare P [] h k = k
bare P (v ∷ vs) h k = absurd (cc)

pub one_int : (P : List Val → Type 0) (vs : List Val) → IsTrue (positions_have (an_int ∷ []) vs) → ((z : ℤ) → P (num z ∷ [])) → P vs
one_int P [] h k = absurd (cc)
one_int P (v ∷ []) h k = let z = int_is v (and_parts (is_int v) true h).0 in subst (λ x. P (x ∷ [])) (sym z.1) (k z.0)
one_int P (v ∷ w ∷ vs) h k = let no : false ≡ true = (and_parts (is_int v) false h).1 in absurd (cc)

pub one_place : (c : Val) (P : List Val → Type 0) (vs : List Val) → IsTrue (positions_have (constant c ∷ []) vs) → P (c ∷ []) → P vs
one_place c P [] h k = absurd (cc)
one_place c P (v ∷ []) h k = subst (λ x. P (x ∷ [])) (same_equal c v (and_parts (same c v) true h).0) k
one_place c P (v ∷ w ∷ vs) h k = let no : false ≡ true = (and_parts (same c v) false h).1 in absurd (cc)

pub one_packet : (c : Val) (P : List Val → Type 0) (vs : List Val) → IsTrue (positions_have (constant c ∷ a_packet ∷ []) vs)
    → ((k : ℕ) (t i m : ℤ) → P (c ∷ made k t i m ∷ [])) → P vs
one_packet c P [] h k = absurd (cc)
one_packet c P (v ∷ []) h k = let no : false ≡ true = (and_parts (same c v) false h).1 in absurd (cc)
one_packet c P (v ∷ p ∷ []) h k =
    let e = and_parts (same c v) (is_packet p && true) h in
    let d = packet_is p (and_parts (is_packet p) true e.1).0 in
    subst (λ x. P (x ∷ p ∷ [])) (same_equal c v e.0) (subst (λ x. P (c ∷ x ∷ [])) (sym d.is) (k d.kind d.tag d.id d.message))
one_packet c P (v ∷ p ∷ w ∷ vs) h k =
    let e = and_parts (same c v) (is_packet p && false) h in
    let no : false ≡ true = (and_parts (is_packet p) false e.1).1 in
    absurd (cc)
