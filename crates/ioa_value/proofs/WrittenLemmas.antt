-- The one spelling of values is a spelling of them.
use Rattle.std.proofs.Common.{◌≡◌, ℕ, zero, suc, ◌+◌, ◌<◌, ◌≤◌, ◌^◌, Bool, true, false, ◌&&◌, ◌==◌, nat_le, pos, negsuc, neg_ℤ, IsTrue, List, [], ◌∷◌, ◌++◌, map, take, length, get_or, All, codes, refl, sym, ap, ◌∙◌, append_assoc, append-nil, arith, inl, inr}
use Rattle.std.specs.Fmt.{decimal}
use Rattle.std.proofs.lemmas.Fmt.{decimal_is_IsNumeral}
use Rattle.std.proofs.lemmas.Bool.{and_parts, false≢true}
use Rattle.std.proofs.lemmas.Bool.Decides.{nat_tests}
use Rattle.std.proofs.lemmas.List.Elements.{All-head, All-tail}
use Rattle.ioa_value.specs.declared.value.Value.{Value}
use Rattle.ioa_arithmetic.specs.Arithmetic.{fits}
use Rattle.ioa_value.specs.Plain.{Val, Vals, truth, num, name, tuple, items, none, more, vals, count, plain, plain_all}
use Rattle.ioa_value.specs.Table.{Table, shape_at, type_name, constant_name}
use Rattle.ioa_value.specs.Typing.{is_of, parts_are, items_are}
use Rattle.ioa_value.specs.Actions.{Act}
use Rattle.ioa_value.specs.Names.{IsName}
use Rattle.ioa_value.specs.Written.{written_value, written_row, written_after, written_values, written_action}
use Rattle.ioa_value.specs.Reads.{Padded, Spells, SpellsRow, SpellsAfter, IsTyped, ReadsArguments, Reads}
use Rattle.ioa_value.proofs.PlainLemmas.{put_last, plain_all-last}
use Rattle.ioa_value.proofs.ItemLemmas.{take_item}
use Rattle.ioa_value.proofs.CompleteLemmas.{fields_of, sequence_of}

-- ---- what is written is read

bare : (w : List ℕ) → Padded w w
bare w = ([], [], refl, refl, sym (append-nil w))

-- a blank in front
padded : (w text : List ℕ) → Padded w text → Padded w (32 ∷ text)
padded w text (before, after, b, a, e) = (32 ∷ before, after, b, a, ap (λ l. 32 ∷ l) e)

spaced : (types : Table) (text : List ℕ) (v : Val) → Spells types text v → Spells types (32 ∷ text) v
spaced types text (truth true) p = padded (codes "true") text p
spaced types text (truth false) p = padded (codes "false") text p
spaced types text (num z) (w, s, p) = (w, s, padded w text p)
spaced types text (name own n) p = padded (constant_name types own n) text p
spaced types text (tuple own vs) (head, row, p, m, e) = (32 ∷ head, row, padded (type_name types own) head p, m, ap (λ l. 32 ∷ l) e)
spaced types text (items own vs) (head, row, p, m, e) = (32 ∷ head, row, padded (type_name types own) head p, m, ap (λ l. 32 ∷ l) e)

small : (n : ℕ) → IsTrue (fits (pos n)) → n < 2 ^ 64
small n h = grind (arith, nat_tests)

small_suc : (n : ℕ) → IsTrue (fits (negsuc n)) → suc n < 2 ^ 64
small_suc n h = grind (arith, nat_tests)

-- each value is one of some type's
abbrev EachTyped : Table → Vals → Type 0
EachTyped types none = Unit {0}
EachTyped types (more v vs) = IsTyped types v × EachTyped types vs

parts_typed : (types : Table) (vs : Vals) (tys : List ℕ) → parts_are types vs tys ≡ true → EachTyped types vs
parts_typed types none tys h = tt
parts_typed types (more v vs) [] h = absurd (cc)
parts_typed types (more v vs) (ty ∷ tys) h =
    let p = and_parts (is_of types v ty) (parts_are types vs tys) h in
    ((ty, p.0), parts_typed types vs tys p.1)

items_typed : (types : Table) (vs : Vals) (ty : ℕ) → items_are types vs ty ≡ true → EachTyped types vs
items_typed types none ty h = tt
items_typed types (more v vs) ty h =
    let p = and_parts (is_of types v ty) (items_are types vs ty) h in
    ((ty, p.0), items_typed types vs ty p.1)

list_typed : (types : Table) (vs : List Val) → All (IsTyped types) vs → EachTyped types (vals vs)
list_typed types [] h = tt
list_typed types (v ∷ vs) h = (All-head (IsTyped types) v vs h, list_typed types vs (All-tail (IsTyped types) v vs h))

mutual
  value_written : (types : Table) (v : Val) → IsTyped types v → Spells types (written_value types v) v
  value_written types (truth true) t = bare (codes "true")
  value_written types (truth false) t = bare (codes "false")
  value_written types (num (pos n)) t =
      let d = decimal_is_IsNumeral n (small n (and_parts (t.0 == 1) (fits (pos n)) t.1).1) in
      (decimal n, (decimal n, d.0, inl (refl, ap pos (sym d.1))), bare (decimal n))
  value_written types (num (negsuc n)) t =
      let d = decimal_is_IsNumeral (suc n) (small_suc n (and_parts (t.0 == 1) (fits (negsuc n)) t.1).1) in
      (45 ∷ decimal (suc n), (decimal (suc n), d.0, inr (refl, ap (λ k. neg_ℤ (pos k)) (sym d.1))), bare (45 ∷ decimal (suc n)))
  value_written types (name own n) t = bare (constant_name types own n)
  value_written types (tuple own vs) t =
      let q = and_parts (t.0 == own) _ t.1 in
      let o = fields_of (shape_at types own) (λ tys. parts_are types vs tys) q.1 in
      (type_name types own, written_row types vs ++ 41 ∷ [], bare (type_name types own), row_written types vs 41 (parts_typed types vs _ o.passes), refl)
  value_written types (items own vs) t =
      let q = and_parts (t.0 == own) _ t.1 in
      let o = sequence_of (shape_at types own) (λ most of. nat_le (count vs) most && items_are types vs of) q.1 in
      let r = and_parts (nat_le (count vs) o.most) (items_are types vs o.of) o.passes in
      (type_name types own, written_row types vs ++ 93 ∷ [], bare (type_name types own), row_written types vs 93 (items_typed types vs o.of r.1), refl)

  row_written : (types : Table) (vs : Vals) (close : ℕ) → EachTyped types vs → SpellsRow types close (written_row types vs ++ close ∷ []) vs
  row_written types none close h = ([], [], refl, refl, refl)
  row_written types (more v vs) close h = (
    written_value types v,
    written_after types vs ++ close ∷ [],
    value_written types v h.0,
    after_written types vs close h.1,
    append_assoc (written_value types v) (written_after types vs) (close ∷ []),
  )

  after_written : (types : Table) (vs : Vals) (close : ℕ) → EachTyped types vs → SpellsAfter types close (written_after types vs ++ close ∷ []) vs
  after_written types none close h = ([], refl, refl)
  after_written types (more v vs) close h =
      let w = written_value types v in (
        32 ∷ w,
        written_after types vs ++ close ∷ [],
        spaced types w v (value_written types v h.0),
        after_written types vs close h.1,
        ap (λ l. 44 ∷ 32 ∷ l) (append_assoc w (written_after types vs) (close ∷ [])),
      )

arguments_written : (types : Table) (vs : List Val) → All (IsTyped types) vs → ReadsArguments types (written_values types vs) vs
arguments_written types [] h = refl
arguments_written types (v ∷ vs) h =
    (written_row types (vals (v ∷ vs)) ++ 41 ∷ [], (row_written types (vals (v ∷ vs)) 41 (list_typed types (v ∷ vs) h), h), refl)

pub written_read : (types : Table) (a : Act) → IsName a.name → All (IsTyped types) a.vals → Reads types (written_action types a) a
unfolding Reads written_action
written_read types a n h = (n, (a.name, written_values types a.vals, bare a.name, arguments_written types a.vals h, refl))

-- ---- values one after the other

after_put : (types : Table) (vs : Vals) (v : Val) → written_after types (put_last vs v) ≡ written_after types vs ++ (codes ", " ++ written_value types v)
after_put types none v = ap (λ l. codes ", " ++ l) (append-nil (written_value types v))
after_put types (more u vs) v =
    ap (λ l. codes ", " ++ (written_value types u ++ l)) (after_put types vs v)
    ∙ sym (ap (λ l. codes ", " ++ l) (append_assoc (written_value types u) (written_after types vs) (codes ", " ++ written_value types v)))

row_put : (types : Table) (u : Val) (vs : Vals) (v : Val) → written_row types (put_last (more u vs) v) ≡ written_row types (more u vs) ++ (codes ", " ++ written_value types v)
row_put types u vs v =
    ap (λ l. written_value types u ++ l) (after_put types vs v) ∙ sym (append_assoc (written_value types u) (written_after types vs) (codes ", " ++ written_value types v))

-- the first value of a row
pub row_first : (types : Table) (xs : List Value) (i : ℕ) (x : Value) (s t u : List ℕ) → i < length xs → x ≡ get_or xs i x → i ≤ 0 → t ≡ s ++ written_row types (plain_all (take i xs)) → u ≡ t ++ written_value types (plain x)
    → u ≡ s ++ written_row types (plain_all (take (i + 1) xs))
row_first types xs zero x s t u lt e le h k =
    k ∙ ap (λ l. l ++ written_value types (plain x)) (h ∙ append-nil s) ∙ ap (λ l. s ++ l) (sym (append-nil (written_value types (plain x))) ∙ sym (ap (λ l. written_row types (plain_all l)) (take_item xs zero x lt e)))
row_first types xs (suc i) x s t u lt e le h k = absurd (omega (arith, le))

-- a later one
pub row_later : (types : Table) (xs : List Value) (i : ℕ) (x : Value) (s t m u : List ℕ) → i < length xs → x ≡ get_or xs i x → 0 < i → t ≡ s ++ written_row types (plain_all (take i xs)) → m ≡ t ++ codes ", " → u ≡ m ++ written_value types (plain x)
    → u ≡ s ++ written_row types (plain_all (take (i + 1) xs))
row_later types [] i x s t m u lt e late h j k = absurd (omega (arith, lt))
row_later types (y ∷ ys) zero x s t m u lt e late h j k = absurd (omega (arith, late))
row_later types (y ∷ ys) (suc i) x s t m u lt e late h j k =
    let w = written_value types (plain x) in
    let before = written_row types (plain_all (y ∷ take i ys)) in
    let row : written_row types (plain_all (take (suc i + 1) (y ∷ ys))) ≡ before ++ (codes ", " ++ w) =
    ap (λ l. written_row types (plain_all l)) (take_item (y ∷ ys) (suc i) x lt e) ∙ ap (written_row types) (plain_all-last (y ∷ take i ys) x) ∙ row_put types (plain y) (plain_all (take i ys)) (plain x) in
    k ∙ ap (λ l. l ++ w) (j ∙ ap (λ l. l ++ codes ", ") h) ∙ append_assoc (s ++ before) (codes ", ") w ∙ append_assoc s before (codes ", " ++ w) ∙ ap (λ l. s ++ l) (sym row)

-- a name, and a row between marks
pub enclosed : (s n o r c a b d e : List ℕ) → a ≡ s ++ n → b ≡ a ++ o → d ≡ b ++ r → e ≡ d ++ c → e ≡ s ++ (n ++ (o ++ (r ++ c)))
enclosed s n o r c a b d e p q x y =
    y ∙ ap (λ l. l ++ c) (x ∙ ap (λ l. l ++ r) (q ∙ ap (λ l. l ++ o) p)) ∙ append_assoc ((s ++ n) ++ o) r c ∙ append_assoc (s ++ n) o (r ++ c) ∙ append_assoc s n (o ++ (r ++ c))

plain_vals : (xs : List Value) → plain_all xs ≡ vals (map plain xs)
plain_vals [] = refl
plain_vals (x ∷ xs) = ap (more (plain x)) (plain_vals xs)

-- one value or more in parentheses
pub values_written : (types : Table) (xs : List Value) → 0 < length xs → codes "(" ++ (written_row types (plain_all xs) ++ codes ")") ≡ written_values types (map plain xs)
values_written types [] h = absurd (omega (arith, h))
values_written types (x ∷ xs) h = ap (λ vs. codes "(" ++ (written_row types vs ++ codes ")")) (plain_vals (x ∷ xs))

pub some_there : {X : Type 0} (xs : List X) (r : Bool) → r ≡ false → r ≡ (length xs == 0) → 0 < length xs
some_there [] r e f = absurd (false≢true (sym e ∙ f))
some_there (x ∷ xs) r e f = omega arith
