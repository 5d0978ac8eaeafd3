-- Bytes and numbers, read and spelled.
use Rattle.std.proofs.Common.{◌≡◌, ℕ, suc, ◌+◌, ◌-◌, ◌^◌, ◌<◌, ◌≤◌, Bool, true, false, nat_lt, nat_le, ℤ, pos, negsuc, List, [], ◌∷◌, ◌++◌, length, get_or, take, drop, refl, sym, ap, ◌∙◌, subst, arith, inl, inr}
use Rattle.std.specs.Int.{w16, w64, to_le_bytes, from_le_bytes, cast_signed, cast_unsigned}
use mir.Val.{SFits, sel}
use Rattle.std.proofs.lemmas.Bool.{lt-ltb, ltb-true, ltb-false, le-ltb, le-leb, leb-true, and_parts, and_from, cases_lt}
use Rattle.std.proofs.lemmas.List.{length-append, length-take-le, take-append-drop, take_at, drop_at, get_or_past}
use Rattle.std.proofs.lemmas.Nat.{le_bytes_2, le_bytes_8, from_le_bytes-to_le_bytes_2, from_le_bytes-to_le_bytes_8}
use Rattle.std.proofs.lemmas.Int.{to_z-of_z, of_z-to_z}
use Rattle.ioa_arithmetic.specs.Arithmetic.{fits}
use Rattle.ioa_value.specs.Plain.{Val, num}
use Rattle.ioa_bytes.specs.Items.{built, bytes_at, byte_of, byte_at, short_at, long_at, count_at, type_at, passed}
use Rattle.ioa_object.specs.Spelling.{short, long, payload}
use Rattle.ioa_bytes.specs.Spots.{Spot}
use Rattle.ioa_object.proofs.Formats.{AreBytes, Finds, finds_ok, finds_on, finds_right, finds_built, Yields, yields_ok, yields_none, yields_on, yields_right, yields_if, Taken, IsFormat, taken, bytes_before}

abbrev pub IsAny : {A : Type 0} → A → Type 0
IsAny x = Unit {0}

pub bytes_format : (n : ℕ) → IsFormat (bytes_at n) (λ bs. bs) (λ bs. length bs ≡ n)
unfolding bytes_at
bytes_format n = record { finds = finds; yields = yields }
  where
    finds : (bs : List ℕ) → length bs ≡ n → (c : Spot) (more : List ℕ) → c.rest ≡ bs ++ more → Finds (bytes_at n c) bs more
    finds bs long c more e =
        let some : nat_lt (length c.rest) n ≡ false = le-ltb (length c.rest) n (omega (arith, ap length e, length-append bs more)) in
        let front : take n c.rest ≡ bs = ap (take n) e ∙ take_at bs more n long in
        let back : drop n c.rest ≡ more = ap (drop n) e ∙ drop_at bs more n long in
        rw (some, front) (finds_ok bs (passed n c) more back)

    yields : (c : Spot) → AreBytes c.rest → Yields (bytes_at n c) (Taken (λ bs. bs) (λ bs. length bs ≡ n) c.rest)
    yields c bytes = yields_if _ _ _ _ (λ few. yields_none _ _) (λ enough. yields_ok (take n c.rest) (passed n c) _
        (taken (λ bs. bs) (λ bs. length bs ≡ n) c.rest (take n c.rest) (drop n c.rest) bytes (sym (take-append-drop n c.rest)) (length-take-le n c.rest (ltb-false _ _ enough))))

pub byte_format : IsFormat byte_at (λ b. b ∷ []) IsAny
unfolding byte_at
byte_format = record {
  finds = λ b any c more e. subst (λ (bs : List ℕ). Finds (byte_of bs c) b more) (sym e) (finds_ok b (passed 1 c) more (ap (drop 1) e));
  yields = λ c bytes. go c.place c.parts c.rest bytes;
}
  where
    go : (place parts : ℕ) (bs : List ℕ) → AreBytes bs → Yields (byte_of bs (record { place = place; rest = bs; parts = parts })) (Taken (λ b. b ∷ []) IsAny bs)
    go place parts [] bytes = yields_none _ _
    go place parts (b ∷ bs) bytes = yields_ok b (record { place = place + 1; rest = bs; parts = parts }) _ (taken (λ b. b ∷ []) IsAny (b ∷ bs) b bs bytes refl tt)

-- bytes that are read in and past the list
each_byte : (bs : List ℕ) → AreBytes bs → (i : ℕ) → get_or bs i 0 < 256
each_byte bs h i = elim (cases_lt i (length bs)) [ inl less ↦ h i 0 less | inr past ↦ omega (arith, get_or_past bs i 0 past) ]

short_fits : (bs : List ℕ) → AreBytes bs → from_le_bytes w16 bs < 2 ^ 16
short_fits bs h = omega (arith, each_byte bs h 0, each_byte bs h 1)

pub short_format : IsFormat short_at short (λ n. n < 2 ^ 16)
unfolding short_at
short_format = record {
  finds = λ n fit c more e. subst (λ (m : ℕ). Finds (built (from_le_bytes w16) (bytes_at 2 c)) m more) (from_le_bytes-to_le_bytes_2 n fit) (finds_built (from_le_bytes w16) _ _ _ ((bytes_format 2).finds (short n) refl c more e));
  yields = λ c bytes. yields_on _ _ _ _ ((bytes_format 2).yields c bytes) (λ bs d h. yields_ok _ d _
      (let these : AreBytes bs = bytes_before bs d.rest c.rest bytes h.front in
      taken short (λ n. n < 2 ^ 16) c.rest (from_le_bytes w16 bs) d.rest bytes (h.front ∙ ap (λ l. l ++ d.rest) (sym (le_bytes_2 bs _ h.fine (each_byte bs these) refl))) (short_fits bs these)));
}

-- ---- whole numbers

signed_fits : (z : ℤ) → SFits w64 z → fits z ≡ true
signed_fits (pos n) h = lt-ltb n (2 ^ 63) h.sfits
signed_fits (negsuc n) h = lt-ltb n (2 ^ 63) h.sfits

fits_signed : (z : ℤ) → fits z ≡ true → SFits w64 z
fits_signed (pos n) h = record { sfits = ltb-true n (2 ^ 63) h }
fits_signed (negsuc n) h = record { sfits = ltb-true n (2 ^ 63) h }

cast_fits : (n : ℕ) → n < 2 ^ 64 → fits (cast_signed w64 n) ≡ true
cast_fits n less = go (nat_lt n (2 ^ 63)) refl
  where
    go : (b : Bool) → nat_lt n (2 ^ 63) ≡ b → fits (sel b (pos n) (negsuc (2 ^ 64 - suc n))) ≡ true
    go true e = e
    go false e = let high = ltb-false n (2 ^ 63) e in lt-ltb (2 ^ 64 - suc n) (2 ^ 63) (omega arith)

uncast_fits : (z : ℤ) → SFits w64 z → cast_unsigned w64 z < 2 ^ 64
uncast_fits (pos n) h = omega (arith, h.sfits)
uncast_fits (negsuc n) h = omega (arith, h.sfits)

long_fits : (bs : List ℕ) → AreBytes bs → from_le_bytes w64 bs < 2 ^ 64
long_fits bs h = omega (arith, each_byte bs h 0, each_byte bs h 1, each_byte bs h 2, each_byte bs h 3, each_byte bs h 4, each_byte bs h 5, each_byte bs h 6, each_byte bs h 7)

-- a whole number of 64 bits
abbrev pub IsLong : Val → Type 0
IsLong v = (z : ℤ) × (v ≡ num z) × (fits z ≡ true)

pub long_format : IsFormat long_at payload IsLong
unfolding long_at
long_format = record { finds = finds; yields = yields }
  where
    read : List ℕ → Val
    read bytes = num (cast_signed w64 (from_le_bytes w64 bytes))

    finds : (v : Val) → IsLong v → (c : Spot) (more : List ℕ) → c.rest ≡ payload v ++ more → Finds (built read (bytes_at 8 c)) v more
    finds v (z, is, ok) c more e =
        let fit = fits_signed z ok in
        let back : read (long z) ≡ v = ap (λ n. num (cast_signed w64 n)) (from_le_bytes-to_le_bytes_8 (cast_unsigned w64 z) (uncast_fits z fit)) ∙ ap num (to_z-of_z w64 z fit) ∙ sym is in
        subst (λ (v : Val). Finds (built read (bytes_at 8 c)) v more) back (finds_built read _ _ _ ((bytes_format 8).finds (long z) refl c more (e ∙ ap (λ v. payload v ++ more) is)))

    yields : (c : Spot) → AreBytes c.rest → Yields (built read (bytes_at 8 c)) (Taken payload IsLong c.rest)
    yields c bytes = yields_on _ _ _ _ ((bytes_format 8).yields c bytes) (λ bs d h. yields_ok _ d _
        (let these : AreBytes bs = bytes_before bs d.rest c.rest bytes h.front in
        let n = from_le_bytes w64 bs in
        let less : n < 2 ^ 64 = long_fits bs these in
        let back : long (cast_signed w64 n) ≡ bs = ap (to_le_bytes w64) (of_z-to_z w64 n less) ∙ le_bytes_8 bs n h.fine (each_byte bs these) refl in
        taken payload IsLong c.rest (read bs) d.rest bytes (h.front ∙ ap (λ l. l ++ d.rest) (sym back)) (cast_signed w64 n, refl, cast_fits n less)))

-- ---- numbers in a range

-- a number in a range that fits 16 bits
pub record IsWithin (least most n : ℕ) : Type 0 where
  pub low : least ≤ n
  pub high : n ≤ most

pub count_format : (least most : ℕ) → most < 2 ^ 16 → IsFormat (count_at least most) short (IsWithin least most)
unfolding count_at
count_format least most fit = record {
  finds = λ n h c more e. finds_on _ _ _ _ _ _ (short_format.finds n (omega (arith, h.high)) c more e)
      (λ d at. finds_right _ _ _ _ _ (and_from _ _ (le-leb least n h.low) (le-leb n most h.high)) (finds_ok n d more at));
  yields = λ c bytes. yields_on _ _ _ _ (short_format.yields c bytes) (λ n d h. yields_right _ _ _ _ (λ ok.
      let both = and_parts (nat_le least n) (nat_le n most) ok in
      yields_ok n d _ (record { fine = record { low = leb-true least n both.0; high = leb-true n most both.1 }; front = h.front; after = h.after })));
}

pub type_format : (count : ℕ) → count ≤ 2 ^ 16 → IsFormat (type_at count) short (λ ty. ty < count)
unfolding type_at
type_format count fit = record {
  finds = λ n less c more e. finds_on _ _ _ _ _ _ (short_format.finds n (omega arith) c more e)
      (λ d at. finds_right _ _ _ _ _ (lt-ltb n count less) (finds_ok n d more at));
  yields = λ c bytes. yields_on _ _ _ _ (short_format.yields c bytes) (λ n d h. yields_right _ _ _ _ (λ ok.
      yields_ok n d _ (record { fine = ltb-true n count ok; front = h.front; after = h.after })));
}
