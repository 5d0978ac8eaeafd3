-- Decimal digits with zeros before them, which spell a key.
use Rattle.std.proofs.Common.{◌≡◌, ℕ, zero, suc, ◌+◌, ◌-◌, ◌*◌, ◌/◌, ◌%◌, ◌<◌, ◌≤◌, ◌==◌, ◌&&◌, ◌^◌, inl, inr, Bool, true, List, [], ◌∷◌, ◌++◌, length, drop, replicate, slice_index, slice_set, Some, Ok, Err, unwrap_or, refl, sym, ap, ap₂, ◌∙◌, arith}
use Rattle.std.specs.Prelude.{IsOk, Result}
use Rattle.std.specs.List.{AllPass}
use Rattle.std.specs.Result.{result_ok}
use Rattle.std.specs.Fmt.{char_count, decimal, format_spec, padded_integral, styled_decimal}
use Rattle.std.proofs.lemmas.Bool.{and_parts, cases_lt, eqb-true}
use Rattle.std.proofs.lemmas.Bool.Decides.{nat_tests}
use Rattle.std.proofs.lemmas.Fmt.{decimal_by_steps, decimal_digit, decimal_step, length-decimal-le, decimal_nonempty}
use Rattle.std.proofs.lemmas.List.{append-nil, append_assoc, drop-set, length-append, length-replicate}
use Rattle.std.proofs.lemmas.List.Elements.{All-append, All-cons, All-nil, All-replicate}
use Rattle.hex.specs.Hex.{IsBytes, decode_sized, encode_lower, encode_with, is_hex_digit, lower_digits}
use Rattle.hex.specs.declared.error.FromHexError.{FromHexError}
use Rattle.hex.proofs.HexLemmas.{IsOk-decode_sized, decode_sized-encode_lower}
use Rattle.ioa_request.specs.Keys.{key_in, numbered_digits, numbered_key}

-- ---- digits with zeros before them

-- k of them
abbrev padded : ℕ → ℕ → List ℕ
padded k n = replicate (k - length (decimal n)) 48 ++ decimal n

-- the last k digits, before what is written behind them
abbrev pub written : ℕ → ℕ → List ℕ → List ℕ
written zero n behind = behind
written (suc k) n behind = written k (n / 10) ((48 + n % 10) ∷ behind)

zero_before : (k : ℕ) (behind : List ℕ) → replicate k 48 ++ (48 ∷ behind) ≡ 48 ∷ (replicate k 48 ++ behind)
zero_before zero behind = refl
zero_before (suc k) behind = ap (λ l. 48 ∷ l) (zero_before k behind)

zeros_written : (k : ℕ) (behind : List ℕ) → written k 0 behind ≡ replicate k 48 ++ behind
zeros_written zero behind = refl
zeros_written (suc k) behind = zeros_written k (48 ∷ behind) ∙ zero_before k behind

one_digit : (k n : ℕ) (behind : List ℕ) → n < 10 → written (suc k) n behind ≡ padded (suc k) n ++ behind
one_digit k n behind small =
    let none : n / 10 ≡ 0 = omega arith in
    let same : n % 10 ≡ n = omega arith in
    let zeros : suc k - 1 ≡ k = omega arith in
    rw (none, same, decimal_digit n small, zeros) (zeros_written k ((48 + n) ∷ behind) ∙ sym (append_assoc (replicate k 48) ((48 + n) ∷ []) behind))

all_written : (k n : ℕ) (behind : List ℕ) → n < 2 ^ 64 → length (decimal n) ≤ k → written k n behind ≡ padded k n ++ behind
all_written zero n behind fits short = let some = decimal_nonempty n fits in absurd (omega (arith, some, short))
all_written (suc k) n behind fits short =
    elim (cases_lt n 10) [
      | inl small ↦ one_digit k n behind small
      | inr big ↦
          let step = decimal_step n (omega arith) fits in
          let digit = (48 + n % 10) ∷ [] in
          let front = decimal (n / 10) in
          let count : length (decimal n) ≡ length front + 1 = ap length step ∙ length-append front digit in
          let zeros : suc k - length (decimal n) ≡ k - length front = omega (arith, count) in
          let rest = all_written k (n / 10) ((48 + n % 10) ∷ behind) (omega arith) (omega (arith, count, short)) in
          rest ∙ append_assoc (replicate (k - length front) 48) front (digit ++ behind)
          ∙ sym (
          ap (λ j. (replicate j 48 ++ decimal n) ++ behind) zeros ∙ ap (λ ds. (replicate (k - length front) 48 ++ ds) ++ behind) step
          ∙ append_assoc (replicate (k - length front) 48) (front ++ digit) behind ∙ ap (λ l. replicate (k - length front) 48 ++ l) (append_assoc front digit behind)
          )
    ]

-- no number of 64 bits has more than 20 digits
is_short : (n : ℕ) → n < 2 ^ 64 → length (decimal n) ≤ 64
is_short n fits = let k = length-decimal-le 20 n (omega arith) (omega arith) fits in omega (arith, k)

pub digits_written : (n : ℕ) → n < 2 ^ 64 → written 64 n (encode_lower []) ≡ numbered_digits n
unfolding numbered_digits encode_with
digits_written n fits = all_written 64 n [] fits (is_short n fits) ∙ append-nil (padded 64 n)

-- as `{n:064}` writes them
pub digits_formatted : (n : ℕ) → styled_decimal (format_spec 32 0 4 64 (2 ^ 64 - 1)) n ≡ numbered_digits n
unfolding padded_integral char_count numbered_digits
digits_formatted n =
    let zeros : 64 - length (decimal n) - 0 - 0 ≡ 64 - length (decimal n) = omega arith in
    ap₂ (λ k ds. replicate k 48 ++ ds) zeros (append-nil (decimal n))

-- ---- the key that they spell

-- a decimal digit is the hexadecimal one of its value
abbrev is_spelled : ℕ → Bool
is_spelled d = slice_index lower_digits d == 48 + d

abbrev all_spelled : ℕ → Bool
all_spelled zero = true
all_spelled (suc n) = is_spelled n && all_spelled n

below : (n d : ℕ) → all_spelled n ≡ true → d < n → is_spelled d ≡ true
below zero d all small = absurd (omega arith)
below (suc n) d all small =
    let parts = and_parts (is_spelled n) (all_spelled n) all in
    elim (cases_lt d n) [
      | inl less ↦ below n d parts.1 less
      | inr last ↦ let e : d ≡ n = omega arith in rw e parts.0
    ]

spelled : (d : ℕ) → d < 10 → slice_index lower_digits d ≡ 48 + d
spelled d small = eqb-true _ _ (below 10 d refl small)

-- a byte of two decimal digits
pair_spelled : (rest : ℕ) (bytes : List ℕ) → encode_lower ((rest % 100 / 10 * 16 + rest % 100 % 10) ∷ bytes) ≡ (48 + rest / 10 % 10) ∷ (48 + rest % 10) ∷ encode_lower bytes
unfolding encode_with
pair_spelled rest bytes =
    let byte = rest % 100 / 10 * 16 + rest % 100 % 10 in
    let high : byte / 16 ≡ rest / 10 % 10 = omega arith in
    let low : byte % 16 ≡ rest % 10 = omega arith in
    ap₂ (λ h l. h ∷ l ∷ encode_lower bytes) (ap (slice_index lower_digits) high ∙ spelled (rest / 10 % 10) (omega arith)) (ap (slice_index lower_digits) low ∙ spelled (rest % 10) (omega arith))

pub zeros_are_bytes : (n : ℕ) → IsBytes (replicate n 0)
zeros_are_bytes zero i = omega arith
zeros_are_bytes (suc n) zero = omega arith
zeros_are_bytes (suc n) (suc i) = zeros_are_bytes n i

pub still_bytes : (key : List ℕ) (i byte : ℕ) → byte < 256 → IsBytes key → IsBytes (slice_set key i byte)
still_bytes [] i byte small bytes k = omega arith
still_bytes (x ∷ key) zero byte small bytes zero = small
still_bytes (x ∷ key) zero byte small bytes (suc k) = bytes (suc k)
still_bytes (x ∷ key) (suc i) byte small bytes zero = bytes 0
still_bytes (x ∷ key) (suc i) byte small bytes (suc k) = still_bytes key i byte small (λ j. bytes (suc j)) k

-- one byte more
pub pair_written : (i rest : ℕ) (key digits : List ℕ) → 0 < i → i ≤ length key
    → written (2 * i) rest (encode_lower (drop i key)) ≡ digits
    → written (2 * (i - 1)) (rest / 100) (encode_lower (drop (i - 1) (slice_set key (i - 1) (rest % 100 / 10 * 16 + rest % 100 % 10)))) ≡ digits
pair_written zero rest key digits some fits so_far = absurd (omega arith)
pair_written (suc i) rest key digits some fits so_far =
    let byte = rest % 100 / 10 * 16 + rest % 100 % 10 in
    let before : suc i - 1 ≡ i = omega arith in
    let two : 2 * suc i ≡ suc (suc (2 * i)) = omega arith in
    let next : i + 1 ≡ suc i = omega arith in
    let both : rest / 100 ≡ rest / 10 / 10 = omega arith in
    let bytes : drop i (slice_set key i byte) ≡ byte ∷ drop (suc i) key = drop-set key i byte (omega arith) ∙ ap (λ j. byte ∷ drop j key) next in
    rw (before, both, bytes, pair_spelled rest (drop (suc i) key)) (rw two at so_far)

-- the key of all of them
pub key_spelled : (n : ℕ) (key : List ℕ) → length key ≡ 32 → IsBytes key → encode_lower key ≡ numbered_digits n → key ≡ numbered_key n
unfolding numbered_key
key_spelled n key count bytes spelt =
    let read : key_in (encode_lower key) ≡ Some key = ap result_ok (decode_sized-encode_lower key 32 count bytes) in
    ap (λ o. unwrap_or o []) (sym read ∙ ap key_in spelt)

-- ---- that they are read

digit_passes : (d : ℕ) → d < 10 → is_hex_digit (48 + d) ≡ true
digit_passes d small = grind (arith, nat_tests)

abbrev passes : ℕ → Type 0
passes c = is_hex_digit c ≡ true

digits_pass : (n : ℕ) → n < 2 ^ 64 → AllPass is_hex_digit (decimal n)
digits_pass = decimal_by_steps (λ _ ds. AllPass is_hex_digit ds)
    (λ n small. All-cons passes (48 + n) [] (digit_passes n small) (All-nil passes))
    (λ n ds big front. All-append passes ds ((48 + n % 10) ∷ []) front (All-cons passes (48 + n % 10) [] (digit_passes (n % 10) (omega arith)) (All-nil passes)))

padded_pass : (k n : ℕ) → n < 2 ^ 64 → AllPass is_hex_digit (padded k n)
padded_pass k n fits =
    All-append passes (replicate (k - length (decimal n)) 48) (decimal n) (All-replicate passes (k - length (decimal n)) 48 refl) (digits_pass n fits)

padded_count : (k n : ℕ) → length (decimal n) ≤ k → length (padded k n) ≡ k
padded_count k n short =
    length-append (replicate (k - length (decimal n)) 48) (decimal n) ∙ ap (λ j. j + length (decimal n)) (length-replicate (k - length (decimal n)) 48) ∙ omega (arith, short)

some_of : (r : Result (List ℕ) FromHexError) → IsOk r → result_ok r ≡ Some (unwrap_or (result_ok r) [])
some_of (Ok key) h = refl
some_of (Err e) h = absurd (cc h)

pub key_read : (n : ℕ) → n < 2 ^ 64 → key_in (numbered_digits n) ≡ Some (numbered_key n)
unfolding numbered_digits numbered_key
key_read n fits = some_of (decode_sized (padded 64 n) 32) ((IsOk-decode_sized (padded 64 n) 32).1 (padded_count 64 n (is_short n fits), padded_pass 64 n fits))
