-- Arithmetic over unbounded whole numbers, tested for range afterwards.
use Rattle.std.specs.Prelude.{ℕ, zero, suc, ◌^◌, ℤ, pos, negsuc, Bool, nat_lt, if◌then◌else◌, Result, Ok, Err}
use Rattle.std.specs.Int.{int_div_euclid, int_rem_euclid}
use Rattle.ioa_arithmetic.specs.declared.arithmetic.Fault.{Fault}
use Rattle.ioa_arithmetic.specs.declared.arithmetic.Fault.TheVariants.{Overflow, ZeroDivisor, Empty, OutOfRange, Full}

-- from -2^63 to 2^63-1
abbrev pub fits : ℤ → Bool
fits (pos n) = nat_lt n (2 ^ 63)
fits (negsuc n) = nat_lt n (2 ^ 63)

-- the number, or the fault that it does not fit
abbrev pub tested : ℤ → Result ℤ Fault
tested z = if fits z then Ok z else Err Overflow

-- the Euclidean quotient, whose remainder is not negative
abbrev pub quotient : ℤ → ℤ → Result ℤ Fault
quotient a (pos zero) = Err ZeroDivisor
quotient a (pos (suc n)) = tested (int_div_euclid a (pos (suc n)))
quotient a (negsuc n) = tested (int_div_euclid a (negsuc n))

-- that remainder, which fits wherever the divisor does
abbrev pub remainder : ℤ → ℤ → Result ℤ Fault
remainder a (pos zero) = Err ZeroDivisor
remainder a (pos (suc n)) = Ok (int_rem_euclid a (pos (suc n)))
remainder a (negsuc n) = Ok (int_rem_euclid a (negsuc n))

-- the number by which a fault is printed
abbrev pub fault_number : Fault → ℕ
fault_number Overflow = 1
fault_number ZeroDivisor = 2
fault_number Empty = 3
fault_number OutOfRange = 4
fault_number Full = 5
