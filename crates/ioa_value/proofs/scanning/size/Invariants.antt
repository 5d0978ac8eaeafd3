use Rattle.std.proofs.Common.{◌≡◌, nat_lt, drop}
use Rattle.std.specs.Char.{digit_value}
use Rattle.std.specs.List.{list_all}
use Rattle.std.specs.Str.Parse.{digits_value, digits_value_after}
use Rattle.ioa_value.proofs.scanning.size.Given as goal

abbrev pub invariant-loop-digit : goal.invariant-loop-digit
invariant-loop-digit l = record {
  all : list_all (λ d. nat_lt (digit_value d) 10) (drop l.digit-index l.digits) ≡ list_all (λ d. nat_lt (digit_value d) 10) l.digits;
  value : digits_value_after 10 l.n (drop l.digit-index l.digits) ≡ digits_value 10 l.digits;
}
