-- What a reader of a text in memory counts: no call of it fails, and the bytes that it gave are fewer than can be counted. One that is worn out has counted all.
use Rattle.std.specs.Prelude.{ℕ, ◌-◌, ◌^◌, Bool, true, false, List, length}

abbrev pub failures_of : Bool → ℕ
failures_of false = 0
failures_of true = 2 ^ 64 - 1

abbrev pub given_of : Bool → List ℕ → ℕ
given_of false rest = 2 ^ 64 - 2 - length rest
given_of true rest = 2 ^ 64 - 1
