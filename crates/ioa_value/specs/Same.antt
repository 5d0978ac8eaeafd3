-- When two values are equal, as computed.
use Rattle.std.specs.Prelude.{ℤ, pos, negsuc, Bool, true, false, not, ◌&&◌, ◌==◌}
use Rattle.ioa_value.specs.Plain.{Val, Vals, truth, num, name, tuple, items, none, more}

abbrev pub same_truth : Bool → Bool → Bool
same_truth true b = b
same_truth false b = not b

abbrev pub same_number : ℤ → ℤ → Bool
same_number (pos a) (pos b) = a == b
same_number (pos a) (negsuc b) = false
same_number (negsuc a) (pos b) = false
same_number (negsuc a) (negsuc b) = a == b

-- whether two values are equal
abbrev mutual
  pub same : Val → Val → Bool
  same (truth a) (truth b) = same_truth a b
  same (num a) (num b) = same_number a b
  same (name s a) (name t b) = (s == t) && (a == b)
  same (tuple s a) (tuple t b) = (s == t) && same_all a b
  same (items s a) (items t b) = (s == t) && same_all a b
  same _ _ = false

  pub same_all : Vals → Vals → Bool
  same_all none none = true
  same_all none (more w ws) = false
  same_all (more v vs) none = false
  same_all (more v vs) (more w ws) = same v w && same_all vs ws
