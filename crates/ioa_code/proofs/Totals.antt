-- What the places of valid code weigh, and that their sum is no large number.
use Rattle.std.proofs.Common.{◌≡◌, ℕ, zero, suc, ◌+◌, ◌*◌, ◌<◌, ◌≤◌, ⊎_elim, List, length, Some, refl, sym, ap, ◌∙◌, arith}
use Rattle.std.specs.Prelude.{slice_get}
use Rattle.std.specs.Option.{option_map_or}
use Rattle.std.proofs.lemmas.Bool.{cases_lt}
use Rattle.std.proofs.Math.Nat.{mul-le-mul_left, mul-le-mul_right}
use Rattle.ioa_value.proofs.ItemLemmas.{item_there}
use Rattle.ioa_code.specs.declared.instr.Instr.{Instr}
use Rattle.ioa_code.specs.declared.instr.Instr.TheVariants.{Const, Slot, Arg, Store, Jump, JumpIfFalse, Any, Pick, Apply, Each, Again, Local}
use Rattle.ioa_code.specs.Loops.{past, past_at, bodies}
use Rattle.ioa_code.specs.Valid.{Part, fast_at, found_in, IsTable}
use Rattle.ioa_code.specs.Bound.{turns, product, visits, weight, weight_at}
use Rattle.ioa_code.proofs.Ahead.{ahead}
use Rattle.ioa_code.proofs.Bodies.{types_there}
use Rattle.ioa_code.proofs.Weights.{from, from_at}

-- ---- one place

module _ (part : Part) (table : List (List ℕ)) (valid : IsTable part table) (found : ℕ → List ℕ) (p : ℕ) where
  abbrev runs : ℕ
  runs = product (turns part.code.types found) (bodies part.code.instrs p)

  abbrev own : ℕ
  own = turns part.code.types found p

  later : (e : ℕ) → slice_get part.code.instrs p ≡ Some (Each e) → p < e
  later e at =
      let t = types_there part table valid p (Each e) at in
      let x = valid.each p (Each e) t.0 at t.1 in
      (ahead part (fast_at part (found_in table) p) p (Each e) t.0 x.ways x.finds x.forward).0

  visited : (i : Instr) → slice_get part.code.instrs p ≡ Some i → (p < past i → visits i own ≡ own + 1) × (past i ≤ p → visits i own ≡ 1)
  visited (Each e) at = (λ lt. refl, λ le. let lt = later e at in absurd (omega arith))
  visited (Const k) at = (λ lt. absurd (omega arith), λ le. refl)
  visited (Slot k) at = (λ lt. absurd (omega arith), λ le. refl)
  visited (Arg k) at = (λ lt. absurd (omega arith), λ le. refl)
  visited (Store k) at = (λ lt. absurd (omega arith), λ le. refl)
  visited (Jump t) at = (λ lt. absurd (omega arith), λ le. refl)
  visited (JumpIfFalse t) at = (λ lt. absurd (omega arith), λ le. refl)
  visited Any at = (λ lt. absurd (omega arith), λ le. refl)
  visited (Pick ty) at = (λ lt. absurd (omega arith), λ le. refl)
  visited (Apply op) at = (λ lt. absurd (omega arith), λ le. refl)
  visited (Again t) at = (λ lt. absurd (omega arith), λ le. refl)
  visited (Local d) at = (λ lt. absurd (omega arith), λ le. refl)

  -- where a body begins, and elsewhere
  pub weighs_each : p < length part.code.instrs → p < past_at part.code.instrs p → weight_at part found p ≡ (own + 1) * runs
  weighs_each within lt =
      let i = item_there part.code.instrs p within in
      let is : past_at part.code.instrs p ≡ past i.0 = ap (λ o. option_map_or past o 0) i.1 in
      ap (λ o. option_map_or (λ j. weight part found p j) o 0) i.1 ∙ ap (λ n. n * runs) ((visited i.0 i.1).0 (omega arith))

  pub weighs_once : p < length part.code.instrs → past_at part.code.instrs p ≤ p → weight_at part found p ≡ runs
  weighs_once within le =
      let i = item_there part.code.instrs p within in
      let is : past_at part.code.instrs p ≡ past i.0 = ap (λ o. option_map_or past o 0) i.1 in
      let one : 1 * runs ≡ runs = omega arith in
      ap (λ o. option_map_or (λ j. weight part found p j) o 0) i.1 ∙ ap (λ n. n * runs) ((visited i.0 i.1).1 (omega arith)) ∙ one

pub few_round : (part : Part) (table : List (List ℕ)) → IsTable part table → (p : ℕ) → p < length part.code.instrs → length (bodies part.code.instrs p) ≤ 3
few_round part table valid p within =
    let i = item_there part.code.instrs p within in
    let t = types_there part table valid p i.0 i.1 in
    let x = valid.each p i.0 t.0 i.1 t.1 in
    let l = x.loops in
    l.0

-- ---- all places

pub from_next : (part : Part) (found : ℕ → List ℕ) (p : ℕ) → p < length part.code.instrs → from part found p ≡ weight_at part found p + from part found (p + 1)
from_next part found p within =
    let i = item_there part.code.instrs p within in
    from_at part found p i.0 i.1 ∙ ap (λ n. n + from part found (p + 1)) (sym (ap (λ o. option_map_or (λ j. weight part found p j) o 0) i.1))

-- a sum of so many weights: those of the first places are smaller than 2^33, later ones are 1
abbrev pub IsSmall : (place total : ℕ) → Type 0
IsSmall place total = (place ≤ 65535 → total ≤ place * 8589934592) × (total ≤ 562941363486720 + place)

pub small_next : (place total weight : ℕ) → IsSmall place total → weight ≤ 8589934592 → (65535 ≤ place → weight ≤ 1) → IsSmall (place + 1) (total + weight)
small_next place total weight s w far = ⊎_elim
    (λ (lt : place < 65535). let a = s.0 (omega arith) in (λ le. omega arith, omega arith))
    (λ (ge : 65535 ≤ place). let a = s.1 in let b = far ge in (λ le. absurd (omega arith), omega arith))
    (cases_lt place 65535)

-- ---- a product of few capacities

-- 256 so many times
abbrev pub times_256 : ℕ → ℕ
times_256 zero = 1
times_256 (suc n) = times_256 n * 256

pub times_small : (n m : ℕ) → n ≤ 3 → m ≤ times_256 n → m ≤ 16777216
times_small zero m le f = omega arith
times_small (suc zero) m le f = omega arith
times_small (suc (suc zero)) m le f = omega arith
times_small (suc (suc (suc zero))) m le f = omega arith
times_small (suc (suc (suc (suc n)))) m le f = absurd (omega arith)

pub times_next : (n m t : ℕ) → m ≤ times_256 n → t ≤ 256 → m * t ≤ times_256 (suc n)
times_next n m t f le =
    let a : m * t ≤ m * 256 = mul-le-mul_left m le in
    let b : m * 256 ≤ times_256 n * 256 = mul-le-mul_right 256 f in
    omega arith
