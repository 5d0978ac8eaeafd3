-- Where no instruction is a loop's, each place weighs 1.
use Rattle.std.proofs.Common.{◌≡◌, ℕ, zero, suc, ◌+◌, ◌*◌, ◌||◌, Bool, true, false, if◌then◌else◌, List, [], ◌∷◌, length, refl, ap, ◌∙◌, arith}
use Rattle.std.specs.Prelude.{nat_lt}
use Rattle.std.proofs.lemmas.Bool.Decides.{nat_tests}
use Rattle.ioa_code.specs.declared.instr.Instr.{Instr}
use Rattle.ioa_code.specs.declared.instr.Instr.TheVariants.{Const, Slot, Arg, Store, Jump, JumpIfFalse, Any, Pick, Apply, Each, Again, Local}
use Rattle.ioa_code.specs.Loops.{past, past_at, around, bodies, of_loops, has_loops}
use Rattle.ioa_code.specs.Valid.{Part}
use Rattle.ioa_code.specs.Scan.{came, at_first}
use Rattle.ioa_code.specs.Bound.{turns, product, visits, weight, weights, traced, BoundIsLength}

parts : (b c : Bool) → (b || c) ≡ false → (b ≡ false) × (c ≡ false)
parts false false e = (refl, refl)
parts false true e = absurd (cc)
parts true c e = absurd (cc)

no_past : (i : Instr) → of_loops i ≡ false → past i ≡ 0
no_past (Const k) e = refl
no_past (Slot k) e = refl
no_past (Arg k) e = refl
no_past (Store k) e = refl
no_past (Jump t) e = refl
no_past (JumpIfFalse t) e = refl
no_past Any e = refl
no_past (Pick ty) e = refl
no_past (Apply op) e = refl
no_past (Each t) e = absurd (cc)
no_past (Again t) e = refl
no_past (Local d) e = refl

one_visit : (i : Instr) (n : ℕ) → of_loops i ≡ false → visits i n ≡ 1
one_visit (Const k) n e = refl
one_visit (Slot k) n e = refl
one_visit (Arg k) n e = refl
one_visit (Store k) n e = refl
one_visit (Jump t) n e = refl
one_visit (JumpIfFalse t) n e = refl
one_visit Any n e = refl
one_visit (Pick ty) n e = refl
one_visit (Apply op) n e = refl
one_visit (Each t) n e = absurd (cc)
one_visit (Again t) n e = refl
one_visit (Local d) n e = refl

no_past_at : (is : List Instr) (k : ℕ) → has_loops is ≡ false → past_at is k ≡ 0
no_past_at [] zero e = refl
no_past_at [] (suc k) e = refl
no_past_at (i ∷ is) zero e = no_past i (parts (of_loops i) (has_loops is) e).0
no_past_at (i ∷ is) (suc k) e = no_past_at is k (parts (of_loops i) (has_loops is) e).1

none_around : (is : List Instr) (p n : ℕ) → has_loops is ≡ false → around is p n ≡ []
none_around is p zero e = refl
none_around is p (suc k) e =
    let t : nat_lt p 0 ≡ false = grind (arith, nat_tests) in
    ap (λ m. if nat_lt p m then k ∷ around is p k else around is p k) (no_past_at is k e) ∙ ap (λ b. if b then k ∷ around is p k else around is p k) t ∙ none_around is p k e

module _ (part : Part) (found : ℕ → List ℕ) (loopless : has_loops part.code.instrs ≡ false) where
  one : (p : ℕ) (i : Instr) → of_loops i ≡ false → weight part found p i ≡ 1
  one p i e =
      let a : visits i (turns part.code.types found p) ≡ 1 = one_visit i (turns part.code.types found p) e in
      let b : product (turns part.code.types found) (bodies part.code.instrs p) ≡ 1 = ap (product (turns part.code.types found)) (none_around part.code.instrs p p loopless) in
      ap (λ m. m * product (turns part.code.types found) (bodies part.code.instrs p)) a ∙ ap (λ m. 1 * m) b

  weights_are : (is : List Instr) (p : ℕ) → has_loops is ≡ false → weights part found is p ≡ length is
  weights_are [] p e = refl
  weights_are (i ∷ is) p e =
      let x = parts (of_loops i) (has_loops is) e in
      let here : weight part found p i ≡ 1 = one p i x.0 in
      let more : weights part found is (p + 1) ≡ length is = weights_are is (p + 1) x.1 in
      let all : weight part found p i + weights part found is (p + 1) ≡ suc (length is) = omega arith in
      all

pub bound_is_length : BoundIsLength
bound_is_length part e =
    weights_are part (came (traced part part.code.instrs 0 at_first)) e part.code.instrs 0 e
