-- Whether a later place has the same loops round it.
use Rattle.std.proofs.Common.{◌≡◌, ℕ, ◌<◌, ◌≤◌, Bool, true, false, List, Some, None, refl, sym, ◌∙◌, arith}
use Rattle.std.specs.Prelude.{nat_lt}
use Rattle.std.specs.List.{list_all}
use Rattle.std.proofs.lemmas.Bool.Decides.{nat_tests}
use Rattle.ioa_code.specs.declared.instr.Instr.{Instr}
use Rattle.ioa_code.specs.Loops.{past_at, bodies, first_of}
use Rattle.ioa_code.specs.Scan.{same_types}
use Rattle.ioa_code.proofs.Same.{same_types-is}
use Rattle.ioa_code.proofs.Looping.{all_is, is_all, lists_are}
use Rattle.ioa_code.proofs.Opened.{same_bodies, bodies_same}

module _ (instrs : List Instr) (p t : ℕ) (le : p ≤ t) where
  pub stays_some : (k : ℕ) → true ≡ list_all (λ k. nat_lt t (past_at instrs k)) (bodies instrs p) → first_of (bodies instrs t) ≡ Some k → nat_lt k p ≡ same_types (bodies instrs t) (bodies instrs p)
  stays_some k h f = go (nat_lt k p) refl
    where
      differ : nat_lt k p ≡ false → (b : Bool) → same_types (bodies instrs t) (bodies instrs p) ≡ b → false ≡ b
      differ e false s = refl
      differ e true s =
          let same = same_types-is (bodies instrs t) (bodies instrs p) s in
          let x = bodies_same instrs p t same in
          let lt = x.1 k f in absurd (grind (arith, nat_tests))

      go : (b : Bool) → nat_lt k p ≡ b → b ≡ same_types (bodies instrs t) (bodies instrs p)
      go false e = differ e (same_types (bodies instrs t) (bodies instrs p)) refl
      go true e =
          let lt : k < p = grind (arith, nat_tests) in
          sym (lists_are (bodies instrs t) (bodies instrs p) (same_bodies instrs p t le (all_is instrs t (bodies instrs p) (sym h)) (λ j g. let both : Some j ≡ Some k = sym g ∙ f in let same : j ≡ k = cc in omega arith)))

  pub stays_none : true ≡ list_all (λ k. nat_lt t (past_at instrs k)) (bodies instrs p) → first_of (bodies instrs t) ≡ None → true ≡ same_types (bodies instrs t) (bodies instrs p)
  stays_none h f =
      sym (lists_are (bodies instrs t) (bodies instrs p) (same_bodies instrs p t le (all_is instrs t (bodies instrs p) (sym h)) (λ j g. let both : None ≡ Some j = sym f ∙ g in absurd (cc))))

  pub leaves : false ≡ list_all (λ k. nat_lt t (past_at instrs k)) (bodies instrs p) → false ≡ same_types (bodies instrs t) (bodies instrs p)
  leaves h = go (same_types (bodies instrs t) (bodies instrs p)) refl
    where
      go : (b : Bool) → same_types (bodies instrs t) (bodies instrs p) ≡ b → false ≡ b
      go false s = refl
      go true s =
          let x = bodies_same instrs p t (same_types-is (bodies instrs t) (bodies instrs p) s) in
          let y = is_all instrs t (bodies instrs p) x.0 in absurd (cc)
