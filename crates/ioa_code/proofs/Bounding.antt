-- The bound of valid code is the sum of its weights by the table.
use Rattle.std.proofs.Common.{◌≡◌, ℕ, zero, suc, ◌+◌, ◌*◌, ◌<◌, ◌≤◌, Bool, true, false, List, [], ◌∷◌, length, drop, Ok, refl, sym, ap, ◌∙◌, subst, arith, if◌then◌else◌}
use Rattle.std.specs.Prelude.{nat_lt}
use Rattle.std.proofs.lemmas.List.{drop_all}
use Rattle.ioa_value.proofs.ItemLemmas.{item_there}
use Rattle.ioa_value.proofs.RowLemmas.{drop_there}
use Rattle.ioa_value.specs.Table.{Table}
use Rattle.ioa_code.specs.declared.instr.Instr.{Instr}
use Rattle.ioa_code.specs.Loops.{past_at, around}
use Rattle.ioa_code.specs.Machine.{on_top}
use Rattle.ioa_code.specs.Valid.{Part, after, fast_at, found_in, IsTable}
use Rattle.ioa_code.specs.Scan.{Brought, none, some, clash, types_in, came, bring, at_first}
use Rattle.ioa_code.specs.Bound.{capacity_on, turns, product, visits, weight, weights, brought_on, traced, BoundIsWeights}
use Rattle.ioa_code.specs.Refusal.{Comes, OneComes}
use Rattle.ioa_code.proofs.Looping.{Same, fast_same}
use Rattle.ioa_code.proofs.Ways.{Describes, Known, first_known, more_known, came_same}
use Rattle.ioa_code.proofs.Judged.{valid_one, valid_begun, begun_less}

-- ---- weights by the same stacks

module _ (types : Table) (found other : ℕ → List ℕ) (n : ℕ) (same : Same n found other) where
  turns_same : (k : ℕ) → k < n → turns types found k ≡ turns types other k
  turns_same k lt = ap (λ l. on_top 1 l 0 (λ below top. capacity_on types top)) (same k lt)

  product_same : (instrs : List Instr) (p m : ℕ) → m ≤ n → product (λ k. turns types found k) (around instrs p m) ≡ product (λ k. turns types other k) (around instrs p m)
  product_same instrs p zero le = refl
  product_same instrs p (suc k) le = go (nat_lt p (past_at instrs k)) (product_same instrs p k (omega arith))
    where
      go : (b : Bool) → product (λ k. turns types found k) (around instrs p k) ≡ product (λ k. turns types other k) (around instrs p k) → product (λ k. turns types found k) (if b then k ∷ around instrs p k else around instrs p k) ≡ product (λ k. turns types other k) (if b then k ∷ around instrs p k else around instrs p k)
      go false e = e
      go true e =
          ap (λ n. n * product (λ k. turns types found k) (around instrs p k)) (turns_same k (omega arith)) ∙ ap (λ n. turns types other k * n) e

weights_same : (part : Part) (found other : ℕ → List ℕ) (n : ℕ) → Same n found other → (is : List Instr) (p : ℕ) → p + length is ≤ n → weights part found is p ≡ weights part other is p
weights_same part found other n same [] p le = refl
weights_same part found other n same (i ∷ is) p le =
    let a = turns_same part.code.types found other n same p (omega arith) in
    let b = product_same part.code.types found other n same part.code.instrs p p (omega arith) in
    ap (λ m. m + weights part found is (p + 1)) (ap (λ m. visits i m * product (λ k. turns part.code.types found k) (around part.code.instrs p p)) a ∙ ap (λ m. visits i (turns part.code.types other p) * m) b)
    ∙ ap (λ m. weight part other p i + m) (weights_same part found other n same is (p + 1) (omega arith))

-- ---- what is traced

module _ (part : Part) (table : List (List ℕ)) (valid : IsTable part table) where
  known_here : (p : ℕ) (brought : ℕ → Brought) (ts : List ℕ) → Known part table p brought → OneComes (Comes part table p p) ts → brought p ≡ some ts
  known_here p brought ts known one = go (brought p) (known p)
    where
      go : (b : Brought) → Describes (Comes part table p p) b → b ≡ some ts
      go none d = absurd (d ts one.these)
      go (some us) d = ap some (one.alone us d.these)
      go clash d = let a = one.alone d.first d.these in let b = one.alone d.second d.also in absurd (d.differ (a ∙ sym b))

  traced_known : (k p : ℕ) (brought : ℕ → Brought) → p + k ≡ length part.code.instrs → Known part table p brought → Known part table (length part.code.instrs) (traced part (drop p part.code.instrs) p brought)
  traced_known zero p brought e known =
      let same : p ≡ length part.code.instrs = omega arith in
      subst (λ l. Known part table (length part.code.instrs) (traced part l p brought)) (sym (drop_all p part.code.instrs (omega arith))) (subst (λ m. Known part table m brought) same known)
  traced_known (suc k) p brought e known =
      let i = item_there part.code.instrs p (omega arith) in
      let long = valid.long in
      let t = item_there table p (omega arith) in
      let x = valid.each p i.0 t.0 i.1 t.1 in
      let begun = begun_less part (length part.code.instrs) p table (omega arith) (valid_begun part table valid) in
      let here = known_here p brought t.0 known (valid_one part table valid p t.0 (omega arith) t.1) in
      let fast = fast_same part (came brought) (found_in table) p (came_same part table p brought begun known) in
      let finds : after part (fast_at part (came brought) p) p i.0 (came brought p) ≡ Ok x.ways =
      ap (λ m. after part m p i.0 (came brought p)) fast ∙ ap (λ b. after part (fast_at part (found_in table) p) p i.0 (types_in b)) here ∙ x.finds in
      let next = more_known part table table p (λ j lt. refl) i.0 t.0 x.ways i.1 t.1 x.finds brought known in
      subst (λ l. Known part table (length part.code.instrs) (traced part l p brought)) (sym (drop_there part.code.instrs p i.0 i.1))
      (subst (λ r. Known part table (length part.code.instrs) (traced part (drop (p + 1) part.code.instrs) (p + 1) (brought_on r brought))) (sym finds)
      (traced_known k (p + 1) (bring x.ways brought) (omega arith) next))

pub bound_is : BoundIsWeights
bound_is part table valid =
    let n = length part.code.instrs in
    let known = traced_known part table valid n 0 at_first (omega arith) (first_known part table) in
    weights_same part (came (traced part part.code.instrs 0 at_first)) (found_in table) n (came_same part table n (traced part part.code.instrs 0 at_first) (valid_begun part table valid) known) part.code.instrs 0 (omega arith)
