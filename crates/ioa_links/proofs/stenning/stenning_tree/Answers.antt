use Rattle.std.proofs.Common.{rules, ◌≡◌, ◌≤ℤ◌, pos, negsuc, nat_abs, codes, ℤ, ℕ, ◌≤◌, ◌<◌, ◌^◌, sym, ap, ◌∙◌, subst, arith}
use Rattle.ioa_tree.specs.View.{tree_of}
use Rattle.ioa_links.specs.Trees.{stenning_source}
use Rattle.ioa_links.specs.Delivery.{Delivers}
use Rattle.ioa_tree.specs.WellFormed.{WellFormed}
use Rattle.ioa_links.proofs.Stands.{stenning_delivers, stenning_fine}
use Rattle.ioa_links.proofs.Texts.{memory_alone, text_is}
use Rattle.ioa_links.proofs.stenning.stenning_tree.Goals as goal

small : (z : ℤ) → pos 0 ≤ℤ z → lib.Signed.mag z < 2 ^ 63 → nat_abs z ≤ 9223372036854775807
small (pos n) h k = omega (arith, k)
small (negsuc n) h k = absurd (h.le)

pub returns-in-Ok-clause-tree : goal.returns-in-Ok-clause-tree
returns-in-Ok-clause-tree c =
    let number : c.unsigned_abs.result ≡ nat_abs c.args.crashes = search rules in
    let few : c.unsigned_abs.result ≤ 9223372036854775807 = subst (λ (n : ℕ). n ≤ 9223372036854775807) (sym number) (small c.args.crashes c.requires c.ranges.crashes.sfits) in
    text_is c.unsigned_abs.result c.as_bytes.result.now (tree_of c.in-Ok.source) few (c.as_bytes.ensures.value ∙ c.in_ok-text.ensures) c.in-Ok.ensures.found
    ∙ ap (λ (n : ℕ). stenning_source n) number

below : (z : ℤ) → pos 0 ≤ℤ z → lib.Signed.mag z < 2 ^ 63 → nat_abs z < 2 ^ 63
below z h k = omega (arith, small z h k)

pub returns-in-Ok-clause-fine : goal.returns-in-Ok-clause-fine
returns-in-Ok-clause-fine c =
    subst (λ s. WellFormed s) (sym (returns-in-Ok-clause-tree c)) (stenning_fine (nat_abs c.args.crashes) (below c.args.crashes c.requires c.ranges.crashes.sfits))

pub returns-in-Ok-clause-delivers : goal.returns-in-Ok-clause-delivers
returns-in-Ok-clause-delivers c =
    subst (λ s. Delivers s (codes "Stenning")) (sym (returns-in-Ok-clause-tree c))
    (stenning_delivers (nat_abs c.args.crashes) (below c.args.crashes c.requires c.ranges.crashes.sfits))

pub unreachable-requires : goal.unreachable-requires
unreachable-requires c =
    let number : c.unsigned_abs.result ≡ nat_abs c.args.crashes = search rules in
    let few : c.unsigned_abs.result < 2 ^ 63 = subst (λ (n : ℕ). n < 2 ^ 63) (sym number) (below c.args.crashes c.requires c.ranges.crashes.sfits) in
    c.in_default.not-OutOfMemory
    (memory_alone c.unsigned_abs.result c.as_bytes.result.now c.in-Err.refusal few (c.as_bytes.ensures.value ∙ c.in_ok-text.ensures) c.in-Err.ensures.only)
