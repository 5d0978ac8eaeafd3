use Rattle.std.proofs.Common.{map, sym, ap, ◌∙◌, arith}
use Rattle.std.proofs.lemmas.List.{take_all}
use Rattle.std.proofs.lemmas.Simd.{map-map}
use Rattle.ioa_value.specs.Positions.{domain_of, domain_type}
use Rattle.ioa_compile.proofs.types.position_types.Goals as goal

pub returns : goal.returns
returns c =
    let xs = c.args.positions.now in
    c.loop-position.invariant
    ∙ ap (map (λ p. domain_type (domain_of p))) (take_all c.loop-position.position-index xs (omega arith))
    ∙ sym (map-map domain_type domain_of xs)
