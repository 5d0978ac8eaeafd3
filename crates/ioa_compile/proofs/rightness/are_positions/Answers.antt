use Rattle.std.proofs.Common.{sym, ap, subst, ◌∙◌}
use Rattle.std.proofs.lemmas.List.{length-map, get_or-map}
use Rattle.ioa_value.specs.Positions.{IsDomain, domain_of}
use Rattle.ioa_compile.proofs.rightness.are_positions.Goals as goal

pub returns-then-not-is_position : goal.returns-then-not-is_position
returns-then-not-is_position c =
    let x = c.position-item.result in
    let i = c.loop-position.position-index in
    let xs = c.args.positions.now in (
      λ never. absurd (cc (never)),
      λ all. c.if-not-is_position.ensures.1 (subst (IsDomain c.args.types.now) (get_or-map domain_of xs i x (domain_of x) c.loop-position-test.true ∙ ap domain_of (sym c.position-item.is))
          (all i (domain_of x) (simp length-map c.loop-position-test.true))),
    )
