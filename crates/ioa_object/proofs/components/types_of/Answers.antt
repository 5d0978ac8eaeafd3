use Rattle.std.proofs.Common.{map, sym, ap, ◌∙◌, arith}
use Rattle.std.proofs.lemmas.List.{take_all}
use Rattle.std.proofs.lemmas.Simd.{map-map}
use Rattle.ioa_value.specs.Plain.{plain}
use Rattle.ioa_value.specs.Typing.{own}
use Rattle.ioa_object.proofs.components.types_of.Goals as goal

pub returns : goal.returns
returns c =
    let xs = c.args.values.now in
    c.loop-value.invariant
    ∙ ap (map (λ v. own (plain v))) (take_all c.loop-value.value-index xs (omega arith))
    ∙ sym (map-map own plain xs)
