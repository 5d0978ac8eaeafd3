use Rattle.std.proofs.Common.{◌++◌, take, sym, ap, ◌∙◌, subst, length-take, length-drop, arith}
use Rattle.std.proofs.Math.Seq.{take-add}
use Rattle.std.proofs.lemmas.List.{take_rest}
use Rattle.std.specs.Io.KnownBytes.{Appends}
use Rattle.std.proofs.KnownBytes.{Appends-trans}
use Rattle.ioa_device.proofs.streams.send_all.Goals as goal

pub loop-at-preserved : goal.loop-at-preserved
loop-at-preserved g c =
    let (_, counted, appended) = c.loop-at.invariant in
    let text = c.args.text.now in
    let at = c.loop-at.at in
    let joined = ap (λ l. take at text ++ take c.in-Ok.taken l) (take_rest text at) ∙ sym (take-add at c.in-Ok.taken text) in (
      grind (arith, length-take, length-drop),
      c.in-Ok.ensures.passed ∙ counted,
      subst (Appends _ _) joined (Appends-trans _ _ _ _ _ appended c.in-Ok.ensures.bytes),
    )
