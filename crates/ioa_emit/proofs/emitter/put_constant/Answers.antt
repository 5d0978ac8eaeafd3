use Rattle.std.proofs.Common.{refl, ap, ◌∙◌, map, arith}
use Rattle.std.proofs.lemmas.List.{length-map, map-append}
use Rattle.ioa_value.specs.Plain.{plain}
use Rattle.ioa_code.specs.Parts.{listing}
use Rattle.ioa_emit.proofs.Emitted.{adds_const}
use Rattle.ioa_emit.proofs.emitter.put_constant.Goals as goal

pub returns : goal.returns
returns c = λ types typed.
    adds_const (listing types c.args.out.now) (listing types record { instrs = c.push-2.new.self; consts = c.push.new.self }) (plain c.args.value) c.len-number.result
    (omega (arith, length-map c.args.out.now.consts.items plain, c.len-number.ensures, c.args.out.now.consts.ok.0))
    refl c.in_ok-push-2.ensures.items
    (ap (map plain) c.in_ok-push.ensures.items ∙ map-append plain _ _)
    typed
