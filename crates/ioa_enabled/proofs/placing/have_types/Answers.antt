use Rattle.std.proofs.Common.{◌≡◌, ◌∙◌, length, map, sym}
use Rattle.std.proofs.lemmas.List.{length-map}
use Rattle.ioa_value.specs.Plain.{number, plain}
use Rattle.ioa_value.proofs.TypingLemmas.{HaveTypes-length}
use Rattle.ioa_enabled.proofs.placing.have_types.Goals as goal

pub returns-then-values-own : goal.returns-then-values-own
returns-then-values-own c = (
  λ said. absurd (cc),
  λ have.
      let long = HaveTypes-length c.args.types.now (map plain c.args.values.now) (map number c.args.own.now) have in
      absurd (c.if-values-own.true (sym (length-map c.args.values.now plain) ∙ long ∙ length-map c.args.own.now number)),
)
