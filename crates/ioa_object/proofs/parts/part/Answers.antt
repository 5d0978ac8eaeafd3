use Rattle.std.proofs.Common.{◌≡◌, Ok, map, sym, ap, subst, ◌∙◌, arith}
use Rattle.ioa_value.specs.Plain.{number, plain}
use Rattle.ioa_code.specs.Parts.{IsVerified}
use Rattle.ioa_code.specs.Valid.{Part}
use Rattle.ioa_code.proofs.Judged.{exact}
use Rattle.ioa_object.specs.Reading.{part_at, part_of, verified}
use Rattle.ioa_bytes.specs.Items.{counted}
use Rattle.ioa_bytes.proofs.Readers.{then_ok}
use Rattle.ioa_object.proofs.parts.part.Goals as goal

pub count_part-requires : goal.count_part-requires
count_part-requires c =
    let further = c.in_ok-instrs.ensures.further in
    let before = c.alloc-alloc.ensures.parts in
    omega arith

pub returns-in_ok-decoded-in-Ok : goal.returns-in_ok-decoded-in-Ok
unfolding part_at
returns-in_ok-decoded-in-Ok c =
    let env = c.args.env.now in
    let is = c.in_ok-instrs.instrs.items in
    let d = c.instructions.new.cursor in
    let whole = part_of env.types.now (map number env.slots.now) (map plain c.args.consts.now) env.kind (map number env.arguments.now) (map number env.result.now) is in
    let same : c.in-Ok.verified ≡ whole =
    c.in-Ok.ensures.valid
    ∙ ap (λ consts. part_of env.types.now (map number env.slots.now) consts env.kind (map number env.arguments.now) (map number env.result.now) is) c.in_ok-copies.ensures in
    let sound = subst (λ (p : Part). IsVerified p) same c.in-Ok.ensures.sound in
    then_ok _ _ (is, d) c.in_ok-instrs.ensures.read ∙ ap (λ v. verified v whole d) ((exact whole).1 sound.valid)
    ∙ ap (λ p. Ok (p, counted d)) (sym same) ∙ ap (λ e. Ok (c.in-Ok.verified, e)) (sym c.count_part.ensures)
    ∙ ap (λ v. Ok (v, c.count_part.new.self)) (sym c.in_ok-decoded-in-Ok.ensures)
