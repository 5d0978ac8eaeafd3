use Rattle.std.proofs.Common.{◌<◌, All, map, length, ap, subst, sym, arith, string_bytes}
use Rattle.std.proofs.lemmas.List.Elements.{All-weaker}
use Rattle.ioa_value.specs.Names.{IsName}
use Rattle.ioa_object.proofs.ObjectLaws.{are_right}
use Rattle.ioa_object.proofs.Tables.{hidden_legal}
use Rattle.ioa_object.proofs.Texts.{name_short}
use Rattle.ioa_object.proofs.writing.write_object.Goals as goal

pub put_text-requires : goal.put_text-requires
put_text-requires c = omega (arith, ap length c.name.ensures, name_short c.args.program.now.name c.types.ensures.sound.legal)

pub put_names-requires-clause-short : goal.put_names-requires-clause-short
put_names-requires-clause-short c =
    let p = c.args.program.now in
    let legal : All IsName (map string_bytes c.hidden.result.now) = subst (All IsName) (sym c.hidden.ensures) (hidden_legal p (are_right p c.types.ensures.sound)) in
    All-weaker IsName (λ x. length x < 256) (λ x h. omega (arith, name_short x h)) _ legal
