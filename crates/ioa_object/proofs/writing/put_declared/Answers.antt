use Rattle.std.proofs.Common.{◌≡◌, ◌<◌, All, map, length, ap, subst, sym, ◌∙◌, arith, string_bytes}
use Rattle.std.proofs.lemmas.List.Elements.{All-head, All-tail, All-weaker}
use Rattle.ioa_value.specs.Actions.{Name}
use Rattle.ioa_value.specs.Names.{IsName}
use Rattle.ioa_value.specs.Shapes.{declaration, shape}
use Rattle.ioa_value.specs.Table.{Declaration, names_in, given_names}
use Rattle.ioa_object.proofs.Texts.{name_short}
use Rattle.ioa_object.proofs.writing.put_declared.Goals as goal

-- the name that a declaration gives first fits a text
name_fits : (d : Declaration) (x : Name) → All IsName (given_names d) → x ≡ d.name → length x < 256
name_fits d x legal is = omega (arith, ap length is, name_short d.name (All-head IsName d.name (names_in d.shape) legal))

pub put_text-requires : goal.put_text-requires
put_text-requires c = name_fits (declaration c.args.declared.now) _ c.requires.legal c.as_str-name.ensures.value

pub put_text-requires-in-Fields : goal.put_text-requires-in-Fields
put_text-requires-in-Fields c = name_fits (declaration c.args.declared.now) _ c.requires.legal c.as_str-name.ensures.value

pub put_text-requires-in-Sequence : goal.put_text-requires-in-Sequence
put_text-requires-in-Sequence c = name_fits (declaration c.args.declared.now) _ c.requires.legal c.as_str-name.ensures.value

pub put_names-requires-clause-short : goal.put_names-requires-clause-short
put_names-requires-clause-short c =
    let d = declaration c.args.declared.now in
    let given : names_in d.shape ≡ map string_bytes c.deref.result.now =
    ap (λ f. names_in (shape f)) c.in-Names.is ∙ ap (map string_bytes) (sym c.deref.ensures.value) in
    let legal : All IsName (map string_bytes c.deref.result.now) = subst (All IsName) given (All-tail IsName d.name (names_in d.shape) c.requires.legal) in
    All-weaker IsName (λ x. length x < 256) (λ x h. omega (arith, name_short x h)) _ legal
