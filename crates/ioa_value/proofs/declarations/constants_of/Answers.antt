use Rattle.std.proofs.Common.{◌≡◌, ◌∷◌, [], ◌++◌, ◌+◌, Some, map, take, length, string_bytes, sym, ap, subst, ◌∙◌, arith}
use Rattle.std.proofs.lemmas.List.{map-append, length-map}
use Rattle.ioa_value.specs.Table.{names, names_in, shape_at}
use Rattle.ioa_value.specs.Shapes.{shape, declaration, FindsConstants, FindsMore}
use Rattle.ioa_value.proofs.TableLemmas.{form_there, stands}
use Rattle.ioa_value.proofs.ItemLemmas.{take_item}
use Rattle.ioa_value.proofs.NamedLemmas.{finds_names, finds_constants, no_names, taken}
use Rattle.ioa_value.proofs.declarations.constants_of.Goals.{in-Names+in_ok-add_names, in_default}
use Rattle.ioa_value.proofs.declarations.constants_of.Goals as goal

pub add_names-requires : goal.add_names-requires
add_names-requires c =
    let ds = c.args.declared.now in
    let ns = map string_bytes c.in-Names.names.items in
    let at : shape_at (map declaration ds) c.loop-i.i ≡ Some (names ns) = form_there ds c.loop-i.i c.index-declared-i.result c.loop-i-test.true c.index-declared-i.is ∙ ap (λ x. Some (shape x.form)) c.index-declared-i.is ∙ ap (λ f. Some (shape f)) c.in-Names.is in
    let h = (stands (map declaration ds) c.loop-i.i (names ns) c.requires at).1 in
    let long : length ns ≡ length c.in-Names.names.items = simp length-map in
    let same : length c.deref.result.now ≡ length c.in-Names.names.items = ap length c.deref.ensures.value in
    omega (arith, h, long, same)

pub loop-i-preserved : goal.loop-i-preserved
loop-i-preserved c =
    let ds = c.args.declared.now in
    let d = c.index-declared-i.result in
    let before = map declaration (take c.loop-i.i ds) in
    let all : before ++ declaration d ∷ [] ≡ map declaration (take (c.loop-i.i + 1) ds) = sym (ap (map declaration) (take_item ds c.loop-i.i d c.loop-i-test.true c.index-declared-i.is) ∙ map-append declaration (take c.loop-i.i ds) (d ∷ [])) in
    let mapped : length before ≡ length (take c.loop-i.i ds) = simp length-map in
    let long : c.loop-i.i ≡ length before = sym (mapped ∙ taken ds c.loop-i.i (omega (arith, c.loop-i-test.true))) in
    subst (FindsConstants c.match-declared-i.constants) all
    (elim c.match-declared-i.branch [
      | in-Names+in_ok-add_names w ↦ subst (λ m. FindsConstants m (before ++ declaration d ∷ [])) (sym w.constants-is)
          (finds_names c.loop-i.constants w.add_names.new.constants before (declaration d) c.loop-i.i long c.loop-i.invariant
          (subst (FindsMore c.loop-i.constants w.add_names.new.constants c.loop-i.i) (ap (map string_bytes) w.deref.ensures.value ∙ sym (ap (λ x. names_in (shape x.form)) c.index-declared-i.is ∙ ap (λ f. names_in (shape f)) w.in-Names.is)) w.in_ok-add_names.ensures))
      | in_default w ↦ subst (λ m. FindsConstants m (before ++ declaration d ∷ [])) (sym w.constants-is)
          (finds_constants c.loop-i.constants before (declaration d) c.loop-i.invariant (ap (λ x. names_in (shape x.form)) c.index-declared-i.is ∙ no_names _ w.in_default.not-Names))
    ])
