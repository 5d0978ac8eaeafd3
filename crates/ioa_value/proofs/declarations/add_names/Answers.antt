use Rattle.std.proofs.Common.{◌≡◌, ◌∷◌, [], ◌++◌, ◌+◌, map, take, length, cond, Some, None, string_bytes, sym, ap, subst, ◌∙◌, arith}
use Rattle.std.proofs.lemmas.List.{map-append, length-map}
use Rattle.std.specs.BTreeMap.{get_by_text}
use Rattle.std.specs.Option.{option_or}
use Rattle.std.specs.Str.{bytes_eq}
use Rattle.ioa_value.specs.Shapes.{FindsMore}
use Rattle.ioa_value.proofs.ItemLemmas.{take_item}
use Rattle.ioa_value.proofs.NamedLemmas.{finds_name, taken, or_kept}
use Rattle.ioa_value.proofs.declarations.add_names.Goals as goal

pub loop-n-preserved : goal.loop-n-preserved
loop-n-preserved c =
    let names = c.args.names.now in
    let before = map string_bytes (take c.loop-n.n names) in
    let name = string_bytes c.index-names-n.result in
    let all : before ++ name ∷ [] ≡ map string_bytes (take (c.loop-n.n + 1) names) = sym (ap (map string_bytes) (take_item names c.loop-n.n c.index-names-n.result c.loop-n-test.true c.index-names-n.is) ∙ map-append string_bytes (take c.loop-n.n names) (c.index-names-n.result ∷ [])) in
    let mapped : length before ≡ length (take c.loop-n.n names) = simp length-map in
    let long : length before ≡ c.loop-n.n = mapped ∙ taken names c.loop-n.n (omega (arith, c.loop-n-test.true)) in
    subst (FindsMore c.args.constants.now c.add_name.new.constants c.args.ty.0) all
    (finds_name c.args.constants.now c.loop-n.constants c.add_name.new.constants c.args.ty before name c.loop-n.invariant
    (λ x. c.in_ok-add_name.ensures x ∙ or_kept name x (get_by_text c.loop-n.constants x) (c.args.ty, c.loop-n.n) ∙ ap (λ k. option_or (get_by_text c.loop-n.constants x) (cond (bytes_eq name x) (Some (c.args.ty, k)) None)) (sym long)))
