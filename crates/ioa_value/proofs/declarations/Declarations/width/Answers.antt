use Rattle.std.proofs.Common.{◌≡◌, ◌<◌, ◌≤◌, ◌+◌, ◌*◌, All, map, length, get_or, sym, ap, subst, ◌∙◌, arith}
use Rattle.std.proofs.lemmas.Nat.{mul-le}
use Rattle.ioa_value.specs.Table.{types_of, MayStand}
use Rattle.ioa_value.specs.Widths.{widths, shape_width}
use Rattle.ioa_value.specs.Shapes.{shape, tuple_field, declaration}
use Rattle.ioa_value.proofs.TableLemmas.{widths_count, in_range}
use Rattle.ioa_value.proofs.declarations.Declarations.width.Goals as goal

pub sum_of_widths-requires-clause-within : goal.sum_of_widths-requires-clause-within
sum_of_widths-requires-clause-within c =
    let h = (subst (λ f. MayStand (length c.args.self.now) (shape f)) c.in-Fields.is c.requires).2 in
    let long : length c.deref.result.now ≡ length c.args.self.now = ap length c.deref.ensures.value ∙ ap length c.self.invariant.1 ∙ widths_count (map declaration c.self.inside.declared.items) ∙ ap length c.self.view_is in
    subst (λ l. All (λ t. t < length c.deref.result.now) (types_of (map tuple_field l))) (sym c.deref-in-Fields.ensures.value)
    (subst (λ k. All (λ t. t < k) (types_of (map tuple_field c.in-Fields.fields.items))) (sym long) h)

pub index-requires : goal.index-requires
index-requires c =
    let h = (subst (λ f. MayStand (length c.args.self.now) (shape f)) c.in-Sequence.is c.requires).2 in
    let long : length c.self.inside.widths.items ≡ length c.args.self.now = ap length c.self.invariant.1 ∙ widths_count (map declaration c.self.inside.declared.items) ∙ ap length c.self.view_is in
    omega (arith, h, long, c.self.inside.widths.ok)

pub overflow_mul-result : goal.overflow_mul-result
overflow_mul-result c =
    let stand = subst (λ f. MayStand (length c.args.self.now) (shape f)) c.in-Sequence.is c.requires in
    let of = c.in-Sequence.of.0 in
    let ws = c.self.inside.widths.items in
    let long : length ws ≡ length c.args.self.now = ap length c.self.invariant.1 ∙ widths_count (map declaration c.self.inside.declared.items) ∙ ap length c.self.view_is in
    let lt : of < length ws = (let h = stand.2 in omega (arith, h, long)) in
    let narrow : get_or ws of c.index.result.now ≤ 4096 = subst (All (λ w. w ≤ 4096)) (sym c.self.invariant.1) c.self.invariant.0.narrow of c.index.result.now lt in
    let small : c.index.result.now ≤ 4096 = (let e = c.index.ensures in omega (arith, narrow, e)) in
    let most = stand.1 in
    omega (arith, mul-le c.in-Sequence.most c.index.result.now 256 4096 most small)

pub overflow_add-result : goal.overflow_add-result
overflow_add-result c =
    let stand = subst (λ f. MayStand (length c.args.self.now) (shape f)) c.in-Sequence.is c.requires in
    let of = c.in-Sequence.of.0 in
    let ws = c.self.inside.widths.items in
    let long : length ws ≡ length c.args.self.now = ap length c.self.invariant.1 ∙ widths_count (map declaration c.self.inside.declared.items) ∙ ap length c.self.view_is in
    let lt : of < length ws = (let h = stand.2 in omega (arith, h, long)) in
    let narrow : get_or ws of c.index.result.now ≤ 4096 = subst (All (λ w. w ≤ 4096)) (sym c.self.invariant.1) c.self.invariant.0.narrow of c.index.result.now lt in
    let small : c.index.result.now ≤ 4096 = (let e = c.index.ensures in omega (arith, narrow, e)) in
    let most = stand.1 in
    omega (arith, mul-le c.in-Sequence.most c.index.result.now 256 4096 most small)

pub returns-in-Sequence : goal.returns-in-Sequence
returns-in-Sequence c =
    let stand = subst (λ f. MayStand (length c.args.self.now) (shape f)) c.in-Sequence.is c.requires in
    let of = c.in-Sequence.of.0 in
    let ws = c.self.inside.widths.items in
    let long : length ws ≡ length c.args.self.now = ap length c.self.invariant.1 ∙ widths_count (map declaration c.self.inside.declared.items) ∙ ap length c.self.view_is in
    let lt : of < length ws = (let h = stand.2 in omega (arith, h, long)) in
    ap (λ w. 1 + c.in-Sequence.most * w) (c.index.ensures ∙ in_range ws of c.index.result.now 0 lt ∙ ap (λ l. get_or l of 0) c.self.invariant.1 ∙ ap (λ t. get_or (widths t) of 0) c.self.view_is)
    ∙ sym (ap (λ f. shape_width (widths c.args.self.now) (shape f)) c.in-Sequence.is)
