use Rattle.std.proofs.Common.{◌≡◌, ℕ, List, ◌+◌, ◌<◌, ◌∷◌, [], Some, None, IfOk, cond, length, drop, sym, ap, ap₂, subst, ◌∙◌, arith, length-append}
use Rattle.std.specs.Prelude.{slice_get}
use Rattle.std.specs.Option.{option_map}
use Rattle.std.specs.Str.{bytes_eq}
use Rattle.std.proofs.lemmas.Option.{slice_get_within}
use Rattle.ioa_value.specs.declared.types.Form.TheVariants.{Names, Fields, Sequence}
use Rattle.ioa_value.specs.Plain.{number, plain, plain_all, num, Val, Vals}
use Rattle.ioa_value.specs.Table.{truths, numbers, shape_at, type_name}
use Rattle.ioa_value.specs.Shapes.{shape}
use Rattle.ioa_value.specs.Fronts.{front_of, row_of}
use Rattle.ioa_value.specs.Scanning.{truth_in, number_in, constant_in, after_mark, opening, row_types, made, ended, scan_first, scan_row, scan_made, scan_in, scan_of, scan_shaped}
use Rattle.ioa_value.proofs.PlainLemmas.{put_last, plain_all-last}
use Rattle.ioa_value.proofs.RowLemmas.{joined, no_type, no_value, row_next, row_end, mark_none, mark_some, one_at, row_earlier, paired, made_by, unfolded}
use Rattle.ioa_value.proofs.scanning.+scanning.Goals as goal

pub row_of_values-returns-in_default-type_at : goal.row_of_values-returns-in_default-type_at
row_of_values-returns-in_default-type_at t c =
    let s = shape c.args.form.now in
    let n = length c.loop-next.values.items in
    let count : c.len.result ≡ n = omega (arith, c.len.ensures, c.loop-next.values.ok) in
    let at : slice_get (row_types s) n ≡ None = ap (slice_get (row_types s)) (sym count) ∙ sym c.type_at.ensures ∙ ap (option_map number) c.in_default-type_at.is in
    sym (no_type (scan_of c.args.types.now) s (plain_all c.loop-next.values.items) (row_types s) n c.loop-next.rest.now at) ∙ c.loop-next.invariant

pub row_of_values-value_of_type-requires : goal.row_of_values-value_of_type-requires
row_of_values-value_of_type-requires t c =
    let s = shape c.args.form.now in
    let at : slice_get (row_types s) c.len.result ≡ Some c.in-Some-type_at.next.0 = sym c.type_at.ensures ∙ ap (option_map number) c.in-Some-type_at.is in
    let h = one_at (λ t. t < c.args.ty.0) (row_types s) c.len.result c.in-Some-type_at.next.0 c.requires.earlier at in
    let own = c.requires.own in
    (omega (arith, h), omega (arith, h, own))

pub row_of_values-returns-in_default-2 : goal.row_of_values-returns-in_default-2
row_of_values-returns-in_default-2 t c =
    let s = shape c.args.form.now in
    let n = length c.loop-next.values.items in
    let count : c.len.result ≡ n = omega (arith, c.len.ensures, c.loop-next.values.ok) in
    let at : slice_get (row_types s) n ≡ Some c.in-Some-type_at.next.0 = ap (slice_get (row_types s)) (sym count) ∙ sym c.type_at.ensures ∙ ap (option_map number) c.in-Some-type_at.is in
    let f : scan_of c.args.types.now c.in-Some-type_at.next.0 c.loop-next.rest.now ≡ None = sym (c.in_ok-front.ensures.value c.loop-next.rest.now (c.first_word.ensures.word, c.first_word.ensures.rest)) ∙ ap (option_map front_of) c.in_default-2.is in
    sym (no_value (scan_of c.args.types.now) s (plain_all c.loop-next.values.items) (row_types s) n c.in-Some-type_at.next.0 c.loop-next.rest.now at f) ∙ c.loop-next.invariant

pub row_of_values-returns-in_default-after_mark : goal.row_of_values-returns-in_default-after_mark
row_of_values-returns-in_default-after_mark t c =
    let s = shape c.args.form.now in
    let scan = scan_of c.args.types.now in
    let n = length c.loop-next.values.items in
    let count : c.len.result ≡ n = omega (arith, c.len.ensures, c.loop-next.values.ok) in
    let next = c.in-Some-type_at.next.0 in
    let front = c.in-Some-2.front in
    let vs = plain_all c.push.new.self.items in
    let at : slice_get (row_types s) n ≡ Some next = ap (slice_get (row_types s)) (sym count) ∙ sym c.type_at.ensures ∙ ap (option_map number) c.in-Some-type_at.is in
    let f : scan next c.loop-next.rest.now ≡ Some (plain front.value, front.rest.now) = sym (c.in_ok-front.ensures.value c.loop-next.rest.now (c.first_word.ensures.word, c.first_word.ensures.rest)) ∙ ap (option_map front_of) c.in-Some-2.is in
    let long : length c.push.new.self.items ≡ n + 1 = ap length c.in_ok-push.ensures.items ∙ length-append c.loop-next.values.items (front.value ∷ []) in
    let longer : c.len-in_default-after_mark.result ≡ n + 1 = omega (arith, c.len-in_default-after_mark.ensures, c.push.new.self.ok, long) in
    let all : vs ≡ put_last (plain_all c.loop-next.values.items) (plain front.value) = ap plain_all c.in_ok-push.ensures.items ∙ plain_all-last c.loop-next.values.items front.value in
    c.finished.ensures ∙ paired vs (λ r. r.now) c.end_of_row-end.result
    ∙ ap (option_map {U = Vals × List ℕ} (λ q. (vs, q.1))) (c.end_of_row-end.ensures ∙ ap (λ k. ended s (drop k (row_types s)) front.rest.now) longer)
    ∙ ap (λ ws. option_map {U = Vals × List ℕ} (λ q. (ws, q.1)) (ended s (drop (n + 1) (row_types s)) front.rest.now)) all
    ∙ row_end scan s (plain_all c.loop-next.values.items) (row_types s) n next c.loop-next.rest.now (plain front.value) front.rest.now at f (mark_none 44 front.rest.now c.in_default-after_mark.ensures.none)
    ∙ c.loop-next.invariant

pub row_of_values-loop-next-smaller : goal.row_of_values-loop-next-smaller
row_of_values-loop-next-smaller t c =
    let s = shape c.args.form.now in
    let n = length c.loop-next.values.items in
    let count : c.len.result ≡ n = omega (arith, c.len.ensures, c.loop-next.values.ok) in
    let at : slice_get (row_types s) n ≡ Some c.in-Some-type_at.next.0 = ap (slice_get (row_types s)) (sym count) ∙ sym c.type_at.ensures ∙ ap (option_map number) c.in-Some-type_at.is in
    let lt = slice_get_within (row_types s) n c.in-Some-type_at.next.0 at in
    let long : length c.push.new.self.items ≡ n + 1 = ap length c.in_ok-push.ensures.items ∙ length-append c.loop-next.values.items (c.in-Some-2.front.value ∷ []) in
    omega (arith, lt, long)

pub row_of_values-loop-next-preserved : goal.row_of_values-loop-next-preserved
row_of_values-loop-next-preserved t c =
    let s = shape c.args.form.now in
    let scan = scan_of c.args.types.now in
    let n = length c.loop-next.values.items in
    let count : c.len.result ≡ n = omega (arith, c.len.ensures, c.loop-next.values.ok) in
    let next = c.in-Some-type_at.next.0 in
    let front = c.in-Some-2.front in
    let after = c.in-Some-after_mark.after.now in
    let at : slice_get (row_types s) n ≡ Some next = ap (slice_get (row_types s)) (sym count) ∙ sym c.type_at.ensures ∙ ap (option_map number) c.in-Some-type_at.is in
    let f : scan next c.loop-next.rest.now ≡ Some (plain front.value, front.rest.now) = sym (c.in_ok-front.ensures.value c.loop-next.rest.now (c.first_word.ensures.word, c.first_word.ensures.rest)) ∙ ap (option_map front_of) c.in-Some-2.is in
    let long : length c.push.new.self.items ≡ n + 1 = ap length c.in_ok-push.ensures.items ∙ length-append c.loop-next.values.items (front.value ∷ []) in
    let all : plain_all c.push.new.self.items ≡ put_last (plain_all c.loop-next.values.items) (plain front.value) = ap plain_all c.in_ok-push.ensures.items ∙ plain_all-last c.loop-next.values.items front.value in
    ap₂ (λ vs k. joined vs (scan_first scan s (drop k (row_types s)) after)) all long
    ∙ row_next scan s (plain_all c.loop-next.values.items) (row_types s) n next c.loop-next.rest.now (plain front.value) front.rest.now after at f (mark_some 44 front.rest.now after c.in-Some-after_mark.ensures.found)
    ∙ c.loop-next.invariant

pub composite-returns-in_default : goal.composite-returns-in_default
composite-returns-in_default t c = λ text h.
    let types = c.args.types.now in
    let s = shape c.args.form.now in
    let ty = c.args.ty.0 in
    let begun = ap₂ (λ w rest. cond (bytes_eq w (type_name types ty)) (after_mark (opening s) rest) None) h.0 h.1 in
    made_by (scan_of types) types ty s text None (sym (ap (option_map (λ r. r.now)) c.in_default.is) ∙ c.opened.ensures ∙ begun)

pub composite-returns-in_default-2 : goal.composite-returns-in_default-2
composite-returns-in_default-2 t c = λ text h.
    let types = c.args.types.now in
    let s = shape c.args.form.now in
    let scan = scan_of types in
    let ty = c.args.ty.0 in
    let inner = c.in-Some.inner.now in
    let begun = ap₂ (λ w rest. cond (bytes_eq w (type_name types ty)) (after_mark (opening s) rest) None) h.0 h.1 in
    let row : None ≡ scan_row scan s inner = sym (ap (option_map row_of) c.in_default-2.is) ∙ c.in_ok-row.ensures in
    ap (option_map {U = Val × List ℕ} (λ q. (made ty s q.0, q.1))) row
    ∙ made_by scan types ty s text (Some inner) (sym (ap (option_map (λ r. r.now)) c.in-Some.is) ∙ c.opened.ensures ∙ begun)

pub composite-returns : goal.composite-returns
composite-returns t c = λ text h.
    let types = c.args.types.now in
    let s = shape c.args.form.now in
    let scan = scan_of types in
    let ty = c.args.ty.0 in
    let inner = c.in-Some.inner.now in
    let begun = ap₂ (λ w rest. cond (bytes_eq w (type_name types ty)) (after_mark (opening s) rest) None) h.0 h.1 in
    let row : Some (row_of c.in-Some-2.row) ≡ scan_row scan s inner = sym (ap (option_map row_of) c.in-Some-2.is) ∙ c.in_ok-row.ensures in
    ap Some c.made.ensures
    ∙ ap (option_map {U = Val × List ℕ} (λ q. (made ty s q.0, q.1))) row
    ∙ made_by scan types ty s text (Some inner) (sym (ap (option_map (λ r. r.now)) c.in-Some.is) ∙ c.opened.ensures ∙ begun)

pub value_of_type-composite-requires-in-Sequence : goal.value_of_type-composite-requires-in-Sequence
value_of_type-composite-requires-in-Sequence t c =
    (omega arith, (c.requires, row_earlier c.args.ty.0 (shape c.in-Some.form.now) c.in-Some.ensures.stands))

pub value_of_type-returns-in_default-clause-value : goal.value_of_type-returns-in_default-clause-value
value_of_type-returns-in_default-clause-value t c = λ text h.
    let types = c.args.types.now in
    let ty = c.args.ty.0 in
    sym (ap (λ o. scan_shaped (λ k r. scan_in ty types k r) types ty o text) c.in_default.ensures.missing)

pub value_of_type-returns-in-Truths-clause-value : goal.value_of_type-returns-in-Truths-clause-value
value_of_type-returns-in-Truths-clause-value t c = λ text h.
    let types = c.args.types.now in
    let ty = c.args.ty.0 in
    let at : shape_at types ty ≡ Some truths = c.in-Some.ensures.found ∙ ap (λ f. Some (shape f)) c.in-Truths.is in
    c.at_word.ensures ∙ ap₂ (λ rest o. option_map {U = Val × List ℕ} (λ v. (v, rest)) o) h.1 (c.truth.ensures ∙ ap truth_in h.0)
    ∙ sym (ap (λ o. scan_shaped (λ k r. scan_in ty types k r) types ty o text) at)

pub value_of_type-returns-in-Numbers-clause-value : goal.value_of_type-returns-in-Numbers-clause-value
value_of_type-returns-in-Numbers-clause-value t c = λ text h.
    let types = c.args.types.now in
    let ty = c.args.ty.0 in
    let at : shape_at types ty ≡ Some numbers = c.in-Some.ensures.found ∙ ap (λ f. Some (shape f)) c.in-Numbers.is in
    c.at_word-in-Numbers.ensures ∙ ap₂ (λ rest o. option_map {U = Val × List ℕ} (λ v. (v, rest)) o) h.1 (c.numeral.ensures ∙ ap (λ w. option_map num (number_in w)) h.0)
    ∙ sym (ap (λ o. scan_shaped (λ k r. scan_in ty types k r) types ty o text) at)

pub value_of_type-returns-in-Names-clause-value : goal.value_of_type-returns-in-Names-clause-value
value_of_type-returns-in-Names-clause-value t c = λ text h.
    let types = c.args.types.now in
    let ty = c.args.ty.0 in
    let at : shape_at types ty ≡ Some (shape (Names c.in-Names.field-0)) = c.in-Some.ensures.found ∙ ap (λ f. Some (shape f)) c.in-Names.is in
    c.at_word-in-Names.ensures ∙ ap₂ (λ rest o. option_map {U = Val × List ℕ} (λ v. (v, rest)) o) h.1 (c.constant.ensures ∙ ap (constant_in types ty) h.0)
    ∙ sym (ap (λ o. scan_shaped (λ k r. scan_in ty types k r) types ty o text) at)

pub value_of_type-returns-in-Fields-clause-value : goal.value_of_type-returns-in-Fields-clause-value
value_of_type-returns-in-Fields-clause-value t c = λ text h.
    let types = c.args.types.now in
    let ty = c.args.ty.0 in
    let at : shape_at types ty ≡ Some (shape (Fields c.in-Fields.field-0)) = c.in-Some.ensures.found ∙ ap (λ f. Some (shape f)) c.in-Fields.is in
    let whole = ap (λ f. scan_made (scan_of types) types ty (shape f) text) c.in-Fields.is ∙ sym (ap (λ o. scan_shaped (scan_of types) types ty o text) at) ∙ sym (unfolded types c.form.ensures.types ty text) in
    subst (λ x. IfOk c.composite.result (λ r. option_map front_of r ≡ x)) whole (c.composite.ensures text h)

pub value_of_type-returns-in-Sequence-clause-value : goal.value_of_type-returns-in-Sequence-clause-value
value_of_type-returns-in-Sequence-clause-value t c = λ text h.
    let types = c.args.types.now in
    let ty = c.args.ty.0 in
    let at : shape_at types ty ≡ Some (shape (Sequence c.in-Sequence.field-0 c.in-Sequence.field-1)) = c.in-Some.ensures.found ∙ ap (λ f. Some (shape f)) c.in-Sequence.is in
    let whole = ap (λ f. scan_made (scan_of types) types ty (shape f) text) c.in-Sequence.is ∙ sym (ap (λ o. scan_shaped (scan_of types) types ty o text) at) ∙ sym (unfolded types c.form.ensures.types ty text) in
    subst (λ x. IfOk c.composite-in-Sequence.result (λ r. option_map front_of r ≡ x)) whole (c.composite-in-Sequence.ensures text h)
