use Rattle.std.proofs.Common.{◌≡◌, ◌++◌, ◌∙◌, ◌%◌, ℕ, List, Some, None, ap, map, refl, subst, sym, arith}
use Rattle.std.specs.Option.{option_map}
use Rattle.std.proofs.lemmas.List.{map-append}
use Rattle.ioa_value.specs.Plain.{Val, plain}
use Rattle.ioa_value.specs.declared.value.Value.{Value}
use Rattle.ioa_enabled.specs.Ways.{Values}
use Rattle.ioa_enabled.proofs.Repeating.{again, column_ends, column_more, column_stops}
use Rattle.ioa_enabled.proofs.columns.column.Goals as goal

pub loop-word-init : goal.loop-word-init
loop-word-init c = λ v there apart gives. (ap (map plain) c.new-values.ensures.items, omega arith)

-- the value that was given
value_is : (x v : Val) (o : ℕ) → Some x ≡ Some v → x ≡ v
value_is x v o e = cc

pub returns-in_default : goal.returns-in_default
returns-in_default c = λ v there apart gives.
    let none : None ≡ Some (v.value (c.loop-word.word % v.count)) = ap (option_map plain) (sym c.in_default.is) ∙ c.in_ok-value.ensures ∙ gives c.loop-word.word in
    absurd (cc)

pub returns-then-is_first : goal.returns-then-is_first
returns-then-is_first c = λ v there apart gives.
    let so_far = c.loop-word.invariant v there apart gives in
    let given : Some (plain c.in-Some.value) ≡ Some (v.value (c.loop-word.word % v.count)) = ap (option_map plain) (sym c.in-Some.is) ∙ c.in_ok-value.ensures ∙ gives c.loop-word.word in
    column_stops v there apart c.loop-word.word (map plain c.loop-word.values.items) (plain c.in-Some.value) so_far.0 so_far.1 (value_is _ _ 0 given) c.args.most c.loop-word-test.true
    (ap (λ (vs : List Value). again (map plain vs) (plain c.in-Some.value)) (sym c.deref.ensures.value) ∙ sym c.is_first.ensures ∙ c.if-is_first.true)

pub loop-word-preserved : goal.loop-word-preserved
loop-word-preserved c = λ v there apart gives.
    let so_far = c.loop-word.invariant v there apart gives in
    let given : Some (plain c.in-Some.value) ≡ Some (v.value (c.loop-word.word % v.count)) = ap (option_map plain) (sym c.in-Some.is) ∙ c.in_ok-value.ensures ∙ gives c.loop-word.word in
    let more =
    column_more v there apart c.loop-word.word (map plain c.loop-word.values.items) (plain c.in-Some.value) so_far.0 so_far.1 (value_is _ _ 0 given)
    (ap (λ (vs : List Value). again (map plain vs) (plain c.in-Some.value)) (sym c.deref.ensures.value) ∙ sym c.is_first.ensures ∙ c.if-is_first.false) in
    (ap (map plain) c.in_ok-push.ensures.items ∙ map-append plain c.loop-word.values.items _ ∙ more.0, more.1)

pub returns : goal.returns
returns c = λ v there apart gives.
    let so_far = c.loop-word.invariant v there apart gives in
    column_ends v c.loop-word.word c.args.most (map plain c.loop-word.values.items) so_far.0 so_far.1 (omega arith)
