use Rattle.std.proofs.Common.{◌≡◌, ◌+◌, ◌++◌, ◌∷◌, [], ℕ, List, append-nil, cond, true, false, map, take, vec_items, sym, ap, ◌∙◌}
use Rattle.ioa_tree.specs.declared.tree.Kind.{Kind}
use Rattle.ioa_compile.specs.Shown.{entry_code, member_code}
use Rattle.ioa_picture.specs.Graphs.{has_of}
use Rattle.ioa_picture.specs.Lines.{numbers}
use Rattle.ioa_picture.proofs.Numbered.{number_more}
use Rattle.ioa_picture.proofs.graphs.takers.Goals as goal
use Rattle.ioa_picture.proofs.graphs.takers.Goals.{then-has_of+in_ok-push, else-has_of}

pub loop-i-preserved : goal.loop-i-preserved
loop-i-preserved c =
    let holds = has_of c.args.types.now Kind.Input (entry_code c.args.entry.now) in
    let x = member_code c.index-members-i.result in
    let i = c.loop-i.i in
    let old = c.loop-i.takers.items in
    let step : (new : List ℕ) → new ≡ old ++ cond (holds x) (i ∷ []) [] → new ≡ numbers holds 0 (take (i + 1) (map member_code c.args.members.now)) =
    λ new more. number_more holds member_code c.args.members.now i c.index-members-i.result old new c.loop-i-test.true c.index-members-i.is c.loop-i.invariant more in
    elim c.if-has_of.branch [
      | then-has_of+in_ok-push w ↦
          let has : holds x ≡ true = sym c.has_of.ensures ∙ w.if-has_of.true in
          step c.if-has_of.takers.items (ap vec_items w.takers-is ∙ w.in_ok-push.ensures.items ∙ ap (λ b. old ++ cond b (i ∷ []) []) (sym has))
      | else-has_of w ↦
          let lacks : holds x ≡ false = sym c.has_of.ensures ∙ w.if-has_of.false in
          step c.if-has_of.takers.items (ap vec_items w.takers-is ∙ sym (append-nil old) ∙ ap (λ b. old ++ cond b (i ∷ []) []) (sym lacks))
    ]
