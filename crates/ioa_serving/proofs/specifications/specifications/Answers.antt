use Rattle.std.proofs.Common.{◌≡◌, ◌+◌, ◌<◌, ◌≤◌, All, List, false, inl, inr, length, refl, rules, subst, sym, take}
use Rattle.std.proofs.lemmas.Result.{err_from_is_err_and}
use Rattle.std.specs.Borrow.{Bor}
use Rattle.std.specs.List.{AllZip}
use Rattle.ioa_value.specs.Actions.{Name}
use Rattle.ioa_compile.specs.Programs.{Prog}
use Rattle.ioa_monitor.specs.Monitoring.{hides}
use Rattle.ioa_request.specs.Pasted.{texts}
use Rattle.ioa_tree.specs.View.{tree_of}
use Rattle.ioa_serving.specs.declared.failure.Failure.{Failure}
use Rattle.ioa_serving.specs.Watching.{Specifies}
use Rattle.ioa_serving.proofs.Refused.{err_so}
use Rattle.ioa_serving.proofs.Specified.{first_unspecified, open_more, specified_all, specified_more}
use Rattle.ioa_serving.proofs.specifications.specifications.Goals as goal

pub loop-composition-preserved : goal.loop-composition-preserved
loop-composition-preserved c =
    let s = tree_of c.args.checked.now in
    let xs : List (Bor Name) = c.args.compositions.now in
    let i = c.loop-composition.composition-index in
    let ps : List Prog = c.loop-composition.programs.items in
    let p : Prog = c.in_ok-program.program in
    let inside : i < length xs = search rules in
    record {
      each = subst (AllZip (Specifies s) (texts (take (i + 1) xs))) (sym c.in_ok-push.ensures.items)
          (specified_more s xs i _ ps p inside c.loop-composition.invariant.each c.in_ok-program.ensures.specifies);
      seen = subst (All (λ (q : Prog). hides q ≡ false)) (sym c.in_ok-push.ensures.items) (open_more ps p c.loop-composition.invariant.seen c.in_ok-program.ensures.open);
    }

pub returns-in_err-program-clause-refused : goal.returns-in_err-program-clause-refused
returns-in_err-program-clause-refused c =
    let e = err_from_is_err_and c.from_residual.result c.from_residual.ensures.1 in
    let xs : List (Bor Name) = c.args.compositions.now in
    let i = c.loop-composition.composition-index in
    let inside : i < length xs = search rules in
    err_so c.from_residual.result e.0 _ _ e.1 e.2
    (inl (first_unspecified (tree_of c.args.checked.now) xs i _ c.loop-composition.programs.items c.in_err-program.field-0.0 inside c.loop-composition.invariant.each
    c.in_err-program.ensures.refused))

pub returns-in_err-push-clause-refused : goal.returns-in_err-push-clause-refused
returns-in_err-push-clause-refused c =
    let e = err_from_is_err_and c.from_residual-in_err-push.result c.from_residual-in_err-push.ensures.1 in
    err_so c.from_residual-in_err-push.result e.0 Failure.OutOfMemory _ e.1 e.2 (inr refl)

pub returns-clause-specify : goal.returns-clause-specify
returns-clause-specify c =
    let xs : List (Bor Name) = c.args.compositions.now in
    let all : length xs ≤ c.loop-composition.composition-index = search rules in
    specified_all (tree_of c.args.checked.now) xs c.loop-composition.composition-index c.loop-composition.programs.items all c.loop-composition.invariant.each
