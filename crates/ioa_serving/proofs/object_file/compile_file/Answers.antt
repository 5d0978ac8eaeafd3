use Rattle.std.proofs.Common.{◌∙◌, ap, refl, subst, sym}
use Rattle.std.specs.Option.{option_copied}
use Rattle.std.proofs.lemmas.Result.{err_from_is_err_and}
use Rattle.ioa_device.specs.Devices.{change}
use Rattle.ioa_device.specs.declared.failure.LogErr.{LogErr}
use Rattle.ioa_serving.specs.declared.failure.Failure.{Failure}
use Rattle.ioa_serving.specs.Compiling.{IsCompiled}
use Rattle.ioa_serving.specs.Worlds.{files}
use Rattle.ioa_serving.proofs.Made.{unmade, unsaved}
use Rattle.ioa_serving.proofs.Refused.{err_so}
use Rattle.ioa_serving.proofs.Kept.{keeps_same}
use Rattle.ioa_serving.proofs.object_file.compile_file.Goals as goal

pub returns-in_err-object-clause-refused : goal.returns-in_err-object-clause-refused
returns-in_err-object-clause-refused g c =
    let e = err_from_is_err_and c.from_residual-in_err-object.result c.from_residual-in_err-object.ensures.1 in
    let held = subst (g.F.Store.holds c.args.store.now c.args.file.now) (sym c.as_slice.ensures.value) c.in_ok-text.ensures.ok in
    let unwritten = change g.W.Write.contents g.W.Device.failure_count c.args.output.now c.args.output.now in
    err_so c.from_residual-in_err-object.result e.0 _ _ e.1 e.2
    (unmade (files g.F.Store.holds g.F.Store.lacks g.F.Store.begins g.F.Store.bars g.F.Store.saves c.args.store.now c.args.store.now) c.args.file.now c.args.out.now
    (option_copied c.args.composition) unwritten c.as_slice.result.now c.in_err-object.field-0.0 held c.in_err-object.ensures.refused refl (keeps_same unwritten.before.bytes))

pub returns-in_err-place-clause-refused : goal.returns-in_err-place-clause-refused
returns-in_err-place-clause-refused g c =
    let e = err_from_is_err_and c.from_residual-in_err-place.result c.from_residual-in_err-place.ensures.1 in
    let held = subst (g.F.Store.holds c.args.store.now c.args.file.now) (sym c.as_slice.ensures.value) c.in_ok-text.ensures.ok in
    let unwritten = change g.W.Write.contents g.W.Device.failure_count c.args.output.now c.args.output.now in
    err_so c.from_residual-in_err-place.result e.0 _ _ e.1 e.2
    (unsaved (files g.F.Store.holds g.F.Store.lacks g.F.Store.begins g.F.Store.bars g.F.Store.saves c.args.store.now c.place.new.store) c.args.file.now c.args.out.now
    (option_copied c.args.composition) unwritten c.as_slice.result.now c.in_ok-object.object.items c.in_err-place.field-0.0 held c.in_ok-object.ensures.compiles c.in_err-place.ensures.io c.in_err-place.ensures.kept (keeps_same unwritten.before.bytes))

pub returns-in_err-send_all-clause-refused : goal.returns-in_err-send_all-clause-refused
returns-in_err-send_all-clause-refused g c =
    let e = err_from_is_err_and c.from_residual-in_err-send_all.result c.from_residual-in_err-send_all.ensures.1 in
    let held = subst (g.F.Store.holds c.args.store.now c.args.file.now) (sym c.as_slice.ensures.value) c.in_ok-text.ensures.ok in
    let compiled = subst (IsCompiled c.as_slice.result.now (option_copied c.args.composition)) (sym c.as_slice-2.ensures.value) c.in_ok-object.ensures.compiles in
    err_so c.from_residual-in_err-send_all.result e.0 (Failure.List LogErr.Io) _ e.1 (e.2 ∙ ap Failure.List c.in_err-send_all.ensures.io.0)
    (c.in_err-send_all.ensures.io.1, (c.as_slice.result.now, c.as_slice-2.result.now, held, compiled, c.in_ok-place.ensures.ok), c.in_err-send_all.ensures.begun)
