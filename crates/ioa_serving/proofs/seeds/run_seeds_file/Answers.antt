use Rattle.std.proofs.Common.{◌∙◌, ◌⊎◌, inl, inr, refl}
use Rattle.std.proofs.lemmas.Result.{err_from_is_err_and}
use Rattle.ioa_device.specs.Failing.{HasFailed}
use Rattle.ioa_serving.specs.Worlds.{Files, files}
use Rattle.ioa_serving.proofs.Kept.{keeps_same}
use Rattle.ioa_serving.proofs.Refused.{err_so}
use Rattle.ioa_serving.proofs.SeedCuts.{lent_count}
use Rattle.ioa_serving.proofs.SeedsServed.{names_count, served, unkept, unserved}
use Rattle.ioa_serving.proofs.Shortest.{unchanged}
use Rattle.ioa_serving.proofs.seeds.run_seeds_file.Goals as goal

pub returns-in_err-sown-clause-refused : goal.returns-in_err-sown-clause-refused
returns-in_err-sown-clause-refused g c =
    let e = err_from_is_err_and c.from_residual.result c.from_residual.ensures.1 in
    err_so c.from_residual.result e.0 _ _ e.1 e.2 (refl, inl (unrun c.in_err-sown.ensures.refused, keeps_same (g.W.Write.contents c.args.output.now)))
  where
    unrun : {A B C : Type 0} → A ⊎ B → A ⊎ (B ⊎ C)
    unrun (inl k) = inl k
    unrun (inr k) = inr (inl k)

pub returns-in_err-ask_keep-clause-refused : goal.returns-in_err-ask_keep-clause-refused
returns-in_err-ask_keep-clause-refused g c =
    let e = err_from_is_err_and c.from_residual-in_err-ask_keep.result c.from_residual-in_err-ask_keep.ensures.1 in
    err_so c.from_residual-in_err-ask_keep.result e.0 _ _ e.1 e.2 (refl, inl (inr (inr c.in_err-ask_keep.ensures.refused), keeps_same (g.W.Write.contents c.args.output.now)))

pub tell_all-requires-clause-declares : goal.tell_all-requires-clause-declares
tell_all-requires-clause-declares g c = let k = c.in_ok-sown.ensures.sown.ready in (k.subject, k.runs, k.declares)

pub tell_all-requires-clause-many : goal.tell_all-requires-clause-many
tell_all-requires-clause-many g c =
    names_count (g.F.Store.holds c.args.store.now) c.args.seeds.now c.in_ok-sown.sown c.in_ok-sown.ensures.sown ∙ lent_count c.args.seeds.now.monitors.now

pub returns-in_err-told-clause-refused : goal.returns-in_err-told-clause-refused
returns-in_err-told-clause-refused g c =
    let e = err_from_is_err_and c.from_residual-in_err-told.result c.from_residual-in_err-told.ensures.1 in
    let f : Files = files g.F.Store.holds g.F.Store.lacks g.F.Store.begins g.F.Store.bars g.F.Store.saves c.args.store.now c.args.store.now in
    err_so c.from_residual-in_err-told.result e.0 _ _ e.1 e.2
    (unserved f c.args.seeds.now c.in_ok-sown.sown c.in_ok-sown.ensures.sown c.in_ok-ask_keep.ensures.ok (g.W.Write.contents c.args.output.now) (g.W.Write.contents c.tell_all.new.output)
    (HasFailed (g.W.Device.failure_count c.args.output.now) (g.W.Device.failure_count c.tell_all.new.output)) c.in_err-told.field-0.0 refl c.in_err-told.ensures.refused)

pub returns-in_err-keep-clause-refused : goal.returns-in_err-keep-clause-refused
returns-in_err-keep-clause-refused g c =
    let e = err_from_is_err_and c.from_residual-in_err-keep.result c.from_residual-in_err-keep.ensures.1 in
    let f : Files = files g.F.Store.holds g.F.Store.lacks g.F.Store.begins g.F.Store.bars g.F.Store.saves c.args.store.now c.keep.new.store in
    let told = c.in_ok-told.ensures.told in
    err_so c.from_residual-in_err-keep.result e.0 _ _ e.1 e.2
    (unkept f c.args.seeds.now c.in_ok-sown.sown c.in_ok-sown.ensures.sown c.in_ok-ask_keep.ensures.ok (g.W.Write.contents c.args.output.now) (g.W.Write.contents c.tell_all.new.output)
    c.in_ok-told.told.tally told.0 told.1 (HasFailed (g.W.Device.failure_count c.args.output.now) (g.W.Device.failure_count c.tell_all.new.output)) c.in_err-keep.field-0.0
    c.in_err-keep.ensures.unchanged c.in_err-keep.ensures.refused)

pub returns-clause-served : goal.returns-clause-served
returns-clause-served g c =
    let f : Files = files g.F.Store.holds g.F.Store.lacks g.F.Store.begins g.F.Store.bars g.F.Store.saves c.args.store.now c.keep.new.store in
    let told = c.in_ok-told.ensures.told in
    let k = c.in_ok-sown.ensures.sown.ready in
    served f c.args.seeds.now c.in_ok-sown.sown c.in_ok-sown.ensures.sown c.in_ok-ask_keep.ensures.ok (g.W.Write.contents c.args.output.now) (g.W.Write.contents c.tell_all.new.output)
    c.in_ok-told.told.tally told.0 told.1 c.types-types.result.now _ c.status.result c.types-types.ensures.value c.in_ok-keep.ensures.kept (told.2 k.subject k.runs k.declares) c.status.ensures

pub returns-clause-kept : goal.returns-clause-kept
returns-clause-kept g c =
    let f : Files = files g.F.Store.holds g.F.Store.lacks g.F.Store.begins g.F.Store.bars g.F.Store.saves c.args.store.now c.keep.new.store in
    unchanged f c.types-types.result.now c.args.seeds.now.keep _ c.in_ok-keep.ensures.kept
