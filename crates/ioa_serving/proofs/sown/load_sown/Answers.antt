use Rattle.std.proofs.Common.{inl, subst, sym}
use Rattle.std.specs.Option.{option_copied}
use Rattle.std.proofs.lemmas.Result.{err_from_is_err_and}
use Rattle.ioa_compile.specs.Subjects.{Subject}
use Rattle.ioa_serving.specs.Headline.{IsFileOf}
use Rattle.ioa_serving.specs.SeedRuns.{StandsFor, asked}
use Rattle.ioa_serving.proofs.Refused.{err_so}
use Rattle.ioa_serving.proofs.Sowing.{stands_too, unprogrammed}
use Rattle.ioa_serving.proofs.Unrun.{unloaded}
use Rattle.ioa_serving.proofs.sown.load_sown.Goals as goal

pub returns-in_err-text-clause-refused : goal.returns-in_err-text-clause-refused
returns-in_err-text-clause-refused g c =
    let e = err_from_is_err_and c.from_residual.result c.from_residual.ensures.1 in
    err_so c.from_residual.result e.0 _ _ e.1 e.2
    (inl (unloaded (g.F.Store.holds c.args.store.now) (g.F.Store.lacks c.args.store.now) c.args.seeds.now.run c.in_err-text.field-0.0 c.in_err-text.ensures.io))

pub returns-in_err-programs-clause-refused : goal.returns-in_err-programs-clause-refused
returns-in_err-programs-clause-refused g c =
    let e = err_from_is_err_and c.from_residual-in_err-programs.result c.from_residual-in_err-programs.ensures.1 in
    let held = subst (g.F.Store.holds c.args.store.now c.args.seeds.now.run.file.now) (sym c.as_slice.ensures.value) c.in_ok-text.ensures.ok in
    err_so c.from_residual-in_err-programs.result e.0 _ _ e.1 e.2
    (unprogrammed (g.F.Store.holds c.args.store.now) (g.F.Store.lacks c.args.store.now) c.args.seeds.now c.as_slice.result.now c.in_err-programs.field-0.0 held c.in_err-programs.ensures.refused)

pub returns-in_err-ready-clause-refused : goal.returns-in_err-ready-clause-refused
returns-in_err-ready-clause-refused g c =
    let e = err_from_is_err_and c.from_residual-in_err-ready.result c.from_residual-in_err-ready.ensures.1 in
    let held = subst (g.F.Store.holds c.args.store.now c.args.seeds.now.run.file.now) (sym c.as_slice.ensures.value) c.in_ok-text.ensures.ok in
    let of = c.in_ok-programs.ensures.gives in
    err_so c.from_residual-in_err-ready.result e.0 _ _ e.1 e.2 (inl (c.in_err-ready.ensures.refused of.0 (c.as_slice.result.now, held, of.1) of.2))

pub returns-clause-sown : goal.returns-clause-sown
returns-clause-sown g c =
    let held = subst (g.F.Store.holds c.args.store.now c.args.seeds.now.run.file.now) (sym c.as_slice.ensures.value) c.in_ok-text.ensures.ok in
    let of = c.in_ok-programs.ensures.gives in
    let k = c.in_ok-ready.ensures.ready of.0 (c.as_slice.result.now, held, of.1) of.2 of.3 in
    record {
      text = c.as_slice.result.now;
      held = held;
      ready = k.0;
      gives = subst (IsFileOf c.as_slice.result.now (option_copied c.args.seeds.now.run.composition)) (sym k.1) of.1;
      specified = c.in_ok-programs.ensures.specified;
      stands = stands_too c.args.seeds.now.invariants k.0.subject c.in_ok-programs.programs.sourced.source c.in_ok-ready.ready.source
          (subst (λ (x : Subject). StandsFor c.args.seeds.now.invariants x (asked c.args.seeds.now.invariants c.in_ok-programs.programs.sourced.source)) (sym k.1) of.4) k.0.declares;
    }
