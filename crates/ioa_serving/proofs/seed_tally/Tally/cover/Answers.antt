use Rattle.std.proofs.Common.{◌≡◌, ◌∙◌, ◌++◌, ◌∷◌, [], List, None, Option, ap, arith, length, subst, sym}
use Rattle.std.proofs.lemmas.List.{length-map}
use Rattle.std.proofs.lemmas.Result.{on_ok_weaker}
use Rattle.ioa_value.specs.Actions.{Act}
use Rattle.ioa_compile.specs.Programs.{Prog}
use Rattle.ioa_coverage.specs.declared.coverage.Coverage.{Coverage}
use Rattle.ioa_coverage.specs.declared.origin.Origin.{Origin}
use Rattle.ioa_coverage.specs.Counts.{entered}
use Rattle.ioa_coverage.specs.Effects.{CoversAll}
use Rattle.ioa_system.specs.Logs.{logged}
use Rattle.ioa_serving.specs.Logs.{performed_in}
use Rattle.ioa_serving.specs.Seeds.{performed_by_all}
use Rattle.ioa_serving.specs.SeedRuns.{IsCovered, judged_of}
use Rattle.ioa_serving.proofs.SeedsCovered.{counted_by, none_more, some_more}
use Rattle.ioa_serving.proofs.seed_tally.Tally.cover.Goals as goal

pub returns-in_default-clause-covered : goal.returns-in_default-clause-covered
returns-in_default-clause-covered c = λ p source asked js so.
    let none : IsCovered p source asked None js = subst (λ (o : Option Coverage). IsCovered p source asked o js) c.in_default.is so in
    subst (λ (o : Option Coverage). IsCovered p source asked o (js ++ judged_of c.args.judged.now ∷ [])) (sym c.in_default.is)
    (none_more p source asked js (js ++ judged_of c.args.judged.now ∷ []) none)

pub add-requires : goal.add-requires
add-requires c =
    let k = c.requires in
    let few : length c.performed_entries.result.now ≡ length (performed_in (logged c.args.judged.now.log)) =
    sym (length-map c.performed_entries.result.now _) ∙ ap length c.performed_entries.ensures in (
      k.0,
      k.1,
      k.3,
      performed_by_all k.4,
      counted_by k.0 k.1 k.2 c.in-Some.coverage k.4 (subst (λ (o : Option Coverage). IsCovered k.0 k.1 k.2 o k.4) c.in-Some.is k.5),
      k.6,
      k.7,
      omega (arith, k.8, few),
    )

pub returns-clause-covered : goal.returns-clause-covered
returns-clause-covered c = on_ok_weaker {P = (p : Prog) (source : Option Origin) (runs : List (List Act)) → CoversAll p source runs c.in-Some.coverage
    → CoversAll p source (runs ++ entered c.performed_entries.result.now ∷ []) c.add.new.self} c.add.result
    (λ adds. λ p source asked js so.
    some_more p source asked c.in-Some.coverage c.add.new.self js (judged_of c.args.judged.now) (subst (λ (o : Option Coverage). IsCovered p source asked o js) c.in-Some.is so)
    (λ k. subst (λ (acts : List Act). CoversAll p source (performed_by_all js ++ acts ∷ []) c.add.new.self) c.performed_entries.ensures (adds p source (performed_by_all js) k)))
    c.add.ensures
