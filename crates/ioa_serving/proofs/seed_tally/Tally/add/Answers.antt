use Rattle.std.proofs.Common.{option_map, sym, ◌∙◌}
use Rattle.std.proofs.lemmas.Bool.{false≢true}
use Rattle.ioa_system.specs.Logs.{logged}
use Rattle.ioa_serving.specs.SeedRuns.{judged_of}
use Rattle.ioa_serving.proofs.Shortest.{stays, takes_place}
use Rattle.ioa_serving.proofs.seed_tally.Tally.add.Goals as goal

pub returns-then-not-takes_its_place-clause-tallied : goal.returns-then-not-takes_its_place-clause-tallied
returns-then-not-takes_its_place-clause-tallied c = λ k js so. (
  c.add.ensures k js so.0,
  stays js (option_map logged c.args.self.now.shortest) (judged_of c.args.judged) so.1
      (λ h. false≢true (sym c.if-not-takes_its_place.true ∙ c.takes_its_place.ensures.1 h)),
)

pub returns-clause-tallied : goal.returns-clause-tallied
returns-clause-tallied c = λ k js so.
    let first = c.takes_its_place.ensures.0 c.if-not-takes_its_place.false in
    (c.add.ensures k js so.0, takes_place js (option_map logged c.args.self.now.shortest) (judged_of c.args.judged) so.1 first.0 first.1)
