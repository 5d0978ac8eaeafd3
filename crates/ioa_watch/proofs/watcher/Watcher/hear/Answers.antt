use Rattle.std.proofs.Common.{arith, sym, ◌∙◌}
use Rattle.std.proofs.lemmas.List.{length-map}
use Rattle.ioa_value.proofs.PlaceLemmas.{place_from_below}
use Rattle.ioa_watch.specs.Watchers.{names_in}
use Rattle.ioa_watch.proofs.watcher.Watcher.hear.Goals as goal

pub perform-requires-clause-place : goal.perform-requires-clause-place
perform-requires-clause-place c =
    let w = c.args.self.now in
    let below = place_from_below 0 (names_in w) c.as_str.result.now c.in-Some.place (sym c.place.ensures ∙ c.in-Some.is) in
    omega (arith, below.1, length-map w.names.list.items (λ n. n.now))
