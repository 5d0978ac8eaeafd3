use Rattle.std.proofs.Common.{◌≤◌, ◌<◌, List, ℕ, length, string_bytes, refl, rules, arith}
use Rattle.std.specs.Borrow.{Bor}
use Rattle.std.specs.List.{zip}
use Rattle.std.proofs.lemmas.Option.{slice_get-get_or}
use Rattle.ioa_value.specs.Actions.{Name}
use Rattle.ioa_watch.specs.Names.{shown}
use Rattle.ioa_watch.proofs.HeardUpTo.{flat_all, flat_up_to}
use Rattle.ioa_serving.specs.Counting.{taken_of}
use Rattle.ioa_serving.proofs.Counting.{zipped_at, zipped_few}
use Rattle.ioa_serving.proofs.stream_counts.taken_text.Goals as goal

pub loop-i-preserved : goal.loop-i-preserved
loop-i-preserved c =
    let ns : List (Bor Name) = c.args.names.now in
    let ks : List ℕ = c.args.counts.now in
    let i = c.loop-i.i in
    let inside : i < length ns = search rules in
    let within : i < length ks = omega (arith, inside, c.requires) in
    flat_up_to taken_of (zip (shown ns) ks) i _ (string_bytes c.loop-i.text) _ (string_bytes c.push_taken.new.text)
    (zipped_at ns ks i _ _ (slice_get-get_or ns i _ inside) (slice_get-get_or ks i _ within)) c.loop-i.invariant refl c.in_ok-push_taken.ensures

pub returns : goal.returns
returns c =
    let ns : List (Bor Name) = c.args.names.now in
    let ks : List ℕ = c.args.counts.now in
    let least : length ns ≤ c.loop-i.i = search rules in
    flat_all taken_of (zip (shown ns) ks) c.loop-i.i (string_bytes c.loop-i.text) (omega (arith, least, zipped_few ns ks)) c.loop-i.invariant
