use Rattle.std.proofs.Common.{◌≤◌, ◌<◌, List, ℕ, length, string_bytes, refl, rules, arith}
use Rattle.std.specs.Borrow.{Bor}
use Rattle.std.specs.List.{zip}
use Rattle.std.proofs.lemmas.Option.{slice_get-get_or}
use Rattle.ioa_value.specs.Actions.{Name}
use Rattle.ioa_request.specs.Pasted.{texts}
use Rattle.ioa_watch.proofs.HeardUpTo.{flat_all, flat_up_to}
use Rattle.ioa_serving.specs.Seeds.{refusals_behind}
use Rattle.ioa_serving.proofs.Counting.{zipped_at, zipped_few}
use Rattle.ioa_serving.proofs.seed_lines.refusals_text.Goals as goal

pub loop-place-preserved : goal.loop-place-preserved
loop-place-preserved c =
    let ns : List (Bor Name) = c.args.names.now in
    let ks : List ℕ = c.args.counts.now in
    let i = c.loop-place.place in
    let inside : i < length ns = search rules in
    let within : i < length ks = omega (arith, inside, c.requires) in
    flat_up_to refusals_behind (zip (texts ns) ks) i _ (string_bytes c.loop-place.text) _ (string_bytes c.push_refusals.new.text)
    (zipped_at ns ks i _ _ (slice_get-get_or ns i _ inside) (slice_get-get_or ks i _ within)) c.loop-place.invariant refl c.in_ok-push_refusals.ensures

pub returns : goal.returns
returns c =
    let ns : List (Bor Name) = c.args.names.now in
    let ks : List ℕ = c.args.counts.now in
    let least : length ns ≤ c.loop-place.place = search rules in
    flat_all refusals_behind (zip (texts ns) ks) c.loop-place.place (string_bytes c.loop-place.text) (omega (arith, least, zipped_few ns ks)) c.loop-place.invariant
