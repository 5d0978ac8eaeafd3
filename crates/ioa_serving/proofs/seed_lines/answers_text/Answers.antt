use Rattle.std.proofs.Common.{◌∙◌, ◌≤◌, ◌<◌, List, Option, ap, length, map, option_map, string_bytes, refl, rules, arith}
use Rattle.std.specs.Borrow.{Bor}
use Rattle.std.specs.List.{zip}
use Rattle.std.proofs.lemmas.Option.{slice_get-get_or, slice_get-map}
use Rattle.ioa_value.specs.Actions.{Name}
use Rattle.ioa_tree.specs.Runs.{Ending}
use Rattle.ioa_system.specs.declared.outcomes.End.{End}
use Rattle.ioa_system.specs.Outcomes.{ending_of}
use Rattle.ioa_request.specs.Pasted.{texts}
use Rattle.ioa_watch.proofs.HeardUpTo.{flat_all, flat_up_to}
use Rattle.ioa_serving.specs.Seeds.{answer_behind}
use Rattle.ioa_serving.proofs.Counting.{zipped_at, zipped_few}
use Rattle.ioa_serving.proofs.seed_lines.answers_text.Goals as goal

pub loop-place-preserved : goal.loop-place-preserved
loop-place-preserved c =
    let ns : List (Bor Name) = c.args.names.now in
    let os : List (Option End) = c.args.answers.now in
    let ks : List (Option Ending) = map (option_map ending_of) os in
    let i = c.loop-place.place in
    let inside : i < length ns = search rules in
    let within : i < length os = omega (arith, inside, c.requires) in
    flat_up_to answer_behind (zip (texts ns) ks) i _ (string_bytes c.loop-place.text) _ (string_bytes c.push_answer.new.text)
    (zipped_at ns ks i _ _ (slice_get-get_or ns i _ inside)
    (slice_get-map (option_map ending_of) os i ∙ ap (option_map (option_map ending_of)) (slice_get-get_or os i _ within))) c.loop-place.invariant refl c.in_ok-push_answer.ensures

pub returns : goal.returns
returns c =
    let ns : List (Bor Name) = c.args.names.now in
    let ks : List (Option Ending) = map (option_map ending_of) c.args.answers.now in
    let least : length ns ≤ c.loop-place.place = search rules in
    flat_all answer_behind (zip (texts ns) ks) c.loop-place.place (string_bytes c.loop-place.text) (omega (arith, least, zipped_few ns ks)) c.loop-place.invariant
