use Rattle.std.proofs.Common.{◌≡◌, ◌∙◌, ℕ, ◌<◌, ◌≤◌, List, [], ◌∷◌, Some, ap, length, map, sym, arith}
use Rattle.std.specs.Option.{option_map}
use Rattle.std.specs.Vec.{vec_len}
use Rattle.std.proofs.lemmas.List.{length-map, map-append}
use Rattle.ioa_value.specs.Actions.{Act, act_of}
use Rattle.ioa_value.specs.Plain.{Val, plain}
use Rattle.ioa_parts.specs.Proposals.{values_in}
use Rattle.ioa_compile.specs.Programs.{EntryCode}
use Rattle.ioa_compile.specs.Shown.{entry_code}
use Rattle.ioa_enabled.specs.Sampled.{sampled}
use Rattle.ioa_enabled.proofs.Gathering.{HasPlace, all_places, place_has, place_more}
use Rattle.ioa_enabled.proofs.Giving.{no_ways}
use Rattle.ioa_enabled.proofs.columns.columns.Goals as goal

pub returns-in_default-clause-none : goal.returns-in_default-clause-none
returns-in_default-clause-none c = λ cs has.
    no_ways (entry_code c.args.entry.now) c.args.state.now.values cs has 0 (sym c.in_ok-first.ensures ∙ ap (option_map act_of) c.in_default.is)

pub loop-place-preserved : goal.loop-place-preserved
loop-place-preserved c = λ cs has.
    let e : EntryCode = entry_code c.args.entry.now in
    let s : List Val = c.args.state.now.values in
    let a : Act = act_of c.in-Some.first in
    let is : sampled e s 0 ≡ Some a = sym c.in_ok-first.ensures ∙ ap (option_map act_of) c.in-Some.is in
    let long : length a.vals ≡ length c.in-Some.first.vals.items = length-map c.in-Some.first.vals.items plain in
    let items : vec_len c.in-Some.first.vals ≡ length c.in-Some.first.vals.items = omega (arith, c.in-Some.first.vals.ok.0) in
    let less : c.loop-place.place < length a.vals = omega (arith, long, items, c.len-place-end.ensures, c.loop-place-test.true) in
    let p : HasPlace e s cs c.loop-place.place = place_has e s cs has a is c.loop-place.place less in
    ap (map values_in) c.in_ok-push.ensures.items ∙ map-append values_in c.loop-place.all.items (c.in_ok-values.values ∷ [])
    ∙ place_more c.args.most cs c.loop-place.place p.values (map values_in c.loop-place.all.items) (values_in c.in_ok-values.values) p.at (c.loop-place.invariant cs has)
    (c.in_ok-values.ensures p.values p.some p.apart p.gives)

pub returns-clause-some : goal.returns-clause-some
returns-clause-some c = λ cs has.
    let e : EntryCode = entry_code c.args.entry.now in
    let s : List Val = c.args.state.now.values in
    let a : Act = act_of c.in-Some.first in
    let is : sampled e s 0 ≡ Some a = sym c.in_ok-first.ensures ∙ ap (option_map act_of) c.in-Some.is in
    let long : length a.vals ≡ length c.in-Some.first.vals.items = length-map c.in-Some.first.vals.items plain in
    let items : vec_len c.in-Some.first.vals ≡ length c.in-Some.first.vals.items = omega (arith, c.in-Some.first.vals.ok.0) in
    let last : length a.vals ≤ c.loop-place.place = omega (arith, long, items, c.len-place-end.ensures, c.loop-place-test.false) in
    all_places e s cs has a is c.args.most c.loop-place.place (map values_in c.loop-place.all.items) last (c.loop-place.invariant cs has)
