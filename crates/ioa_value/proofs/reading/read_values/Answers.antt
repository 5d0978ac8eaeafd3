use Rattle.std.proofs.Common.{◌≡◌, ◌∷◌, [], Some, map, refl, sym, ap, subst, ◌∙◌}
use Rattle.std.specs.Option.{option_map}
use Rattle.std.proofs.lemmas.Bool.{false≢true}
use Rattle.std.proofs.lemmas.List.{map-append}
use Rattle.ioa_value.specs.Plain.{plain}
use Rattle.ioa_value.specs.Fronts.{front_of}
use Rattle.ioa_value.specs.Scanning.{scan_value}
use Rattle.ioa_value.specs.Reads.{ReadsValues}
use Rattle.ioa_value.proofs.ReadLemmas.{Reaches, at_start, stops, no_value, no_mark, no_end, last_value, next_value, shorter}
use Rattle.ioa_value.proofs.OnceLemmas.{values_once}
use Rattle.ioa_value.proofs.reading.read_values.Goals as goal

pub loop-front-init : goal.loop-front-init
loop-front-init c =
    subst (λ xs. Reaches c.args.types.now c.args.text.now (map plain xs) c.args.text.now) (sym c.requires) (at_start c.args.types.now c.args.text.now)

pub returns-in_default-clause-read : goal.returns-in_default-clause-read
returns-in_default-clause-read c =
    let types = c.args.types.now in
    let declared = c.in_ok-front.ensures.types in
    stops types c.args.text.now c.loop-front.rest.now (map plain c.loop-front.vals.items) c.loop-front.invariant
    (no_value types declared c.loop-front.rest.now (sym c.in_ok-front.ensures.value ∙ ap (option_map front_of) c.in_default.is))

pub returns-in_default-clause-only : goal.returns-in_default-clause-only
returns-in_default-clause-only c = λ vs r. absurd (returns-in_default-clause-read c vs r)

pub returns-then-is_blank_text-clause-read : goal.returns-then-is_blank_text-clause-read
returns-then-is_blank_text-clause-read c =
    let types = c.args.types.now in
    let declared = c.in_ok-front.ensures.types in
    let front = c.in-Some.front in
    let before = map plain c.loop-front.vals.items in
    let all = ap (map plain) c.in_ok-push.ensures.items ∙ map-append plain c.loop-front.vals.items (front.value ∷ []) in
    let s : scan_value types c.loop-front.rest.now ≡ Some (plain front.value, front.rest.now) = sym c.in_ok-front.ensures.value ∙ ap (option_map front_of) c.in-Some.is in
    subst (ReadsValues types c.args.text.now) (sym all)
    (last_value types declared c.args.text.now c.loop-front.rest.now before (plain front.value) front.rest.now c.in-Some-after_mark.after.now c.loop-front.invariant s c.in-Some-after_mark.ensures.found (sym c.is_blank_text.ensures ∙ c.if-is_blank_text.true))

pub returns-then-is_blank_text-clause-only : goal.returns-then-is_blank_text-clause-only
returns-then-is_blank_text-clause-only c = λ vs r.
    (refl, values_once c.args.types.now c.in_ok-front.ensures.types c.args.text.now (map plain c.push.new.self.items) vs (returns-then-is_blank_text-clause-read c) r)

pub returns-in-Some-after_mark-clause-read : goal.returns-in-Some-after_mark-clause-read
returns-in-Some-after_mark-clause-read c =
    let types = c.args.types.now in
    let declared = c.in_ok-front.ensures.types in
    let front = c.in-Some.front in
    let s : scan_value types c.loop-front.rest.now ≡ Some (plain front.value, front.rest.now) = sym c.in_ok-front.ensures.value ∙ ap (option_map front_of) c.in-Some.is in
    stops types c.args.text.now c.loop-front.rest.now (map plain c.loop-front.vals.items) c.loop-front.invariant
    (no_end types declared c.loop-front.rest.now (plain front.value) front.rest.now c.in-Some-after_mark.after.now s c.in-Some-after_mark.ensures.found (λ b. false≢true (sym c.if-is_blank_text.false ∙ c.is_blank_text.ensures ∙ b)))

pub returns-in-Some-after_mark-clause-only : goal.returns-in-Some-after_mark-clause-only
returns-in-Some-after_mark-clause-only c = λ vs r. absurd (returns-in-Some-after_mark-clause-read c vs r)

pub returns-in_default-after_mark-2-clause-read : goal.returns-in_default-after_mark-2-clause-read
returns-in_default-after_mark-2-clause-read c =
    let types = c.args.types.now in
    let declared = c.in_ok-front.ensures.types in
    let front = c.in-Some.front in
    let s : scan_value types c.loop-front.rest.now ≡ Some (plain front.value, front.rest.now) = sym c.in_ok-front.ensures.value ∙ ap (option_map front_of) c.in-Some.is in
    stops types c.args.text.now c.loop-front.rest.now (map plain c.loop-front.vals.items) c.loop-front.invariant
    (no_mark types declared c.loop-front.rest.now (plain front.value) front.rest.now s c.in_default-after_mark.ensures.none c.in_default-after_mark-2.ensures.none)

pub returns-in_default-after_mark-2-clause-only : goal.returns-in_default-after_mark-2-clause-only
returns-in_default-after_mark-2-clause-only c = λ vs r. absurd (returns-in_default-after_mark-2-clause-read c vs r)

pub loop-front-smaller : goal.loop-front-smaller
loop-front-smaller c =
    let types = c.args.types.now in
    let front = c.in-Some.front in
    let s : scan_value types c.loop-front.rest.now ≡ Some (plain front.value, front.rest.now) = sym c.in_ok-front.ensures.value ∙ ap (option_map front_of) c.in-Some.is in
    shorter types c.in_ok-front.ensures.types c.loop-front.rest.now (plain front.value) front.rest.now 44 c.in-Some-after_mark-2.after.now s c.in-Some-after_mark-2.ensures.found

pub loop-front-preserved : goal.loop-front-preserved
loop-front-preserved c =
    let types = c.args.types.now in
    let declared = c.in_ok-front.ensures.types in
    let front = c.in-Some.front in
    let before = map plain c.loop-front.vals.items in
    let all = ap (map plain) c.in_ok-push.ensures.items ∙ map-append plain c.loop-front.vals.items (front.value ∷ []) in
    let s : scan_value types c.loop-front.rest.now ≡ Some (plain front.value, front.rest.now) = sym c.in_ok-front.ensures.value ∙ ap (option_map front_of) c.in-Some.is in
    subst (λ vs. Reaches types c.args.text.now vs c.in-Some-after_mark-2.after.now) (sym all)
    (next_value types declared c.args.text.now c.loop-front.rest.now before (plain front.value) front.rest.now c.in-Some-after_mark-2.after.now c.loop-front.invariant s c.in-Some-after_mark-2.ensures.found)
