use Rattle.std.proofs.Common.{◌≡◌, ◌⊎◌, Option, Some, inl, inr, refl, string_bytes, subst, sym}
use Rattle.std.specs.List.{Contains}
use Rattle.std.specs.Option.{option_copied}
use Rattle.ioa_value.specs.Actions.{Name}
use Rattle.ioa_causes.proofs.Found.{if_found}
use Rattle.ioac.specs.declared.remarks.composed.Said.{Said}
use Rattle.ioa_request.specs.Pasted.{texts}
use Rattle.ioac.specs.Composed.{IsOf, IsRefusedAs, IsRefusedFor, specifications_of}
use Rattle.ioac.proofs.remarks.composed.asked_in.Goals as goal

-- a check asks of each
pub returns-then-is_checking : goal.returns-then-is_checking
returns-then-is_checking c =
    let ts = c.args.placed.now.tokens.items in
    let ds = c.args.placed.now.checked in
    let e = c.args.failure.now in
    if_found (λ (s : Said). (name : Option Name) × IsRefusedAs ts ds name e s.line (string_bytes s.words)) (λ (s : Said). IsRefusedFor c.args.asked.now ts ds e s.line (string_bytes s.words))
    c.first_in.result
    (λ said refused. (refused.0, inl (c.if-is_checking.ensures refl), refused.1))
    c.first_in.ensures

-- a watch of one of its specifications
pub returns-in-Watch : goal.returns-in-Watch
returns-in-Watch c =
    let ts = c.args.placed.now.tokens.items in
    let ds = c.args.placed.now.checked in
    let e = c.args.failure.now in
    if_found (λ (s : Said). (name : Name) × Contains (texts c.in-Watch.compositions.now) name × IsRefusedAs ts ds (Some name) e s.line (string_bytes s.words))
    (λ (s : Said). IsRefusedFor c.args.asked.now ts ds e s.line (string_bytes s.words)) c.watched_in.result
    (λ said refused. (Some refused.0, inr (inr (refused.0, subst (λ r. Contains (specifications_of r) refused.0) (sym c.in-Watch.is) refused.1, refl)), refused.2))
    c.watched_in.ensures

-- runs by many seeds of theirs, or of one of their specifications
pub returns-in-Seeds : goal.returns-in-Seeds
returns-in-Seeds c =
    let ts = c.args.placed.now.tokens.items in
    let ds = c.args.placed.now.checked in
    let e = c.args.failure.now in
    let seeds = c.in-Seeds.seeds in
    if_found (λ (s : Said). (name : Option Name) × ((name ≡ option_copied seeds.run.composition) ⊎ ((x : Name) × Contains (texts seeds.monitors.now) x × (name ≡ Some x)))
    × IsRefusedAs ts ds name e s.line (string_bytes s.words)) (λ (s : Said). IsRefusedFor c.args.asked.now ts ds e s.line (string_bytes s.words)) c.sown_in.result
    (λ said refused. (refused.0, inr (subst (λ r. IsOf r refused.0) (sym c.in-Seeds.is) refused.1), refused.2))
    c.sown_in.ensures

-- others of the one that they name
pub returns : goal.returns
returns c =
    let ts = c.args.placed.now.tokens.items in
    let ds = c.args.placed.now.checked in
    let e = c.args.failure.now in
    let name = option_copied c.composition_of-name.result in
    if_found (λ (s : Said). IsRefusedAs ts ds name e s.line (string_bytes s.words)) (λ (s : Said). IsRefusedFor c.args.asked.now ts ds e s.line (string_bytes s.words)) c.picked_in.result
    (λ said refused. (name, inr (inl c.composition_of-name.ensures), refused))
    c.picked_in.ensures
