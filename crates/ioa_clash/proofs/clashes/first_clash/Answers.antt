use Rattle.std.proofs.Common.{List, length, map, refl, arith}
use Rattle.std.proofs.lemmas.List.{length-map}
use Rattle.ioa_clash.specs.declared.clashes.Clash.{Clash}
use Rattle.ioa_clash.specs.Clashes.{SignedEntry, signature_of, IsFirstClash}
use Rattle.ioa_clash.proofs.ClashLemmas.{none-clash, clashes-first}
use Rattle.ioa_clash.proofs.CompatibleLemmas.{first-incompatible}
use Rattle.ioa_clash.proofs.clashes.first_clash.Goals as goal

pub returns-in-Some-clause-exact : goal.returns-in-Some-clause-exact
returns-in-Some-clause-exact c =
    let hit : Clash = record { first = c.loop-i.i; second = c.in-Some.hit.other; entry = c.in-Some.hit.entry } in
    let all : List (List SignedEntry) = map signature_of c.args.signatures.now in
    let found : IsFirstClash c.args.types.now all hit
    = clashes-first c.args.types.now c.requires.table all c.requires.signed (length c.args.signatures.now) (length-map c.args.signatures.now signature_of) hit
    c.loop-i.invariant c.in-Some.ensures.before c.in-Some.ensures.hit in
    ((λ none. absurd (cc)), (λ compatible. absurd (first-incompatible _ _ _ _ found.first compatible)))

pub returns-in-Some-clause-first : goal.returns-in-Some-clause-first
returns-in-Some-clause-first c =
    let hit : Clash = record { first = c.loop-i.i; second = c.in-Some.hit.other; entry = c.in-Some.hit.entry } in
    let all : List (List SignedEntry) = map signature_of c.args.signatures.now in
    let found : IsFirstClash c.args.types.now all hit
    = clashes-first c.args.types.now c.requires.table all c.requires.signed (length c.args.signatures.now) (length-map c.args.signatures.now signature_of) hit
    c.loop-i.invariant c.in-Some.ensures.before c.in-Some.ensures.hit in
    found

pub returns-clause-exact : goal.returns-clause-exact
returns-clause-exact c =
    let compatible = none-clash c.args.types.now c.requires.table (map signature_of c.args.signatures.now) c.requires.signed (length c.args.signatures.now)
    (length-map c.args.signatures.now signature_of) (λ k less. c.loop-i.invariant k (omega arith)) in
    ((λ none. compatible), (λ known. refl))
