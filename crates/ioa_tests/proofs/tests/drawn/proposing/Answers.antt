use Rattle.std.proofs.Common.{◌≡◌, [], Some, map, sym, ap, ◌∙◌}
use Rattle.std.specs.Option.{option_map}
use Rattle.std.specs.Prelude.{slice_get}
use Rattle.std.proofs.lemmas.Option.{slice_get-map, slice_get-get_or}
use Rattle.ioa_code.specs.declared.instr.PartKind.TheVariants.{Propose}
use Rattle.ioa_compile.specs.Shown.{entry_code, member_code}
use Rattle.ioa_compile.specs.Tables.{IsPart, parameter_types}
use Rattle.ioa_tests.proofs.Drawn.{proposing}
use Rattle.ioa_tests.proofs.tests.drawn.proposing.Goals as goal

pub returns : goal.returns
returns c =
    let p = c.args.program.now in
    let i = c.args.number in
    let j = c.args.place in
    let ms = c.members.result.now in
    let es = c.deref.result.now in
    let x = c.in_ok-member.member.now in
    let y = c.in_ok-entry.entry.now in
    let part = c.in_ok-code.code.now in
    let member : slice_get ms i ≡ Some x = slice_get-get_or ms i x c.in_ok-member.ensures.lookup.3.0 ∙ ap Some (sym c.in_ok-member.ensures.lookup.1) in
    let entry : slice_get es j ≡ Some y = slice_get-get_or es j y c.in_ok-entry.ensures.lookup.3.0 ∙ ap Some (sym c.in_ok-entry.ensures.lookup.1) in
    let mi : slice_get p.members i ≡ Some (member_code x) =
    ap (λ l. slice_get l i) (sym c.members.ensures.value) ∙ slice_get-map member_code ms i ∙ ap (option_map member_code) member in
    let dj : slice_get (member_code x).entries j ≡ Some (entry_code y) =
    ap (λ l. slice_get (map entry_code l) j) (sym c.deref.ensures.value) ∙ slice_get-map entry_code es j ∙ ap (option_map entry_code) entry in
    let h : IsPart (member_code x) Propose [] (parameter_types (entry_code y).positions) part =
    proposing p i j (member_code x) (entry_code y) part c.members.ensures.sound mi dj (sym c.in_ok-code.ensures.value) in
    (h.kind, h.args, sym h.types, sym h.slots)
