use Rattle.std.proofs.Common.{◌≡◌, ◌++◌, ℕ, List, Some, map, string_bytes, subst, sym, ap}
use Rattle.std.specs.Prelude.{OnOk, slice_get}
use Rattle.ioa_value.specs.Plain.{Val}
use Rattle.ioa_tree.specs.Compositions.{Composed}
use Rattle.ioa_compose.specs.Held.{composed_of, member_of}
use Rattle.ioa_compile.specs.Programs.{MemberCode, Prog}
use Rattle.ioa_compile.specs.Shown.{member_code}
use Rattle.ioa_system.specs.Systems.{values_of}
use Rattle.ioa_picture.specs.Lines.{numbered}
use Rattle.ioa_enabled.specs.Placed.{AreOfMembers}
use Rattle.ioa_enabled.specs.Told.{AllHaveWays, lines_at}
use Rattle.ioa_enabled.specs.Ways.{Values}
use Rattle.ioa_enabled.proofs.Lining.{lines_told}
use Rattle.ioa_enabled.proofs.Readying.{ready_at}
use Rattle.ioa_enabled.proofs.telling.put_part.Goals as goal

pub put_all-requires : goal.put_all-requires
put_all-requires c = λ i m there.
    ready_at c.args.program.now i m c.members-codes.ensures.sound (subst (λ (ms : List MemberCode). slice_get ms i ≡ Some m) c.members-codes.ensures.value there)

pub returns : goal.returns
returns c =
    let p : Prog = c.args.program.now in
    let composed : Composed = composed_of c.args.composition.now in
    let vss : List (List Val) = values_of c.args.states.now in
    let old = string_bytes c.args.text.now in
    let new = string_bytes c.put_all.new.text in
    let named =
    subst
    (λ ns. OnOk c.put_all.result ((w : ℕ → ℕ → List Values) → AreOfMembers (map member_code c.members-codes.result.now) vss → AllHaveWays (map member_code c.members-codes.result.now) vss w
    → new ≡ old ++ numbered (lines_at c.args.part c.types-types.result.now (map member_of ns) (map member_code c.members-codes.result.now) w) 0 vss))
    c.members-members.ensures.value c.put_all.ensures in
    let typed =
    subst
    (λ ts. OnOk c.put_all.result ((w : ℕ → ℕ → List Values) → AreOfMembers (map member_code c.members-codes.result.now) vss → AllHaveWays (map member_code c.members-codes.result.now) vss w
    → new ≡ old ++ numbered (lines_at c.args.part ts composed.members (map member_code c.members-codes.result.now) w) 0 vss))
    c.types-types.ensures.value named in
    lines_told c.args.part c.put_all.result p composed vss old new c.members-codes.ensures.sound
    (subst
    (λ ms. OnOk c.put_all.result ((w : ℕ → ℕ → List Values) → AreOfMembers ms vss → AllHaveWays ms vss w → new ≡ old ++ numbered (lines_at c.args.part p.types composed.members ms w) 0 vss))
    c.members-codes.ensures.value typed)
