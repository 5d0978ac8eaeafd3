use Rattle.std.proofs.Common.{◌≡◌, ◌∙◌, ◌++◌, ◌≤◌, ℕ, [], List, Some, String, ap, append-nil, length, map, string_bytes, sym, arith}
use Rattle.std.specs.Prelude.{slice_get}
use Rattle.std.specs.Global.{Global}
use Rattle.std.proofs.lemmas.List.{length-map}
use Rattle.ioa_value.specs.Plain.{Val}
use Rattle.ioa_value.proofs.ItemLemmas.{at_map, item_there}
use Rattle.ioa_parts.specs.Nodes.{Node}
use Rattle.ioa_tree.specs.Compositions.{Member}
use Rattle.ioa_compose.specs.Held.{member_of}
use Rattle.ioa_compile.specs.Programs.{MemberCode}
use Rattle.ioa_compile.specs.Shown.{member_code}
use Rattle.ioa_system.specs.Systems.{values_of}
use Rattle.ioa_picture.proofs.Numbered.{line_at, line_more}
use Rattle.ioa_enabled.specs.Told.{lines_at}
use Rattle.ioa_enabled.proofs.Readying.{lines_there, past_codes, past_members}
use Rattle.ioa_enabled.proofs.telling.put_all.Goals as goal
use Rattle.ioa_enabled.proofs.telling.put_all.Goals.{then-i-members+then-i-codes+in_ok-put_state, else-i-members, else-i-members-via-then-i-members+else-i-codes, else-i-members-via-else-i-members}

pub put_state-requires : goal.put_state-requires
put_state-requires c =
    c.requires c.loop-i.i (member_code c.index-codes-i.result) (at_map member_code c.args.codes.now c.loop-i.i c.index-codes-i.result c.if-i-codes.true c.index-codes-i.is)

pub loop-i-preserved : goal.loop-i-preserved
loop-i-preserved c = λ w typed have.
    let types = c.args.types.now in
    let cs : List Member = map member_of c.args.members.now in
    let ms : List MemberCode = map member_code c.args.codes.now in
    let vss : List (List Val) = values_of c.args.states.now in
    let lines = lines_at c.args.part types cs ms w in
    let i = c.loop-i.i in
    let old = string_bytes c.args.text.now in
    let so_far = string_bytes c.loop-i.text in
    elim c.if-i-members.branch [
      | then-i-members+then-i-codes+in_ok-put_state x ↦
          let a : Member = member_of x.index-members-i.result in
          let m : MemberCode = member_code x.index-codes-i.result in
          let s : List Val = x.index-states-i.result.values in
          let at : slice_get cs i ≡ Some a = at_map member_of c.args.members.now i x.index-members-i.result x.if-i-members.true x.index-members-i.is in
          let there : slice_get ms i ≡ Some m = at_map member_code c.args.codes.now i x.index-codes-i.result x.if-i-codes.true x.index-codes-i.is in
          let now : slice_get vss i ≡ Some s = at_map (λ (n : Node). n.values) c.args.states.now i x.index-states-i.result c.loop-i-test.true x.index-states-i.is in
          let more : string_bytes c.if-i-members.text ≡ so_far ++ lines i s =
          ap (λ (t : String Global). string_bytes t) x.text-is ∙ x.in_ok-put_state.ensures (w i) (typed i m s there now) (have i m s there now)
          ∙ ap (λ (l : List ℕ). so_far ++ l) (sym (lines_there c.args.part types cs ms w i s a m at there)) in
          line_more lines (λ (n : Node). n.values) c.args.states.now i x.index-states-i.result old so_far (string_bytes c.if-i-members.text) c.loop-i-test.true x.index-states-i.is
          (c.loop-i.invariant w typed have) more
      | else-i-members x ↦
          let long : length vss ≡ length c.args.states.now = length-map c.args.states.now (λ (n : Node). n.values) in
          let members : length cs ≡ length c.args.members.now = length-map c.args.members.now member_of in
          let codes : length ms ≡ length c.args.codes.now = length-map c.args.codes.now member_code in
          let state = item_there vss i (omega (arith, long, c.loop-i-test.true)) in
          let none : lines i state.0 ≡ [] =
          elim x.else-i-members.branch [
            | else-i-members-via-then-i-members+else-i-codes y ↦ past_codes c.args.part types cs ms w i state.0 (omega (arith, codes, y.if-i-codes.false))
            | else-i-members-via-else-i-members y ↦ past_members c.args.part types cs ms w i state.0 (omega (arith, members, y.if-i-members.false))
          ] in
          let more : string_bytes c.if-i-members.text ≡ so_far ++ lines i state.0 =
          ap (λ (t : String Global). string_bytes t) x.text-is ∙ sym (append-nil so_far) ∙ ap (λ (l : List ℕ). so_far ++ l) (sym none) in
          line_at lines 0 vss i state.0 i old so_far (string_bytes c.if-i-members.text) state.1 (omega arith) (c.loop-i.invariant w typed have) more
    ]
