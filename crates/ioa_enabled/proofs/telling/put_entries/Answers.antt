use Rattle.std.proofs.Common.{◌≡◌, ◌∙◌, ◌++◌, ◌<◌, ℕ, [], List, IfSome, Some, String, Bool, true, false, ap, append-nil, cond, length, map, string_bytes, sym, arith}
use Rattle.std.specs.Prelude.{nat_lt, slice_get}
use Rattle.std.specs.Vec.{vec_len}
use Rattle.std.specs.Global.{Global}
use Rattle.ioa_value.specs.Plain.{Val}
use Rattle.ioa_value.proofs.ItemLemmas.{at_map}
use Rattle.ioa_tree.specs.Components.{is_local}
use Rattle.ioa_compile.specs.Programs.{EntryCode, MemberCode}
use Rattle.ioa_compile.specs.Shown.{entry_code, member_code}
use Rattle.ioa_compile.specs.Tables.{table_component}
use Rattle.ioa_picture.proofs.Numbered.{line_more}
use Rattle.ioa_run.specs.Choices.{IsOfState}
use Rattle.ioa_enabled.specs.declared.telling.TheConstants.{MOST}
use Rattle.ioa_enabled.specs.Told.{code_lines, lines_in}
use Rattle.ioa_enabled.specs.Ways.{enabled_ways, total}
use Rattle.ioa_enabled.proofs.Gathering.{all_there}
use Rattle.ioa_enabled.proofs.telling.put_entries.Goals as goal
use Rattle.ioa_enabled.proofs.telling.put_entries.Goals.{then-is_local+in_ok-put_entry, else-is_local}

pub put_entry-requires-clause-proposes : goal.put_entry-requires-clause-proposes
put_entry-requires-clause-proposes c =
    let entries = c.args.code.now.entries in
    let long : vec_len entries ≡ length entries.items = omega (arith, entries.ok.0) in
    let less : c.loop-k.k < length entries.items = omega (arith, long, c.len-k-end.ensures, c.loop-k-test.true) in
    all_there (λ (e : EntryCode). IfSome e.propose (IsOfState c.args.state.now)) (map entry_code entries.items) c.loop-k.k (entry_code c.index-entry.result.now) c.requires.codes
    (at_map entry_code entries.items c.loop-k.k c.index-entry.result.now less c.index-entry.ensures)

pub loop-k-preserved : goal.loop-k-preserved
loop-k-preserved c = λ w have.
    let entries = c.args.code.now.entries in
    let m : MemberCode = member_code c.args.code.now in
    let s : List Val = c.args.state.now.values in
    let k = c.loop-k.k in
    let d : EntryCode = entry_code c.index-entry.result.now in
    let long : vec_len entries ≡ length entries.items = omega (arith, entries.ok.0) in
    let less : k < length entries.items = omega (arith, long, c.len-k-end.ensures, c.loop-k-test.true) in
    let there : slice_get m.entries k ≡ Some d = at_map entry_code entries.items k c.index-entry.result.now less c.index-entry.ensures in
    let old = string_bytes c.args.text.now in
    let so_far = string_bytes c.loop-k.text in
    let lines = code_lines c.args.part c.args.types.now c.args.name.now m s w in
    let all = lines_in c.args.part c.args.types.now c.args.name.now d.name (nat_lt MOST (total (w k))) (enabled_ways (table_component m) s d.name (w k) MOST) in
    elim c.if-is_local.branch [
      | then-is_local+in_ok-put_entry x ↦
          let local : is_local (Some d.kind) ≡ true = sym c.is_local.ensures ∙ x.if-is_local.true in
          let more : string_bytes c.if-is_local.text ≡ so_far ++ lines k d =
          ap (λ (t : String Global). string_bytes t) x.text-is ∙ x.in_ok-put_entry.ensures (w k) (have k d there local) ∙ sym (ap (λ (b : Bool). so_far ++ cond b all []) local) in
          line_more lines entry_code entries.items k c.index-entry.result.now old so_far (string_bytes c.if-is_local.text) less c.index-entry.ensures (c.loop-k.invariant w have) more
      | else-is_local x ↦
          let other : is_local (Some d.kind) ≡ false = sym c.is_local.ensures ∙ x.if-is_local.false in
          let more : string_bytes c.if-is_local.text ≡ so_far ++ lines k d =
          ap (λ (t : String Global). string_bytes t) x.text-is ∙ sym (append-nil so_far) ∙ sym (ap (λ (b : Bool). so_far ++ cond b all []) other) in
          line_more lines entry_code entries.items k c.index-entry.result.now old so_far (string_bytes c.if-is_local.text) less c.index-entry.ensures (c.loop-k.invariant w have) more
    ]
