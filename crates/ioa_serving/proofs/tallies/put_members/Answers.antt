use Rattle.std.proofs.Common.{◌∙◌, ◌++◌, ap, map, sym, string_bytes, ◌≤◌, ◌+◌, drop, String, length, List}
use Rattle.std.specs.Global.{Global}
use Rattle.ioa_compile.specs.Shown.{member_code}
use Rattle.ioa_system.specs.Logs.{log_entry}
use Rattle.ioa_run.specs.declared.tally.Tries.{Tries}
use Rattle.ioa_run.specs.declared.tally.Tally.{Tally}
use Rattle.ioa_run.specs.Tallies.{own_names, tally_of}
use Rattle.ioa_serving.specs.RunReports.{entry_lines, tallies_text}
use Rattle.ioa_serving.proofs.TalliedLines.{member_more, members_run_out}
use Rattle.ioa_serving.proofs.tallies.put_members.Goals as goal
use Rattle.ioa_serving.proofs.tallies.put_members.Goals.{then-who-tallies+in_ok-put_member, else-who-tallies}

pub loop-who-preserved : goal.loop-who-preserved
loop-who-preserved c =
    let h = map log_entry c.args.new.now in
    let i = c.loop-who.who in
    let ms = c.args.members.now in
    let ts = c.args.tallies.now in
    let all = string_bytes c.args.text.now ++ tallies_text h 0 (map (λ m. m.name) (map member_code ms)) (map own_names (map member_code ms)) (map tally_of ts) in
    elim c.if-who-tallies.branch [
      | then-who-tallies+in_ok-put_member w ↦
          (let m = w.index-members-who.result in
          let t = w.index-tallies-who.result in
          member_more h i ms ts m t (string_bytes c.loop-who.text) (string_bytes c.if-who-tallies.text) all c.loop-who-test.true w.index-members-who.is w.if-who-tallies.true w.index-tallies-who.is
          (ap string_bytes w.text-is ∙ w.in_ok-put_member.ensures
          ∙ ap (λ (us : List Tries). string_bytes c.loop-who.text ++ entry_lines h i (member_code m).name (own_names (member_code m)) us) (w.deref.ensures.value ∙ ap (λ (x : Tally). x.entries.items) (sym w.index-tallies-who.is))) c.loop-who.invariant)
      | else-who-tallies w ↦
          (let past : length ts ≤ i = w.if-who-tallies.false in
          ap (λ (s : String Global). string_bytes s ++ tallies_text h (i + 1) (map (λ m. m.name) (map member_code (drop (i + 1) ms))) (map own_names (map member_code (drop (i + 1) ms))) (map tally_of (drop (i + 1) ts))) w.text-is
          ∙ members_run_out h i ms ts (string_bytes c.loop-who.text) all past c.loop-who.invariant)
    ]
