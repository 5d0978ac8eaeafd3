use Rattle.std.proofs.Common.{◌≡◌, ◌∙◌, ◌++◌, ◌+◌, ℕ, List, drop, map, string_bytes, subst, sym}
use Rattle.ioa_compile.specs.declared.table.Entry.{Entry}
use Rattle.ioa_compile.specs.Shown.{entry_code, member_code}
use Rattle.ioa_system.specs.Logs.{log_entry}
use Rattle.ioa_run.specs.Proposers.{local_entries}
use Rattle.ioa_run.specs.Tallies.{own_names}
use Rattle.ioa_serving.specs.RunReports.{entry_lines}
use Rattle.ioa_serving.proofs.TalliedLines.{none_of, passed, run_out, tried}
use Rattle.ioa_serving.proofs.tallies.put_member.Goals as goal

pub loop-entry-preserved-then-not-is_local : goal.loop-entry-preserved-then-not-is_local
loop-entry-preserved-then-not-is_local c =
    let m = member_code c.args.member.now in
    let h = map log_entry c.args.new.now in
    let i = c.loop-entry.entry-index in
    let all = string_bytes c.args.text.now ++ entry_lines h c.args.who m.name (own_names m) c.args.tries.now in
    let P : ℕ → List Entry → Type 0 = λ k xs. string_bytes c.loop-entry.text ++ entry_lines h c.args.who m.name (map (λ x. x.name) (local_entries (drop k (map entry_code xs)))) c.loop-entry.rest.now ≡ all in
    subst (P (i + 1)) c.deref-entry-items.ensures.value
    (passed h c.args.who m.name c.deref-entry-items.result.now i c.entry-item.result c.loop-entry-test.true c.entry-item.is (string_bytes c.loop-entry.text) all c.loop-entry.rest.now (sym c.is_local.ensures ∙ c.if-not-is_local.true)
    (subst (P i) (sym c.deref-entry-items.ensures.value) c.loop-entry.invariant))

pub loop-entry-preserved-in_default : goal.loop-entry-preserved-in_default
loop-entry-preserved-in_default c =
    let m = member_code c.args.member.now in
    let h = map log_entry c.args.new.now in
    let i = c.loop-entry.entry-index in
    let all = string_bytes c.args.text.now ++ entry_lines h c.args.who m.name (own_names m) c.args.tries.now in
    let P : ℕ → List Entry → Type 0 = λ k xs. string_bytes c.loop-entry.text ++ entry_lines h c.args.who m.name (map (λ x. x.name) (local_entries (drop k (map entry_code xs)))) c.loop-entry.rest.now ≡ all in
    subst (P (i + 1)) c.deref-entry-items.ensures.value
    (run_out h c.args.who m.name c.deref-entry-items.result.now i c.entry-item.result c.loop-entry-test.true c.entry-item.is (string_bytes c.loop-entry.text) all c.loop-entry.rest.now
    (none_of c.loop-entry.rest.now c.in_default.ensures.cases) (subst (P i) (sym c.deref-entry-items.ensures.value) c.loop-entry.invariant))

pub loop-entry-preserved : goal.loop-entry-preserved
loop-entry-preserved c =
    let m = member_code c.args.member.now in
    let h = map log_entry c.args.new.now in
    let i = c.loop-entry.entry-index in
    let all = string_bytes c.args.text.now ++ entry_lines h c.args.who m.name (own_names m) c.args.tries.now in
    let so = subst (λ (xs : List Entry). string_bytes c.loop-entry.text ++ entry_lines h c.args.who m.name (map (λ x. x.name) (local_entries (drop i (map entry_code xs)))) c.loop-entry.rest.now ≡ all)
    (sym c.deref-entry-items.ensures.value) c.loop-entry.invariant in
    subst (λ (xs : List Entry). string_bytes c.put_entry.new.text ++ entry_lines h c.args.who m.name (map (λ x. x.name) (local_entries (drop (i + 1) (map entry_code xs)))) c.in-Some.others.now ≡ all)
    c.deref-entry-items.ensures.value
    (tried h c.args.who m.name c.deref-entry-items.result.now i c.entry-item.result c.loop-entry-test.true c.entry-item.is (string_bytes c.loop-entry.text) (string_bytes c.put_entry.new.text) all
    c.loop-entry.rest.now c.in-Some.others.now c.in-Some.first.now c.as_str.result.now c.as_str-name.result.now c.count_named-performed.result (sym c.is_local.ensures ∙ c.if-not-is_local.false) c.in-Some.ensures.cases.0
    c.as_str.ensures.value c.as_str-name.ensures.value c.count_named-performed.ensures c.in_ok-put_entry.ensures so)
