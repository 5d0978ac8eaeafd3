use Rattle.std.proofs.Common.{◌≡◌, ◌++◌, ℕ, List, OnOk, codes, map, string_bytes, ap, ap₂, subst, ◌∙◌}
use Rattle.ioa_value.specs.Positions.{domain_of}
use Rattle.ioa_code.specs.Valid.{Part}
use Rattle.ioa_dump.specs.Dumps.{kind_word, local_lines, part_lines, position_line, value_line}
use Rattle.ioa_picture.specs.Lines.{numbered}
use Rattle.ioa_picture.proofs.Numbered.{behind, behind_line}
use Rattle.ioa_dump.proofs.components.put_entry.Goals as goal

pub returns : goal.returns
returns c =
    let types = c.args.types.now in
    let e = c.args.entry.now in
    let start = string_bytes c.args.text.now in
    let headed = string_bytes c.writeln.new.self in
    let positioned = string_bytes c.put_positions.new.text in
    let held = string_bytes c.put_values.new.text in
    let guarded = string_bytes c.put_local.new.text in
    let proposed = string_bytes c.put_local-2.new.text in
    let head : List ℕ → List ℕ → List ℕ = λ kind name. codes "  " ++ (kind ++ (codes " " ++ (name ++ codes "\n"))) in
    let positions = numbered (position_line types) 0 (map domain_of e.positions.items) in
    let constants = numbered (value_line (codes "    constant") types) 0 e.effect.code.consts in
    let guard = local_lines types (codes "precondition") e.pre in
    let propose = local_lines types (codes "proposals") e.propose in
    let effect = part_lines types (codes "effect") e.effect in
    let heads : headed ≡ start ++ head (kind_word e.kind) (string_bytes e.name) =
    c.in_ok-writeln.ensures.bytes ∙ ap₂ (λ kind name. start ++ head kind name) c.kind_word-kind.ensures c.as_str-name.ensures.value in
    let takes : positioned ≡ headed ++ positions = c.in_ok-put_positions.ensures ∙ ap (λ ps. headed ++ numbered (position_line types) 0 (map domain_of ps)) c.deref.ensures.value in
    let holds : held ≡ positioned ++ constants = c.in_ok-put_values.ensures ∙ ap (λ vs. positioned ++ numbered (value_line (codes "    constant") types) 0 vs) (c.consts.ensures ∙ ap (λ (p : Part). p.code.consts) c.code-effect.ensures) in
    let whole = behind guarded proposed propose effect c.in_ok-put_local-2.ensures
    ∙ behind held guarded guard (propose ++ effect) c.in_ok-put_local.ensures
    ∙ behind positioned held constants (guard ++ (propose ++ effect)) holds
    ∙ behind headed positioned positions (constants ++ (guard ++ (propose ++ effect))) takes
    ∙ behind start headed (head (kind_word e.kind) (string_bytes e.name)) (positions ++ (constants ++ (guard ++ (propose ++ effect)))) heads
    ∙ ap (λ l. start ++ l) (behind_line (codes "  ") (kind_word e.kind) (codes " ") (string_bytes e.name) (codes "\n") (positions ++ (constants ++ (guard ++ (propose ++ effect))))) in
    subst (λ l. OnOk c.put_part.result (string_bytes c.put_part.new.text ≡ l)) whole
    (subst (λ (p : Part). OnOk c.put_part.result (string_bytes c.put_part.new.text ≡ proposed ++ part_lines types (codes "effect") p)) c.code-effect.ensures c.put_part.ensures)
