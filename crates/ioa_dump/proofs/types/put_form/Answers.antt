use Rattle.std.proofs.Common.{◌≡◌, ◌++◌, ℕ, List, OnOk, append_assoc, codes, map, string_bytes, ap, subst, sym, ◌∙◌}
use Rattle.std.specs.Fmt.{decimal}
use Rattle.ioa_value.specs.Shapes.{shape}
use Rattle.ioa_dump.specs.Dumps.{form_lines, name_line}
use Rattle.ioa_picture.specs.Lines.{numbered}
use Rattle.ioa_dump.proofs.types.put_form.Goals as goal

pub returns-in_ok-push_str-in-Names : goal.returns-in_ok-push_str-in-Names
returns-in_ok-push_str-in-Names c =
    let types = c.args.types.now in
    let s = string_bytes c.args.text.now in
    let names = map string_bytes c.deref.result.now in
    let e : string_bytes c.push_str.new.self ++ numbered name_line 0 names ≡ s ++ form_lines types (shape c.args.form.now) =
    ap (λ l. l ++ numbered name_line 0 names) c.in_ok-push_str-in-Names.ensures.bytes ∙ append_assoc s (codes "enumeration\n") (numbered name_line 0 names)
    ∙ ap (λ ns. s ++ (codes "enumeration\n" ++ numbered name_line 0 (map string_bytes ns))) c.deref.ensures.value ∙ sym (ap (λ f. s ++ form_lines types (shape f)) c.in-Names.is) in
    subst (λ l. OnOk c.put_names.result (string_bytes c.put_names.new.text ≡ l)) e c.put_names.ensures

pub returns-in_ok-writeln-in-Sequence : goal.returns-in_ok-writeln-in-Sequence
returns-in_ok-writeln-in-Sequence c =
    let types = c.args.types.now in
    let s = string_bytes c.args.text.now in
    let line : List ℕ → List ℕ = λ x. s ++ (codes "sequence of at most " ++ (decimal c.in-Sequence.most ++ (codes " " ++ (x ++ codes "\n")))) in
    c.in_ok-writeln-in-Sequence.ensures.bytes ∙ ap line c.type_name-item.ensures ∙ sym (ap (λ f. s ++ form_lines types (shape f)) c.in-Sequence.is)
