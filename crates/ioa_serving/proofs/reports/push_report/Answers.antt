use Rattle.std.proofs.Common.{◌≡◌, ◌++◌, ◌∙◌, append_assoc, ap, codes, rules, string_bytes}
use Rattle.ioa_serving.specs.RunReports.{counts_text}
use Rattle.ioa_serving.proofs.reports.push_report.Goals as goal

pub returns : goal.returns
returns c =
    let old = string_bytes c.args.text.now in
    let counts = counts_text c.args.name.now c.args.report.now in
    let told : string_bytes c.writeln.new.self ≡ string_bytes c.push_counts.new.text ++ (codes ", " ++ (c.in_words-why.result.now ++ codes "\n")) = search rules in
    told
    ∙ ap (λ t. t ++ (codes ", " ++ (c.in_words-why.result.now ++ codes "\n"))) c.in_ok-push_counts.ensures
    ∙ append_assoc old counts (codes ", " ++ (c.in_words-why.result.now ++ codes "\n"))
    ∙ ap (λ w. old ++ (counts ++ (codes ", " ++ (w ++ codes "\n")))) c.in_words-why.ensures
