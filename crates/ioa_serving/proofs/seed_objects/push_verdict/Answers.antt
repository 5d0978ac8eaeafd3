use Rattle.std.proofs.Common.{◌++◌, ◌∙◌, ℕ, List, ap₂, codes, string_bytes}
use Rattle.ioa_serving.proofs.seed_objects.push_verdict.Goals as goal

pub returns : goal.returns
returns c =
    let old = string_bytes c.args.text.now in
    let put : List ℕ → List ℕ → List ℕ =
    λ comma verdict. old ++ (comma ++ (codes "{\"specification\":\"" ++ (c.args.name.now ++ (codes "\",\"verdict\":" ++ (verdict ++ codes "}"))))) in
    c.in_ok-write.ensures.bytes ∙ ap₂ put c.comma_at-comma.ensures c.in_ok-verdict.ensures
