use Rattle.std.proofs.Common.{◌≡◌, rules, ◌+◌, ◌∷◌, ◌++◌, suc, take, drop, sym, ap, ◌∙◌, arith}
use Rattle.std.proofs.lemmas.List.{take_rest}
use Rattle.ioa_value.proofs.LineLemmas.{ended_at, not_ended}
use Rattle.ioa_value.proofs.lines.ended_line.Goals as goal

pub returns-in-Some : goal.returns-in-Some
returns-in-Some c =
    let text = c.args.text.now in
    let at = c.in-Some.at in
    let parts = ended_at text at (search rules) (search rules) (search rules) in
    let next : at + 1 ≡ suc at = omega arith in
    record { line = parts.0; parts = parts.1 ∙ ap (λ xs. take at text ++ 10 ∷ xs) (sym (take_rest text _ ∙ ap (λ n. drop n text) next)); none = tt }

pub returns-in-None : goal.returns-in-None
returns-in-None c = record { line = tt; parts = tt; none = not_ended c.args.text.now (search rules) }
