use Rattle.std.proofs.Common.{IfOk, option_map, string_bytes, subst}
use Rattle.ioac.specs.Heard.{TellsOfLine}
use Rattle.ioac.proofs.remarks.heard.words.Goals as goal

-- the line is the one of this number
pub returns-in-Some : goal.returns-in-Some
returns-in-Some c =
    let heard = c.args.heard in
    subst (λ l. IfOk c.failure_words.result (λ found. TellsOfLine c.args.failure.now c.args.asked.now c.args.program.now heard.is_log heard.bytes.now heard.line l (option_map string_bytes found))) c.in-Some.ensures
    c.failure_words.ensures
