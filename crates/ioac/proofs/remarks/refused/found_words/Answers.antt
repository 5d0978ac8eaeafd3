use Rattle.std.proofs.Common.{Some, None, option_map, string_bytes, refl, subst}
use Rattle.ioa_causes.proofs.Found.{if_ok}
use Rattle.ioac.specs.Heard.{FindsHeard, IsAskedProgram, TellsHeard}
use Rattle.ioac.specs.Remarks.{source_of}
use Rattle.ioac.proofs.remarks.refused.found_words.Goals as goal

-- it is told by this program
pub returns-in-Some : goal.returns-in-Some
returns-in-Some g c =
    let holds = g.F.Store.holds c.args.store.now in
    let lacks = g.F.Store.lacks c.args.store.now in
    let request = c.args.asked.now in
    let e = c.args.failure.now in
    let is_log = c.args.heard.is_log in
    let bytes = c.args.heard.bytes.now in
    let n = c.args.heard.line in
    let p = c.in-Some.program in
    let asked = subst (IsAskedProgram holds lacks (source_of request)) c.in-Some.is c.in_ok-program.ensures in
    if_ok (λ found. TellsHeard e request p is_log bytes n (option_map string_bytes found)) (λ found. FindsHeard holds lacks e request is_log bytes n (option_map string_bytes found))
    c.words.result
    (λ found tells. (Some p, asked, tells))
    c.words.ensures
