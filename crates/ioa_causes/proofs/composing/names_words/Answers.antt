use Rattle.std.proofs.Common.{inl, inr, string_bytes}
use Rattle.ioa_causes.specs.Composing.{TellsNames, TellsTakenBy}
use Rattle.ioa_causes.proofs.Found.{if_ok, if_some}
use Rattle.ioa_causes.proofs.composing.names_words.Goals as goal

-- an entry has the first of both names, or the second
pub returns-in-Some : goal.returns-in-Some
returns-in-Some c =
    let ts = c.args.tokens.now in
    let a = c.args.automaton.now in
    let e = c.in-Some.entry.now in
    if_ok _ _ c.taken_words.result
    (λ found. if_some (λ words. TellsTakenBy ts a c.args.crash.now.crash e (string_bytes words)) (λ words. TellsNames ts a c.args.crash.now (string_bytes words)) found
    (λ words tells. inl (e, c.in-Some.ensures, tells)))
    c.taken_words.ensures

pub returns-in-Some-entry_of : goal.returns-in-Some-entry_of
returns-in-Some-entry_of c =
    let ts = c.args.tokens.now in
    let a = c.args.automaton.now in
    let e = c.in-Some-entry_of.entry.now in
    if_ok _ _ c.taken_words-in-Some-entry_of.result
    (λ found. if_some (λ words. TellsTakenBy ts a c.args.crash.now.recover e (string_bytes words)) (λ words. TellsNames ts a c.args.crash.now (string_bytes words)) found
    (λ words tells. inr (inl (e, c.in-Some-entry_of.ensures, tells))))
    c.taken_words-in-Some-entry_of.ensures
