use Rattle.std.proofs.Common.{◌≡◌, Some, inl, string_bytes, subst, sym}
use Rattle.ioa_causes.specs.Entries.{named}
use Rattle.ioa_causes.specs.Composing.{TellsEntryOn, TellsRole}
use Rattle.ioa_causes.proofs.Found.{if_ok, if_some}
use Rattle.ioa_causes.proofs.composing.role_words.Goals as goal

-- the entry says so
pub returns-in-Some : goal.returns-in-Some
returns-in-Some c =
    let ts = c.args.tokens.now in
    let n = c.args.instance.now in
    let e = c.in-Some.entry.now in
    if_ok _ _ c.entry_words.result
    (λ found. if_some (λ words. TellsEntryOn ts n e (string_bytes words)) (λ words. TellsRole ts n c.args.automaton.now c.args.action.now (string_bytes words)) found
    (λ words tells. inl (e, subst (λ es. named c.args.action.now es ≡ Some e) c.deref.ensures.value (sym c.in-Some.ensures), tells)))
    c.entry_words.ensures
