use Rattle.std.proofs.Common.{IfOk, IfSome, string_bytes, subst, sym}
use Rattle.ioa_causes.specs.Composing.{TellsArguments, TellsClash, TellsComposed, TellsCrash, TellsHidden}
use Rattle.ioa_causes.proofs.composing.refused_words.Goals as goal

-- the declarations are the source's, and the words are those of this kind of refusal
pub returns-in-ArgMismatch : goal.returns-in-ArgMismatch
returns-in-ArgMismatch c =
    let asm = c.args.assembly.now in
    let i = c.in-ArgMismatch.component in
    let found = c.arguments_words.result in
    subst (λ r. IfOk found (λ o. IfSome o (λ words. TellsComposed c.args.tokens.now c.args.checked.now asm r (string_bytes words)))) (sym c.in-ArgMismatch.is)
    (subst (λ ds. IfOk found (λ o. IfSome o (λ words. TellsArguments ds asm i (string_bytes words)))) c.declarations-declarations.ensures.value
    c.arguments_words.ensures)

pub returns-in-CrashName : goal.returns-in-CrashName
returns-in-CrashName c =
    let ts = c.args.tokens.now in
    let asm = c.args.assembly.now in
    let i = c.in-CrashName.component in
    let found = c.crash_words.result in
    subst (λ r. IfOk found (λ o. IfSome o (λ words. TellsComposed ts c.args.checked.now asm r (string_bytes words)))) (sym c.in-CrashName.is)
    (subst (λ ds. IfOk found (λ o. IfSome o (λ words. TellsCrash ts ds asm i (string_bytes words)))) c.declarations-declarations.ensures.value
    c.crash_words.ensures)

pub returns-in-Clash : goal.returns-in-Clash
returns-in-Clash c =
    let ts = c.args.tokens.now in
    let ds = c.args.checked.now in
    let asm = c.args.assembly.now in
    let i = c.in-Clash.first in
    let j = c.in-Clash.second in
    let found = c.clash_words.result in
    subst (λ r. IfOk found (λ o. IfSome o (λ words. TellsComposed ts ds asm r (string_bytes words)))) (sym c.in-Clash.is)
    (subst (λ x. IfOk found (λ o. IfSome o (λ words. TellsClash ts ds asm i j x (string_bytes words)))) c.as_str.ensures.value
    (subst (λ d. IfOk found (λ o. IfSome o (λ words. TellsClash ts d asm i j c.as_str.result.now (string_bytes words)))) c.declarations-declarations.ensures.value
    c.clash_words.ensures))

pub returns-in-HiddenUnknown : goal.returns-in-HiddenUnknown
returns-in-HiddenUnknown c =
    let ts = c.args.tokens.now in
    let ds = c.args.checked.now in
    let asm = c.args.assembly.now in
    let x = c.as_str-in-HiddenUnknown.result.now in
    let found = c.hidden_words.result in
    subst (λ r. IfOk found (λ o. IfSome o (λ words. TellsComposed ts ds asm r (string_bytes words)))) (sym c.in-HiddenUnknown.is)
    (subst (λ y. IfOk found (λ o. IfSome o (λ words. TellsHidden ts ds asm y (string_bytes words)))) c.as_str-in-HiddenUnknown.ensures.value
    (subst (λ d. IfOk found (λ o. IfSome o (λ words. TellsHidden ts d asm x (string_bytes words)))) c.declarations-declarations.ensures.value
    c.hidden_words.ensures))
