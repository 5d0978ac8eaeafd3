use Rattle.std.proofs.Common.{refl, ap}
use Rattle.ioa_value.specs.Names.{is_word_byte}
use Rattle.ioa_lex.specs.Tokens.{name}
use Rattle.ioa_lex.specs.declared.token.Kind.TheVariants as kinds
use Rattle.ioa_lex.proofs.Bytes.{all_of_prefix}
use Rattle.ioa_lex.proofs.FrontLemmas.{terminal_front, name_front, word_too_long}
use Rattle.ioa_lex.proofs.front.word.Goals as goal

pub name_of-requires : goal.name_of-requires
name_of-requires c = rw c.word_len-len.ensures (all_of_prefix is_word_byte c.args.text.now)

pub returns-in-Some : goal.returns-in-Some
returns-in-Some c =
    let written = rw c.word_len-len.ensures at c.in-Some.ensures.found in
    rw c.word_len-len.ensures (terminal_front c.args.text.now c.in-Some.terminal c.requires.letter written)

pub returns-then-len : goal.returns-then-len
returns-then-len c =
    let long = rw c.word_len-len.ensures at c.if-len.true in
    (refl, word_too_long c.args.text.now c.requires.some c.requires.letter long)

pub returns : goal.returns
returns c =
    let free = rw c.word_len-len.ensures at c.in_default.ensures.free in
    let short = rw c.word_len-len.ensures at c.if-len.false in
    let kept = rw c.word_len-len.ensures at c.in_ok-name.ensures.kept in
    rw c.word_len-len.ensures (name_front c.args.text.now (kinds.Name c.in_ok-name.name) c.requires.some c.requires.letter (ap name kept) free short)
