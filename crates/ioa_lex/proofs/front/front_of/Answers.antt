use Rattle.std.proofs.Common.{sym}
use Rattle.ioa_lex.proofs.FrontLemmas.{blank_front, comment_front}
use Rattle.ioa_lex.proofs.front.front_of.Goals as goal

pub returns-then-is_blank : goal.returns-then-is_blank
returns-then-is_blank c = blank_front c.args.text.now c.requires (sym c.if-is_blank.ensures)

pub returns-then-first-eq37 : goal.returns-then-first-eq37
returns-then-first-eq37 c = rw c.line_len.ensures (comment_front c.args.text.now c.requires c.if-first-eq37.true)
