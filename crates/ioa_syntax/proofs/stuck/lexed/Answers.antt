use Rattle.std.proofs.lemmas.Bool.{false≢true}
use Rattle.ioa_syntax.proofs.stuck.lexed.Goals as goal

pub returns : goal.returns
returns c = λ ts lexes short. absurd (false≢true (c.if-is_memory.ensures.1 (c.in-Err.ensures.only ts lexes short)))
