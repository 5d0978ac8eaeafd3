use Rattle.std.proofs.Common.{rules}
use Rattle.ioa_request.proofs.Numbers.{no_text, parsed_at, unparsed_at}
use Rattle.ioa_request.proofs.numerals.number.Goals as goal

pub returns-in_default : goal.returns-in_default
returns-in_default c = no_text _ c.args.word.now c.in_default.ensures.cases.0

pub returns-in-Ok-parse : goal.returns-in-Ok-parse
returns-in-Ok-parse c = parsed_at c.args.word.now c.in-Ok.digits.now c.parse.result c.in-Ok-parse.number c.in-Ok.ensures.cases.0 c.in-Ok-parse.is c.parse.ensures.value.0 (search rules)

pub returns-in-Err : goal.returns-in-Err
returns-in-Err c = unparsed_at c.args.word.now c.in-Ok.digits.now c.parse.result c.in-Err.field-0 c.in-Ok.ensures.cases.0 c.in-Err.is c.parse.ensures.value.0 (search rules)
