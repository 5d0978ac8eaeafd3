use Rattle.ioa_syntax.proofs.Parsed.{source_kept}
use Rattle.ioa_syntax.proofs.parsing.parse_tokens.Goals as goal

pub new-requires : goal.new-requires
new-requires c = source_kept c.args.tokens.now c.args.end c.in_ok-declarations.field-0.items c.requires c.in_ok-declarations.ensures
