use Rattle.std.proofs.Common.{◌∙◌, ap, sym}
use Rattle.std.specs.Str.{bytes_eq}
use Rattle.ioa_tree.specs.View.{entry_of, name_of, stmts_of}
use Rattle.ioa_coverage.proofs.Declared.{first_lacks}
use Rattle.ioa_coverage.proofs.origin.+statements_for.Goals as goal

pub returns-else-is : goal.returns-else-is
returns-else-is t c = λ a is.
    let first = c.transition-item.result in
    first_lacks (entry_of c.args.entry.now) c.args.transitions.now first a (stmts_of c.statements_for.result.now) c.in-len1-up.len_at_least c.transition-item.is
    (ap (bytes_eq (name_of first.name)) (sym c.as_str.ensures.value) ∙ sym c.is.ensures ∙ c.if-is.false) c.statements_for.ensures is
