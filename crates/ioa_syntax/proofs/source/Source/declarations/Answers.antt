use Rattle.std.proofs.Common.{rules}
use Rattle.ioa_syntax.specs.Source.{IsSource}
use Rattle.ioa_tree.specs.View.{tree_of}
use Rattle.ioa_syntax.proofs.LegalNames.{source_legal}
use Rattle.ioa_syntax.proofs.source.Source.declarations.Goals as goal

pub returns-clause-legal : goal.returns-clause-legal
returns-clause-legal c =
    let kept : IsSource (tree_of c.args.self.now) = search rules in
    source_legal (tree_of c.args.self.now) kept
