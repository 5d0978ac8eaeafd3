-- A text declares the hosts of one composition of each name.
use Rattle.std.proofs.Common.{◌≡◌, List, ℕ, Some, subst}
use Rattle.ioa_lex.proofs.Covers.{same_tokens}
use Rattle.ioa_tree.specs.Compositions.{picked}
use Rattle.ioa_tree.specs.Hosts.{IsHosted}
use Rattle.ioa_tree.specs.Tree.{SourceTree}
use Rattle.ioa_tree.proofs.OneHosted.{hosted_once, some_same}
use Rattle.ioa_grammar.specs.Grammar.{SpellsSource}
use Rattle.ioa_declarations.proofs.Whole.{one_source}
use Rattle.ioa_syntax.specs.Source.{plain}
use Rattle.ioa_serving.specs.Carried.{OneComposition}
use Rattle.ioa_serving.specs.Headline.{Spells}

pub tree_once : (text : List ℕ) (s t : SourceTree) → Spells text s → Spells text t → s ≡ t
tree_once text s t (ts, lexes, spells) (us, others, spelled) =
    one_source (plain ts) s t spells (subst (λ xs. SpellsSource t (plain xs)) (same_tokens text us ts others lexes) spelled)

pub one_composition : OneComposition
one_composition text name h k a b =
    let source : a.source ≡ b.source = tree_once text a.source b.source a.spells b.spells in
    let picks : picked b.source name ≡ Some a.tree = subst (λ s. picked s name ≡ Some a.tree) source a.picks in
    let tree : a.tree ≡ b.tree = some_same (picked b.source name) a.tree b.tree picks b.picks in
    hosted_once b.source b.tree h k (subst (λ t. IsHosted b.source t h) tree (subst (λ s. IsHosted s a.tree h) source a.is_hosted)) b.is_hosted
