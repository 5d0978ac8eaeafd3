-- The hosts that a source declares are over its types.
use Rattle.std.proofs.Common.{◌≡◌, ℕ, zero, suc, List, [], ◌∷◌, Some, sym, ap, ◌∙◌}
use Rattle.std.specs.Prelude.{slice_get}
use Rattle.ioa_tree.specs.Hosts.{AreHosts, Host, Hosted, IsHosted}
use Rattle.ioa_tree.specs.Tree.{CompositionTree, InstanceTree, SourceTree}
use Rattle.ioa_tree.specs.Types.{types_of}
use Rattle.ioa_enabled.specs.Told.{ShareTypes}

each_over : (s : SourceTree) (is : List InstanceTree) (hs : List Host) (k : ℕ) (p : Host) → AreHosts s is hs → slice_get hs k ≡ Some p → p.instance.types ≡ types_of s
each_over s [] [] k p all at = absurd (cc)
each_over s [] (h ∷ hs) k p all at = absurd all
each_over s (i ∷ is) [] k p all at = absurd all
each_over s (i ∷ is) (h ∷ hs) zero p all at = let same : h ≡ p = cc in ap (λ (x : Host). x.instance.types) (sym same) ∙ all.0.types
each_over s (i ∷ is) (h ∷ hs) (suc k) p all at = each_over s is hs k p all.1 at

pub are_over : (s : SourceTree) (t : CompositionTree) (h : Hosted) → IsHosted s t h → ShareTypes h
are_over s t h is = λ k p at. each_over s t.instances h.hosts k p is.hosts at ∙ sym is.types
