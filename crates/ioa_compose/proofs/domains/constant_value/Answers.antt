use Rattle.std.proofs.Common.{◌≡◌, true, map, sym, ap, subst, ◌∙◌}
use Rattle.ioa_value.specs.Plain.{plain}
use Rattle.ioa_tree.specs.Tree.{reference}
use Rattle.ioa_tree.specs.View.{field_of, constant_of, name_of}
use Rattle.ioa_tree.specs.Meaning.{values_of}
use Rattle.ioa_tree.specs.Instances.{field_names}
use Rattle.ioa_tree.specs.WellFormed.{constant_fine, context_of}
use Rattle.ioa_tree.proofs.Starts.{suits_of_fit}
use Rattle.ioa_compose.proofs.EvaluateLemmas.{name_known}
use Rattle.ioa_clash.proofs.ZipLemmas.{there}
use Rattle.ioa_compose.proofs.domains.constant_value.Goals as goal

pub constant-requires : goal.constant-requires
constant-requires c =
    let types = c.args.types.now in
    let fs = map field_of c.args.automaton.now.formals.items in
    let vs = map plain c.args.arguments.now in
    let x = name_of c.in-Name.name in
    let shown : constant_of c.args.written.now ≡ reference x = ap constant_of c.in-Name.is in
    name_known types (context_of types fs) (values_of (field_names fs) vs) x (suits_of_fit types fs vs c.requires.fit)
    (there _ (subst (λ k. constant_fine types (context_of types fs) k ≡ true) shown c.requires.fine))
    (ap (λ ys. values_of (field_names (map field_of ys)) vs x) (sym c.deref.ensures.value)
    ∙ ap (values_of (field_names (map field_of c.deref.result.now)) vs) (sym c.as_str.ensures.value) ∙ c.in-None.ensures.missing)
