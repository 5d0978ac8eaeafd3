-- What the parts of a source say, joined.
use Rattle.std.proofs.Common.{◌≡◌, Bool, true, ◌&&◌, List, ◌++◌, map, Result, sym, ap, subst, ◌∙◌}
use Rattle.std.specs.List.{list_all}
use Rattle.std.proofs.lemmas.Bool.{and_from, or_right}
use Rattle.ioa_value.specs.Actions as actions
use Rattle.ioa_lex.specs.declared.refusal.Refusal.{Refusal}
use Rattle.ioa_tree.specs.declared.tree.Name.{Name}
use Rattle.ioa_tree.specs.declared.tree.Position.{Position}
use Rattle.ioa_tree.specs.declared.tree.Entry.{Entry}
use Rattle.ioa_tree.specs.declared.tree.Proposal.{Proposal}
use Rattle.ioa_tree.specs.declared.tree.Instance.{Instance}
use Rattle.ioa_tree.specs.Instances.{field_names}
use Rattle.ioa_tree.specs.Tree.{AutomatonTree, EntryTree, ProposalTree, SourceTree}
use Rattle.ioa_tree.specs.View.{name_of, position_of, entry_of, proposal_of, instance_of}
use Rattle.ioa_value.specs.Table.{Table}
use Rattle.ioa_tree.specs.WellFormed as well_formed
use Rattle.ioa_tree.specs.WellFormed.{Context, distinct, apart, parameter_names}
use Rattle.ioa_rules.specs.Fields.{parameters}
use Rattle.ioa_rules.specs.Codes.{duplicate_name, tells}
use Rattle.ioa_rules.specs.Reasons as reasons
use Rattle.ioa_rules.specs.Reasons.{Reasons, broken, in_any, ◌or◌}
use Rattle.ioa_rules.specs.Verdicts.{Says}
use Rattle.ioa_rules.proofs.SayLemmas.{says-last, says-at, says-more, says-broken}
use Rattle.ioa_rules.proofs.ViewLemmas.{names-of_entries, names-of_proposals, names-of_instances}

-- what is said over the scope of starts, whose names are the formals
pub entry-says : {T : Type 0} (r : Result T Refusal) (t early k : Table) (g : List actions.Name) (a : AutomatonTree) (c : Context) (e : Entry)
    → (xs ys zs : List Position) → k ≡ early → c ≡ well_formed.formals t early g a
    → xs ≡ e.positions.items → ys ≡ e.positions.items → zs ≡ e.positions.items
    → distinct (field_names (parameters xs)) ≡ true → apart (field_names (parameters ys)) (g ++ well_formed.local_names t early g a) ≡ true
    → Says r (list_all (well_formed.position_fine k c) (map position_of zs)) (in_any (reasons.in_position k c) (map position_of zs))
    → Says r (well_formed.entry_fine t early g a (entry_of e)) (reasons.in_entry t early g a (entry_of e))
entry-says r t early k g a c e xs ys zs known names p q s d n h =
    let says : Table → Context → List Position → Type 0 =
    λ k c ps. Says r (list_all (well_formed.position_fine k c) (map position_of ps)) (in_any (reasons.in_position k c) (map position_of ps)) in
    let others = g ++ well_formed.local_names t early g a in
    let once : distinct (parameter_names (entry_of e)) ≡ true = ap (λ us. distinct (field_names (parameters us))) (sym p) ∙ d in
    let away : apart (parameter_names (entry_of e)) others ≡ true = ap (λ us. apart (field_names (parameters us)) others) (sym q) ∙ n in
    says-more r _ _ _ (λ x m. or_right _ _ m)
    (says-last r _ _ _ (and_from _ _ once away)
    (subst (λ ps. says early (well_formed.formals t early g a) ps) s (subst (λ c. says early c zs) names (subst (λ k. says k c zs) known h))))

pub entries-say : {T : Type 0} (r : Result T Refusal) (f : EntryTree → Bool) (w : EntryTree → Reasons) (es xs : List Entry) → xs ≡ es → distinct (map (λ e. name_of e.name) xs) ≡ true → Says r (list_all f (map entry_of es)) (in_any w (map entry_of es)) →
    Says r (distinct (map (λ e. e.name) (map entry_of es)) && list_all f (map entry_of es)) (broken duplicate_name (distinct (map (λ e. e.name) (map entry_of es))) or in_any w (map entry_of es))
entries-say r f w es xs p d h =
    says-more r _ _ _ (λ x k. or_right _ _ k)
    (says-last r _ _ _ (ap distinct (names-of_entries es) ∙ ap (λ us. distinct (map (λ e. name_of e.name) us)) (sym p) ∙ d) h)

pub proposals-say : {T : Type 0} (r : Result T Refusal) (f : ProposalTree → Bool) (w : ProposalTree → Reasons) (ps xs : List Proposal) → xs ≡ ps → list_all f (map proposal_of ps) ≡ true → Says r (distinct (map (λ p. name_of p.name) xs)) (tells duplicate_name) →
    Says r (list_all f (map proposal_of ps) && distinct (map (λ p. p.name) (map proposal_of ps))) (in_any w (map proposal_of ps) or broken duplicate_name (distinct (map (λ p. p.name) (map proposal_of ps))))
proposals-say r f w ps xs p h d =
    says-more r _ _ _ (λ x k. or_right _ _ k)
    (says-last r _ _ _ h (says-broken r duplicate_name _ (says-at r _ _ _ (ap (λ us. distinct (map (λ p. name_of p.name) us)) p ∙ ap distinct (sym (names-of_proposals ps))) d)))

pub composition-says : {T : Type 0} (r : Result T Refusal) (t early : Table) (before : SourceTree) (is xs : List Instance) (hs ys : List Name)
    → xs ≡ is → ys ≡ hs → distinct (map (λ i. name_of i.name) xs) ≡ true → distinct (map name_of ys) ≡ true
    → Says r (list_all (well_formed.instance_fine t early before) (map instance_of is)) (in_any (reasons.in_instance t early before) (map instance_of is))
    → Says r (distinct (map (λ i. i.name) (map instance_of is)) && distinct (map name_of hs) && list_all (well_formed.instance_fine t early before) (map instance_of is))
    (broken duplicate_name (distinct (map (λ i. i.name) (map instance_of is)) && distinct (map name_of hs))
    or in_any (reasons.in_instance t early before) (map instance_of is))
composition-says r t early before is xs hs ys p q d e h =
    let components : distinct (map (λ i. i.name) (map instance_of is)) ≡ true =
    ap distinct (names-of_instances is) ∙ ap (λ us. distinct (map (λ i. name_of i.name) us)) (sym p) ∙ d in
    let hidden : distinct (map name_of hs) ≡ true = ap (λ us. distinct (map name_of us)) (sym q) ∙ e in
    says-more r _ _ _ (λ x k. or_right _ _ k) (says-last r _ _ _ (and_from _ _ components hidden) h)
