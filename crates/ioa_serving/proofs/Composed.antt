-- The compositions of a source, one after another.
use Rattle.std.proofs.Common.{◌≡◌, ◌∙◌, ◌<◌, ◌≤◌, ◌+◌, ◌++◌, ◌∷◌, [], All, Bool, List, Option, Some, None, Result, Ok, Err, true, ℕ, IfErr, OnOk, ap, drop, drop-cons, get_or, inl, inr, length, refl, suc, sym, subst, take}
use Rattle.std.proofs.lemmas.List.{map-append, take-append-drop, take_all, take_more}
use Rattle.std.proofs.lemmas.List.Elements.{All-append}
use Rattle.ioa_lex.specs.declared.refusal.Refusal.{Refusal}
use Rattle.ioa_lex.specs.declared.refusal.Refusal.TheVariants as refusals
use Rattle.ioa_value.specs.Actions.{Name}
use Rattle.ioa_tree.specs.Compositions.{compositions, picked}
use Rattle.ioa_tree.specs.Tree.{CompositionTree, SourceTree, automaton, composition, declared_type, invariant}
use Rattle.ioa_tree.specs.View.{declaration_of, tree_of}
use Rattle.ioa_tree.specs.WellFormed.{WellFormed}
use Rattle.ioa_tree.specs.declared.tree.Declaration.{Declaration}
use Rattle.ioa_compose.specs.Refusals as composing
use Rattle.ioa_serving.specs.Checks.{AllCompose, Composes, IsFineSource, IsFirstRefused, IsUnfineSource}
use Rattle.ioa_serving.specs.Failing.{IsRefusedNamed}
use Rattle.ioa_serving.specs.Headline.{Spells}

compositions-append : (a b : SourceTree) → compositions (a ++ b) ≡ compositions a ++ compositions b
compositions-append [] b = refl
compositions-append (declared_type t ∷ ds) b = compositions-append ds b
compositions-append (automaton a ∷ ds) b = compositions-append ds b
compositions-append (composition c ∷ ds) b = ap (λ (cs : List CompositionTree). c ∷ cs) (compositions-append ds b)
compositions-append (invariant i ∷ ds) b = compositions-append ds b

-- those of declarations up to one more
one_more : (ds : List Declaration) (i : ℕ) (d : Declaration) → i < length ds → d ≡ get_or ds i d
    → compositions (tree_of (take (i + 1) ds)) ≡ compositions (tree_of (take i ds)) ++ compositions (declaration_of d ∷ [])
one_more ds i d lt is =
    ap (λ (xs : List Declaration). compositions (tree_of xs)) (take_more ds i d lt ∙ ap (λ (x : Declaration). take i ds ++ x ∷ []) (sym is))
    ∙ ap compositions (map-append declaration_of (take i ds) (d ∷ [])) ∙ compositions-append (tree_of (take i ds)) (declaration_of d ∷ [])

pub compose_more : (s : SourceTree) (ds : List Declaration) (i : ℕ) (d : Declaration) → i < length ds → d ≡ get_or ds i d
    → All (Composes s) (compositions (tree_of (take i ds))) → All (Composes s) (compositions (declaration_of d ∷ []))
    → All (Composes s) (compositions (tree_of (take (i + 1) ds)))
compose_more s ds i d lt is h p =
    subst (All (Composes s)) (sym (one_more ds i d lt is)) (All-append (Composes s) (compositions (tree_of (take i ds))) (compositions (declaration_of d ∷ [])) h p)

-- once all are composed
pub compose_all : (s : SourceTree) (ds : List Declaration) (i : ℕ) → tree_of ds ≡ s → length ds ≤ i → All (Composes s) (compositions (tree_of (take i ds)))
    → All (Composes s) (compositions s)
compose_all s ds i same le h =
    subst (λ (v : SourceTree). All (Composes s) (compositions v)) same (subst (λ (xs : List Declaration). All (Composes s) (compositions (tree_of xs))) (take_all i ds le) h)

-- where one is refused
parted : (ds : List Declaration) (i : ℕ) (d : Declaration) (c : CompositionTree) → i < length ds → d ≡ get_or ds i d → compositions (declaration_of d ∷ []) ≡ c ∷ []
    → compositions (tree_of ds) ≡ compositions (tree_of (take i ds)) ++ c ∷ compositions (tree_of (drop (suc i) ds))
parted ds i d c lt is one =
    let rest = tree_of (drop (suc i) ds) in
    let here : drop i ds ≡ d ∷ drop (suc i) ds = drop-cons ds i d lt ∙ ap (λ (x : Declaration). x ∷ drop (suc i) ds) (sym is) in
    let whole : ds ≡ take i ds ++ d ∷ drop (suc i) ds = sym (take-append-drop i ds) ∙ ap (λ (xs : List Declaration). take i ds ++ xs) here in
    ap (λ (xs : List Declaration). compositions (tree_of xs)) whole
    ∙ ap compositions (map-append declaration_of (take i ds) (d ∷ drop (suc i) ds))
    ∙ compositions-append (tree_of (take i ds)) (declaration_of d ∷ rest)
    ∙ ap (λ (cs : List CompositionTree). compositions (tree_of (take i ds)) ++ cs)
    (compositions-append (declaration_of d ∷ []) rest ∙ ap (λ (cs : List CompositionTree). cs ++ compositions rest) one)

pub first_refused : (s : SourceTree) (ds : List Declaration) (i : ℕ) (d : Declaration) (r : Refusal) → tree_of ds ≡ s → i < length ds → d ≡ get_or ds i d
    → All (Composes s) (compositions (tree_of (take i ds)))
    → (c : CompositionTree) × (compositions (declaration_of d ∷ []) ≡ c ∷ []) × IsRefusedNamed s (Some c.name) r
    → IsFirstRefused s r
first_refused s ds i d r same lt is h k = record {
  before = compositions (tree_of (take i ds));
  first = k.0;
  after = compositions (tree_of (drop (suc i) ds));
  order = ap compositions (sym same) ∙ parted ds i d k.0 lt is k.1;
  compose = h;
  refused = k.2;
}

-- one that is refused, by its name or as the last
pub refused_as : (s : SourceTree) (name : Option Name) (r : Refusal) → (picked s name ≡ None → r ≡ refusals.NoComposition)
    → ((t : CompositionTree) → picked s name ≡ Some t → composing.IsRefused s t r) → IsRefusedNamed s name r
refused_as s name r missing refused = go (picked s name) refl
  where
    go : (o : Option CompositionTree) → picked s name ≡ o → IsRefusedNamed s name r
    go None e = inl (e, missing e)
    go (Some t) e = inr (t, e, refused t e)

-- one that is refused by its name
pub refused_named : (s : SourceTree) (name : Name) (x : Name) (r : Refusal) → name ≡ x → (picked s (Some name) ≡ None → r ≡ refusals.NoComposition)
    → ((t : CompositionTree) → picked s (Some name) ≡ Some t → composing.IsRefused s t r) → IsRefusedNamed s (Some x) r
refused_named s name x r same missing refused = subst (λ (n : Name). IsRefusedNamed s (Some n) r) same (refused_as s (Some name) r missing refused)

-- what composing each answers, told of the text
pub all_fine : {T : Type 0} (r : Result T Refusal) (text : List ℕ) (asked : Bool) (s u : SourceTree) → asked ≡ true → Spells text s → u ≡ s → WellFormed s
    → OnOk r (All (Composes u) (compositions u)) → OnOk r (IsFineSource text asked)
all_fine (Ok x) text asked s u is found same well h =
    (s, found, well, subst (λ (b : Bool). AllCompose b s) (sym is) (subst (λ (v : SourceTree). All (Composes v) (compositions v)) same h))
all_fine (Err e) text asked s u is found same well h = tt

pub all_unfine : {T : Type 0} (r : Result T Refusal) (text : List ℕ) (asked : Bool) (s u : SourceTree) → asked ≡ true → Spells text s → u ≡ s → WellFormed s
    → IfErr r (λ x. IsFirstRefused u x) → IfErr r (λ x. IsUnfineSource text asked x)
all_unfine (Ok x) text asked s u is found same well h = tt
all_unfine (Err e) text asked s u is found same well h = inr (inr (inr (is, (s, found, well, subst (λ (v : SourceTree). IsFirstRefused v e) same h))))
