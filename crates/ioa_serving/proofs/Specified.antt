-- Specifications of names, one after another.
use Rattle.std.proofs.Common.{◌≡◌, ◌∙◌, ◌⊎◌, ◌<◌, ◌≤◌, ◌+◌, ◌++◌, ◌∷◌, [], inl, inr, All, List, Some, ℕ, ap, drop, drop-cons, get_or, length, suc, sym, subst, take, false}
use Rattle.std.specs.Borrow.{Bor}
use Rattle.std.specs.List.{AllZip}
use Rattle.std.proofs.lemmas.List.{map-append, take-append-drop, take_all, take_more}
use Rattle.std.proofs.lemmas.List.Elements.{All-cons, All-nil, All-push}
use Rattle.std.proofs.lemmas.Slice.Zip.{all_zipped_more}
use Rattle.ioa_value.specs.Actions.{Name}
use Rattle.ioa_tree.specs.Compositions.{picked}
use Rattle.ioa_tree.specs.Hosts.{Hosted, IsHosted}
use Rattle.ioa_tree.specs.Tree.{CompositionTree, SourceTree}
use Rattle.ioa_tree.specs.WellFormed.{WellFormed}
use Rattle.ioa_compile.specs.Programs.{Prog}
use Rattle.ioa_compile.specs.Subjects.{Runs, of_hosts}
use Rattle.ioa_monitor.specs.Monitoring.{IsSeen, hides}
use Rattle.ioa_request.specs.Pasted.{texts}
use Rattle.ioa_watch.proofs.AsSubjects.{hears_as_program}
use Rattle.ioa_serving.specs.declared.failure.Failure.{Failure}
use Rattle.ioa_serving.specs.Headline.{Spells, begins_object}
use Rattle.ioa_serving.specs.Watching.{IsFirstUnspecified, IsNoSpecification, IsUnwatched, Specifies}

-- ---- one

pub specifies : (s : SourceTree) (name : Name) (p : Prog) (t : CompositionTree) (h : Hosted) → picked s (Some name) ≡ Some t → IsHosted s t h → IsSeen h → Runs p h → Specifies s name p
specifies s name p t h picks hosted seen runs = record {
  tree = t;
  hosts = h;
  picks = picks;
  is_hosted = hosted;
  seen = seen;
  runs = runs;
  refuses = λ acts. sym (hears_as_program p (of_hosts h) acts runs).refusal;
}

-- ---- several

-- the names up to one more, where a list of lent names is walked over
names_more : (xs : List (Bor Name)) (i : ℕ) (d : Bor Name) → i < length xs → texts (take (i + 1) xs) ≡ texts (take i xs) ++ (get_or xs i d).now ∷ []
names_more xs i d lt = ap texts (take_more xs i d lt) ∙ map-append (λ (y : Bor Name). y.now) (take i xs) (get_or xs i d ∷ [])

pub specified_more : (s : SourceTree) (xs : List (Bor Name)) (i : ℕ) (d : Bor Name) (ps : List Prog) (p : Prog) → i < length xs → AllZip (Specifies s) (texts (take i xs)) ps
    → Specifies s (get_or xs i d).now p → AllZip (Specifies s) (texts (take (i + 1) xs)) (ps ++ p ∷ [])
specified_more s xs i d ps p lt so_far one =
    subst (λ (ns : List Name). AllZip (Specifies s) ns (ps ++ p ∷ [])) (sym (names_more xs i d lt))
    (all_zipped_more (Specifies s) (texts (take i xs)) ps (get_or xs i d).now p so_far one)

pub open_more : (ps : List Prog) (p : Prog) → All (λ q. hides q ≡ false) ps → hides p ≡ false → All (λ q. hides q ≡ false) (ps ++ p ∷ [])
open_more ps p so_far one = All-push (λ (q : Prog). hides q ≡ false) ps p so_far one

pub specified_all : (s : SourceTree) (xs : List (Bor Name)) (i : ℕ) (ps : List Prog) → length xs ≤ i → AllZip (Specifies s) (texts (take i xs)) ps → AllZip (Specifies s) (texts xs) ps
specified_all s xs i ps le h = subst (λ (ys : List (Bor Name)). AllZip (Specifies s) (texts ys) ps) (take_all i xs le) h

-- each of the names is a specification's
each_specified : (s : SourceTree) (names : List Name) (ps : List Prog) → AllZip (Specifies s) names ps → All (λ x. (p : Prog) × Specifies s x p) names
each_specified s [] ps h = All-nil (λ x. (p : Prog) × Specifies s x p)
each_specified s (x ∷ names) [] h = absurd h
each_specified s (x ∷ names) (p ∷ ps) h = All-cons (λ y. (q : Prog) × Specifies s y q) x names (p, h.0) (each_specified s names ps h.1)

-- where one is none
parted : (xs : List (Bor Name)) (i : ℕ) (d : Bor Name) → i < length xs → texts xs ≡ texts (take i xs) ++ (get_or xs i d).now ∷ texts (drop (suc i) xs)
parted xs i d lt =
    let whole : xs ≡ take i xs ++ get_or xs i d ∷ drop (suc i) xs = sym (take-append-drop i xs) ∙ ap (λ (ys : List (Bor Name)). take i xs ++ ys) (drop-cons xs i d lt) in
    ap texts whole ∙ map-append (λ (y : Bor Name). y.now) (take i xs) (get_or xs i d ∷ drop (suc i) xs)

pub first_unspecified : (s : SourceTree) (xs : List (Bor Name)) (i : ℕ) (d : Bor Name) (ps : List Prog) (e : Failure) → i < length xs
    → AllZip (Specifies s) (texts (take i xs)) ps → IsNoSpecification s (get_or xs i d).now e → IsFirstUnspecified s (texts xs) e
first_unspecified s xs i d ps e lt so_far why = record {
  before = texts (take i xs);
  first = (get_or xs i d).now;
  after = texts (drop (suc i) xs);
  order = parted xs i d lt;
  specified = each_specified s (texts (take i xs)) ps so_far;
  unspecified = why;
}

-- ---- of a source

pub unwatched : (text : List ℕ) (names : List Name) (s : SourceTree) (e : Failure) → begins_object text ≡ false → Spells text s → WellFormed s
    → IsFirstUnspecified s names e ⊎ (e ≡ Failure.OutOfMemory) → IsUnwatched text names e
unwatched text names s e source found well (inl k) = inr (source, inr (inl (s, found, well, k)))
unwatched text names s e source found well (inr k) = inr (source, inr (inr k))
