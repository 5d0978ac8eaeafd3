-- A set of names by their own order, with one name more.
use Rattle.std.proofs.Common.{◌≡◌, ℕ, ◌||◌, Bool, true, false, cond, List, [], ◌∷◌, ◌++◌, map, refl, sym, ap, ◌∙◌}
use Rattle.std.proofs.lemmas.List.{map-append}
use Rattle.std.proofs.lemmas.List.Folds.{list_any-append}
use Rattle.std.proofs.lemmas.Map.Text.{is_eq-slice_cmp}
use Rattle.std.specs.BTreeMap.{is_at}
use Rattle.std.specs.BTreeSet.{BTreeSet, Updates, contains_by}
use Rattle.std.specs.Cmp.Lexicographic.{slice_cmp}
use Rattle.std.specs.Ordering.{nat_cmp}
use Rattle.std.specs.declared.cmp.Ordering.{Ordering}
use Rattle.std.specs.Str.{bytes_eq}
use denote.Ref.{Bor}
use Rattle.ioa_value.specs.Table.{contains}
use Rattle.ioa_rules.specs.NameSets.{HasJust}

abbrev by_text : Bor (List ℕ) → Bor (List ℕ) → Ordering
by_text x y = slice_cmp nat_cmp x.now y.now

last_of : (b c : Bool) → cond b true c ≡ c || (b || false)
last_of true true = refl
last_of true false = refl
last_of false true = refl
last_of false false = refl

-- the set has just the names with one more behind them
pub has_more : (old new : BTreeSet (Bor (List ℕ))) (name : Bor (List ℕ)) (names more : List (Bor (List ℕ))) → Updates by_text old new name true
    → more ≡ names ++ name ∷ [] → HasJust old (map (λ t. t.now) names) → HasJust new (map (λ t. t.now) more)
has_more old new name names more updates e has = λ x.
    let q : Bor (List ℕ) = record { ref_ptr = (0, 0); now = x } in
    let before = contains_by (λ k. slice_cmp nat_cmp x k.now) old in
    let found : contains_by (λ k. slice_cmp nat_cmp x k.now) new ≡ cond (is_at (by_text name) q) true before = updates.0 q in
    let there = contains (map (λ t. t.now) names) x in
    found ∙ ap (λ b. cond b true before) (is_eq-slice_cmp name.now x) ∙ ap (λ b. cond (bytes_eq name.now x) true b) (has x)
    ∙ last_of (bytes_eq name.now x) there
    ∙ sym (ap (λ l. contains (map (λ t. t.now) l) x) e ∙ ap (λ l. contains l x) (map-append (λ (t : Bor (List ℕ)). t.now) names (name ∷ []))
    ∙ list_any-append (λ n. bytes_eq n x) (map (λ t. t.now) names) (name.now ∷ []))
