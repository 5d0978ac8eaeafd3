-- Names and their places: one name more.
use Rattle.std.proofs.Common.{◌≡◌, ℕ, Bool, true, false, cond, if◌then◌else◌, List, [], ◌∷◌, ◌++◌, Option, None, Some, length, slice_get, refl, sym, ap, ◌∙◌}
use Rattle.std.specs.Option.{option_or}
use Rattle.std.specs.Str.{bytes_eq}
use Rattle.ioa_value.specs.Actions.{Name}
use Rattle.ioa_value.specs.Table.{place_from}
use Rattle.ioa_value.proofs.NameLemmas.{first_last, same_name}
use Rattle.ioa_clash.specs.Index.{Adds, HasNothing, under}
use Rattle.ioa_clash.specs.declared.index.Index.{Index}
use Rattle.ioa_watch.specs.Placed.{ArePlaced}

pub placed_none : (index : Index ℕ) → HasNothing index → ArePlaced index []
placed_none index h = λ x. ap (λ l. slice_get l 0) (h x)

module _ (index new : Index ℕ) (ns : List Name) (m : Name) where
  nothing_first : (xs : List ℕ) (n : ℕ) → slice_get xs 0 ≡ None → slice_get (xs ++ n ∷ []) 0 ≡ Some n
  nothing_first [] n e = refl
  nothing_first (x ∷ xs) n e = absurd (cc)

  or_none : (o : Option ℕ) → o ≡ option_or o None
  or_none None = refl
  or_none (Some n) = refl

  pub placed_more : ArePlaced index ns → place_from 0 ns m ≡ None → Adds index m (length ns) new → ArePlaced new (ns ++ m ∷ [])
  placed_more h none adds = λ x.
      ap (λ l. slice_get l 0) (adds x) ∙ by x (bytes_eq m x) refl ∙ sym (first_last ns m x)
    where
      by : (x : Name) (b : Bool) → bytes_eq m x ≡ b → slice_get (if b then under index x ++ length ns ∷ [] else under index x) 0
          ≡ option_or (place_from 0 ns x) (cond b (Some (length ns)) None)
      by x true e =
          let absent : place_from 0 ns x ≡ None = ap (place_from 0 ns) (sym (same_name m x e)) ∙ none in
          nothing_first (under index x) (length ns) (h x ∙ absent) ∙ sym (ap (λ o. option_or o (Some (length ns))) absent)
      by x false e = h x ∙ or_none (place_from 0 ns x)
