-- States of the same types that have the same values are equal.
use Rattle.std.proofs.Common.{◌≡◌, ℕ, List, [], ◌∷◌, map, true, refl, ap, ap₂, ◌∙◌, subst}
use Rattle.std.proofs.lemmas.Bool.{and_parts}
use Rattle.ioa_value.specs.declared.value.Value.{Value}
use Rattle.ioa_value.specs.Plain.{Val, plain, plain_all}
use Rattle.ioa_value.specs.Same.{same, same_all}
use Rattle.ioa_value.specs.Table.{Table}
use Rattle.ioa_value.proofs.PlainLemmas.{plain_all-of_map}
use Rattle.ioa_value.proofs.SameLemmas.{same_equal, same-refl}
use Rattle.ioa_parts.specs.Nodes.{Node}

pub same_values : (xs ys : List Value) → same_all (plain_all xs) (plain_all ys) ≡ true → map plain xs ≡ map plain ys
same_values [] [] e = refl
same_values [] (y ∷ ys) e = absurd (cc)
same_values (x ∷ xs) [] e = absurd (cc)
same_values (x ∷ xs) (y ∷ ys) e =
    let p = and_parts (same (plain x) (plain y)) (same_all (plain_all xs) (plain_all ys)) e in
    ap₂ (λ (v : Val) (vs : List Val). v ∷ vs) (same_equal (plain x) (plain y) p.0) (same_values xs ys p.1)

own_values : (xs : List Value) → same_all (plain_all xs) (plain_all xs) ≡ true
own_values [] = refl
own_values (x ∷ xs) = rw (same-refl (plain x)) (own_values xs)

pub values_same : (xs ys : List Value) → map plain xs ≡ map plain ys → same_all (plain_all xs) (plain_all ys) ≡ true
values_same xs ys e = subst (λ vs. same_all (plain_all xs) vs ≡ true) (plain_all-of_map xs ys e) (own_values xs)

abbrev node : Table → List ℕ → List Val → Node
node table types values = record { table = table; types = types; values = values }

pub same_node : (m n : Node) → m.table ≡ n.table → m.types ≡ n.types → m.values ≡ n.values → m ≡ n
same_node m n e f g = ap (λ (t : Table). node t m.types m.values) e ∙ ap (λ (ts : List ℕ). node n.table ts m.values) f ∙ ap (λ (vs : List Val). node n.table n.types vs) g
