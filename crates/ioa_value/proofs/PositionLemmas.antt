-- Positions of signatures: what their values are, and when some value is of two of them.
use Rattle.std.proofs.Common.{◌≡◌, suc, true, false, List, [], ◌∷◌, length, map, All, refl, sym, ap, subst, ◌∙◌}
use Rattle.std.proofs.lemmas.Bool.{and_parts, and_from}
use Rattle.std.proofs.lemmas.List.Elements.{All-head, All-tail}
use Rattle.ioa_value.specs.Plain.{Val}
use Rattle.ioa_value.specs.Positions.{Domain, every, single, takes, all_take, meets, all_meet, domain_type, IsDomain}
use Rattle.ioa_value.specs.Same.{same}
use Rattle.ioa_value.specs.Table.{Table, AreTypes}
use Rattle.ioa_value.specs.Typing.{HasType, HaveTypes, own, first_of}
use Rattle.ioa_value.proofs.FirstLemmas.{first_of_typed}
use Rattle.ioa_value.proofs.SameLemmas.{equal, equal_numbers, both_false, same_equal, same-refl}
use Rattle.ioa_value.proofs.TypingLemmas.{own_type}

-- ---- a domain's values

-- the one value of a domain
takes-single : (types : Table) (w v : Val) → takes types (single w) v ≡ true → v ≡ w
takes-single types w v h = sym (same_equal w v h)

pub takes-typed : (types : Table) (d : Domain) (v : Val) → IsDomain types d → takes types d v ≡ true → HasType types v (domain_type d)
takes-typed types (every ty) v i h = h
takes-typed types (single w) v i h = subst (λ x. HasType types x (own w)) (sym (takes-single types w v h)) i

pub all_take-typed : (types : Table) (ds : List Domain) (vs : List Val) → All (IsDomain types) ds
    → all_take types ds vs ≡ true → HaveTypes types vs (map domain_type ds)
all_take-typed types [] [] i h = tt
all_take-typed types [] (v ∷ vs) i h = absurd (cc)
all_take-typed types (d ∷ ds) [] i h = absurd (cc)
all_take-typed types (d ∷ ds) (v ∷ vs) i h =
    let p = and_parts (takes types d v) (all_take types ds vs) h in
    (takes-typed types d v (All-head (IsDomain types) d ds i) p.0, all_take-typed types ds vs (All-tail (IsDomain types) d ds i) p.1)

-- ---- a value of two domains

pub takes-meet : (types : Table) (d e : Domain) (v : Val) → takes types d v ≡ true → takes types e v ≡ true → meets types d e ≡ true
takes-meet types (every s) (every t) v h k = equal s t (sym (own_type types v s h) ∙ own_type types v t k)
takes-meet types (every s) (single w) v h k = subst (λ x. HasType types x s) (takes-single types w v k) h
takes-meet types (single w) (every t) v h k = subst (λ x. HasType types x t) (takes-single types w v h) k
takes-meet types (single w) (single x) v h k = subst (λ y. same w y ≡ true) (takes-single types x v k) h

pub all_take-meet : (types : Table) (ds es : List Domain) (vs : List Val) → all_take types ds vs ≡ true
    → all_take types es vs ≡ true → all_meet types ds es ≡ true
all_take-meet types [] [] vs h k = refl
all_take-meet types [] (e ∷ es) [] h k = absurd (cc)
all_take-meet types [] (e ∷ es) (v ∷ vs) h k = absurd (cc)
all_take-meet types (d ∷ ds) [] [] h k = absurd (cc)
all_take-meet types (d ∷ ds) [] (v ∷ vs) h k = absurd (cc)
all_take-meet types (d ∷ ds) (e ∷ es) [] h k = absurd (cc)
all_take-meet types (d ∷ ds) (e ∷ es) (v ∷ vs) h k =
    let p = and_parts (takes types d v) (all_take types ds vs) h in
    let q = and_parts (takes types e v) (all_take types es vs) k in
    and_from (meets types d e) (all_meet types ds es) (takes-meet types d e v p.0 q.0) (all_take-meet types ds es vs p.1 q.1)

pub meets-some : (types : Table) (d e : Domain) → AreTypes types → IsDomain types d → IsDomain types e
    → meets types d e ≡ true → (v : Val) × (takes types d v ≡ true) × (takes types e v ≡ true)
meets-some types (every s) (every t) a i j h =
    let first = first_of_typed types a s i in
    (first_of types s, first, subst (HasType types (first_of types s)) (equal_numbers s t h) first)
meets-some types (every s) (single w) a i j h = (w, h, same-refl w)
meets-some types (single w) (every t) a i j h = (w, same-refl w, h)
meets-some types (single w) (single x) a i j h = (x, h, same-refl x)

pub all_meet-some : (types : Table) (ds es : List Domain) → AreTypes types → All (IsDomain types) ds → All (IsDomain types) es
    → all_meet types ds es ≡ true → (vs : List Val) × (all_take types ds vs ≡ true) × (all_take types es vs ≡ true)
all_meet-some types [] [] a i j h = ([], refl, refl)
all_meet-some types [] (e ∷ es) a i j h = absurd (cc)
all_meet-some types (d ∷ ds) [] a i j h = absurd (cc)
all_meet-some types (d ∷ ds) (e ∷ es) a i j h =
    let p = and_parts (meets types d e) (all_meet types ds es) h in
    let (v, takes-d, takes-e) = meets-some types d e a (All-head (IsDomain types) d ds i) (All-head (IsDomain types) e es j) p.0 in
    let (vs, take-ds, take-es) = all_meet-some types ds es a (All-tail (IsDomain types) d ds i) (All-tail (IsDomain types) e es j) p.1 in
    (v ∷ vs, and_from (takes types d v) (all_take types ds vs) takes-d take-ds, and_from (takes types e v) (all_take types es vs) takes-e take-es)

-- ---- lists of different lengths

-- there are as many values as domains
pub uneven_take : (types : Table) (ds : List Domain) (vs : List Val) → (length ds ≡ length vs → ⊥) → false ≡ all_take types ds vs
uneven_take types [] [] e = absurd (e refl)
uneven_take types [] (v ∷ vs) e = refl
uneven_take types (d ∷ ds) [] e = refl
uneven_take types (d ∷ ds) (v ∷ vs) e = both_false _ _ (uneven_take types ds vs (λ q. e (ap suc q)))

-- two lists of domains with values are of one length
pub uneven_meet : (types : Table) (ds es : List Domain) → (length ds ≡ length es → ⊥) → false ≡ all_meet types ds es
uneven_meet types [] [] n = absurd (n refl)
uneven_meet types [] (e ∷ es) n = refl
uneven_meet types (d ∷ ds) [] n = refl
uneven_meet types (d ∷ ds) (e ∷ es) n = both_false _ _ (uneven_meet types ds es (λ q. n (ap suc q)))
