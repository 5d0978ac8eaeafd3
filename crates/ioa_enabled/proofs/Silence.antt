-- Where no line is told of the hosts' own actions, none is enabled that their entries propose.
use Rattle.std.proofs.Common.{◌≡◌, ◌∙◌, ◌++◌, ◌+◌, ◌<◌, ◌≤◌, ℕ, zero, suc, Bool, true, false, cond, List, [], ◌∷◌, filter, length, Some, refl, sym, ap, ap₂, arith}
use Rattle.std.specs.Prelude.{codes, nat_lt, slice_get}
use Rattle.std.specs.Fmt.{decimal}
use Rattle.std.specs.List.{flat_map}
use Rattle.std.proofs.Math.Nat.{min-eq_left}
use Rattle.std.proofs.lemmas.List.{length-append}
use Rattle.ioa_value.specs.Actions.{Act, Name}
use Rattle.ioa_value.specs.Table.{Table}
use Rattle.ioa_value.specs.Written.{written_action}
use Rattle.ioa_value.proofs.ListLemmas.{empty}
use Rattle.ioa_tree.specs.Hosts.{Host, HostState, host_of}
use Rattle.ioa_tree.specs.Meaning.{Env}
use Rattle.ioa_enabled.specs.declared.part.Part.{Part}
use Rattle.ioa_enabled.specs.declared.telling.TheConstants.{MOST}
use Rattle.ioa_enabled.specs.Silent.{NothingMoreIsProposed}
use Rattle.ioa_enabled.specs.Told.{action_line, lines_in, lines_of_entry, lines_of_host, offer_lines, part_lines}
use Rattle.ioa_enabled.specs.Ways.{Values, enabled_ways, is_enabled, total, way, ways}
use Rattle.ioa_enabled.proofs.Numbering.{proposals_are_ways}
use Rattle.ioa_enabled.proofs.Picking.{above_test, below_test}
use Rattle.ioa_enabled.proofs.Trying.{next_one, tried}

-- ---- lists without an item

parts_empty : {X : Type 0} (a b : List X) → length (a ++ b) ≡ 0 → (length a ≡ 0) × (length b ≡ 0)
parts_empty a b none = let long = length-append a b in (omega (arith, none, long), omega (arith, none, long))

-- nothing is told of one of the items, where nothing is of all
one_empty : {E : Type 0} (f : E → List ℕ) (es : List E) (k : ℕ) (e : E) → length (flat_map f es) ≡ 0 → slice_get es k ≡ Some e → length (f e) ≡ 0
one_empty f [] k e none at = absurd (cc)
one_empty f (x ∷ xs) zero e none at =
    let same : x ≡ e = cc in ap (λ y. length (f y)) (sym same) ∙ (parts_empty (f x) (flat_map f xs) none).0
one_empty f (x ∷ xs) (suc k) e none at = one_empty f xs k e (parts_empty (f x) (flat_map f xs) none).1 at

host_empty : (types : Table) (ps : List Host) (hs : List (HostState Env)) (i : ℕ) (p : Host) (s : HostState Env) → length (part_lines Part.Own types ps hs) ≡ 0
    → slice_get ps i ≡ Some p → slice_get hs i ≡ Some s → length (lines_of_host Part.Own types p s) ≡ 0
host_empty types [] hs i p s none at now = absurd (cc)
host_empty types (x ∷ xs) [] i p s none at now = absurd (cc)
host_empty types (x ∷ xs) (y ∷ ys) zero p s none at now =
    let same : x ≡ p = cc in
    let state : y ≡ s = cc in
    ap₂ (λ (q : Host) (t : HostState Env). length (lines_of_host Part.Own types q t)) (sym same) (sym state)
    ∙ (parts_empty (lines_of_host Part.Own types x y) (part_lines Part.Own types xs ys) none).0
host_empty types (x ∷ xs) (y ∷ ys) (suc i) p s none at now =
    host_empty types xs ys i p s (parts_empty (lines_of_host Part.Own types x y) (part_lines Part.Own types xs ys) none).1 at now

-- ---- an entry without a line

no_line : (x rest : List ℕ) → length (x ++ (codes ": " ++ rest)) ≡ 0 → ⊥
no_line x rest none =
    let z : 2 ≡ 0 = (parts_empty (codes ": ") rest (parts_empty x (codes ": " ++ rest) none).1).0 in omega (arith, z)

-- it has no more ways than are tried, and none of them is enabled
no_offer : (types : Table) (x y : Name) (more : Bool) (as' : List Act) → length (offer_lines types x y more as') ≡ 0 → (more ≡ false) × (length as' ≡ 0)
no_offer types x y true as' none = absurd (no_line x (y ++ (codes ": more than 64 proposals, " ++ (decimal (length as') ++ codes " of the first 64 are enabled\n"))) none)
no_offer types x y false [] none = (refl, refl)
no_offer types x y false (a ∷ as') none =
    absurd (no_line x (written_action types a ++ codes "\n") (parts_empty (action_line types x a) (flat_map (action_line types x) as') none).0)

-- ---- ways of which none passes a test

module _ (test : Act → Bool) (x : Name) (cs : List Values) where
  one_fails : (a : Act) (b : Bool) → test a ≡ b → length (filter test (a ∷ [])) ≡ 0 → test a ≡ false
  one_fails a true e none = let z : 1 ≡ 0 = ap (λ (c : Bool). length (cond c (a ∷ []) [])) (sym e) ∙ none in absurd (omega (arith, z))
  one_fails a false e none = e

  -- where those before the last one fail
  last_fails : (n k : ℕ) → k < suc n → length (tried test x cs (suc n)) ≡ 0 → (k < n → length (tried test x cs n) ≡ 0 → test (way x cs k) ≡ false) → test (way x cs k) ≡ false
  last_fails n k less none earlier = go (nat_lt k n) refl
    where
      next : suc n ≡ n + 1
      next = omega arith

      parts : (length (tried test x cs n) ≡ 0) × (length (filter test (way x cs n ∷ [])) ≡ 0)
      parts = parts_empty (tried test x cs n) (filter test (way x cs n ∷ [])) (ap length (sym (ap (tried test x cs) next ∙ next_one test x cs n)) ∙ none)

      go : (b : Bool) → nat_lt k n ≡ b → test (way x cs k) ≡ false
      go true e = earlier (below_test k n e) parts.0
      go false e =
          let past = above_test k n e in
          let last : k ≡ n = omega (arith, less, past) in
          ap (λ (j : ℕ). test (way x cs j)) last ∙ one_fails (way x cs n) (test (way x cs n)) refl parts.1

  each_fails : (n k : ℕ) → k < n → length (tried test x cs n) ≡ 0 → test (way x cs k) ≡ false
  each_fails zero k less none = absurd (omega (arith, less))
  each_fails (suc n) k less none = last_fails n k less none (each_fails n k)

pub nothing_more_is_proposed : NothingMoreIsProposed
nothing_more_is_proposed types ps hs silent i p s at now declared k e words a taken here local is =
    let cs : List Values = ways p.instance e s.inner in
    let test : Act → Bool = is_enabled (host_of p) s in
    let none : length (part_lines Part.Own types ps hs) ≡ 0 = empty (part_lines Part.Own types ps hs) true refl (sym silent) in
    let host = host_empty types ps hs i p s none at now in
    let entries = p.instance.automaton.entries in
    let entry = one_empty (lines_of_entry Part.Own types p s) entries k e (parts_empty (flat_map (lines_of_entry Part.Own types p s) entries) [] host).0 here in
    let offers : List ℕ = lines_in Part.Own types p.name e.name (nat_lt MOST (total cs)) (enabled_ways (host_of p) s e.name cs MOST) in
    let told : length offers ≡ 0 = ap (λ (b : Bool). length (cond b offers [])) (sym local) ∙ entry in
    let offer = no_offer types p.name e.name (nat_lt MOST (total cs)) (enabled_ways (host_of p) s e.name cs MOST) told in
    let few : total cs ≤ MOST = above_test MOST (total cs) offer.0 in
    let all : length (tried test e.name cs (total cs)) ≡ 0 = ap (λ (n : ℕ). length (tried test e.name cs n)) (sym (min-eq_left few)) ∙ offer.1 in
    let one = proposals_are_ways p.instance e s.inner words a taken declared is in
    ap test one.2 ∙ each_fails test e.name cs (total cs) one.0 one.1 all
