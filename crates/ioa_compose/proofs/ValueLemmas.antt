-- Values before others.
use Rattle.std.proofs.Common.{◌≡◌, ℕ, ◌+◌, ◌<◌, List, [], ◌∷◌, ◌++◌, map, drop, length, get_or, Result, Ok, Err, refl, sym, ap, ◌∙◌, append_assoc}
use Rattle.ioa_arithmetic.specs.declared.arithmetic.Fault.{Fault}
use Rattle.ioa_value.specs.Plain.{Val}
use Rattle.ioa_tree.specs.Instances.{all_values, with_value}
use Rattle.ioa_value.proofs.ItemLemmas.{drop_item}

-- values before others, where those do not fault
abbrev pub prepended : List Val → Result (List Val) Fault → Result (List Val) Fault
prepended vs (Ok ws) = Ok (vs ++ ws)
prepended vs (Err f) = Err f

pub prepended-one : (vs : List Val) (v : Val) (r : Result (List Val) Fault) → prepended vs (with_value (Ok v) r) ≡ prepended (vs ++ v ∷ []) r
prepended-one vs v (Ok ws) = ap (λ us. Ok us) (sym (append_assoc vs (v ∷ []) ws))
prepended-one vs v (Err f) = refl

pub values-go-on : {X Y : Type 0} (f : Y → Result Val Fault) (view : X → Y) (xs ys : List X) (i : ℕ) (x : X) (vs : List Val) (v : Val) → ys ≡ xs → i < length ys → x ≡ get_or ys i x
    → prepended vs (all_values f (map view (drop i xs))) ≡ all_values f (map view xs) → f (view x) ≡ Ok v
    → prepended (vs ++ v ∷ []) (all_values f (map view (drop (i + 1) xs))) ≡ all_values f (map view xs)
values-go-on f view xs ys i x vs v q l e h k =
    sym (prepended-one vs v (all_values f (map view (drop (i + 1) xs))))
    ∙ ap (λ zs. prepended vs (with_value (Ok v) (all_values f (map view (drop (i + 1) zs))))) (sym q)
    ∙ ap (λ r. prepended vs (with_value r (all_values f (map view (drop (i + 1) ys))))) (sym k)
    ∙ ap (λ zs. prepended vs (all_values f (map view zs))) (sym (drop_item ys i x l e))
    ∙ ap (λ zs. prepended vs (all_values f (map view (drop i zs)))) q ∙ h

pub values-stop : {X Y : Type 0} (f : Y → Result Val Fault) (view : X → Y) (xs : List X) (i : ℕ) (x : X) (vs : List Val) (e : Fault) → i < length xs → x ≡ get_or xs i x
    → prepended vs (all_values f (map view (drop i xs))) ≡ all_values f (map view xs) → f (view x) ≡ Err e → Err e ≡ all_values f (map view xs)
values-stop f view xs i x vs e l at h k =
    sym (ap (λ r. prepended vs (with_value r (all_values f (map view (drop (i + 1) xs))))) k)
    ∙ ap (λ zs. prepended vs (all_values f (map view zs))) (sym (drop_item xs i x l at))
    ∙ h
