-- Facts of each element of a list, and lists that are split twice.
use Rattle.std.proofs.Common.{◌≡◌, Bool, true, false, cond, ◌⊎◌, inl, inr, ◌||◌, List, [], ◌∷◌, ◌++◌, length, Result, Ok, Err, refl, sym, subst, arith}
use Rattle.std.specs.List.{list_any}
use Rattle.ioa_arithmetic.specs.declared.arithmetic.Fault.{Fault}
use Rattle.ioa_arithmetic.specs.declared.arithmetic.Fault.TheVariants.{Full}
use Rattle.ioa_value.specs.Plain.{Val}
use Rattle.ioa_value.specs.Same.{same}
use Rattle.ioa_links.proofs.Rules.{has_room}
use Rattle.ioa_links.proofs.Tables.{held_after, tail_of, rotated}
use Rattle.ioa_value.proofs.SameLemmas.{same_equal}

abbrev pub Each : (Val → Type 0) → List Val → Type 0
Each P [] = Unit {0}
Each P (x ∷ xs) = P x × Each P xs

pub each_more : (P : Val → Type 0) (xs : List Val) (x : Val) → Each P xs → P x → Each P (xs ++ x ∷ [])
each_more P [] x h p = (p, tt)
each_more P (y ∷ ys) x h p = (h.0, each_more P ys x h.1 p)

pub each_weaker : (P Q : Val → Type 0) (xs : List Val) → ((x : Val) → P x → Q x) → Each P xs → Each Q xs
each_weaker P Q [] f h = tt
each_weaker P Q (x ∷ xs) f h = (f x h.0, each_weaker P Q xs f h.1)

pub each_held : (P : Val → Type 0) (xs : List Val) (x : Val) → Each P xs → P x → Each P (held_after x xs)
each_held P xs x h p = by (has_room xs)
  where
    by : (b : Bool) → Each P (cond b (xs ++ x ∷ []) xs)
    by true = each_more P xs x h p
    by false = h

ok_list : (xs ys : List Val) → ◌≡◌ {A = Result (List Val) Fault} (Ok xs) (Ok ys) → xs ≡ ys
ok_list xs ys h = cc

pub each_tail : (P : Val → Type 0) (xs ys : List Val) → tail_of xs ≡ Ok ys → Each P xs → Each P ys
each_tail P [] ys e h = absurd (cc)
each_tail P (x ∷ xs) ys e h = subst (Each P) (ok_list xs ys e) h.1

each_appended : (P : Val → Type 0) (b : Bool) (xs ys : List Val) → cond b (Ok xs) (Err Full) ≡ Ok ys → Each P xs → Each P ys
each_appended P true xs ys e h = subst (Each P) (ok_list xs ys e) h
each_appended P false xs ys e h = absurd (cc)

pub each_rotated : (P : Val → Type 0) (xs ys : List Val) → rotated xs ≡ Ok ys → Each P xs → Each P ys
each_rotated P [] ys e h = absurd (cc)
each_rotated P (x ∷ xs) ys e h = each_appended P (has_room xs) (xs ++ x ∷ []) ys e (each_more P xs x h.1 h.0)

either : (a b : Bool) → (a || b) ≡ true → (a ≡ true) ⊎ (b ≡ true)
either true b h = inl refl
either false b h = inr h

pub each_has : (P : Val → Type 0) (p : Val) (xs : List Val) → list_any (same p) xs ≡ true → Each P xs → P p
each_has P p [] h k = absurd (cc)
each_has P p (x ∷ xs) h k =
    elim (either (same p x) (list_any (same p) xs) h) [
      | inl e ↦ subst P (sym (same_equal p x e)) k.0
      | inr r ↦ each_has P p xs r k.1
    ]

-- a list that is split twice at one place
pub split_once : (xs ys us vs : List Val) → xs ++ us ≡ ys ++ vs → length xs ≡ length ys → (xs ≡ ys) × (us ≡ vs)
split_once [] [] us vs h k = (refl, h)
split_once [] (y ∷ ys) us vs h k = absurd (omega (arith, k))
split_once (x ∷ xs) [] us vs h k = absurd (omega (arith, k))
split_once (x ∷ xs) (y ∷ ys) us vs h k =
    let head : x ≡ y = heads x y (xs ++ us) (ys ++ vs) h in
    let r = split_once xs ys us vs (tails x y (xs ++ us) (ys ++ vs) h) (omega (arith, k)) in
    (both x y xs ys head r.0, r.1)
  where
    heads : (x y : Val) (ps qs : List Val) → x ∷ ps ≡ y ∷ qs → x ≡ y
    heads x y ps qs h = cc

    tails : (x y : Val) (ps qs : List Val) → x ∷ ps ≡ y ∷ qs → ps ≡ qs
    tails x y ps qs h = cc

    both : (x y : Val) (ps qs : List Val) → x ≡ y → ps ≡ qs → x ∷ ps ≡ y ∷ qs
    both x y ps qs e f = cc
