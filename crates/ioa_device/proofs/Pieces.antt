-- A text that is read piece by piece.
use Rattle.std.proofs.Common.{◌≡◌, ℕ, List, [], ◌++◌, sym, ◌∙◌, ap, subst, Option, None, Some, Err}
use Rattle.std.specs.Result.{IsErrOf}
use Rattle.std.specs.Io.KnownBytes.{Consumes}
use Rattle.std.proofs.KnownBytes.{Consumes-trans}
use Rattle.ioa_device.specs.Failing.{HasFailed}

pub known_none : (known : Option (List ℕ)) (xs : List ℕ) → xs ≡ [] → Consumes known known xs
known_none None xs e = tt
known_none (Some bs) xs e = ap (λ zs. zs ++ bs) (sym e)

pub known_pushed : (known left more : Option (List ℕ)) (xs ys zs : List ℕ) → zs ≡ xs ++ ys → Consumes known left xs → Consumes left more ys → Consumes known more zs
known_pushed known left more xs ys zs e c d = subst (Consumes known more) (sym e) (Consumes-trans known left more xs ys c d)

pub failed_since : (a b c : ℕ) → b ≡ a → HasFailed b c → HasFailed a c
failed_since a b c e h = subst (λ k. HasFailed k c) e h

-- the error that is handed on
pub kept_error : {T E : Type 0} (x y z : E) → x ≡ y → IsErrOf {T = T} (Err x) z → y ≡ z
kept_error x y z s e = let k : x ≡ z = cc in sym s ∙ k
