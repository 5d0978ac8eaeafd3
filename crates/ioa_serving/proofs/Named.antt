-- Whether the name that is asked for is that of an object's composition.
use Rattle.std.proofs.Common.{◌≡◌, List, ℕ, Bool, true, false, not, Option, Some, None, IfSome, refl, sym, ◌∙◌}
use Rattle.std.specs.Option.{option_map_or}
use Rattle.std.specs.Str.{bytes_eq}
use Rattle.std.proofs.lemmas.Bool.{false≢true}
use Rattle.std.proofs.lemmas.Slice.Eq.{bytes_eq-Decides}
use Rattle.ioa_lex.specs.declared.refusal.Refusal.TheVariants as refusals
use Rattle.ioa_value.specs.Actions.{Name}
use Rattle.ioa_compile.specs.Programs.{Prog}
use Rattle.ioa_object.specs.Objects.{IsObject}
use Rattle.ioa_serving.specs.Failing.{IsOtherObject}

-- another name is asked for than this
abbrev pub asks_other : Option Name → Name → Bool
asks_other asked name = option_map_or (λ x. not (bytes_eq x name)) asked false

is_same : (b : Bool) → not b ≡ false → b ≡ true
is_same true e = refl
is_same false e = absurd (false≢true (sym e))

is_not : (b : Bool) → not b ≡ true → b ≡ false
is_not true e = absurd (false≢true e)
is_not false e = refl

pub is_named : (asked : Option Name) (p : Prog) (name : Name) → name ≡ p.name → asks_other asked name ≡ false → IfSome asked (λ x. x ≡ p.name)
is_named None p name same free = tt
is_named (Some x) p name same free = (bytes_eq-Decides x name).0 (is_same (bytes_eq x name) free) ∙ same

pub is_other : (bytes : List ℕ) (asked : Option Name) (p : Prog) (name : Name) → IsObject bytes p → name ≡ p.name → asks_other asked name ≡ true
    → IsOtherObject bytes asked refusals.NoComposition
is_other bytes None p name is same asked = absurd (false≢true asked)
is_other bytes (Some x) p name is same asked =
    (refl, (p, x, is, refl, λ e. false≢true (sym (is_not (bytes_eq x name) asked) ∙ (bytes_eq-Decides x name).1 (e ∙ sym same))))
