-- Facts about all reserved words and signs.
use Rattle.std.proofs.Common.{◌≡◌, ◌∙◌, ℕ, Bool, true, false, ◌&&◌, nat_le, not, ◌↔◌, IsTrue, List, [], ◌∷◌, length, get_or, Option, Some, IfSome, find, refl, sym, ap, ⊎_elim}
use Rattle.std.specs.Str.{bytes_eq}
use Rattle.std.specs.List.{list_all, list_any}
use Rattle.std.proofs.lemmas.Slice.Eq.{bytes_eq-Decides}
use Rattle.std.proofs.lemmas.Bool.{cases_Bool, or_cases, false≢true, false_from_ne_true}
use Rattle.std.proofs.Math.Bool.{and-false}
use Rattle.ioa_value.specs.declared.limits.TheConstants.{LIMITS}
use Rattle.ioa_value.specs.declared.terminal.Terminal.{Terminal}
use Rattle.ioa_value.specs.declared.terminal.Terminal.TheVariants as terminals
use Rattle.ioa_value.specs.Names.{is_name, is_reserved, reserved, begins_with_letter, is_word_byte}
use Rattle.ioa_value.specs.Spelling.{spelling_of, IsReserved}
use Rattle.ioa_value.specs.Lookup.{beginning_with}

abbrev pub sought : List ℕ → List Terminal → Option Terminal
sought w ts = find (λ t. bytes_eq (spelling_of t) w) ts

abbrev pub looked_up : List ℕ → Option Terminal
looked_up w = sought w (beginning_with (get_or w 0 0))

-- each is found by its first byte
pub found_again : (t : Terminal) → looked_up (spelling_of t) ≡ Some t
found_again terminals.Type = refl
found_again _ = refl

-- no two are written alike
pub same_terminal : (t u : Terminal) → spelling_of t ≡ spelling_of u → t ≡ u
same_terminal t u same =
    let e = ap looked_up same in
    let a = found_again t in
    let b = found_again u in
    cc

-- what a look-up finds is written so
pub sought_is : (w : List ℕ) (ts : List Terminal) → IfSome (sought w ts) (λ t. w ≡ spelling_of t)
sought_is w [] = tt
sought_is w (t ∷ ts) =
    ⊎_elim (λ yes. rw yes (sym ((bytes_eq-Decides (spelling_of t) w).0 yes))) (λ no. rw no (sought_is w ts)) (cases_Bool (bytes_eq (spelling_of t) w))

pub is_short : (t : Terminal) → nat_le (length (spelling_of t)) LIMITS.name ≡ true
is_short terminals.Type = refl
is_short _ = refl

-- none is a name
pub no_name : (t : Terminal) → is_name (spelling_of t) ≡ false
unfolding is_name is_reserved reserved
no_name terminals.Type = refl
no_name _ = refl

-- each reserved word is one
listed : (ts : List Terminal) (w : List ℕ) → list_any (λ t. bytes_eq w (spelling_of t)) ts ≡ true → IsReserved w
listed [] w k = absurd (false≢true k)
listed (t ∷ ts) w k =
    ⊎_elim (λ same. (t, (bytes_eq-Decides w (spelling_of t)).0 same)) (λ more. listed ts w more) (or_cases (bytes_eq w (spelling_of t)) (list_any (λ u. bytes_eq w (spelling_of u)) ts) k)

pub reserved_word : (w : List ℕ) → is_reserved w ≡ true → IsReserved w
unfolding is_reserved reserved
reserved_word w h = listed reserved w h

-- a word within the limit is a name where it is not reserved
pub named_so : (w : List ℕ) (a r : Bool) → a ≡ (begins_with_letter w && list_all is_word_byte w && nat_le (length w) LIMITS.name) → (IsTrue r ↔ IsReserved w) → a && not r ≡ is_name w
unfolding is_name
named_so w a true e h =
    let t = h.0 refl in
    and-false a ∙ sym (ap is_name t.1 ∙ no_name t.0)
named_so w a false e h =
    let free : is_reserved w ≡ false = false_from_ne_true (is_reserved w) (λ yes. false≢true (h.1 (reserved_word w yes))) in
    rw (e, free) refl
