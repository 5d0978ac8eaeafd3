-- Names, read and spelled.
use Rattle.std.proofs.Common.{◌≡◌, ℕ, ◌≤◌, Bool, true, false, not, ◌&&◌, nat_le, List, [], ◌∷◌, ◌++◌, length, refl, sym, ap, ◌∙◌, arith}
use Rattle.std.specs.List.{list_all}
use Rattle.std.proofs.lemmas.Bool.{le-leb, leb-true, and_parts, and_from, not-true, not_from_false}
use Rattle.ioa_value.specs.Actions.{Name}
use Rattle.ioa_value.specs.Names.{is_name, IsName, begins_with_letter, is_word_byte, is_reserved}
use Rattle.ioa_value.specs.declared.limits.TheConstants.{LIMITS}
use Rattle.ioa_value.proofs.SpellLemmas.{begins_name}
use Rattle.ioa_bytes.specs.Items.{named_at, name_at}
use Rattle.ioa_object.specs.Spelling.{text}
use Rattle.ioa_bytes.specs.Spots.{Spot}
use Rattle.ioa_object.proofs.Formats.{AreBytes, Finds, finds_ok, finds_on, finds_step, finds_right, Yields, yields_ok, yields_on, yields_right, Taken, IsFormat, taken, chained}
use Rattle.ioa_object.proofs.Numbers.{bytes_format, byte_format}

-- a legal name that is not taken
pub record IsFree (taken : Name → Bool) (x : Name) : Type 0 where
  pub legal : IsName x
  pub free : taken x ≡ false

some_letter : (x : Name) → begins_with_letter x ≡ true → 1 ≤ length x
some_letter [] h = absurd (cc)
some_letter (b ∷ bs) h = omega arith

third : (a b c d : Bool) → a && b && c && d ≡ true → c ≡ true
third true true c d h = (and_parts c d h).0
third true false c d h = absurd (cc)
third false b c d h = absurd (cc)

pub name_some : (x : Name) → IsName x → 1 ≤ length x
name_some x h = some_letter x (begins_name x h)

pub name_short : (x : Name) → IsName x → length x ≤ LIMITS.name
unfolding is_name
name_short x h = leb-true _ _ (third (begins_with_letter x) (list_all is_word_byte x) (nat_le (length x) LIMITS.name) (not (is_reserved x)) h)

named_find : (x : Name) → IsName x → (c : Spot) (more : List ℕ) → c.rest ≡ text x ++ more → (place : ℕ) × Finds (named_at c) (x, place) more
unfolding named_at
named_find x legal c more e =
    let first = byte_format.finds (length x) tt c (x ++ more) e in (
      first.behind.place,
      finds_step _ _ _ _ _ _ first (finds_right _ _ _ _ _ (and_from _ _ (le-leb 1 (length x) (name_some x legal)) (le-leb (length x) LIMITS.name (name_short x legal)))
          (finds_on _ _ _ _ _ _ ((bytes_format (length x)).finds x refl first.behind more first.left) (λ d at. finds_right _ _ _ _ _ legal (finds_ok (x, first.behind.place) d more at)))),
    )

named_yield : (c : Spot) → AreBytes c.rest → Yields (named_at c) (λ x rest. Taken text IsName c.rest x.0 rest)
unfolding named_at
named_yield c bytes =
    yields_on _ _ _ _ (byte_format.yields c bytes) (λ n d h. yields_right (nat_le 1 n && nat_le n LIMITS.name) _ _ _ (λ ok.
    yields_on _ _ _ _ ((bytes_format n).yields d h.after) (λ x e k. yields_right (is_name x) _ _ _ (λ legal. yields_ok (x, d.place) e _ (record {
      fine = legal;
      front = chained c.rest (n ∷ []) d.rest x e.rest h.front k.front ∙ ap (λ m. m ∷ (x ++ e.rest)) (sym k.fine);
      after = k.after;
    })))))

pub name_format : (taken : Name → Bool) → IsFormat (name_at taken) text (IsFree taken)
unfolding name_at
name_format taken = record {
  finds = λ x h c more e.
      let named = named_find x h.legal c more e in
      finds_on _ _ _ _ _ _ named.1 (λ d at. finds_right _ _ _ _ _ (not_from_false (taken x) h.free) (finds_ok x d more at));
  yields = λ c bytes. yields_on _ _ _ _ (named_yield c bytes) (λ x d h. yields_right (not (taken x.0)) _ _ _ (λ ok. yields_ok x.0 d _ (record {
    fine = record { legal = h.fine; free = not-true (taken x.0) ok };
    front = h.front;
    after = h.after;
  })));
}
