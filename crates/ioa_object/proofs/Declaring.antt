-- How the reading of a declaration goes on.
use Rattle.std.proofs.Common.{◌≡◌, ℕ, ◌+◌, ◌<◌, ◌≤◌, Bool, true, false, ◌&&◌, ◌⊎◌, inl, inr, nat_le, [], ◌∷◌, ◌++◌, length, Ok, Err, refl, ap, ◌∙◌, arith}
use Rattle.std.proofs.lemmas.Bool.{le-leb, lt-leb, and_from}
use Rattle.ioa_value.specs.Actions.{Name}
use Rattle.ioa_value.specs.Table.{Table, Shape, Declaration, AreTypes, MayStand, MayFollow, contains, all_names}
use Rattle.ioa_value.specs.Widths.{shape_width, widths}
use Rattle.ioa_value.specs.declared.limits.TheConstants.{LIMITS}
use Rattle.ioa_bytes.specs.Items.{Outcome, ◌>>=◌, ◌>>◌, right, byte_at, name_at}
use Rattle.ioa_object.specs.Reading.{form_at, declaration_at}
use Rattle.ioa_bytes.specs.Spots.{Spot}
use Rattle.ioa_bytes.specs.declared.failure.ObjErr.{ObjErr}
use Rattle.ioa_bytes.specs.declared.failure.ObjErr.TheVariants as errors
use Rattle.ioa_object.proofs.Formats.{AreBytes, yielded}
use Rattle.ioa_object.proofs.Forms.{form_format}
use Rattle.ioa_object.proofs.Fresh.{distinct_push}
use Rattle.ioa_object.proofs.Numbers.{byte_format}
use Rattle.ioa_bytes.proofs.Readers.{then_err, then_ok}
use Rattle.ioa_object.proofs.Texts.{name_format}
use Rattle.ioa_object.proofs.TypeFormats.{declaration_format}

outside : (tag : ℕ) → (tag < 1) ⊎ (3 < tag) → (nat_le 1 tag && nat_le tag 3) ≡ false
outside tag (inl less) = ap (λ b. b && nat_le tag 3) (lt-leb 1 tag less)
outside tag (inr more) = ap (λ b. nat_le 1 tag && b) (lt-leb tag 3 more) ∙ go (nat_le 1 tag)
  where
    go : (b : Bool) → (b && false) ≡ false
    go true = refl
    go false = refl

module _ (types : Table) (c : Spot) where
  -- what is read behind the form, the name and the tag
  abbrev behind_form : Name → Shape × Spot → Outcome Declaration
  behind_form x form = right (nat_le (shape_width (widths types) form.0) LIMITS.words) c.place >> Ok (record { name = x; shape = form.0 }, form.1)

  abbrev behind_name : ℕ → Name × Spot → Outcome Declaration
  behind_name tag x = form_at tag (all_names types ++ x.0 ∷ []) (length types) x.1 >>= behind_form x.0

  abbrev behind_tag : ℕ × Spot → Outcome Declaration
  behind_tag tag = right (nat_le 1 tag.0 && nat_le tag.0 3) c.place >> (name_at (contains (all_names types)) tag.1 >>= behind_name tag.0)

  pub no_tag : (e : ObjErr) → byte_at c ≡ Err e → declaration_at types c ≡ Err e
  unfolding declaration_at
  no_tag e h = then_err (byte_at c) behind_tag e h

  module _ (tag : ℕ) (d : Spot) (first : byte_at c ≡ Ok (tag, d)) where
    pub wrong_tag : (tag < 1) ⊎ (3 < tag) → declaration_at types c ≡ Err (errors.BadTable c.place)
    unfolding declaration_at
    wrong_tag past = then_ok (byte_at c) behind_tag (tag, d) first ∙ ap (λ b. right b c.place >> (name_at (contains (all_names types)) d >>= behind_name tag)) (outside tag past)

    module _ (low : 1 ≤ tag) (high : tag ≤ 3) where
      up_to_name : declaration_at types c ≡ (name_at (contains (all_names types)) d >>= behind_name tag)
      unfolding declaration_at
      up_to_name =
          then_ok (byte_at c) behind_tag (tag, d) first
          ∙ ap (λ b. right b c.place >> (name_at (contains (all_names types)) d >>= behind_name tag)) (and_from (nat_le 1 tag) (nat_le tag 3) (le-leb 1 tag low) (le-leb tag 3 high))

      pub no_name : (e : ObjErr) → name_at (contains (all_names types)) d ≡ Err e → declaration_at types c ≡ Err e
      no_name e h = up_to_name ∙ then_err (name_at (contains (all_names types)) d) (behind_name tag) e h

      module _ (x : Name) (f : Spot) (second : name_at (contains (all_names types)) d ≡ Ok (x, f)) where
        up_to_form : declaration_at types c ≡ behind_name tag (x, f)
        up_to_form = up_to_name ∙ then_ok (name_at (contains (all_names types)) d) (behind_name tag) (x, f) second

        pub no_form : (e : ObjErr) → form_at tag (all_names types ++ x ∷ []) (length types) f ≡ Err e → declaration_at types c ≡ Err e
        no_form e h = up_to_form ∙ then_err (form_at tag (all_names types ++ x ∷ []) (length types) f) (behind_form x) e h

        module _ (s : Shape) (g : Spot) (third : form_at tag (all_names types ++ x ∷ []) (length types) f ≡ Ok (s, g)) where
          up_to_width : declaration_at types c ≡ behind_form x (s, g)
          up_to_width = up_to_form ∙ then_ok (form_at tag (all_names types ++ x ∷ []) (length types) f) (behind_form x) (s, g) third

          pub too_wide : LIMITS.words < shape_width (widths types) s → declaration_at types c ≡ Err (errors.BadTable c.place)
          too_wide less = up_to_width ∙ ap (λ b. right b c.place >> Ok (record { name = x; shape = s }, g)) (lt-leb (shape_width (widths types) s) LIMITS.words less)

          pub whole : shape_width (widths types) s ≤ LIMITS.words → declaration_at types c ≡ Ok (record { name = x; shape = s }, g)
          whole narrow = up_to_width ∙ ap (λ b. right b c.place >> Ok (record { name = x; shape = s }, g)) (le-leb (shape_width (widths types) s) LIMITS.words narrow)

          module _ (are : AreTypes types) (bytes : AreBytes c.rest) where
            -- a type of this form may stand there
            pub stands : MayStand (length types) s
            stands =
                let one = yielded (byte_at c) _ tag d (byte_format.yields c bytes) first in
                let two = yielded (name_at (contains (all_names types)) d) _ x f ((name_format (contains (all_names types))).yields d one.after) second in
                let different = distinct_push (all_names types) x are.different two.fine.free in
                (yielded _ _ s g ((form_format (all_names types ++ x ∷ []) (length types) (omega (arith, are.few)) different tag low high).yields f two.after) third).fine.stands

            pub follows : length types < 2 + LIMITS.types → shape_width (widths types) s ≤ LIMITS.words → MayFollow types (record { name = x; shape = s })
            follows room narrow = (yielded (declaration_at types c) _ (record { name = x; shape = s }) g ((declaration_format types are room).yields c bytes) (whole narrow)).fine
