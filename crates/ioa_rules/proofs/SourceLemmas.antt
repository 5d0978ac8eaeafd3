-- What the tests of a whole source say, joined.
use Rattle.std.proofs.Common.{◌≡◌, inl, inr, Bool, true, false, ◌&&◌, ◌||◌, [], refl}
use Rattle.std.proofs.lemmas.Bool.{and_from, and_left, and_right, or_left, or_right, or_cases, not_from_false}
use Rattle.ioa_value.specs.declared.limits.TheConstants.{LIMITS}
use Rattle.ioa_value.specs.Table.{basic, distinct}
use Rattle.ioa_lex.specs.declared.refusal.Refusal.{Refusal}
use Rattle.ioa_tree.specs.Tree.{SourceTree}
use Rattle.ioa_tree.specs.Types.{types_of}
use Rattle.ioa_tree.specs.WellFormed.{global_names, declarations_fine, source_within, types_narrow, well_formed}
use Rattle.ioa_rules.specs.Codes.{duplicate_name, too_many, too_wide, tells}
use Rattle.ioa_rules.specs.Reasons.{broken, ◌or◌, in_types, in_declarations, in_source}
use Rattle.ioa_rules.specs.Types.{types_fine}
use Rattle.ioa_rules.proofs.DeclarationLemmas.{types_fail, types_tell}

module _ (s : SourceTree) where
  abbrev names_fine : Bool
  names_fine = distinct (global_names s)

  abbrev parts_fine : Bool
  parts_fine = declarations_fine (types_of s) (global_names s) [] s

  pub all_fine : names_fine ≡ true → parts_fine ≡ true → source_within LIMITS s ≡ true → types_narrow LIMITS s ≡ true → well_formed s ≡ true
  all_fine a b c d =
      and_from (names_fine && parts_fine && source_within LIMITS s) (types_narrow LIMITS s)
      (and_from (names_fine && parts_fine) (source_within LIMITS s) (and_from names_fine parts_fine a b) c) d

  module _ (r : Refusal) where
    abbrev limits : Bool
    limits = broken too_many (source_within LIMITS s) r

    abbrev names : Bool
    names = broken duplicate_name names_fine r

    abbrev parts : Bool
    parts = in_declarations (types_of s) (global_names s) [] s r

    abbrev widths : Bool
    widths = broken too_wide (types_narrow LIMITS s) r

    pub limits_tell : tells too_many r ≡ true → source_within LIMITS s ≡ false → (in_source s r ≡ true) × (well_formed s ≡ false)
    limits_tell k h = (
      or_left ((limits || names) || parts) widths (or_left (limits || names) parts (or_left limits names (and_from _ _ k (not_from_false _ h)))),
      and_left (names_fine && parts_fine && source_within LIMITS s) (types_narrow LIMITS s) (and_right (names_fine && parts_fine) (source_within LIMITS s) h),
    )

    pub names_tell : tells duplicate_name r ≡ true → names_fine ≡ false → (in_source s r ≡ true) × (well_formed s ≡ false)
    names_tell k h = (
      or_left ((limits || names) || parts) widths (or_left (limits || names) parts (or_right limits names (and_from _ _ k (not_from_false _ h)))),
      and_left (names_fine && parts_fine && source_within LIMITS s) (types_narrow LIMITS s)
          (and_left (names_fine && parts_fine) (source_within LIMITS s) (and_left names_fine parts_fine h)),
    )

    part_fails : parts_fine ≡ false → well_formed s ≡ false
    part_fails h =
        and_left (names_fine && parts_fine && source_within LIMITS s) (types_narrow LIMITS s)
        (and_left (names_fine && parts_fine) (source_within LIMITS s) (and_right names_fine parts_fine h))

    part_tells : parts ≡ true → in_source s r ≡ true
    part_tells k = or_left ((limits || names) || parts) widths (or_right (limits || names) parts k)

    pub declarations_tell : parts ≡ true → parts_fine ≡ false → (in_source s r ≡ true) × (well_formed s ≡ false)
    declarations_tell k h = (part_tells k, part_fails h)

    pub types_told : (in_types basic s or broken too_wide (types_narrow LIMITS s)) r ≡ true → (types_fine basic s && types_narrow LIMITS s) ≡ false
        → (in_source s r ≡ true) × (well_formed s ≡ false)
    types_told k h = (why, test (types_fine basic s) refl h)
      where
        why : in_source s r ≡ true
        why = elim (or_cases (in_types basic s r) widths k) [
          | inl m ↦ part_tells (types_tell (types_of s) (global_names s) [] s r m)
          | inr m ↦ or_right ((limits || names) || parts) widths m
        ]

        test : (b : Bool) → types_fine basic s ≡ b → (b && types_narrow LIMITS s) ≡ false → well_formed s ≡ false
        test false e m = part_fails (types_fail (types_of s) (global_names s) [] s e)
        test true e m = and_right (names_fine && parts_fine && source_within LIMITS s) (types_narrow LIMITS s) m
