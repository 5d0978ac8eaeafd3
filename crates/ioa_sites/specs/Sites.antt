-- Where an entry stands, and whether it is seen from outside.
use Rattle.std.specs.Prelude.{ℕ, Bool}
use Rattle.ioa_sites.specs.declared.sites.Site.{Site}

-- the site of entry k of component c, by what is seen
abbrev pub site_by : {E : Type 0} → (E → Bool) → ℕ → ℕ → E → Site
site_by seen c k e = record { component = c; entry = k; shown = seen e }
