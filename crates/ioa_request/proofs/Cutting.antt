-- How much of standard input the matches of a command line ask for.
use Rattle.std.proofs.Common.{◌≡◌, List, Option, Some, None, refl, sym, ap, codes, option_map}
use Rattle.clap.specs.Words.{Row, Text, first_of, first_value, found_of, rows_of, subcommand_rows_of}
use Rattle.clap.specs.declared.parser.matches.ArgMatches.{ArgMatches}
use Rattle.ioa_request.specs.Cuts.{cut_of}
use Rattle.ioa_request.specs.Selections.{bound_in}
use Rattle.ioa_request.proofs.Asked.{given}

-- the bound, as its word is lent
pub bounded_as : (found : ArgMatches) (o : Option Text) → o ≡ first_value (found_of found) (codes "until")
    → bound_in o ≡ bound_in (first_of (codes "until") (rows_of (found_of found)))
bounded_as found o e = ap bound_in (sym (given found (codes "until") o e))

-- there is no subcommand
pub cut_none : (m : ArgMatches) → None ≡ option_map (λ p. p.1) (subcommand_rows_of m) → None ≡ cut_of (subcommand_rows_of m)
cut_none m rows = go (subcommand_rows_of m) rows
  where
    go : (s : Option (Text × List Row)) → None ≡ option_map (λ p. p.1) s → None ≡ cut_of s
    go None e = refl
    go (Some p) e = cc
