-- How much of standard input the words of a command line ask for.
use Rattle.std.specs.Prelude.{ℕ, ◌||◌, Bool, true, false, if◌then◌else◌, List, Option, Some, None, codes}
use Rattle.std.specs.Option.{option_and_then}
use Rattle.std.specs.Str.{bytes_eq}
use Rattle.clap.specs.Words.{Row, Text, first_of}
use Rattle.ioa_request.specs.declared.cut.Cut.{Cut}
use Rattle.ioa_request.specs.CommandLine.{is_set}
use Rattle.ioa_request.specs.Selections.{bound_in}

-- up to which of its actions a list, or a log, is taken; where there is no bound, all of it is
abbrev pub cut_at : Bool → Option ℕ → Option Cut
cut_at log None = None
cut_at false (Some most) = Some (Cut.List most)
cut_at true (Some most) = Some (Cut.Log most)

abbrev pub cut_in : List Row → Option Cut
cut_in rows = option_and_then (cut_at (is_set (codes "log") rows)) (bound_in (first_of (codes "until") rows))

-- a subcommand that performs the actions of a list or a log, and may stop behind some of them
abbrev pub is_performed : Text → Bool
is_performed name = bytes_eq name (codes "replay") || bytes_eq name (codes "log")

-- how much a subcommand with its values, if there is one, takes of standard input; none, where it takes all
abbrev pub cut_of : Option (Text × List Row) → Option Cut
cut_of None = None
cut_of (Some found) = if is_performed found.0 then cut_in found.1 else None
