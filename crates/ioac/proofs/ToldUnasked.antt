-- What is told of matches that ask for nothing.
use Rattle.std.proofs.Common.{◌≡◌, Bool, List, Option, Some, None, if◌then◌else◌, refl, sym, ◌∙◌, ap, ap₂, codes, option_map, true, false}
use Rattle.std.specs.Str.{bytes_eq}
use Rattle.clap.specs.Words.{Row, Text, first_of, first_value, found_of, rows_of, subcommand_name_of, subcommand_rows_of}
use Rattle.clap.specs.declared.parser.matches.ArgMatches.{ArgMatches}
use Rattle.ioac.specs.Telling.{bad_bounds_text, bad_run_text, bad_run_text_by, bad_seeds_text, bad_settings_text, bad_taken_text, missing_log_text, missing_seeds_text, unasked_text}
use Rattle.ioa_request.specs.CommandLine.{asks_seeds}
use Rattle.ioa_request.proofs.Asked.{given, lent}

-- what is told of a run, and of another request
pub told_run : (m found : ArgMatches) (name : Text) → Some name ≡ subcommand_name_of m
    → Some (rows_of (found_of found)) ≡ option_map (λ p. p.1) (subcommand_rows_of m) → bytes_eq name (codes "run") ≡ true
    → bad_run_text (rows_of (found_of found)) ≡ unasked_text (subcommand_rows_of m)
told_run m found name e f is =
    let rows = rows_of (found_of found) in
    let here = lent m found name name e f refl in
    let chosen : unasked_text (Some (name, rows)) ≡ bad_run_text rows = rw is refl in
    sym chosen ∙ ap unasked_text (sym here)

-- of a chart
pub told_chart : (m found : ArgMatches) (name : Text) (from to : Option Text) → Some name ≡ subcommand_name_of m
    → Some (rows_of (found_of found)) ≡ option_map (λ p. p.1) (subcommand_rows_of m) → bytes_eq name (codes "run") ≡ false → bytes_eq name (codes "chart") ≡ true
    → from ≡ first_value (found_of found) (codes "from") → to ≡ first_value (found_of found) (codes "to")
    → bad_bounds_text from to ≡ unasked_text (subcommand_rows_of m)
told_chart m found name from to e f other is a b =
    let rows = rows_of (found_of found) in
    let here = lent m found name name e f refl in
    let chosen : unasked_text (Some (name, rows)) ≡ bad_bounds_text (first_of (codes "from") rows) (first_of (codes "to") rows) = rw other (rw is refl) in
    ap₂ bad_bounds_text (sym (given found (codes "from") from a)) (sym (given found (codes "to") to b)) ∙ sym chosen ∙ ap unasked_text (sym here)

-- of a run whose settings are none
pub told_settings : (found : ArgMatches) (turns seed file : Option Text) (many : Bool) → None ≡ first_value (found_of found) (codes "seeds")
    → turns ≡ first_value (found_of found) (codes "turns") → seed ≡ first_value (found_of found) (codes "seed") → file ≡ first_value (found_of found) (codes "words")
    → many ≡ asks_seeds (rows_of (found_of found)) → many ≡ false → bad_settings_text turns seed file ≡ bad_run_text (rows_of (found_of found))
told_settings found turns seed file many none t s w asks unasked =
    let rows = rows_of (found_of found) in
    let values : bad_settings_text turns seed file ≡ bad_settings_text (first_of (codes "turns") rows) (first_of (codes "seed") rows) (first_of (codes "words") rows) =
    ap (λ x. bad_settings_text x seed file) (sym (given found (codes "turns") turns t))
    ∙ ap (λ x. bad_settings_text (first_of (codes "turns") rows) x file) (sym (given found (codes "seed") seed s))
    ∙ ap (λ x. bad_settings_text (first_of (codes "turns") rows) (first_of (codes "seed") rows) x) (sym (given found (codes "words") file w)) in
    let settings = bad_settings_text (first_of (codes "turns") rows) (first_of (codes "seed") rows) (first_of (codes "words") rows) in
    values ∙ sym (ap (λ b. if b then missing_seeds_text rows else settings) (sym asks ∙ unasked)) ∙ sym (ap (λ o. bad_run_text_by o rows) (given found (codes "seeds") None none))

-- of a single run with what runs by many seeds have
pub told_missing : (found : ArgMatches) (many : Bool) → None ≡ first_value (found_of found) (codes "seeds") → many ≡ asks_seeds (rows_of (found_of found)) → many ≡ true
    → missing_seeds_text (rows_of (found_of found)) ≡ bad_run_text (rows_of (found_of found))
told_missing found many none asks asked =
    let rows = rows_of (found_of found) in
    let settings = bad_settings_text (first_of (codes "turns") rows) (first_of (codes "seed") rows) (first_of (codes "words") rows) in
    sym (ap (λ b. if b then missing_seeds_text rows else settings) (sym asks ∙ asked)) ∙ sym (ap (λ o. bad_run_text_by o rows) (given found (codes "seeds") None none))

-- of runs by many seeds
pub told_seeds : (found : ArgMatches) (word : Text) (turns : Option Text) → Some word ≡ first_value (found_of found) (codes "seeds")
    → turns ≡ first_value (found_of found) (codes "turns") → bad_seeds_text word turns ≡ bad_run_text (rows_of (found_of found))
told_seeds found word turns there t =
    let rows = rows_of (found_of found) in
    ap (bad_seeds_text word) (sym (given found (codes "turns") turns t)) ∙ sym (ap (λ o. bad_run_text_by o rows) (given found (codes "seeds") (Some word) there))

pub told_other : (m found : ArgMatches) (name : Text) (until code : Option Text) → Some name ≡ subcommand_name_of m
    → Some (rows_of (found_of found)) ≡ option_map (λ p. p.1) (subcommand_rows_of m) → bytes_eq name (codes "run") ≡ false
    → bytes_eq name (codes "chart") ≡ false → until ≡ first_value (found_of found) (codes "until") → code ≡ first_value (found_of found) (codes "TEXT")
    → bad_taken_text until code (rows_of (found_of found)) ≡ unasked_text (subcommand_rows_of m)
told_other m found name until code e f other is u w =
    let rows = rows_of (found_of found) in
    let here = lent m found name name e f refl in
    let chosen : unasked_text (Some (name, rows)) ≡ bad_taken_text (first_of (codes "until") rows) (first_of (codes "TEXT") rows) rows = rw other (rw is refl) in
    ap₂ (λ x y. bad_taken_text x y rows) (sym (given found (codes "until") until u)) (sym (given found (codes "TEXT") code w)) ∙ sym chosen ∙ ap unasked_text (sym here)

pub told_none : (m : ArgMatches) → None ≡ option_map (λ p. p.1) (subcommand_rows_of m) → missing_log_text ≡ unasked_text (subcommand_rows_of m)
told_none m rows = go (subcommand_rows_of m) rows
  where
    go : (s : Option (Text × List Row)) → None ≡ option_map (λ p. p.1) s → missing_log_text ≡ unasked_text s
    go None e = refl
    go (Some p) e = cc
