-- What the matches of a command line ask for.
use Rattle.std.proofs.Common.{◌≡◌, ◌⊎◌, List, [], Option, Some, None, IfSome, IfNone, inl, inr, refl, sym, ◌∙◌, ap, ap₂, subst, codes, option_map, true, false}
use Rattle.std.specs.Option.{option_and_then, option_copied, option_map_or, unwrap_or}
use Rattle.std.specs.Prelude.{ℕ, is_some}
use Rattle.std.specs.Str.{bytes_eq}
use Rattle.std.proofs.lemmas.Bool.{false≢true}
use Rattle.std.specs.Box.{box_value}
use Rattle.std.specs.Borrow.{Bor}
use Rattle.clap.specs.Words.{Row, Text, all_of, first_of, first_value, found_of, matched_of, raw_values, rows_of, subcommand_name_of, subcommand_rows, subcommand_rows_of}
use Rattle.clap.specs.declared.parser.matches.ArgMatches.{ArgMatches}
use Rattle.clap.specs.declared.parser.matches.ArgMatches.TheViews.{out-ArgMatches, out-SubCommand}
use Rattle.clap.proofs.WalkLemmas.{first_value-rows, raw_values-rows}
use Rattle.ioa_request.specs.declared.request.Request.{Request}
use Rattle.ioa_request.specs.declared.seeds.Seeds.{Seeds}
use Rattle.ioa_request.specs.declared.selection.Selection.{Selection}
use Rattle.ioa_request.specs.declared.settings.Settings.{Settings}
use Rattle.ioa_request.specs.declared.shown.Shown.{Shown}
use Rattle.ioa_request.specs.declared.topic.Topic.{Topic}
use Rattle.ioa_request.specs.Pasted.{IsPasted, texts}
use Rattle.ioa_request.specs.CommandLine.{AreSeeds, AreSelected, AreSettings, IsAskedBy, Names, all_given, is_bounded, is_set, mixes_json, shown_by}
use Rattle.ioa_request.specs.Seeds.{range_in}
use Rattle.ioa_request.specs.Selections.{are_in_order, bound_in}
use Rattle.ioa_request.specs.Settings.{source_in, source_of, turns_in}

name_in : (m : ArgMatches) → subcommand_name_of m ≡ option_map (λ p. p.0) (subcommand_rows_of m)
name_in m =
    elim (out-ArgMatches m).subcommand as (λ o. option_map (λ b. (out-SubCommand (box_value b)).name.now) o ≡ option_map (λ p. p.0) (subcommand_rows o)) [
      | None ↦ refl
      | Some b ↦ refl
    ]

-- the subcommand of this name with its values, as the matches lend it
pub lent : (m found : ArgMatches) (name word : Text) → Some name ≡ subcommand_name_of m
    → Some (rows_of (found_of found)) ≡ option_map (λ p. p.1) (subcommand_rows_of m) → name ≡ word → subcommand_rows_of m ≡ Some (word, rows_of (found_of found))
lent m found name word e f is = go (subcommand_rows_of m) (e ∙ name_in m) f
  where
    go : (o : Option (Text × List Row)) → Some name ≡ option_map (λ p. p.0) o → Some (rows_of (found_of found)) ≡ option_map (λ p. p.1) o → o ≡ Some (word, rows_of (found_of found))
    go None h k = cc
    go (Some p) h k =
        let a : word ≡ p.0 = cc in
        let b : rows_of (found_of found) ≡ p.1 = cc in
        ap (λ (n : Text). Some (n, p.1)) (sym a) ∙ ap (λ (rs : List Row). Some (word, rs)) (sym b)

-- two words, as they compute
pub apart : (a b : Text) → bytes_eq a b ≡ false → bytes_eq b b ≡ true → a ≡ b → ⊥
apart a b differs same e = false≢true (sym differs ∙ ap (λ (t : Text). bytes_eq t b) e ∙ same)

-- nothing is asked for by a subcommand with these values
abbrev pub AsksNothing : Option (Text × List Row) → Type 0
AsksNothing o = (asked : Request) → IsAskedBy o asked → ⊥

-- there is none, and what holds then
pub none_so : {T : Type 0} (r : Option T) (P : Type 0) → r ≡ None → P → IfNone r P
none_so r P is p = subst (λ o. IfNone o P) (sym is) p

-- what is read of the subcommand, said of the matches that lend it
pub read_some : (m found : ArgMatches) (name word : Text) (r : Option Request) → Some name ≡ subcommand_name_of m
    → Some (rows_of (found_of found)) ≡ option_map (λ p. p.1) (subcommand_rows_of m) → name ≡ word
    → IfSome r (λ asked. IsAskedBy (Some (word, rows_of (found_of found))) asked) → IfSome r (λ asked. IsAskedBy (subcommand_rows_of m) asked)
read_some m found name word r e f is h = subst (λ o. IfSome r (λ asked. IsAskedBy o asked)) (sym (lent m found name word e f is)) h

pub read_none : (m found : ArgMatches) (name word : Text) (r : Option Request) → Some name ≡ subcommand_name_of m
    → Some (rows_of (found_of found)) ≡ option_map (λ p. p.1) (subcommand_rows_of m) → name ≡ word
    → IfNone r (AsksNothing (Some (word, rows_of (found_of found)))) → IfNone r (AsksNothing (subcommand_rows_of m))
read_none m found name word r e f is h = subst (λ o. IfNone r (AsksNothing o)) (sym (lent m found name word e f is)) h

-- where the file is missing
pub no_file : (word : Text) (rows : List Row) → (word ≡ codes "explain" → ⊥) → (word ≡ codes "library" → ⊥) → first_of (codes "FILE") rows ≡ None
    → AsksNothing (Some (word, rows))
no_file word rows other another none (Request.Replay file composition json) h = let z : None ≡ Some file.now = sym none ∙ h.1.0 in cc
no_file word rows other another none (Request.ReplayStates file composition shown) h = let z : None ≡ Some file.now = sym none ∙ h.1.0 in cc
no_file word rows other another none (Request.ReplayLog file composition json) h = let z : None ≡ Some file.now = sym none ∙ h.1.0 in cc
no_file word rows other another none (Request.ReplayLogStates file composition shown) h = let z : None ≡ Some file.now = sym none ∙ h.1.0 in cc
no_file word rows other another none (Request.ReplayInvariants file composition json) h = let z : None ≡ Some file.now = sym none ∙ h.1.0 in cc
no_file word rows other another none (Request.ReplayCoverage file composition asked json) h = let z : None ≡ Some file.now = sym none ∙ h.1.0 in cc
no_file word rows other another none (Request.Log file composition) h = let z : None ≡ Some file.now = sym none ∙ h.1.0 in cc
no_file word rows other another none (Request.LogByLog file composition) h = let z : None ≡ Some file.now = sym none ∙ h.1.0 in cc
no_file word rows other another none (Request.Monitor file composition) h = let z : None ≡ Some file.now = sym none ∙ h.1.0 in cc
no_file word rows other another none (Request.MonitorJson file composition) h = let z : None ≡ Some file.now = sym none ∙ h.1.0 in cc
no_file word rows other another none (Request.StrictMonitor file composition json) h = let z : None ≡ Some file.now = sym none ∙ h.1.0 in cc
no_file word rows other another none (Request.Watch file compositions first counts json) h = let z : None ≡ Some file.now = sym none ∙ h.1 in cc
no_file word rows other another none (Request.Chart file composition selection) h = let z : None ≡ Some file.now = sym none ∙ h.1.0 in cc
no_file word rows other another none (Request.Graph file composition) h = let z : None ≡ Some file.now = sym none ∙ h.1.0 in cc
no_file word rows other another none (Request.Run s) h = let z : None ≡ Some s.file.now = sym none ∙ h.2.names.0 in cc
no_file word rows other another none (Request.Seeds s) h = let z : None ≡ Some s.run.file.now = sym none ∙ h.1.run.names.0 in cc
no_file word rows other another none (Request.Check file compositions) h = let z : None ≡ Some file.now = sym none ∙ h.1 in cc
no_file word rows other another none (Request.Compile file out composition) h = let z : None ≡ Some file.now = sym none ∙ h.1.0 in cc
no_file word rows other another none (Request.Dump file) h = let z : None ≡ Some file.now = sym none ∙ h.1 in cc
no_file word rows other another none (Request.Explain topic) h = other h.0
no_file word rows other another none Request.Library h = another h

-- where there is nothing to explain
pub no_explanation : (rows : List Row) → ((topic : Topic) (words : List Text) → all_of (codes "TEXT") rows ≡ Some words → IsPasted words topic → ⊥)
    → AsksNothing (Some (codes "explain", rows))
no_explanation rows none (Request.Replay file composition json) h = apart (codes "explain") (codes "replay") refl refl h.0.0
no_explanation rows none (Request.ReplayStates file composition shown) h = apart (codes "explain") (codes "replay") refl refl h.0.0
no_explanation rows none (Request.ReplayLog file composition json) h = apart (codes "explain") (codes "replay") refl refl h.0.0
no_explanation rows none (Request.ReplayLogStates file composition shown) h = apart (codes "explain") (codes "replay") refl refl h.0.0
no_explanation rows none (Request.ReplayInvariants file composition json) h = apart (codes "explain") (codes "replay") refl refl h.0.0
no_explanation rows none (Request.ReplayCoverage file composition asked json) h = apart (codes "explain") (codes "replay") refl refl h.0.0
no_explanation rows none (Request.Log file composition) h = apart (codes "explain") (codes "log") refl refl h.0.0
no_explanation rows none (Request.LogByLog file composition) h = apart (codes "explain") (codes "log") refl refl h.0.0
no_explanation rows none (Request.Monitor file composition) h = apart (codes "explain") (codes "monitor") refl refl h.0
no_explanation rows none (Request.MonitorJson file composition) h = apart (codes "explain") (codes "monitor") refl refl h.0
no_explanation rows none (Request.StrictMonitor file composition json) h = apart (codes "explain") (codes "monitor") refl refl h.0
no_explanation rows none (Request.Watch file compositions first counts json) h = apart (codes "explain") (codes "watch") refl refl h.0
no_explanation rows none (Request.Chart file composition selection) h = apart (codes "explain") (codes "chart") refl refl h.0
no_explanation rows none (Request.Graph file composition) h = apart (codes "explain") (codes "graph") refl refl h.0
no_explanation rows none (Request.Run s) h = apart (codes "explain") (codes "run") refl refl h.0
no_explanation rows none (Request.Seeds s) h = apart (codes "explain") (codes "run") refl refl h.0
no_explanation rows none (Request.Check file compositions) h = apart (codes "explain") (codes "check") refl refl h.0
no_explanation rows none (Request.Compile file out composition) h = apart (codes "explain") (codes "compile") refl refl h.0
no_explanation rows none (Request.Dump file) h = apart (codes "explain") (codes "dump") refl refl h.0
no_explanation rows none (Request.Explain topic) h = none topic h.1.0 h.1.1 h.1.2
no_explanation rows none Request.Library h = apart (codes "explain") (codes "library") refl refl h

-- where no file is named for an object
pub no_out : (rows : List Row) → first_of (codes "OUT") rows ≡ None → AsksNothing (Some (codes "compile", rows))
no_out rows none (Request.Replay file composition json) h = apart (codes "compile") (codes "replay") refl refl h.0.0
no_out rows none (Request.ReplayStates file composition shown) h = apart (codes "compile") (codes "replay") refl refl h.0.0
no_out rows none (Request.ReplayLog file composition json) h = apart (codes "compile") (codes "replay") refl refl h.0.0
no_out rows none (Request.ReplayLogStates file composition shown) h = apart (codes "compile") (codes "replay") refl refl h.0.0
no_out rows none (Request.ReplayInvariants file composition json) h = apart (codes "compile") (codes "replay") refl refl h.0.0
no_out rows none (Request.ReplayCoverage file composition asked json) h = apart (codes "compile") (codes "replay") refl refl h.0.0
no_out rows none (Request.Log file composition) h = apart (codes "compile") (codes "log") refl refl h.0.0
no_out rows none (Request.LogByLog file composition) h = apart (codes "compile") (codes "log") refl refl h.0.0
no_out rows none (Request.Monitor file composition) h = apart (codes "compile") (codes "monitor") refl refl h.0
no_out rows none (Request.MonitorJson file composition) h = apart (codes "compile") (codes "monitor") refl refl h.0
no_out rows none (Request.StrictMonitor file composition json) h = apart (codes "compile") (codes "monitor") refl refl h.0
no_out rows none (Request.Watch file compositions first counts json) h = apart (codes "compile") (codes "watch") refl refl h.0
no_out rows none (Request.Chart file composition selection) h = apart (codes "compile") (codes "chart") refl refl h.0
no_out rows none (Request.Graph file composition) h = apart (codes "compile") (codes "graph") refl refl h.0
no_out rows none (Request.Run s) h = apart (codes "compile") (codes "run") refl refl h.0
no_out rows none (Request.Seeds s) h = apart (codes "compile") (codes "run") refl refl h.0
no_out rows none (Request.Check file compositions) h = apart (codes "compile") (codes "check") refl refl h.0
no_out rows none (Request.Compile file out composition) h = let z : None ≡ Some out.now = sym none ∙ h.2 in cc
no_out rows none (Request.Dump file) h = apart (codes "compile") (codes "dump") refl refl h.0
no_out rows none (Request.Explain topic) h = apart (codes "compile") (codes "explain") refl refl h.0
no_out rows none Request.Library h = apart (codes "compile") (codes "library") refl refl h

-- where no specification is named
pub no_specification : (rows : List Row) → all_of (codes "comp") rows ≡ None → AsksNothing (Some (codes "watch", rows))
no_specification rows none (Request.Replay file composition json) h = apart (codes "watch") (codes "replay") refl refl h.0.0
no_specification rows none (Request.ReplayStates file composition shown) h = apart (codes "watch") (codes "replay") refl refl h.0.0
no_specification rows none (Request.ReplayLog file composition json) h = apart (codes "watch") (codes "replay") refl refl h.0.0
no_specification rows none (Request.ReplayLogStates file composition shown) h = apart (codes "watch") (codes "replay") refl refl h.0.0
no_specification rows none (Request.ReplayInvariants file composition json) h = apart (codes "watch") (codes "replay") refl refl h.0.0
no_specification rows none (Request.ReplayCoverage file composition asked json) h = apart (codes "watch") (codes "replay") refl refl h.0.0
no_specification rows none (Request.Log file composition) h = apart (codes "watch") (codes "log") refl refl h.0.0
no_specification rows none (Request.LogByLog file composition) h = apart (codes "watch") (codes "log") refl refl h.0.0
no_specification rows none (Request.Monitor file composition) h = apart (codes "watch") (codes "monitor") refl refl h.0
no_specification rows none (Request.MonitorJson file composition) h = apart (codes "watch") (codes "monitor") refl refl h.0
no_specification rows none (Request.StrictMonitor file composition json) h = apart (codes "watch") (codes "monitor") refl refl h.0
no_specification rows none (Request.Watch file compositions first counts json) h = let z : None ≡ Some (texts compositions.now) = sym none ∙ h.2 in cc
no_specification rows none (Request.Chart file composition selection) h = apart (codes "watch") (codes "chart") refl refl h.0
no_specification rows none (Request.Graph file composition) h = apart (codes "watch") (codes "graph") refl refl h.0
no_specification rows none (Request.Run s) h = apart (codes "watch") (codes "run") refl refl h.0
no_specification rows none (Request.Seeds s) h = apart (codes "watch") (codes "run") refl refl h.0
no_specification rows none (Request.Check file compositions) h = apart (codes "watch") (codes "check") refl refl h.0
no_specification rows none (Request.Compile file out composition) h = apart (codes "watch") (codes "compile") refl refl h.0
no_specification rows none (Request.Dump file) h = apart (codes "watch") (codes "dump") refl refl h.0
no_specification rows none (Request.Explain topic) h = apart (codes "watch") (codes "explain") refl refl h.0
no_specification rows none Request.Library h = apart (codes "watch") (codes "library") refl refl h

-- where the entries that are asked for are none
pub no_selection : (rows : List Row) → ((s : Selection) → AreSelected rows s → ⊥) → AsksNothing (Some (codes "chart", rows))
no_selection rows none (Request.Replay file composition json) h = apart (codes "chart") (codes "replay") refl refl h.0.0
no_selection rows none (Request.ReplayStates file composition shown) h = apart (codes "chart") (codes "replay") refl refl h.0.0
no_selection rows none (Request.ReplayLog file composition json) h = apart (codes "chart") (codes "replay") refl refl h.0.0
no_selection rows none (Request.ReplayLogStates file composition shown) h = apart (codes "chart") (codes "replay") refl refl h.0.0
no_selection rows none (Request.ReplayInvariants file composition json) h = apart (codes "chart") (codes "replay") refl refl h.0.0
no_selection rows none (Request.ReplayCoverage file composition asked json) h = apart (codes "chart") (codes "replay") refl refl h.0.0
no_selection rows none (Request.Log file composition) h = apart (codes "chart") (codes "log") refl refl h.0.0
no_selection rows none (Request.LogByLog file composition) h = apart (codes "chart") (codes "log") refl refl h.0.0
no_selection rows none (Request.Monitor file composition) h = apart (codes "chart") (codes "monitor") refl refl h.0
no_selection rows none (Request.MonitorJson file composition) h = apart (codes "chart") (codes "monitor") refl refl h.0
no_selection rows none (Request.StrictMonitor file composition json) h = apart (codes "chart") (codes "monitor") refl refl h.0
no_selection rows none (Request.Watch file compositions first counts json) h = apart (codes "chart") (codes "watch") refl refl h.0
no_selection rows none (Request.Chart file composition selection) h = none selection h.2
no_selection rows none (Request.Graph file composition) h = apart (codes "chart") (codes "graph") refl refl h.0
no_selection rows none (Request.Run s) h = apart (codes "chart") (codes "run") refl refl h.0
no_selection rows none (Request.Seeds s) h = apart (codes "chart") (codes "run") refl refl h.0
no_selection rows none (Request.Check file compositions) h = apart (codes "chart") (codes "check") refl refl h.0
no_selection rows none (Request.Compile file out composition) h = apart (codes "chart") (codes "compile") refl refl h.0
no_selection rows none (Request.Dump file) h = apart (codes "chart") (codes "dump") refl refl h.0
no_selection rows none (Request.Explain topic) h = apart (codes "chart") (codes "explain") refl refl h.0
no_selection rows none Request.Library h = apart (codes "chart") (codes "library") refl refl h

-- where the invariants of a list are asked for
pub no_log : (word : Text) (rows : List Row) → word ≡ codes "replay" → is_set (codes "log") rows ≡ false → is_set (codes "invariants") rows ≡ true → AsksNothing (Some (word, rows))
no_log word rows is log invariants (Request.Replay file composition json) h = false≢true (sym h.0.2 ∙ invariants)
no_log word rows is log invariants (Request.ReplayStates file composition shown) h = false≢true (sym h.0.2 ∙ invariants)
no_log word rows is log invariants (Request.ReplayLog file composition json) h = false≢true (sym log ∙ h.0.1)
no_log word rows is log invariants (Request.ReplayLogStates file composition shown) h = false≢true (sym log ∙ h.0.1)
no_log word rows is log invariants (Request.ReplayInvariants file composition json) h = false≢true (sym log ∙ h.0.1)
no_log word rows is log invariants (Request.ReplayCoverage file composition asked json) h = false≢true (sym h.0.2 ∙ invariants)
no_log word rows is log invariants (Request.Log file composition) h = apart (codes "replay") (codes "log") refl refl (sym is ∙ h.0.0)
no_log word rows is log invariants (Request.LogByLog file composition) h = apart (codes "replay") (codes "log") refl refl (sym is ∙ h.0.0)
no_log word rows is log invariants (Request.Monitor file composition) h = apart (codes "replay") (codes "monitor") refl refl (sym is ∙ h.0)
no_log word rows is log invariants (Request.MonitorJson file composition) h = apart (codes "replay") (codes "monitor") refl refl (sym is ∙ h.0)
no_log word rows is log invariants (Request.StrictMonitor file composition json) h = apart (codes "replay") (codes "monitor") refl refl (sym is ∙ h.0)
no_log word rows is log invariants (Request.Watch file compositions first counts json) h = apart (codes "replay") (codes "watch") refl refl (sym is ∙ h.0)
no_log word rows is log invariants (Request.Chart file composition selection) h = apart (codes "replay") (codes "chart") refl refl (sym is ∙ h.0)
no_log word rows is log invariants (Request.Graph file composition) h = apart (codes "replay") (codes "graph") refl refl (sym is ∙ h.0)
no_log word rows is log invariants (Request.Run s) h = apart (codes "replay") (codes "run") refl refl (sym is ∙ h.0)
no_log word rows is log invariants (Request.Seeds s) h = apart (codes "replay") (codes "run") refl refl (sym is ∙ h.0)
no_log word rows is log invariants (Request.Check file compositions) h = apart (codes "replay") (codes "check") refl refl (sym is ∙ h.0)
no_log word rows is log invariants (Request.Compile file out composition) h = apart (codes "replay") (codes "compile") refl refl (sym is ∙ h.0)
no_log word rows is log invariants (Request.Dump file) h = apart (codes "replay") (codes "dump") refl refl (sym is ∙ h.0)
no_log word rows is log invariants (Request.Explain topic) h = apart (codes "replay") (codes "explain") refl refl (sym is ∙ h.0)
no_log word rows is log invariants Request.Library h = apart (codes "replay") (codes "library") refl refl (sym is ∙ h)

-- where invariants are asked for, and to tell of states
pub no_both : (word : Text) (rows : List Row) (s : Shown) → word ≡ codes "replay" → is_set (codes "invariants") rows ≡ true → shown_by rows ≡ Some s → AsksNothing (Some (word, rows))
no_both word rows s is invariants states (Request.Replay file composition json) h = false≢true (sym h.0.2 ∙ invariants)
no_both word rows s is invariants states (Request.ReplayStates file composition shown) h = false≢true (sym h.0.2 ∙ invariants)
no_both word rows s is invariants states (Request.ReplayLog file composition json) h = false≢true (sym h.0.2 ∙ invariants)
no_both word rows s is invariants states (Request.ReplayLogStates file composition shown) h = false≢true (sym h.0.2 ∙ invariants)
no_both word rows s is invariants states (Request.ReplayInvariants file composition json) h = let z : None ≡ Some s = sym h.0.3 ∙ states in cc
no_both word rows s is invariants states (Request.ReplayCoverage file composition asked json) h = false≢true (sym h.0.2 ∙ invariants)
no_both word rows s is invariants states (Request.Log file composition) h = apart (codes "replay") (codes "log") refl refl (sym is ∙ h.0.0)
no_both word rows s is invariants states (Request.LogByLog file composition) h = apart (codes "replay") (codes "log") refl refl (sym is ∙ h.0.0)
no_both word rows s is invariants states (Request.Monitor file composition) h = apart (codes "replay") (codes "monitor") refl refl (sym is ∙ h.0)
no_both word rows s is invariants states (Request.MonitorJson file composition) h = apart (codes "replay") (codes "monitor") refl refl (sym is ∙ h.0)
no_both word rows s is invariants states (Request.StrictMonitor file composition json) h = apart (codes "replay") (codes "monitor") refl refl (sym is ∙ h.0)
no_both word rows s is invariants states (Request.Watch file compositions first counts json) h = apart (codes "replay") (codes "watch") refl refl (sym is ∙ h.0)
no_both word rows s is invariants states (Request.Chart file composition selection) h = apart (codes "replay") (codes "chart") refl refl (sym is ∙ h.0)
no_both word rows s is invariants states (Request.Graph file composition) h = apart (codes "replay") (codes "graph") refl refl (sym is ∙ h.0)
no_both word rows s is invariants states (Request.Run settings) h = apart (codes "replay") (codes "run") refl refl (sym is ∙ h.0)
no_both word rows s is invariants states (Request.Seeds seeds) h = apart (codes "replay") (codes "run") refl refl (sym is ∙ h.0)
no_both word rows s is invariants states (Request.Check file compositions) h = apart (codes "replay") (codes "check") refl refl (sym is ∙ h.0)
no_both word rows s is invariants states (Request.Compile file out composition) h = apart (codes "replay") (codes "compile") refl refl (sym is ∙ h.0)
no_both word rows s is invariants states (Request.Dump file) h = apart (codes "replay") (codes "dump") refl refl (sym is ∙ h.0)
no_both word rows s is invariants states (Request.Explain code) h = apart (codes "replay") (codes "explain") refl refl (sym is ∙ h.0)
no_both word rows s is invariants states Request.Library h = apart (codes "replay") (codes "library") refl refl (sym is ∙ h)

-- where objects are asked for, and to tell of states
pub no_mixture : (word : Text) (rows : List Row) → word ≡ codes "replay" → mixes_json rows ≡ true → AsksNothing (Some (word, rows))
no_mixture word rows is mixed (Request.Replay file composition json) h = false≢true (sym h.0.5 ∙ mixed)
no_mixture word rows is mixed (Request.ReplayStates file composition shown) h = false≢true (sym h.0.5 ∙ mixed)
no_mixture word rows is mixed (Request.ReplayLog file composition json) h = false≢true (sym h.0.5 ∙ mixed)
no_mixture word rows is mixed (Request.ReplayLogStates file composition shown) h = false≢true (sym h.0.5 ∙ mixed)
no_mixture word rows is mixed (Request.ReplayInvariants file composition json) h = false≢true (sym h.0.5 ∙ mixed)
no_mixture word rows is mixed (Request.ReplayCoverage file composition asked json) h = false≢true (sym h.0.5 ∙ mixed)
no_mixture word rows is mixed (Request.Log file composition) h = apart (codes "replay") (codes "log") refl refl (sym is ∙ h.0.0)
no_mixture word rows is mixed (Request.LogByLog file composition) h = apart (codes "replay") (codes "log") refl refl (sym is ∙ h.0.0)
no_mixture word rows is mixed (Request.Monitor file composition) h = apart (codes "replay") (codes "monitor") refl refl (sym is ∙ h.0)
no_mixture word rows is mixed (Request.MonitorJson file composition) h = apart (codes "replay") (codes "monitor") refl refl (sym is ∙ h.0)
no_mixture word rows is mixed (Request.StrictMonitor file composition json) h = apart (codes "replay") (codes "monitor") refl refl (sym is ∙ h.0)
no_mixture word rows is mixed (Request.Watch file compositions first counts json) h = apart (codes "replay") (codes "watch") refl refl (sym is ∙ h.0)
no_mixture word rows is mixed (Request.Chart file composition selection) h = apart (codes "replay") (codes "chart") refl refl (sym is ∙ h.0)
no_mixture word rows is mixed (Request.Graph file composition) h = apart (codes "replay") (codes "graph") refl refl (sym is ∙ h.0)
no_mixture word rows is mixed (Request.Run s) h = apart (codes "replay") (codes "run") refl refl (sym is ∙ h.0)
no_mixture word rows is mixed (Request.Seeds s) h = apart (codes "replay") (codes "run") refl refl (sym is ∙ h.0)
no_mixture word rows is mixed (Request.Check file compositions) h = apart (codes "replay") (codes "check") refl refl (sym is ∙ h.0)
no_mixture word rows is mixed (Request.Compile file out composition) h = apart (codes "replay") (codes "compile") refl refl (sym is ∙ h.0)
no_mixture word rows is mixed (Request.Dump file) h = apart (codes "replay") (codes "dump") refl refl (sym is ∙ h.0)
no_mixture word rows is mixed (Request.Explain topic) h = apart (codes "replay") (codes "explain") refl refl (sym is ∙ h.0)
no_mixture word rows is mixed Request.Library h = apart (codes "replay") (codes "library") refl refl (sym is ∙ h)

-- where it is asked how often entries are performed, and for invariants or to tell of states
pub no_covered : (word : Text) (rows : List Row) → word ≡ codes "replay" → is_set (codes "coverage") rows ≡ true → (is_set (codes "invariants") rows ≡ false → shown_by rows ≡ None → ⊥) → AsksNothing (Some (word, rows))
no_covered word rows is covered other (Request.Replay file composition json) h = false≢true (sym h.0.6 ∙ covered)
no_covered word rows is covered other (Request.ReplayStates file composition shown) h = false≢true (sym h.0.6 ∙ covered)
no_covered word rows is covered other (Request.ReplayLog file composition json) h = false≢true (sym h.0.6 ∙ covered)
no_covered word rows is covered other (Request.ReplayLogStates file composition shown) h = false≢true (sym h.0.6 ∙ covered)
no_covered word rows is covered other (Request.ReplayInvariants file composition json) h = false≢true (sym h.0.6 ∙ covered)
no_covered word rows is covered other (Request.ReplayCoverage file composition asked json) h = other h.0.2 h.0.3
no_covered word rows is covered other (Request.Log file composition) h = apart (codes "replay") (codes "log") refl refl (sym is ∙ h.0.0)
no_covered word rows is covered other (Request.LogByLog file composition) h = apart (codes "replay") (codes "log") refl refl (sym is ∙ h.0.0)
no_covered word rows is covered other (Request.Monitor file composition) h = apart (codes "replay") (codes "monitor") refl refl (sym is ∙ h.0)
no_covered word rows is covered other (Request.MonitorJson file composition) h = apart (codes "replay") (codes "monitor") refl refl (sym is ∙ h.0)
no_covered word rows is covered other (Request.StrictMonitor file composition json) h = apart (codes "replay") (codes "monitor") refl refl (sym is ∙ h.0)
no_covered word rows is covered other (Request.Watch file compositions first counts json) h = apart (codes "replay") (codes "watch") refl refl (sym is ∙ h.0)
no_covered word rows is covered other (Request.Chart file composition selection) h = apart (codes "replay") (codes "chart") refl refl (sym is ∙ h.0)
no_covered word rows is covered other (Request.Graph file composition) h = apart (codes "replay") (codes "graph") refl refl (sym is ∙ h.0)
no_covered word rows is covered other (Request.Run s) h = apart (codes "replay") (codes "run") refl refl (sym is ∙ h.0)
no_covered word rows is covered other (Request.Seeds s) h = apart (codes "replay") (codes "run") refl refl (sym is ∙ h.0)
no_covered word rows is covered other (Request.Check file compositions) h = apart (codes "replay") (codes "check") refl refl (sym is ∙ h.0)
no_covered word rows is covered other (Request.Compile file out composition) h = apart (codes "replay") (codes "compile") refl refl (sym is ∙ h.0)
no_covered word rows is covered other (Request.Dump file) h = apart (codes "replay") (codes "dump") refl refl (sym is ∙ h.0)
no_covered word rows is covered other (Request.Explain topic) h = apart (codes "replay") (codes "explain") refl refl (sym is ∙ h.0)
no_covered word rows is covered other Request.Library h = apart (codes "replay") (codes "library") refl refl (sym is ∙ h)

-- where the bound is no number up to which a list or a log is taken
neither_one : (word other : Text) → (word ≡ codes "replay") ⊎ (word ≡ codes "log") → bytes_eq (codes "replay") other ≡ false → bytes_eq (codes "log") other ≡ false
    → bytes_eq other other ≡ true → word ≡ other → ⊥
neither_one word other (inl is) a b same e = apart (codes "replay") other a same (sym is ∙ e)
neither_one word other (inr is) a b same e = apart (codes "log") other b same (sym is ∙ e)

pub no_bound : (word : Text) (rows : List Row) → (word ≡ codes "replay") ⊎ (word ≡ codes "log") → is_bounded rows ≡ false → AsksNothing (Some (word, rows))
no_bound word rows is none (Request.Replay file composition json) h = false≢true (sym none ∙ h.0.4)
no_bound word rows is none (Request.ReplayStates file composition shown) h = false≢true (sym none ∙ h.0.4)
no_bound word rows is none (Request.ReplayLog file composition json) h = false≢true (sym none ∙ h.0.4)
no_bound word rows is none (Request.ReplayLogStates file composition shown) h = false≢true (sym none ∙ h.0.4)
no_bound word rows is none (Request.ReplayInvariants file composition json) h = false≢true (sym none ∙ h.0.4)
no_bound word rows is none (Request.ReplayCoverage file composition asked json) h = false≢true (sym none ∙ h.0.4)
no_bound word rows is none (Request.Log file composition) h = false≢true (sym none ∙ h.0.2)
no_bound word rows is none (Request.LogByLog file composition) h = false≢true (sym none ∙ h.0.2)
no_bound word rows is none (Request.Monitor file composition) h = neither_one word (codes "monitor") is refl refl refl h.0
no_bound word rows is none (Request.MonitorJson file composition) h = neither_one word (codes "monitor") is refl refl refl h.0
no_bound word rows is none (Request.StrictMonitor file composition json) h = neither_one word (codes "monitor") is refl refl refl h.0
no_bound word rows is none (Request.Watch file compositions first counts json) h = neither_one word (codes "watch") is refl refl refl h.0
no_bound word rows is none (Request.Chart file composition selection) h = neither_one word (codes "chart") is refl refl refl h.0
no_bound word rows is none (Request.Graph file composition) h = neither_one word (codes "graph") is refl refl refl h.0
no_bound word rows is none (Request.Run s) h = neither_one word (codes "run") is refl refl refl h.0
no_bound word rows is none (Request.Seeds s) h = neither_one word (codes "run") is refl refl refl h.0
no_bound word rows is none (Request.Check file compositions) h = neither_one word (codes "check") is refl refl refl h.0
no_bound word rows is none (Request.Compile file out composition) h = neither_one word (codes "compile") is refl refl refl h.0
no_bound word rows is none (Request.Dump file) h = neither_one word (codes "dump") is refl refl refl h.0
no_bound word rows is none (Request.Explain topic) h = neither_one word (codes "explain") is refl refl refl h.0
no_bound word rows is none Request.Library h = neither_one word (codes "library") is refl refl refl h

-- the file and the composition that are named
pub names : (found : ArgMatches) (file : Bor Text) (composition : Option (Bor Text)) → Some file.now ≡ first_value (found_of found) (codes "FILE")
    → option_copied composition ≡ first_value (found_of found) (codes "comp") → Names (rows_of (found_of found)) file.now (option_copied composition)
names found file composition f c = (sym (first_value-rows (found_of found) (codes "FILE")) ∙ sym f, sym (first_value-rows (found_of found) (codes "comp")) ∙ sym c)

-- a flag, as it is lent
pub set_as : (found : ArgMatches) (flag : Text) (o : Option Text) → o ≡ first_value (found_of found) flag
    → is_set flag (rows_of (found_of found)) ≡ option_map_or (λ value. bytes_eq value (codes "true")) o false
set_as found flag o e =
    ap (λ (p : Option Text). option_map_or (λ value. bytes_eq value (codes "true")) p false) (sym (first_value-rows (found_of found) flag) ∙ sym e)

-- where there are no runs by many seeds
abbrev AreNoSeeds : List Row → Type 0
AreNoSeeds rows = (s : Seeds) → AreSeeds rows s → ⊥

no_range : (o : Option Text) (p : ℕ × ℕ) → o ≡ None → option_and_then range_in o ≡ Some p → ⊥
no_range None p e h = cc
no_range (Some word) p e h = cc

unnumbered : (rows : List Row) → first_of (codes "seeds") rows ≡ None → AreNoSeeds rows
unnumbered rows none s h = no_range (first_of (codes "seeds") rows) (s.first, s.last) none h.range

-- settings without a file, without turns, or without a source of words
pub unfiled_run : (found : ArgMatches) (r : Option Settings) → None ≡ first_value (found_of found) (codes "FILE") → r ≡ None
    → IfNone r ((s : Settings) → AreSettings (rows_of (found_of found)) s → ⊥)
unfiled_run found r none is =
    subst (λ o. IfNone o ((s : Settings) → AreSettings (rows_of (found_of found)) s → ⊥)) (sym is)
    (λ s h. let z : None ≡ Some s.file.now = none ∙ first_value-rows (found_of found) (codes "FILE") ∙ h.names.0 in cc)

pub unturned : (found : ArgMatches) (word : Option Text) (r : Option Settings) → word ≡ first_value (found_of found) (codes "turns") → None ≡ turns_in word → r ≡ None
    → IfNone r ((s : Settings) → AreSettings (rows_of (found_of found)) s → ⊥)
unturned found word r given none is =
    subst (λ o. IfNone o ((s : Settings) → AreSettings (rows_of (found_of found)) s → ⊥)) (sym is)
    (λ s h. let z : None ≡ Some s.turns = none ∙ ap turns_in (given ∙ first_value-rows (found_of found) (codes "turns")) ∙ h.turns in cc)

pub unworded : (found : ArgMatches) (seed file : Option Text) (r : Option Settings) → seed ≡ first_value (found_of found) (codes "seed")
    → file ≡ first_value (found_of found) (codes "words") → None ≡ source_in seed file → r ≡ None
    → IfNone r ((s : Settings) → AreSettings (rows_of (found_of found)) s → ⊥)
unworded found seed file r a b none is =
    subst (λ o. IfNone o ((s : Settings) → AreSettings (rows_of (found_of found)) s → ⊥)) (sym is)
    (λ s h.
    let z : None ≡ Some (source_of s.words) =
    none ∙ ap₂ source_in (a ∙ first_value-rows (found_of found) (codes "seed")) (b ∙ first_value-rows (found_of found) (codes "words")) ∙ h.words in cc)

-- an option, as it is lent
pub given : (found : ArgMatches) (name : Text) (o : Option Text) → o ≡ first_value (found_of found) name → first_of name (rows_of (found_of found)) ≡ o
given found name o e = sym (first_value-rows (found_of found) name) ∙ sym e

-- ---- runs by many seeds

-- an option stands, as it is lent
pub stands : (found : ArgMatches) (name : Text) (o : Option (Bor Text)) → option_copied o ≡ first_value (found_of found) name
    → is_some o ≡ is_some (first_of name (rows_of (found_of found)))
stands found name None e = ap is_some (sym (given found name None e))
stands found name (Some b) e = ap is_some (sym (given found name (Some b.now) e))

pub unasked_seeds : (found : ArgMatches) (r : Option Seeds) → None ≡ first_value (found_of found) (codes "seeds") → r ≡ None
    → IfNone r (AreNoSeeds (rows_of (found_of found)))
unasked_seeds found r none is = none_so r (AreNoSeeds (rows_of (found_of found))) is (unnumbered (rows_of (found_of found)) (given found (codes "seeds") None none))

pub unranged : (found : ArgMatches) (word : Text) (r : Option Seeds) → Some word ≡ first_value (found_of found) (codes "seeds") → None ≡ range_in word → r ≡ None
    → IfNone r (AreNoSeeds (rows_of (found_of found)))
unranged found word r there none is =
    none_so r (AreNoSeeds (rows_of (found_of found))) is
    (λ s h.
    let z : None ≡ Some (s.first, s.last) = none ∙ sym (ap (option_and_then range_in) (given found (codes "seeds") (Some word) there)) ∙ h.range in cc)

pub range_read : (found : ArgMatches) (word : Text) (p : ℕ × ℕ) → Some word ≡ first_value (found_of found) (codes "seeds") → Some p ≡ range_in word
    → option_and_then range_in (first_of (codes "seeds") (rows_of (found_of found))) ≡ Some p
range_read found word p there e = ap (option_and_then range_in) (given found (codes "seeds") (Some word) there) ∙ sym e

-- ---- charts

-- the entries that are asked for are none
abbrev pub SelectsNothing : List Row → Type 0
SelectsNothing rows = (s : Selection) → AreSelected rows s → ⊥

-- a bound, as its word is lent
pub bound_read : (found : ArgMatches) (name : Text) (o : Option Text) (b : Option (Option ℕ)) → o ≡ first_value (found_of found) name → b ≡ bound_in o
    → bound_in (first_of name (rows_of (found_of found))) ≡ b
bound_read found name o b there is = ap bound_in (given found name o there) ∙ sym is

-- a first or a last index that is no number
pub unbounded_from : (found : ArgMatches) (o : Option Text) → o ≡ first_value (found_of found) (codes "from") → None ≡ bound_in o → SelectsNothing (rows_of (found_of found))
unbounded_from found o there none s h = let z : None ≡ Some s.from = sym (bound_read found (codes "from") o None there none) ∙ h.from in cc

pub unbounded_to : (found : ArgMatches) (o : Option Text) → o ≡ first_value (found_of found) (codes "to") → None ≡ bound_in o → SelectsNothing (rows_of (found_of found))
unbounded_to found o there none s h = let z : None ≡ Some s.to = sym (bound_read found (codes "to") o None there none) ∙ h.to in cc

-- bounds of which the first is greater
pub unordered : (found : ArgMatches) (first last : Option Text) (from to : Option ℕ) → first ≡ first_value (found_of found) (codes "from") → Some from ≡ bound_in first
    → last ≡ first_value (found_of found) (codes "to") → Some to ≡ bound_in last → false ≡ are_in_order from to → SelectsNothing (rows_of (found_of found))
unordered found first last from to there a behind b out s h =
    let one : Some from ≡ Some s.from = sym (bound_read found (codes "from") first (Some from) there a) ∙ h.from in
    let two : Some to ≡ Some s.to = sym (bound_read found (codes "to") last (Some to) behind b) ∙ h.to in
    let same : from ≡ s.from = cc in
    let alike : to ≡ s.to = cc in
    false≢true (out ∙ ap₂ are_in_order same alike ∙ h.order)

-- the values of an option that may stand several times, as they are lent; none where it does not stand
pub all_lent : (found : ArgMatches) (name : Text) (o : Option (Bor (List (Bor Text)))) (d v : Bor (List (Bor Text))) → v ≡ unwrap_or o d → d.now ≡ []
    → option_map (λ s. texts s.now) o ≡ option_map raw_values (matched_of (found_of found) name) → texts v.now ≡ all_given name (rows_of (found_of found))
all_lent found name None d v is empty e =
    ap (λ (b : Bor (List (Bor Text))). texts b.now) is ∙ ap texts empty
    ∙ ap (λ (p : Option (List Text)). option_map_or (λ values. values) p []) (e ∙ raw_values-rows (found_of found) name)
all_lent found name (Some s) d v is empty e =
    ap (λ (b : Bor (List (Bor Text))). texts b.now) is
    ∙ ap (λ (p : Option (List Text)). option_map_or (λ values. values) p []) (e ∙ raw_values-rows (found_of found) name)
