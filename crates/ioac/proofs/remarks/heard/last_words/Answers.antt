use Rattle.std.proofs.Common.{◌≡◌, ◌-◌, Some, map, length, sym, ap, subst, ◌∙◌}
use Rattle.std.proofs.lemmas.List.{length-map}
use Rattle.std.proofs.lemmas.Option.{slice_get-map}
use Rattle.std.specs.Prelude.{option_map, slice_get}
use Rattle.ioa_value.specs.Actions.{act_of}
use Rattle.ioa_system.specs.Logs.{log_entry}
use Rattle.ioac.proofs.remarks.heard.last_words.Goals as goal

-- the last entry is the last of those that are shown
pub returns-in_ok-entry_words-in-Some : goal.returns-in_ok-entry_words-in-Some
returns-in_ok-entry_words-in-Some c =
    let es = c.args.entries.now in
    let e = c.in-Some.entry.now in (
      e.who,
      act_of e.action,
      subst (λ k. slice_get (map log_entry es) (k - 1) ≡ Some (log_entry e)) (sym (length-map es log_entry))
          (slice_get-map log_entry es (length es - 1) ∙ ap (option_map log_entry) (sym c.in-Some.ensures.value)),
      c.in_ok-entry_words-in-Some.ensures,
    )
