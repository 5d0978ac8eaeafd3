-- What the rewriting keeps.
use Rattle.std.proofs.Common.{[], ◌∷◌, map}
use Rattle.std.proofs.lemmas.List.Elements.{All-nil, All-cons, All-append}
use Rattle.ioa_value.specs.Names.{IsName}
use Rattle.ioa_tree.specs.Tree.{EntryTree}
use Rattle.ioa_tree.specs.Instances.{Fit}
use Rattle.ioa_tree.specs.WellFormed.{variable_fields}
use Rattle.ioa_tree.proofs.PartNames.{legal_entries}
use Rattle.ioa_tree.proofs.Starts.{starts_fit}
use Rattle.ioa_crash.specs.Rewriting.{volatile, volatile_values, start_formal, signal_entry, signals}
use Rattle.ioa_crash.specs.Crashes.{RewritingStaysFine}
use Rattle.ioa_crash.proofs.RewrittenNames.{names}
use Rattle.ioa_crash.proofs.RewrittenEntries.{parts, signals_apart}
use Rattle.ioa_crash.proofs.RewrittenFine.{rewritten_fine}
use Rattle.ioa_crash.proofs.RewrittenLimits.{rewritten_within, fit_both, fit_volatile, fit_variables}

pub stays_fine : RewritingStaysFine
stays_fine n i starts declared crash recover h =
    let a = i.automaton in
    let fine = parts n i starts h in
    let fit : Fit i.types (variable_fields a) starts = starts_fit i.types declared h.automaton.0 a i.arguments h.arguments a.variables starts fine.starts fine.variable_types h.started in
    record {
      automaton = ([], rewritten_fine i.types declared h.automaton.0 n a (names n i starts h) fine (signals_apart n i starts h));
      arguments = fit_both i.types a.formals (map start_formal (volatile a.variables)) i.arguments (volatile_values a.variables starts) h.arguments (fit_volatile i.types a.variables starts fit);
      values = fit_variables i.types declared a.variables starts fit;
      legal_entries = All-append (λ (e : EntryTree). IsName e.name) a.entries (signals n) (legal_entries a h.legal)
          (All-cons (λ (e : EntryTree). IsName e.name) (signal_entry n.crash) (signal_entry n.recover ∷ []) crash
          (All-cons (λ (e : EntryTree). IsName e.name) (signal_entry n.recover) [] recover (All-nil (λ (e : EntryTree). IsName e.name))));
      within = rewritten_within n a;
    }
