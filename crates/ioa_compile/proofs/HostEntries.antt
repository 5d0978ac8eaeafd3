-- The entries of a program are those of the source's hosts.
use Rattle.std.proofs.Common.{◌≡◌, ℕ, List, Option, Some, None, sym, ap, ◌∙◌, subst}
use Rattle.std.specs.Prelude.{slice_get}
use Rattle.ioa_value.specs.Plain.{Val}
use Rattle.ioa_value.specs.Typing.{HaveTypes}
use Rattle.ioa_value.proofs.ItemLemmas.{get_append}
use Rattle.ioa_code.specs.Valid.{Part}
use Rattle.ioa_tree.specs.Tree.{CrashTree, AutomatonTree, EntryTree}
use Rattle.ioa_tree.specs.Meaning.{Env}
use Rattle.ioa_tree.specs.Hosts.{HostState, Host}
use Rattle.ioa_tree.specs.Proposing.{Words, proposed}
use Rattle.ioa_tree.specs.WellFormed.{variable_fields}
use Rattle.ioa_crash.specs.Rewriting.{signals, with_signals}
use Rattle.ioa_compose.specs.Simulates.{SlotsHold, IsMadeOf}
use Rattle.ioa_clash.proofs.ZipLemmas.{zip-at, zip-to}
use Rattle.ioa_compile.specs.CodeEnds.{ProposalEnds}
use Rattle.ioa_compile.specs.Correspondence.{Corresponds}
use Rattle.ioa_compile.specs.Hosts.{EntriesAreTheHosts}
use Rattle.ioa_compile.specs.Matching.{MatchesEntry, MatchesMember}
use Rattle.ioa_compile.proofs.Alike.{if_some}
use Rattle.ioa_compile.proofs.Fits.{have_fit}

-- what is added stands behind the automaton's entries
first_entries : (o : Option CrashTree) (a : AutomatonTree) (k : ℕ) (e : EntryTree) → slice_get a.entries k ≡ Some e → slice_get (with_signals o a).entries k ≡ Some e
first_entries None a k e h = h
first_entries (Some n) a k e h = get_append a.entries (signals n) k e h

pub entries_are_the_hosts : EntriesAreTheHosts
entries_are_the_hosts p h c stands means i k host e m at here there =
    let pair = zip-to MatchesMember c.members p.members i m means.tables there in
    let cm = pair.0 in
    let matches = pair.2 in
    let made_by = zip-to IsMadeOf h.hosts c.members i cm stands.members pair.1 in
    let both : Some made_by.0 ≡ Some host = sym made_by.1 ∙ at in
    let same : made_by.0 ≡ host = cc in
    let made : IsMadeOf host cm = subst (λ (q : Host). IsMadeOf q cm) same made_by.2 in
    let in_tree : slice_get cm.instance.automaton.entries k ≡ Some e = ap (λ l. slice_get l k) made.entries ∙ first_entries host.crash host.instance.automaton k e here in
    let entry = zip-at (MatchesEntry cm) cm.instance.automaton.entries m.entries k e matches.entries in_tree in
    let d = entry.0 in
    let own = entry.2 in
    let gives : (part : Part) → ((env : Env) (slots : List Val) (words : Words) → Corresponds cm.instance env slots → ProposalEnds part slots words (proposed cm.instance e env words 0))
    → (state : HostState Env) (slots : List Val) (words : Words) → SlotsHold host state slots → HaveTypes m.start.table slots m.start.types → ProposalEnds part slots words (proposed host.instance e state.inner words 0) =
    λ part ends state slots words holds have.
    let found = stands.held i host cm at pair.1 state slots holds in
    let fit = have_fit cm.instance.types (variable_fields cm.instance.automaton) slots m.start.types (subst (λ t. HaveTypes t slots m.start.types) matches.types have) matches.variables in
    subst (ProposalEnds part slots words) (made.proposes k e state found.0 words 0 here found.1)
    (ends found.0 slots words (record { values = found.2; typed = fit })) in
    (d, entry.1, record { kind = own.kind; name = own.name; propose = if_some _ _ d.propose gives own.propose })
