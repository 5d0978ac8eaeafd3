use Rattle.std.proofs.Common.{◌≡◌, length, map, sym, subst, arith}
use Rattle.std.proofs.lemmas.List.{length-map}
use Rattle.std.proofs.lemmas.Slice.Zip.{AllZip-long}
use Rattle.ioa_value.specs.Plain.{number}
use Rattle.ioa_value.specs.Positions.{domain_of}
use Rattle.ioa_value.proofs.ItemLemmas.{at_map}
use Rattle.ioa_tree.specs.Tree.{EntryTree}
use Rattle.ioa_tree.specs.View.{entry_of}
use Rattle.ioa_tree.specs.Domains.{AreDomainsOf}
use Rattle.ioa_compose.specs.declared.member.Member as held
use Rattle.ioa_compose.specs.Held.{member_of, HoldsPositions}
use Rattle.ioa_compose.specs.Signatures.{domains_in}
use Rattle.ioa_compile.specs.Shown.{entry_code}
use Rattle.ioa_compile.specs.Translated.{IsTranslated}
use Rattle.ioa_compile.proofs.Paired.{paired_next, paired_read}
use Rattle.ioa_compile.proofs.entries.compile_entries.Goals as goal

-- there are as many lists of positions as entries
as_many : (m : held.Member) → HoldsPositions m → length m.positions.items ≡ length m.automaton.entries.items
as_many m h =
    let entries = length-map m.automaton.entries.items entry_of in
    let positions = length-map m.positions.items domains_in in
    let long = AllZip-long (λ (e : EntryTree) ds. AreDomainsOf (member_of m).instance e.positions ds) (member_of m).instance.automaton.entries (map domains_in m.positions.items) h in
    omega (arith, entries, positions, long)

pub index-positions-requires : goal.index-positions-requires
index-positions-requires c =
    let many = as_many c.args.member.now c.requires.positions in
    let less = c.loop-k-test.true in
    let end = c.len-k-end.ensures in
    omega (arith, many, less, end)

pub compile_entry-requires-clause-own : goal.compile_entry-requires-clause-own
compile_entry-requires-clause-own c =
    let less = c.loop-k-test.true in
    let end = c.len-k-end.ensures in
    record {
      place = c.loop-k.k;
      here = at_map entry_of c.args.member.now.automaton.entries.items c.loop-k.k c.index-entry.result.now (omega (arith, less, end)) c.index-entry.ensures;
    }

pub compile_entry-requires-clause-positions : goal.compile_entry-requires-clause-positions
compile_entry-requires-clause-positions c =
    let m = c.args.member.now in
    let x = c.index-entry.result.now in
    let less = c.loop-k-test.true in
    let end = c.len-k-end.ensures in
    subst (λ ps. AreDomainsOf (member_of m).instance (entry_of x).positions (map domain_of ps)) (sym c.deref.ensures.value)
    (paired_read (λ (e : EntryTree) ds. AreDomainsOf (member_of m).instance e.positions ds) entry_of domains_in m.automaton.entries.items m.positions.items c.loop-k.k x
    c.index-positions.result.now c.requires.positions (omega (arith, less, end)) c.index-entry.ensures c.index-positions.ensures)

pub loop-k-preserved : goal.loop-k-preserved
loop-k-preserved c =
    let m = member_of c.args.member.now in
    let less = c.loop-k-test.true in
    let end = c.len-k-end.ensures in
    paired_next (IsTranslated m (map number c.args.slots.now)) entry_of entry_code c.args.member.now.automaton.entries.items c.loop-k.k c.index-entry.result.now
    c.loop-k.entries.items c.push.new.self.items c.in_ok-compile_entry.field-0 (omega (arith, less, end)) c.index-entry.ensures c.in_ok-push.ensures.items
    c.in_ok-compile_entry.ensures c.loop-k.invariant
