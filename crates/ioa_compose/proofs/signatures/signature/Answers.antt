use Rattle.std.proofs.Common.{◌≡◌, map, take, length, ap, ◌∙◌, arith}
use Rattle.std.proofs.lemmas.List.{length-map, take_all}
use Rattle.std.proofs.lemmas.Slice.Zip.{AllZip-long}
use Rattle.ioa_value.specs.Positions.{domain_of}
use Rattle.ioa_value.specs.Table.{Table}
use Rattle.ioa_tree.specs.Tree.{EntryTree}
use Rattle.ioa_tree.specs.View.{name_of, automaton_of, entry_of}
use Rattle.ioa_tree.specs.Domains.{AreDomainsOf}
use Rattle.ioa_compose.specs.declared.binding.Binding.{Binding}
use Rattle.ioa_compose.specs.Bindings.{plain_in, HasPositions}
use Rattle.ioa_compose.specs.Signatures.{domains_in, signed_entries}
use Rattle.ioa_compose.proofs.SignatureLemmas.{signed-push}
use Rattle.ioa_compose.proofs.signatures.signature.Goals as goal

-- there are as many lists of positions as entries
as_many : (types : Table) (b : Binding) → HasPositions types b → length b.positions.items ≡ length b.own.entries.items
as_many types b h =
    let entries = length-map b.own.entries.items entry_of in
    let positions = length-map b.positions.items domains_in in
    let long = AllZip-long (λ (e : EntryTree) ds. AreDomainsOf (plain_in types b) e.positions ds) (automaton_of b.own).entries (map domains_in b.positions.items) h in
    omega (arith, entries, positions, long)

pub index-requires : goal.index-requires
index-requires c =
    let many = as_many c.requires.0 c.args.binding.now c.requires.1 in
    let less = c.loop-k-test.true in
    let end = c.len-k-end.ensures in
    omega (arith, many, less, end)

pub loop-k-preserved : goal.loop-k-preserved
loop-k-preserved c =
    let b = c.args.binding.now in
    let x = c.index-entry.result.now in
    let many = as_many c.requires.0 b c.requires.1 in
    let less = c.loop-k-test.true in
    let end = c.len-k-end.ensures in
    signed-push b.own.entries.items b.positions.items c.loop-k.k x c.index.result.now c.loop-k.signature.items c.push.new.self.items _
    (omega (arith, less, end)) (omega (arith, many, less, end)) c.index-entry.ensures c.index.ensures c.in_ok-push.ensures.items
    (ap (λ t. record { kind = x.kind; name = t; domains = map domain_of c.deref.result.now }) c.as_str.ensures.value
    ∙ ap (λ ps. record { kind = x.kind; name = name_of x.name; domains = map domain_of ps }) c.deref.ensures.value) c.loop-k.invariant

pub returns : goal.returns
returns c =
    let b = c.args.binding.now in
    let xs = b.own.entries.items in
    let pss = b.positions.items in
    let k = c.loop-k.k in
    let many = as_many c.requires.0 b c.requires.1 in
    let past = c.loop-k-test.false in
    let end = c.len-k-end.ensures in
    c.loop-k.invariant ∙ ap (λ es. signed_entries (map entry_of es) (map domains_in (take k pss))) (take_all k xs (omega (arith, past, end)))
    ∙ ap (λ ps. signed_entries (map entry_of xs) (map domains_in ps)) (take_all k pss (omega (arith, many, past, end)))
