use Rattle.std.proofs.Common.{◌≡◌, ℕ, List, map, get_or, ap, subst, sym, ◌∙◌, arith}
use Rattle.std.specs.String.{string_bytes}
use Rattle.std.proofs.Math.ListN.{get_or-map}
use Rattle.std.proofs.lemmas.List.{length-map}
use Rattle.ioa_clash.specs.Index.{AddsAll}
use Rattle.ioa_clash.proofs.IndexLemmas.{next, all-indexed}
use Rattle.ioa_sites.specs.declared.sites.Site.{Site}
use Rattle.ioa_compile.specs.Programs.{EntryCode, MemberCode}
use Rattle.ioa_compile.specs.Shown.{entry_code, member_code}
use Rattle.ioa_compile.specs.Sites.{code_name, entry_lists, site_of}
use Rattle.ioa_compile.proofs.sites.index_of.Goals as goal

pub loop-component-preserved : goal.loop-component-preserved
loop-component-preserved c =
    let item : ℕ → ℕ → EntryCode → Site = site_of (map string_bytes c.args.hidden.now) in
    let i = c.loop-component.component in
    let m = c.index-members-component.result in
    let ms : List MemberCode = map member_code c.args.members.now in
    let es : List EntryCode = (member_code m).entries in
    let size = length-map c.args.members.now member_code in
    let sizes = length-map ms (λ (n : MemberCode). n.entries) in
    let is : es ≡ get_or (entry_lists ms) i es
    = ap (λ n. (member_code n).entries) c.index-members-component.is ∙ ap (λ (n : MemberCode). n.entries) (sym (get_or-map member_code c.args.members.now i m))
    ∙ sym (get_or-map (λ (n : MemberCode). n.entries) ms i (member_code m)) in
    let adds = subst (λ l. AddsAll code_name item c.loop-component.index i (map entry_code l) c.add_sites.new.index) c.deref.ensures.value c.in_ok-add_sites.ensures in
    next code_name item c.loop-component.index c.add_sites.new.index i (entry_lists ms) es (omega arith) is adds c.loop-component.invariant

pub returns : goal.returns
returns c =
    let item : ℕ → ℕ → EntryCode → Site = site_of (map string_bytes c.args.hidden.now) in
    let ms : List MemberCode = map member_code c.args.members.now in
    let size = length-map c.args.members.now member_code in
    let sizes = length-map ms (λ (n : MemberCode). n.entries) in
    all-indexed code_name item c.loop-component.index c.loop-component.component (entry_lists ms) (omega arith) c.loop-component.invariant
