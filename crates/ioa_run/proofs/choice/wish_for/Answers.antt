use Rattle.std.proofs.Common.{◌≡◌, ◌∙◌, List, ap, map, sym}
use Rattle.std.specs.String.{string_bytes}
use Rattle.ioa_value.specs.Actions.{Act, Name}
use Rattle.ioa_value.specs.Plain.{Val, plain}
use Rattle.ioa_value.specs.Positions.{domain_of}
use Rattle.ioa_compile.specs.Sites.{sites_of}
use Rattle.ioa_compile.specs.declared.table.Entry.{Entry}
use Rattle.ioa_run.specs.Proposers.{filled}
use Rattle.ioa_run.proofs.choice.wish_for.Goals as goal

pub returns-clause-act : goal.returns-clause-act
returns-clause-act c =
    let e : Entry = c.args.local.now.entry.now in
    let made : Name → List Val → Act = λ n vs. record { name = n; vals = vs } in
    let vals : map plain c.in_ok-vals.vals.items ≡ filled (map domain_of e.positions.items) (map plain c.args.values.items) =
    c.in_ok-vals.ensures ∙ ap (λ ps. filled (map domain_of ps) (map plain c.args.values.items)) c.deref.ensures.value in
    ap (λ n. made n (map plain c.in_ok-vals.vals.items)) c.as_str.ensures.value ∙ ap (made (string_bytes e.name)) vals

-- the name is the entry's
pub returns-clause-known : goal.returns-clause-known
returns-clause-known c = λ p h. h ∙ ap (sites_of p) (sym c.as_str.ensures.value)
