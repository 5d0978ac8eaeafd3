-- Entries with the values of their constants.
use Rattle.std.proofs.Common.{◌≡◌, ℕ, ◌+◌, ◌<◌, List, [], ◌∷◌, ◌++◌, map, take, length, get_or, refl, sym, ap, ◌∙◌, Vec, Global, arith}
use Rattle.std.proofs.lemmas.List.{map-append, length-map, length-take-le}
use Rattle.ioa_value.specs.declared.positions.Position.{Position}
use Rattle.ioa_value.specs.Positions.{Domain}
use Rattle.ioa_value.proofs.ItemLemmas.{take_item}
use Rattle.ioa_tree.specs.declared.tree.Entry.{Entry}
use Rattle.ioa_tree.specs.Tree.{EntryTree}
use Rattle.ioa_tree.specs.View.{name_of, entry_of}
use Rattle.ioa_clash.specs.declared.clashes.SignedEntry as lent
use Rattle.ioa_clash.specs.Clashes.{signed_of}
use Rattle.ioa_compose.specs.Signatures.{domains_in, signed_entries}

-- one entry more
signed-append : (es : List EntryTree) (dss : List (List Domain)) (e : EntryTree) (ds : List Domain) → length es ≡ length dss
    → signed_entries (es ++ e ∷ []) (dss ++ ds ∷ []) ≡ signed_entries es dss ++ record { kind = e.kind; name = e.name; domains = ds } ∷ []
signed-append [] [] e ds h = refl
signed-append [] (us ∷ uss) e ds h = absurd (cc)
signed-append (d ∷ es) [] e ds h = absurd (cc)
signed-append (d ∷ es) (us ∷ uss) e ds h = ap (λ ss. record { kind = d.kind; name = d.name; domains = us } ∷ ss) (signed-append es uss e ds (cc))

-- what a loop over entries and their positions makes of one more of each
pub signed-push : (xs : List Entry) (yss : List (Vec Position Global)) (k : ℕ) (x : Entry) (ys : Vec Position Global) (old new : List lent.SignedEntry) (s : lent.SignedEntry)
    → k < length xs → k < length yss → x ≡ get_or xs k x → ys ≡ get_or yss k ys → new ≡ old ++ s ∷ []
    → signed_of s ≡ record { kind = x.kind; name = name_of x.name; domains = domains_in ys }
    → map signed_of old ≡ signed_entries (map entry_of (take k xs)) (map domains_in (take k yss))
    → map signed_of new ≡ signed_entries (map entry_of (take (k + 1) xs)) (map domains_in (take (k + 1) yss))
signed-push xs yss k x ys old new s l m e f n same h =
    let es = map entry_of (take k xs) in
    let dss = map domains_in (take k yss) in
    let a = length-map (take k xs) entry_of in
    let b = length-map (take k yss) domains_in in
    let c = length-take-le k xs (omega (arith, l)) in
    let d = length-take-le k yss (omega (arith, m)) in
    let long : length es ≡ length dss = a ∙ c ∙ sym (b ∙ d) in
    let more : map entry_of (take (k + 1) xs) ≡ es ++ entry_of x ∷ [] = ap (map entry_of) (take_item xs k x l e) ∙ map-append entry_of (take k xs) (x ∷ []) in
    let others : map domains_in (take (k + 1) yss) ≡ dss ++ domains_in ys ∷ [] = ap (map domains_in) (take_item yss k ys m f) ∙ map-append domains_in (take k yss) (ys ∷ []) in
    ap (map signed_of) n ∙ map-append signed_of old (s ∷ []) ∙ ap (λ us. us ++ signed_of s ∷ []) h ∙ ap (λ u. signed_entries es dss ++ u ∷ []) same
    ∙ sym (ap (λ us. signed_entries us (map domains_in (take (k + 1) yss))) more ∙ ap (signed_entries (es ++ entry_of x ∷ [])) others
    ∙ signed-append es dss (entry_of x) (domains_in ys) long)
