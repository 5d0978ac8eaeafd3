-- The local entries of components, each with the sites of its name.
use Rattle.std.proofs.Common.{◌≡◌, ℕ, ◌+◌, ◌<◌, ◌++◌, List, [], ◌∷◌, length, map, take, get_or, cond, true, false, All, Some, sym, ◌∙◌, ap, subst, ap₂, refl}
use Rattle.std.specs.Prelude.{slice_get, Vec, IfSome}
use Rattle.std.specs.Global.{Global}
use Rattle.std.proofs.lemmas.List.{append-nil, map-append}
use Rattle.std.proofs.lemmas.List.Elements.{All-cons, All-filter, filter-append}
use Rattle.ioa_value.proofs.ItemLemmas.{image_at, take_item}
use Rattle.ioa_parts.specs.Nodes.{Node}
use Rattle.ioa_tree.specs.Components.{is_local}
use Rattle.ioa_sites.specs.declared.sites.Site.{Site}
use Rattle.ioa_compile.specs.Programs.{EntryCode, MemberCode, Prog}
use Rattle.ioa_compile.specs.Shown.{entry_code, member_code}
use Rattle.ioa_compile.specs.Sites.{sites_of}
use Rattle.ioa_compile.specs.declared.table.Entry.{Entry}
use Rattle.ioa_compile.specs.declared.table.Member.{Member}
use Rattle.ioa_system.proofs.Finding.{no_item}
use Rattle.ioa_run.specs.Choices.{AreOfState, IsOfState}
use Rattle.ioa_run.specs.Locals.{AreAllLocals, AreLocals, HasSites, code_of, known, known_in, locals_of, with_sites}
use Rattle.ioa_run.specs.Proposers.{local_entries}
use Rattle.ioa_run.specs.declared.locals.Local.{Local}
use Rattle.ioa_run.proofs.Choosing.{local_in}

-- ---- as they are made

pub none_added : (p : Prog) (e : EntryCode) (ls : List Local) → is_local (Some e.kind) ≡ false → map known ls ≡ map known ls ++ map (with_sites p) (local_entries (e ∷ []))
none_added p e ls h = sym (ap (λ b. map known ls ++ map (with_sites p) (cond b (e ∷ []) [])) h ∙ append-nil (map known ls))

pub one_added : (p : Prog) (old new : List Local) (l : Local) → is_local (Some (code_of l).kind) ≡ true → HasSites p l → new ≡ old ++ l ∷ []
    → map known new ≡ map known old ++ map (with_sites p) (local_entries (code_of l ∷ []))
one_added p old new l h k n =
    let here : known l ≡ with_sites p (code_of l) = ap (λ (ss : List Site). (code_of l, ss)) k in
    ap (map known) n ∙ map-append known old (l ∷ []) ∙ ap (λ x. map known old ++ x ∷ []) here ∙ sym (ap (λ b. map known old ++ map (with_sites p) (cond b (code_of l ∷ []) [])) h)

-- those among one entry more
local_more : (es : List Entry) (i : ℕ) (e : Entry) → i < length es → e ≡ get_or es i e → local_in (take (i + 1) es) ≡ local_in (take i es) ++ local_entries (entry_code e ∷ [])
local_more es i e less is =
    ap local_in (take_item es i e less is) ∙ ap local_entries (map-append entry_code (take i es) (e ∷ []))
    ∙ filter-append (λ (d : EntryCode). is_local (Some d.kind)) (map entry_code (take i es)) (entry_code e ∷ [])

pub locals_more : (p : Prog) (es : List Entry) (i : ℕ) (e : Entry) (old new : List Local) → i < length es → e ≡ get_or es i e
    → map known new ≡ map known old ++ map (with_sites p) (local_entries (entry_code e ∷ [])) → map known old ≡ map (with_sites p) (local_in (take i es))
    → map known new ≡ map (with_sites p) (local_in (take (i + 1) es))
locals_more p es i e old new less is added h =
    added ∙ ap (λ ks. ks ++ map (with_sites p) (local_entries (entry_code e ∷ []))) h
    ∙ sym (map-append (with_sites p) (local_in (take i es)) (local_entries (entry_code e ∷ [])))
    ∙ ap (map (with_sites p)) (sym (local_more es i e less is))

-- those of one component more
pub all_more : (p : Prog) (ms : List Member) (i : ℕ) (m : Member) (old new : List (Vec Local Global)) (own : Vec Local Global) → i < length ms → m ≡ get_or ms i m
    → known_in own ≡ locals_of p (member_code m) → new ≡ old ++ own ∷ [] → map known_in old ≡ map (locals_of p) (map member_code (take i ms))
    → map known_in new ≡ map (locals_of p) (map member_code (take (i + 1) ms))
all_more p ms i m old new own less is k n h =
    ap (map known_in) n ∙ map-append known_in old (own ∷ []) ∙ ap (λ x. map known_in old ++ x ∷ []) k ∙ ap (λ ks. ks ++ locals_of p (member_code m) ∷ []) h
    ∙ sym (map-append (locals_of p) (map member_code (take i ms)) (member_code m ∷ []))
    ∙ ap (map (locals_of p)) (sym (map-append member_code (take i ms) (m ∷ [])))
    ∙ ap (λ xs. map (locals_of p) (map member_code xs)) (sym (take_item ms i m less is))

-- ---- of one component

pub locals_there : (p : Prog) (all : List (Vec Local Global)) (i : ℕ) (own : Vec Local Global) (m : MemberCode) → AreAllLocals p all → slice_get all i ≡ Some own → slice_get p.members i ≡ Some m
    → AreLocals p m.entries own.items
locals_there p all i own m h here there =
    let q : Some (known_in own) ≡ Some (locals_of p m) = sym (image_at known_in all i own here) ∙ ap (λ ks. slice_get ks i) h ∙ image_at (locals_of p) p.members i m there in
    cc

-- their codes are those of the local entries
codes_are : (p : Prog) (es : List EntryCode) (ls : List Local) → map known ls ≡ map (with_sites p) es → map code_of ls ≡ es
codes_are p [] [] h = refl
codes_are p [] (l ∷ ls) h = absurd (cc)
codes_are p (e ∷ es) [] h = absurd (cc)
codes_are p (e ∷ es) (l ∷ ls) h =
    let first : known l ≡ with_sites p e = cc in
    let rest : map known ls ≡ map (with_sites p) es = cc in
    ap₂ (λ (d : EntryCode) (ds : List EntryCode). d ∷ ds) (ap (λ (k : EntryCode × List Site). k.0) first) (codes_are p es ls rest)

pub local_codes : (p : Prog) (es : List EntryCode) (ls : List Local) → AreLocals p es ls → map code_of ls ≡ local_entries es
local_codes p es ls h = codes_are p (local_entries es) ls h

has_sites : (p : Prog) (e : EntryCode) (l : Local) → known l ≡ with_sites p e → HasSites p l
has_sites p e l k = ap (λ (x : EntryCode × List Site). x.1) k ∙ ap (λ (d : EntryCode). sites_of p d.name) (sym (ap (λ (x : EntryCode × List Site). x.0) k))

have_sites : (p : Prog) (es : List EntryCode) (ls : List Local) → map known ls ≡ map (with_sites p) es → All (HasSites p) ls
have_sites p [] [] h = no_item (HasSites p)
have_sites p [] (l ∷ ls) h = absurd (cc)
have_sites p (e ∷ es) [] h = absurd (cc)
have_sites p (e ∷ es) (l ∷ ls) h =
    let first : known l ≡ with_sites p e = cc in
    let rest : map known ls ≡ map (with_sites p) es = cc in
    All-cons (HasSites p) l ls (has_sites p e l first) (have_sites p es ls rest)

pub local_sites : (p : Prog) (es : List EntryCode) (ls : List Local) → AreLocals p es ls → All (HasSites p) ls
local_sites p es ls h = have_sites p (local_entries es) ls h

-- what is over the state for all entries is for these
pub locals_over : (p : Prog) (n : Node) (es : List EntryCode) (ls : List Local) → AreLocals p es ls → AreOfState n es → AreOfState n (map code_of ls)
locals_over p n es ls h o =
    subst (AreOfState n) (sym (local_codes p es ls h)) (All-filter (λ (d : EntryCode). is_local (Some d.kind)) (λ (e : EntryCode). IfSome e.propose (IsOfState n)) es o)
