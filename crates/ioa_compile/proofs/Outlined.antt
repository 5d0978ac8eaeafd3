-- What tells programs apart.
use Rattle.std.proofs.Common.{◌≡◌, ℕ, suc, ◌<◌, List, [], ◌∷◌, length, map, Option, Some, None, refl, sym, ◌∙◌, ap, subst, arith}
use Rattle.std.specs.Option.{option_map}
use Rattle.std.specs.Prelude.{IfSome, slice_get}
use Rattle.ioa_value.specs.Actions.{Name}
use Rattle.ioa_value.specs.Plain.{Val}
use Rattle.ioa_value.specs.Positions.{Domain}
use Rattle.ioa_value.specs.Table.{Table}
use Rattle.ioa_code.specs.declared.instr.Instr.{Instr}
use Rattle.ioa_code.specs.declared.instr.PartKind.{PartKind}
use Rattle.ioa_code.specs.declared.instr.PartKind.TheVariants.{Pre, Propose, Eff}
use Rattle.ioa_code.specs.Valid.{Part}
use Rattle.ioa_parts.specs.Nodes.{Node}
use Rattle.ioa_tree.specs.declared.tree.Kind.{Kind}
use Rattle.ioa_tree.specs.declared.tree.Kind.TheVariants.{Input, Output, Internal}
use Rattle.ioa_compile.specs.declared.table.Entry.{Entry}
use Rattle.ioa_compile.specs.declared.table.Member.{Member}
use Rattle.ioa_compile.specs.Outlines.{EntryOutline, MemberOutline, instrs_of, outline, outline_of, outlined}
use Rattle.ioa_compile.specs.Programs.{EntryCode, MemberCode, Prog}
use Rattle.ioa_compile.specs.Shown.{entry_code, member_code}
use Rattle.ioa_compile.specs.Tables.{AreEntries, AreMembers, HasLocal, IsEntry, IsMember, IsPart, IsProgram, parameter_types, position_types}

-- ---- lists, place by place

pub alike_places : {X : Type 0} (xs ys : List X) → length xs ≡ length ys → ((k : ℕ) → k < length xs → slice_get xs k ≡ slice_get ys k) → xs ≡ ys
alike_places [] [] l h = refl
alike_places [] (y ∷ ys) l h = absurd (omega arith)
alike_places (x ∷ xs) [] l h = absurd (omega arith)
alike_places (x ∷ xs) (y ∷ ys) l h =
    let here : Some x ≡ Some y = h 0 (omega arith) in
    let first : x ≡ y = cc in
    let rest : xs ≡ ys = alike_places xs ys (omega arith) (λ k s. h (suc k) (omega arith)) in
    ap (λ z. z ∷ xs) first ∙ ap (λ zs. y ∷ zs) rest

-- ---- code

abbrev part_made : Table → List Instr → List Val → PartKind → List ℕ → List ℕ → List ℕ → Part
part_made ts is cs k ss as' rs = record { code = record { types = ts; instrs = is; consts = cs }; kind = k; slots = ss; args = as'; result = rs }

-- what is known of code but for its instructions
record Fixed (start : Node) (k : PartKind) (values end : List ℕ) (consts : List Val) (p : Part) : Type 0 where
  types : p.code.types ≡ start.table
  kind : p.kind ≡ k
  result : p.result ≡ end
  slots : p.slots ≡ start.types
  args : p.args ≡ values
  consts_are : p.code.consts ≡ consts

fixed : (m : MemberCode) (k : PartKind) (values end : List ℕ) (consts : List Val) (p : Part) → IsPart m k values end p → p.code.consts ≡ consts → Fixed m.start k values end consts p
fixed m k values end consts p h c = record { types = h.types; kind = h.kind; result = h.result; slots = h.slots; args = h.args; consts_are = c }

part_told : (start : Node) (k : PartKind) (values end : List ℕ) (consts : List Val) (p q : Part) → Fixed start k values end consts p → Fixed start k values end consts q
    → instrs_of p ≡ instrs_of q → p ≡ q
part_told start k values end consts p q f g e =
    let t : p.code.types ≡ q.code.types = f.types ∙ sym g.types in
    let c : p.code.consts ≡ q.code.consts = f.consts_are ∙ sym g.consts_are in
    let d : p.kind ≡ q.kind = f.kind ∙ sym g.kind in
    let s : p.slots ≡ q.slots = f.slots ∙ sym g.slots in
    let a : p.args ≡ q.args = f.args ∙ sym g.args in
    let r : p.result ≡ q.result = f.result ∙ sym g.result in
    let made : part_made p.code.types p.code.instrs p.code.consts p.kind p.slots p.args p.result
    ≡ part_made q.code.types q.code.instrs q.code.consts q.kind q.slots q.args q.result = cc in
    made

has_some : (P : Part → Type 0) (k : Kind) (p : Part) → HasLocal P k (Some p) → P p
has_some P Input p h = absurd h
has_some P Output p h = h
has_some P Internal p h = h

-- what is known of the code of an entry's precondition, or of its proposals, where it has any
code_told : (P Q : Part → Type 0) (k l : Kind) (o r : Option Part) (consts : List Val) → HasLocal P k o → HasLocal Q l r → IfSome o (λ p. p.code.consts ≡ consts)
    → IfSome r (λ p. p.code.consts ≡ consts) → option_map instrs_of o ≡ option_map instrs_of r
    → ((p q : Part) → P p → Q q → p.code.consts ≡ consts → q.code.consts ≡ consts → instrs_of p ≡ instrs_of q → p ≡ q) → o ≡ r
code_told P Q k l None None consts h i c d e told = refl
code_told P Q k l None (Some q) consts h i c d e told = absurd (cc)
code_told P Q k l (Some p) None consts h i c d e told = absurd (cc)
code_told P Q k l (Some p) (Some q) consts h i c d e told =
    let same : instrs_of p ≡ instrs_of q = cc in ap Some (told p q (has_some P k p h) (has_some Q l q i) c d same)

-- ---- entries

abbrev entry_made : Kind → Name → List Domain → Option Part → Option Part → Part → EntryCode
entry_made k n ds pre propose eff = record { kind = k; name = n; positions = ds; pre = pre; propose = propose; effect = eff }

-- code of one kind in entries of components that start alike
two_parts : (m n : MemberCode) (k : PartKind) (values end us fs : List ℕ) (consts : List Val) (p q : Part) → m.start ≡ n.start → values ≡ us → end ≡ fs → IsPart m k values end p
    → IsPart n k us fs q → p.code.consts ≡ consts → q.code.consts ≡ consts → instrs_of p ≡ instrs_of q → p ≡ q
two_parts m n k values end us fs consts p q s v e h i c d same =
    let other : Fixed n.start k us fs consts q = fixed n k us fs consts q i d in
    let own : Fixed n.start k values end consts p = subst (λ (w : Node). Fixed w k values end consts p) s (fixed m k values end consts p h c) in
    let there : Fixed n.start k us fs consts p = subst (λ (w : List ℕ). Fixed n.start k us w consts p) e (subst (λ (w : List ℕ). Fixed n.start k w end consts p) v own) in
    part_told n.start k us fs consts p q there other same

entry_told : (m n : MemberCode) (d e : EntryCode) → m.start ≡ n.start → IsEntry m d → IsEntry n e → outline d ≡ outline e → d ≡ e
entry_told m n d e s h i o =
    let kinds : d.kind ≡ e.kind = ap (λ (x : EntryOutline). x.kind) o in
    let names : d.name ≡ e.name = ap (λ (x : EntryOutline). x.name) o in
    let places : d.positions ≡ e.positions = ap (λ (x : EntryOutline). x.positions) o in
    let pres : option_map instrs_of d.pre ≡ option_map instrs_of e.pre = ap (λ (x : EntryOutline). x.pre) o in
    let proposes : option_map instrs_of d.propose ≡ option_map instrs_of e.propose = ap (λ (x : EntryOutline). x.propose) o in
    let effects : instrs_of d.effect ≡ instrs_of e.effect = ap (λ (x : EntryOutline). x.effect) o in
    let cs : e.effect.code.consts ≡ d.effect.code.consts = sym (ap (λ (x : EntryOutline). x.consts) o) in
    let own : List Val = d.effect.code.consts in
    let values : position_types d.positions ≡ position_types e.positions = ap position_types places in
    let parameters : parameter_types d.positions ≡ parameter_types e.positions = ap parameter_types places in
    let pre_consts : IfSome e.pre (λ p. p.code.consts ≡ own) = subst (λ (w : List Val). IfSome e.pre (λ p. p.code.consts ≡ w)) cs i.consts in
    let propose_consts : IfSome e.propose (λ p. p.code.consts ≡ own) = subst (λ (w : List Val). IfSome e.propose (λ p. p.code.consts ≡ w)) cs i.same_consts in
    let pre : d.pre ≡ e.pre =
    code_told (IsPart m Pre (position_types d.positions) (0 ∷ [])) (IsPart n Pre (position_types e.positions) (0 ∷ [])) d.kind e.kind d.pre e.pre own h.pre i.pre h.consts pre_consts pres
    (λ p q x y c f z. two_parts m n Pre (position_types d.positions) (0 ∷ []) (position_types e.positions) (0 ∷ []) own p q s values refl x y c f z) in
    let propose : d.propose ≡ e.propose =
    code_told (IsPart m Propose [] (parameter_types d.positions)) (IsPart n Propose [] (parameter_types e.positions)) d.kind e.kind d.propose e.propose own h.propose i.propose
    h.same_consts propose_consts proposes
    (λ p q x y c f z. two_parts m n Propose [] (parameter_types d.positions) [] (parameter_types e.positions) own p q s refl parameters x y c f z) in
    let eff : d.effect ≡ e.effect =
    two_parts m n Eff (position_types d.positions) [] (position_types e.positions) [] own d.effect e.effect s values refl h.effect i.effect refl cs effects in
    let made : entry_made d.kind d.name d.positions d.pre d.propose d.effect ≡ entry_made e.kind e.name e.positions e.pre e.propose e.effect = cc in
    made

entries_told : (m n : MemberCode) (ds es : List EntryCode) → m.start ≡ n.start → AreEntries m ds → AreEntries n es → map outline ds ≡ map outline es → ds ≡ es
entries_told m n [] [] s h i o = refl
entries_told m n [] (e ∷ es) s h i o = absurd (cc)
entries_told m n (d ∷ ds) [] s h i o = absurd (cc)
entries_told m n (d ∷ ds) (e ∷ es) s h i o =
    let one : outline d ≡ outline e = cc in
    let more : map outline ds ≡ map outline es = cc in
    let first : d ≡ e = entry_told m n d e s h.0 i.0 one in
    let rest : ds ≡ es = entries_told m n ds es s h.1 i.1 more in
    ap (λ x. x ∷ ds) first ∙ ap (λ xs. e ∷ xs) rest

-- ---- components

abbrev member_outline : MemberCode → MemberOutline
member_outline m = record { name = m.name; start = m.start; entries = map outline m.entries }

abbrev member_made : Name → Node → List EntryCode → MemberCode
member_made n s es = record { name = n; start = s; entries = es }

member_told : (types ts : Table) (m n : MemberCode) → IsMember types m → IsMember ts n → member_outline m ≡ member_outline n → m ≡ n
member_told types ts m n h i o =
    let names : m.name ≡ n.name = ap (λ (x : MemberOutline). x.name) o in
    let starts : m.start ≡ n.start = ap (λ (x : MemberOutline). x.start) o in
    let entries : m.entries ≡ n.entries = entries_told m n m.entries n.entries starts h.entries i.entries (ap (λ (x : MemberOutline). x.entries) o) in
    let made : member_made m.name m.start m.entries ≡ member_made n.name n.start n.entries = cc in
    made

members_told : (types ts : Table) (ms ns : List MemberCode) → AreMembers types ms → AreMembers ts ns → map member_outline ms ≡ map member_outline ns → ms ≡ ns
members_told types ts [] [] h i o = refl
members_told types ts [] (n ∷ ns) h i o = absurd (cc)
members_told types ts (m ∷ ms) [] h i o = absurd (cc)
members_told types ts (m ∷ ms) (n ∷ ns) h i o =
    let one : member_outline m ≡ member_outline n = cc in
    let more : map member_outline ms ≡ map member_outline ns = cc in
    let first : m ≡ n = member_told types ts m n h.0 i.0 one in
    let rest : ms ≡ ns = members_told types ts ms ns h.1 i.1 more in
    ap (λ x. x ∷ ms) first ∙ ap (λ xs. n ∷ xs) rest

entries_shown : (es : List Entry) → map outline_of es ≡ map outline (map entry_code es)
entries_shown [] = refl
entries_shown (e ∷ es) = ap (λ r. outline_of e ∷ r) (entries_shown es)

member_shown : (m : Member) → outlined m ≡ member_outline (member_code m)
member_shown m = ap (λ (r : List EntryOutline). record { name = (member_code m).name; start = m.start; entries = r }) (entries_shown m.entries.items)

pub members_shown : (ms : List Member) → map outlined ms ≡ map member_outline (map member_code ms)
members_shown [] = refl
members_shown (m ∷ ms) = ap (λ (x : MemberOutline). x ∷ map outlined ms) (member_shown m) ∙ ap (λ r. member_outline (member_code m) ∷ r) (members_shown ms)

-- ---- programs

abbrev program_made : Table → Name → List MemberCode → List Name → Prog
program_made ts n ms hs = record { types = ts; name = n; members = ms; hidden = hs }

pub programs_told : (p q : Prog) (ms ns : List Member) → IsProgram p → IsProgram q → map member_code ms ≡ p.members → map member_code ns ≡ q.members → p.types ≡ q.types
    → p.name ≡ q.name → map outlined ms ≡ map outlined ns → p.hidden ≡ q.hidden → p ≡ q
programs_told p q ms ns h i own others types names outlines hidden =
    let shown : map member_outline p.members ≡ map member_outline q.members =
    ap (map member_outline) (sym own) ∙ sym (members_shown ms) ∙ outlines ∙ members_shown ns ∙ ap (map member_outline) others in
    let members : p.members ≡ q.members = members_told p.types q.types p.members q.members h.members i.members shown in
    let made : program_made p.types p.name p.members p.hidden ≡ program_made q.types q.name q.members q.hidden = cc in
    made

pub outlines_alike : (p q : Prog) (ms ns : List Member) → map member_code ms ≡ p.members → map member_code ns ≡ q.members → p ≡ q → map outlined ms ≡ map outlined ns
outlines_alike p q ms ns own others same =
    members_shown ms ∙ ap (map member_outline) (own ∙ ap (λ (r : Prog). r.members) same ∙ sym others) ∙ sym (members_shown ns)
