-- What the entries of a program's table offer is what those of its hosts offer.
use Rattle.std.proofs.Common.{◌≡◌, ℕ, zero, suc, ◌+◌, Bool, true, false, ◌&&◌, List, [], ◌∷◌, All, Option, Some, None, IfSome, Result, refl, sym, ap, ap₂, subst, ◌∙◌, arith}
use Rattle.std.specs.Prelude.{IsTrue, slice_get}
use Rattle.std.specs.Option.{option_map}
use Rattle.std.proofs.lemmas.Option.{slice_get-map}
use Rattle.ioa_arithmetic.specs.declared.arithmetic.Fault.{Fault}
use Rattle.ioa_value.specs.Actions.{Act}
use Rattle.ioa_value.specs.Plain.{Val}
use Rattle.ioa_value.specs.Positions.{IsDomain}
use Rattle.ioa_value.specs.Table.{AreTypes}
use Rattle.ioa_value.specs.Typing.{HaveTypes}
use Rattle.ioa_value.proofs.ItemLemmas.{get_append, image_at}
use Rattle.ioa_code.specs.Valid.{Part}
use Rattle.ioa_parts.specs.Proposals.{proposal_of, words_of}
use Rattle.ioa_tree.specs.declared.tree.Kind.{Kind}
use Rattle.ioa_tree.specs.declared.tree.Kind.TheVariants.{Input, Output, Internal}
use Rattle.ioa_tree.specs.Components.{Component, is_local, owns}
use Rattle.ioa_tree.specs.Compositions.{Composed, Member}
use Rattle.ioa_tree.specs.Domains.{AreDomainsOf}
use Rattle.ioa_tree.specs.Hosts.{Host, HostState, Hosted, host_of, hosts_of}
use Rattle.ioa_tree.specs.Likes.{AllLike, IsLike}
use Rattle.ioa_tree.specs.Meaning.{Env}
use Rattle.ioa_tree.specs.Proposing.{Words, proposed}
use Rattle.ioa_tree.specs.Tree.{AutomatonTree, CrashTree, EntryTree}
use Rattle.ioa_crash.specs.Rewriting.{signals, with_signals}
use Rattle.ioa_compose.specs.Simulates.{IsMadeOf, Simulates, SlotsHold}
use Rattle.ioa_clash.proofs.ZipLemmas.{zip-to}
use Rattle.ioa_compile.specs.CodeEnds.{ProposalEnds}
use Rattle.ioa_compile.specs.Implements.{Implements}
use Rattle.ioa_compile.specs.Matching.{MatchesEntry, MatchesMember}
use Rattle.ioa_compile.specs.Programs.{EntryCode, MemberCode, Prog}
use Rattle.ioa_compile.specs.Subjects.{HoldsIn, HoldsTyped, Runs, of_hosts}
use Rattle.ioa_compile.specs.Tables.{AreEntries, AreMembers, HasPropose, IsEntry, IsMember, IsProgram, table_component, tabled}
use Rattle.ioa_compile.proofs.HostEntries.{entries_are_the_hosts}
use Rattle.ioa_compile.proofs.Subjects.{does_as}
use Rattle.ioa_run.specs.Proposers.{action_with, by_code, by_entry, filled, filled_in, tried}
use Rattle.ioa_run.proofs.HostProposals.{by_alike, filled_alike}
use Rattle.ioa_enabled.specs.Hosted.{OffersAreTheHosts, OffersAs}
use Rattle.ioa_enabled.specs.Sampled.{HasWays, all_by_word, each_word, named, sampled, sampled_by}
use Rattle.ioa_enabled.specs.Ways.{is_enabled, is_yes, ways}
use Rattle.ioa_enabled.proofs.Sampling.{entry_one, tried_of, ways_apart}

pub some_same : {X : Type 0} (o : Option X) (x y : X) → o ≡ Some x → o ≡ Some y → x ≡ y
some_same o x y e f = let g : Some x ≡ Some y = sym e ∙ f in cc

-- ---- items of a program's table

pub member_at : {T : Type 0} (P : T → Type 0) (All' : List T → Type 0) → ((x : T) (xs : List T) → All' (x ∷ xs) → P x × All' xs) → (xs : List T) (i : ℕ) (x : T) → All' xs → slice_get xs i ≡ Some x → P x
member_at P All' part [] i x h e = absurd (cc)
member_at P All' part (y ∷ xs) zero x h e = let q : y ≡ x = cc in subst P q (part y xs h).0
member_at P All' part (y ∷ xs) (suc i) x h e = member_at P All' part xs i x (part y xs h).1 e

-- the host's own entries stand first
first_entries : (o : Option CrashTree) (a : AutomatonTree) (k : ℕ) (e : EntryTree) → slice_get a.entries k ≡ Some e → slice_get (with_signals o a).entries k ≡ Some e
first_entries None a k e h = h
first_entries (Some n) a k e h = get_append a.entries (signals n) k e h

-- a local entry has code for its proposals
has_code : (m : MemberCode) (d : EntryCode) (k : Kind) (o : Option Part) → is_local (Some k) ≡ true → HasPropose m d k o → (part : Part) × (o ≡ Some part)
has_code m d Input o l h = absurd (cc)
has_code m d Output None l h = absurd h
has_code m d Output (Some part) l h = (part, refl)
has_code m d Internal None l h = absurd h
has_code m d Internal (Some part) l h = (part, refl)

-- ---- what code gives by equal words

tried_again : (o : Option Act) (n : ℕ) → tried_of (tried o n) ≡ o
tried_again (Some a) n = refl
tried_again None n = refl

code_sampled : (d : EntryCode) (o : Option Part) (slots : List Val) (word : ℕ) → d.propose ≡ o → tried_of (by_code d o slots (each_word word) 0) ≡ sampled d slots word
code_sampled d None slots word e = sym (ap (λ (p : Option Part). option_map (action_with d) (sampled_by p slots word)) e)
code_sampled d (Some part) slots word e =
    tried_again (option_map (action_with d) (proposal_of part slots (each_word word))) (0 + words_of part slots (each_word word))
    ∙ sym (ap (λ (p : Option Part). option_map (action_with d) (sampled_by p slots word)) e)

-- ---- whether an action is enabled

like_at : {S T : Type 0} (R : ℕ → S → T → Type 0) (i w : ℕ) (ps : List (Component S)) (qs : List (Component T)) (p : Component S) (q : Component T) → AllLike R i ps qs
    → slice_get ps w ≡ Some p → slice_get qs w ≡ Some q → IsLike (R (w + i)) p q
like_at R i w [] qs p q l e f = absurd (cc)
like_at R i w (x ∷ ps) [] p q l e f = absurd l
like_at R i zero (x ∷ ps) (y ∷ qs) p q l e f =
    let left : x ≡ p = cc in
    let right : y ≡ q = cc in
    let here : i ≡ zero + i = omega arith in
    subst (λ k. IsLike (R k) p q) here (subst (λ z. IsLike (R i) p z) right (subst (λ z. IsLike (R i) z y) left l.0))
like_at R i (suc w) (x ∷ ps) (y ∷ qs) p q l e f =
    let next : w + (i + 1) ≡ suc w + i = omega arith in
    subst (λ k. IsLike (R k) p q) next (like_at R (i + 1) w ps qs p q l.1 e f)

enabled_alike : {S T : Type 0} (R : S → T → Type 0) (p : Component S) (q : Component T) (s : S) (t : T) (a : Act) → IsLike R p q → R s t → is_enabled p s a ≡ is_enabled q t a
enabled_alike R p q s t a l r = go (owns a p) refl
  where
    same : owns a p ≡ owns a q
    same = ap is_local (l.kinds a)

    go : (b : Bool) → owns a p ≡ b → is_enabled p s a ≡ is_enabled q t a
    go true e =
        ap (λ b. b && is_yes (p.guard a s)) same ∙ ap (λ (g : Result Bool Fault). owns a q && is_yes g) (l.guards a s t e r)
    go false e =
        let other : owns a q ≡ false = sym same ∙ e in
        ap (λ b. b && is_yes (p.guard a s)) e ∙ sym (ap (λ b. b && is_yes (q.guard a t)) other)

-- ---- a host and the component that stands for it

module _ (p : Prog) (h : Hosted) (program : IsProgram p) (runs : Runs p h) (w k : ℕ) (host : Host) (e : EntryTree) (m : MemberCode) (at : slice_get h.hosts w ≡ Some host)
    (over : host.instance.types ≡ h.types) (here : slice_get host.instance.automaton.entries k ≡ Some e) (local : is_local (Some e.kind) ≡ true) (there : slice_get p.members w ≡ Some m) where
  member : IsMember p.types m
  member = member_at (IsMember p.types) (AreMembers p.types) (λ x xs a. a) p.members w m program.members there

  made : (cm : Member) × (slice_get runs.0.members w ≡ Some cm) × MatchesMember cm m
  made = zip-to MatchesMember runs.0.members p.members w m runs.2.tables there

  of_host : IsMadeOf host made.0
  of_host =
      let q = zip-to IsMadeOf h.hosts runs.0.members w made.0 runs.1.members made.1 in
      subst (λ x. IsMadeOf x made.0) (some_same (slice_get h.hosts w) q.0 host q.1 at) q.2

  related : (s : HostState Env) (slots : List Val) → HoldsTyped h.hosts p.members w s slots → SlotsHold host s slots × HaveTypes m.start.table slots m.start.types
  related s slots r = subst (λ o. HoldsIn (Some host) o s slots) there (subst (λ o. HoldsIn o (slice_get p.members w) s slots) at r)

  fills : (d : EntryCode) → IsEntry m d → slice_get m.entries k ≡ Some d → (vs : List Val) → filled_in host.instance e.positions vs ≡ filled d.positions vs
  fills d is has vs =
      let cm = made.0 in
      let found = zip-to (MatchesEntry cm) cm.instance.automaton.entries m.entries k d made.2.entries has in
      let first : slice_get cm.instance.automaton.entries k ≡ Some e = ap (λ (es : List EntryTree). slice_get es k) of_host.entries ∙ first_entries host.crash host.instance.automaton k e here in
      let q : found.0 ≡ e = some_same (slice_get cm.instance.automaton.entries k) found.0 e found.1 first in
      let domains : AreDomainsOf cm.instance e.positions d.positions = subst (λ (x : EntryTree). AreDomainsOf cm.instance x.positions d.positions) q found.2.positions in
      let types : m.start.table ≡ cm.instance.types = made.2.types in
      let declared : AreTypes cm.instance.types = subst AreTypes (sym member.types_are ∙ types) program.types in
      let are : All (IsDomain cm.instance.types) d.positions = subst (λ t. All (IsDomain t) d.positions) types is.positions in
      filled_alike cm.instance host.instance e d.positions vs declared are domains (λ a. of_host.actions k e a here)

  like : IsLike (HoldsTyped h.hosts p.members w) (host_of host) (table_component m)
  like =
      let none : w + 0 ≡ w = omega arith in
      subst (λ j. IsLike (HoldsTyped h.hosts p.members j) (host_of host) (table_component m)) none
      (like_at (HoldsTyped h.hosts p.members) 0 w (hosts_of h) (tabled p) (host_of host) (table_component m) (does_as p (of_hosts h) runs).components
      (image_at host_of h.hosts w host at) (image_at table_component p.members w m there))

  declared_types : AreTypes host.instance.types
  declared_types = subst AreTypes ((does_as p (of_hosts h) runs).types ∙ sym over) program.types

  pub offered : (d : EntryCode) × (slice_get m.entries k ≡ Some d) × ((state : HostState Env) (slots : List Val) → HoldsTyped h.hosts p.members w state slots → OffersAs host e state m d slots)
  offered =
      let mine = entries_are_the_hosts p h runs.0 runs.1 runs.2 w k host e m at here there in
      let d = mine.0 in
      let own = mine.2 in
      let is : IsEntry m d = member_at (IsEntry m) (AreEntries m) (λ x xs a. a) m.entries k d member.entries mine.1 in
      let code = has_code m d d.kind d.propose (ap (λ x. is_local (Some x)) own.kind ∙ local) is.propose in (
        d,
        mine.1,
        λ state slots r.
            let held = related state slots r in
            let ends : (word : ℕ) → ProposalEnds code.0 slots (each_word word) (proposed host.instance e state.inner (each_word word) 0) =
            λ word. subst (λ o. IfSome o (λ part. (x : HostState Env) (vs : List Val) (ws : Words) → SlotsHold host x vs → HaveTypes m.start.table vs m.start.types → ProposalEnds part vs ws (proposed host.instance e x.inner ws 0))) code.1 own.propose
            state slots (each_word word) held.0 held.1 in
            let gives : (word : ℕ) → sampled d slots word ≡ option_map (named d.name) (all_by_word word (ways host.instance e state.inner)) =
            λ word.
            sym (code_sampled d (Some code.0) slots word code.1)
            ∙ sym (ap tried_of (by_alike host.instance e d code.0 state.inner slots (each_word word) 0 own.name (fills d is mine.1) (ends word)))
            ∙ entry_one word host.instance e state.inner declared_types
            ∙ sym (ap (λ x. option_map (named x) (all_by_word word (ways host.instance e state.inner))) own.name) in
            record {
              name = own.name;
              kind = own.kind;
              has = record { gives = gives; apart = ways_apart host.instance e state.inner };
              enabled = λ a. enabled_alike (HoldsTyped h.hosts p.members w) (host_of host) (table_component m) state slots a like r;
            },
      )

pub offers_are_the_hosts : OffersAreTheHosts
offers_are_the_hosts p h program runs i k host e m at over here local there = offered p h program runs i k host e m at over here local there
