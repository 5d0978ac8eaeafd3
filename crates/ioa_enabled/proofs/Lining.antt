-- What is told of a program's table is what is enabled in the hosts' states.
use Rattle.std.proofs.Common.{◌≡◌, ◌++◌, ℕ, zero, suc, ◌+◌, Bool, true, false, cond, List, [], ◌∷◌, filter, Option, Some, None, refl, sym, ap, ap₂, subst, ◌∙◌, arith}
use Rattle.std.specs.Prelude.{OnOk, Result, Ok, Err, nat_lt, slice_get}
use Rattle.std.specs.List.{flat_map}
use Rattle.std.specs.Option.{option_map_or}
use mathlib.Core.Path.{fun_ext}
use Rattle.ioa_value.specs.Actions.{Act, Name}
use Rattle.ioa_value.specs.Plain.{Val}
use Rattle.ioa_value.specs.Table.{Table}
use Rattle.ioa_tree.specs.Components.{is_local}
use Rattle.ioa_tree.specs.Compositions.{Composed, Member}
use Rattle.ioa_tree.specs.Hosts.{Host, HostState, Hosted, host_of}
use Rattle.ioa_tree.specs.Likes.{AllRelated}
use Rattle.ioa_tree.specs.Meaning.{Env}
use Rattle.ioa_tree.specs.Tree.{AutomatonTree, CrashTree, EntryTree}
use Rattle.ioa_tree.specs.declared.tree.Kind.TheVariants.{Input}
use Rattle.ioa_crash.specs.Rewriting.{signals, with_signals}
use Rattle.ioa_compose.specs.Simulates.{IsMadeOf, Simulates}
use Rattle.ioa_clash.proofs.ZipLemmas.{zip-at, zip-to}
use Rattle.ioa_compile.specs.Implements.{Implements}
use Rattle.ioa_compile.specs.Matching.{MatchesEntry, MatchesMember}
use Rattle.ioa_compile.specs.Programs.{EntryCode, MemberCode, Prog}
use Rattle.ioa_compile.specs.Subjects.{HoldsIn, HoldsTyped, Runs, of_hosts}
use Rattle.ioa_compile.specs.Tables.{IsProgram, table_component}
use Rattle.ioa_compile.proofs.HostEntries.{entries_are_the_hosts}
use Rattle.ioa_compile.proofs.Subjects.{does_as}
use Rattle.ioa_picture.specs.Lines.{numbered}
use Rattle.ioa_run.proofs.Alike.{Both, related_at}
use Rattle.ioa_enabled.specs.declared.part.Part.{Part}
use Rattle.ioa_enabled.specs.declared.telling.TheConstants.{MOST}
use Rattle.ioa_enabled.specs.Hosted.{OffersAs}
use Rattle.ioa_enabled.specs.Placed.{AreOfMember, AreOfMembers}
use Rattle.ioa_enabled.specs.Sampled.{HasWays}
use Rattle.ioa_enabled.specs.Told.{AllHaveWays, ShareTypes, HaveWays, code_lines, inputs_in, lines_in, lines_of_entry, lines_of_host, lines_at, lines_of, member_lines, part_lines}
use Rattle.ioa_enabled.specs.Ways.{Values, enabled_ways, first_ways, is_enabled, total, ways}
use Rattle.ioa_enabled.proofs.Hosting.{offered, some_same}

-- ---- lines of items that stand in the same places

aligned : {E D : Type 0} (es : List E) (ds : List D) (n : ℕ) (f : ℕ → D → List ℕ) (g : E → List ℕ)
    → ((k : ℕ) (e : E) → slice_get es k ≡ Some e → (d : D) × (slice_get ds k ≡ Some d) × (f (n + k) d ≡ g e))
    → ((k : ℕ) (d : D) → slice_get es k ≡ None → slice_get ds k ≡ Some d → f (n + k) d ≡ [])
    → numbered f n ds ≡ flat_map g es
aligned [] [] n f g own others = refl
aligned {E} [] (d ∷ ds) n f g own others =
    let here : n ≡ n + 0 = omega arith in
    ap (λ (l : List ℕ). l ++ numbered f (n + 1) ds) (ap (λ j. f j d) here ∙ others 0 d refl refl)
    ∙ aligned {E = E} [] ds (n + 1) f g (λ k e h. absurd (cc))
    (λ k x none h. let next : n + 1 + k ≡ n + suc k = omega arith in ap (λ j. f j x) next ∙ others (suc k) x refl h)
aligned {D = D} (e ∷ es) [] n f g own others = let p = own 0 e refl in absurd (nothing p.0 p.1)
  where
    nothing : (d : D) → slice_get {X = D} [] 0 ≡ Some d → ⊥
    nothing d h = absurd (cc)
aligned (e ∷ es) (d ∷ ds) n f g own others =
    let first = own 0 e refl in
    let same : d ≡ first.0 = some_same (Some d) d first.0 refl first.1 in
    let here : n ≡ n + 0 = omega arith in
    ap₂ (λ (x y : List ℕ). x ++ y) (ap₂ f here same ∙ first.2)
    (aligned es ds (n + 1) f g
    (λ k x h.
    let next : n + 1 + k ≡ n + suc k = omega arith in
    let q = own (suc k) x h in (q.0, q.1, ap (λ j. f j q.0) next ∙ q.2))
    (λ k x none h. let next : n + 1 + k ≡ n + suc k = omega arith in ap (λ j. f j x) next ∙ others (suc k) x none h))

-- an entry behind a host's own is a signal, and so an input
signal_not_local : (o : Option CrashTree) (a : AutomatonTree) (k : ℕ) (e : EntryTree) → slice_get a.entries k ≡ None → slice_get (with_signals o a).entries k ≡ Some e
    → is_local (Some e.kind) ≡ false
signal_not_local None a k e n s = let q : None ≡ Some e = sym n ∙ s in absurd (cc)
signal_not_local (Some c) a k e n s = behind a.entries k n s
  where
    of_signals : (j : ℕ) → slice_get (signals c) j ≡ Some e → is_local (Some e.kind) ≡ false
    of_signals zero s = let q : Input ≡ e.kind = cc in ap (λ x. is_local (Some x)) (sym q)
    of_signals (suc zero) s = let q : Input ≡ e.kind = cc in ap (λ x. is_local (Some x)) (sym q)
    of_signals (suc (suc j)) s = absurd (cc)

    behind : (es : List EntryTree) (k : ℕ) → slice_get es k ≡ None → slice_get (es ++ signals c) k ≡ Some e → is_local (Some e.kind) ≡ false
    behind [] k n s = of_signals k s
    behind (x ∷ es) zero n s = absurd (cc)
    behind (x ∷ es) (suc k) n s = behind es k n s

-- ---- the ways of all entries

abbrev pub ways_in : Option Host → Option (HostState Env) → ℕ → List Values
ways_in o q k = option_map_or (λ (p : Host). option_map_or (λ (s : HostState Env). option_map_or (λ (e : EntryTree). ways p.instance e s.inner) (slice_get p.instance.automaton.entries k) []) q []) o []

module _ (part : Part) (p : Prog) (h : Hosted) (program : IsProgram p) (runs : Runs p h) (over : ShareTypes h) (hs : List (HostState Env)) (vss : List (List Val))
    (held : AllRelated (HoldsTyped h.hosts p.members) 0 hs vss) where
  abbrev pub its_ways : ℕ → ℕ → List Values
  its_ways i k = ways_in (slice_get h.hosts i) (slice_get hs i) k

  -- of one component
  module _ (i : ℕ) (host : Host) (m : MemberCode) (state : HostState Env) (slots : List Val) (at : slice_get h.hosts i ≡ Some host) (there : slice_get p.members i ≡ Some m)
      (now : slice_get hs i ≡ Some state) (holds : HoldsTyped h.hosts p.members i state slots) where
    made : (cm : Member) × (slice_get runs.0.members i ≡ Some cm) × MatchesMember cm m
    made = zip-to MatchesMember runs.0.members p.members i m runs.2.tables there

    of_host : IsMadeOf host made.0
    of_host =
        let q = zip-to IsMadeOf h.hosts runs.0.members i made.0 runs.1.members made.1 in
        subst (λ x. IsMadeOf x made.0) (some_same (slice_get h.hosts i) q.0 host q.1 at) q.2

    own_ways : (k : ℕ) (e : EntryTree) → slice_get host.instance.automaton.entries k ≡ Some e → its_ways i k ≡ ways host.instance e state.inner
    own_ways k e here =
        ap (λ o. ways_in o (slice_get hs i) k) at ∙ ap (λ o. ways_in (Some host) o k) now
        ∙ ap (λ o. option_map_or (λ (x : EntryTree). ways host.instance x state.inner) o []) here

    entry_told : (k : ℕ) (e : EntryTree) → slice_get host.instance.automaton.entries k ≡ Some e
        → (d : EntryCode) × (slice_get m.entries k ≡ Some d) × (code_lines part p.types made.0.name m slots (its_ways i) k d ≡ lines_of_entry part h.types host state e)
    entry_told k e here = go (is_local (Some e.kind)) refl
      where
        go : (b : Bool) → is_local (Some e.kind) ≡ b → (d : EntryCode) × (slice_get m.entries k ≡ Some d) × (code_lines part p.types made.0.name m slots (its_ways i) k d ≡ lines_of_entry part h.types host state e)
        go false other =
            let mine = entries_are_the_hosts p h runs.0 runs.1 runs.2 i k host e m at here there in
            let kind : is_local (Some mine.0.kind) ≡ false = ap (λ x. is_local (Some x)) mine.2.kind ∙ other in (
              mine.0,
              mine.1,
              ap (λ b. cond b (lines_in part p.types made.0.name mine.0.name (nat_lt MOST (total (its_ways i k))) (enabled_ways (table_component m) slots mine.0.name (its_ways i k) MOST)) []) kind
                  ∙ sym (ap (λ b. cond b (lines_in part h.types host.name e.name (nat_lt MOST (total (ways host.instance e state.inner))) (enabled_ways (host_of host) state e.name (ways host.instance e state.inner) MOST)) []) other),
            )
        go true local =
            let found = offered p h program runs i k host e m at (over i host at) here local there in
            let d = found.0 in
            let same : OffersAs host e state m d slots = found.2 state slots holds in
            let kind : is_local (Some d.kind) ≡ true = ap (λ x. is_local (Some x)) same.kind ∙ local in
            let its : its_ways i k ≡ ways host.instance e state.inner = own_ways k e here in
            let cs : List Values = ways host.instance e state.inner in
            let test : is_enabled (table_component m) slots ≡ is_enabled (host_of host) state = fun_ext (λ a. sym (same.enabled a)) in (
              d,
              found.1,
              ap (λ b. cond b (lines_in part p.types made.0.name d.name (nat_lt MOST (total (its_ways i k))) (enabled_ways (table_component m) slots d.name (its_ways i k) MOST)) []) kind
                  ∙ ap (λ ws. lines_in part p.types made.0.name d.name (nat_lt MOST (total ws)) (enabled_ways (table_component m) slots d.name ws MOST)) its
                  ∙ ap (λ (ts : Table). lines_in part ts made.0.name d.name (nat_lt MOST (total cs)) (enabled_ways (table_component m) slots d.name cs MOST)) (does_as p (of_hosts h) runs).types
                  ∙ ap (λ (x : Name). lines_in part h.types x d.name (nat_lt MOST (total cs)) (enabled_ways (table_component m) slots d.name cs MOST)) of_host.name
                  ∙ ap (λ (x : Name). lines_in part h.types host.name x (nat_lt MOST (total cs)) (enabled_ways (table_component m) slots x cs MOST)) same.name
                  ∙ ap (λ (t : Act → Bool). lines_in part h.types host.name e.name (nat_lt MOST (total cs)) (filter t (first_ways e.name cs MOST))) test
                  ∙ sym (ap (λ b. cond b (lines_in part h.types host.name e.name (nat_lt MOST (total cs)) (enabled_ways (host_of host) state e.name cs MOST)) []) local),
            )

    not_host : (k : ℕ) (d : EntryCode) → slice_get host.instance.automaton.entries k ≡ None → slice_get m.entries k ≡ Some d → is_local (Some d.kind) ≡ false
    not_host k d none here =
        let found = zip-to (MatchesEntry made.0) made.0.instance.automaton.entries m.entries k d made.2.entries here in
        let in_tree : slice_get (with_signals host.crash host.instance.automaton).entries k ≡ Some found.0 = ap (λ (es : List EntryTree). slice_get es k) (sym of_host.entries) ∙ found.1 in
        ap (λ x. is_local (Some x)) found.2.kind ∙ signal_not_local host.crash host.instance.automaton k found.0 none in_tree

    member_told : member_lines part p.types made.0 m slots (its_ways i) ≡ lines_of_host part h.types host state
    member_told =
        ap₂ (λ (x y : List ℕ). x ++ y)
        (aligned host.instance.automaton.entries m.entries 0 (code_lines part p.types made.0.name m slots (its_ways i)) (lines_of_entry part h.types host state)
        (λ k e here. let q = entry_told k e here in let zeroth : 0 + k ≡ k = omega arith in (q.0, q.1, ap (λ j. code_lines part p.types made.0.name m slots (its_ways i) j q.0) zeroth ∙ q.2))
        (λ k d none here. ap (λ b. cond b (lines_in part p.types made.0.name d.name (nat_lt MOST (total (its_ways i (0 + k)))) (enabled_ways (table_component m) slots d.name (its_ways i (0 + k)) MOST)) []) (not_host k d none here)))
        (ap (λ (x : Name). inputs_in part x made.0.instance.automaton.entries) of_host.name ∙ ap (inputs_in part host.name) of_host.entries)

    have_ways : HaveWays m slots (its_ways i)
    have_ways k d here local = go (slice_get host.instance.automaton.entries k) refl
      where
        go : (o : Option EntryTree) → slice_get host.instance.automaton.entries k ≡ o → HasWays d slots (its_ways i k)
        go None none = let q : false ≡ true = sym (not_host k d none here) ∙ local in absurd (cc)
        go (Some e) own =
            let mine = entries_are_the_hosts p h runs.0 runs.1 runs.2 i k host e m at own there in
            let first : mine.0 ≡ d = some_same (slice_get m.entries k) mine.0 d mine.1 here in
            let kind : is_local (Some e.kind) ≡ true = ap (λ x. is_local (Some x)) (sym mine.2.kind ∙ ap (λ (x : EntryCode). x.kind) first) ∙ local in
            let found = offered p h program runs i k host e m at (over i host at) own kind there in
            let same : found.0 ≡ d = some_same (slice_get m.entries k) found.0 d found.1 here in
            subst (λ ws. HasWays d slots ws) (sym (own_ways k e own)) (subst (λ x. HasWays x slots (ways host.instance e state.inner)) same (found.2 state slots holds).has)

  -- a host and a component of the table in a state's place
  both_there : (i : ℕ) (state : HostState Env) (slots : List Val) → HoldsTyped h.hosts p.members i state slots
      → (host : Host) × (m : MemberCode) × (slice_get h.hosts i ≡ Some host) × (slice_get p.members i ≡ Some m)
  both_there i state slots r = go (slice_get h.hosts i) refl (slice_get p.members i) refl r
    where
      go : (o : Option Host) → slice_get h.hosts i ≡ o → (q : Option MemberCode) → slice_get p.members i ≡ q → HoldsIn o q state slots
          → (host : Host) × (m : MemberCode) × (slice_get h.hosts i ≡ Some host) × (slice_get p.members i ≡ Some m)
      go (Some host) at (Some m) there r = (host, m, at, there)
      go (Some host) at None there r = absurd r
      go None at (Some m) there r = absurd r
      go None at None there r = absurd r

  pub all_have : AllHaveWays p.members vss its_ways
  all_have i m s there slots = go (slice_get hs i) refl (related_at (HoldsTyped h.hosts p.members) i hs vss held)
    where
      go : (o : Option (HostState Env)) → slice_get hs i ≡ o → Both (HoldsTyped h.hosts p.members i) o (slice_get vss i) → HaveWays m s (its_ways i)
      go None none r = absurd (subst (Both (HoldsTyped h.hosts p.members i) None) slots r)
      go (Some state) now r =
          let holds : HoldsTyped h.hosts p.members i state s = subst (Both (HoldsTyped h.hosts p.members i) (Some state)) slots r in
          let both = both_there i state s holds in
          let same : both.1 ≡ m = some_same (slice_get p.members i) both.1 m both.3 there in
          have_ways i both.0 m state s both.2 there now holds

  -- the variables of each component have values of their types
  pub all_typed : AreOfMembers p.members vss
  all_typed i m s there slots = go (slice_get hs i) refl (related_at (HoldsTyped h.hosts p.members) i hs vss held)
    where
      typed : (o : Option Host) (state : HostState Env) → HoldsIn o (Some m) state s → AreOfMember m s
      typed (Some host) state r = r.1
      typed None state r = absurd r

      go : (o : Option (HostState Env)) → slice_get hs i ≡ o → Both (HoldsTyped h.hosts p.members i) o (slice_get vss i) → AreOfMember m s
      go None none r = absurd (subst (Both (HoldsTyped h.hosts p.members i) None) slots r)
      go (Some state) now r =
          let holds : HoldsTyped h.hosts p.members i state s = subst (Both (HoldsTyped h.hosts p.members i) (Some state)) slots r in
          typed (slice_get h.hosts i) state (subst (λ o. HoldsIn (slice_get h.hosts i) o state s) there holds)

  -- the lines of the components from this one on
  told_from : (n : ℕ) (ps : List Host) (xs : List (HostState Env)) (uss : List (List Val)) → ((k : ℕ) → slice_get h.hosts (n + k) ≡ slice_get ps k)
      → ((k : ℕ) → slice_get hs (n + k) ≡ slice_get xs k) → AllRelated (HoldsTyped h.hosts p.members) n xs uss
      → numbered (lines_at part p.types runs.0.members p.members its_ways) n uss ≡ part_lines part h.types ps xs
  told_from n ps [] [] hosts states r = sym (nothing ps)
    where
      nothing : (qs : List Host) → part_lines part h.types qs [] ≡ []
      nothing [] = refl
      nothing (q ∷ qs) = refl
  told_from n ps [] (u ∷ us) hosts states r = absurd r
  told_from n ps (x ∷ xs) [] hosts states r = absurd r
  told_from n [] (x ∷ xs) (u ∷ us) hosts states r =
      let here : n ≡ n + 0 = omega arith in
      let both = both_there n x u r.0 in
      let q : None ≡ Some both.0 = sym (hosts 0) ∙ sym (ap (slice_get h.hosts) here) ∙ both.2 in absurd (cc)
  told_from n (y ∷ ps) (x ∷ xs) (u ∷ us) hosts states r =
      let here : n ≡ n + 0 = omega arith in
      let both = both_there n x u r.0 in
      let own : both.0 ≡ y = some_same (slice_get h.hosts n) both.0 y both.2 (ap (slice_get h.hosts) here ∙ hosts 0) in
      let now : slice_get hs n ≡ Some x = ap (slice_get hs) here ∙ states 0 in
      let cm = made n both.0 both.1 x u both.2 both.3 now r.0 in
      let first : lines_at part p.types runs.0.members p.members its_ways n u ≡ lines_of_host part h.types y x =
      ap (λ o. lines_of part p.types o (slice_get p.members n) u (its_ways n)) cm.1 ∙ ap (λ o. lines_of part p.types (Some cm.0) o u (its_ways n)) both.3
      ∙ member_told n both.0 both.1 x u both.2 both.3 now r.0 ∙ ap (λ z. lines_of_host part h.types z x) own in
      ap₂ (λ (a b : List ℕ). a ++ b) first
      (told_from (n + 1) ps xs us (λ k. let next : n + 1 + k ≡ n + suc k = omega arith in ap (slice_get h.hosts) next ∙ hosts (suc k))
      (λ k. let next : n + 1 + k ≡ n + suc k = omega arith in ap (slice_get hs) next ∙ states (suc k)) r.1)

  pub all_told : numbered (lines_at part p.types runs.0.members p.members its_ways) 0 vss ≡ part_lines part h.types h.hosts hs
  all_told =
      told_from 0 h.hosts hs vss (λ k. let here : 0 + k ≡ k = omega arith in ap (slice_get h.hosts) here) (λ k. let here : 0 + k ≡ k = omega arith in ap (slice_get hs) here) held

-- the lines of a program's components are those of its hosts
pub lines_told : {X E : Type 0} (part : Part) (r : Result X E) (p : Prog) (c : Composed) (vss : List (List Val)) (old new : List ℕ) → IsProgram p
    → OnOk r ((w : ℕ → ℕ → List Values) → AreOfMembers p.members vss → AllHaveWays p.members vss w → new ≡ old ++ numbered (lines_at part p.types c.members p.members w) 0 vss)
    → OnOk r ((h : Hosted) (hs : List (HostState Env)) → ShareTypes h → Simulates h c → Implements p c → AllRelated (HoldsTyped h.hosts p.members) 0 hs vss
    → new ≡ old ++ part_lines part h.types h.hosts hs)
lines_told part (Ok x) p c vss old new program said = λ h hs over simulates implements held.
    let runs : Runs p h = (c, simulates, implements) in
    said (its_ways part p h program runs over hs vss held) (all_typed part p h program runs over hs vss held) (all_have part p h program runs over hs vss held)
    ∙ ap (λ (t : List ℕ). old ++ t) (all_told part p h program runs over hs vss held)
lines_told part (Err e) p c vss old new program said = tt
