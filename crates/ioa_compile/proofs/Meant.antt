-- The program means the composition.
use Rattle.std.proofs.Common.{◌≡◌, ℕ, suc, ◌+◌, List, [], ◌∷◌, map, Some, refl, sym, ap, ◌∙◌, subst, arith}
use Rattle.std.specs.Prelude.{slice_get}
use Rattle.std.specs.List.{AllZip}
use Rattle.ioa_value.specs.Typing.{HaveTypes}
use Rattle.ioa_parts.specs.Nodes.{Node}
use Rattle.ioa_tree.specs.Tree.{EntryTree}
use Rattle.ioa_tree.specs.Instances.{component_of, state_of}
use Rattle.ioa_tree.specs.Compositions.{Member}
use Rattle.ioa_tree.specs.Likes.{IsLike, AllLike, AllRelated}
use Rattle.ioa_tree.specs.WellFormed.{variable_fields}
use Rattle.ioa_compose.specs.Fine.{IsFine}
use Rattle.ioa_crash.specs.Limits.{component_limits}
use Rattle.ioa_compile.specs.Programs.{EntryCode, MemberCode}
use Rattle.ioa_compile.specs.Tables.{table_component}
use Rattle.ioa_compile.specs.Correspondence.{Corresponds, CorrespondsIn, CorrespondsAt}
use Rattle.ioa_compile.specs.Matching.{AreTypesOf, MatchesEntry, MatchesMember}
use Rattle.ioa_compile.specs.Translated.{IsEntryOf, IsTranslated, DoesSame}
use Rattle.ioa_compile.proofs.Fits.{fit_have}
use Rattle.ioa_compile.proofs.Twins.{finds_same, kinds_same, is_member}
use Rattle.ioa_compile.proofs.Alike.{guards, effects, entry_matches}

entries_match : (m : Member) (slots : List ℕ) (es : List EntryTree) (cs : List EntryCode) → IsFine component_limits m → AreTypesOf m.instance.types (variable_fields m.instance.automaton) slots → ((i : ℕ) (e : EntryTree) → slice_get es i ≡ Some e → IsEntryOf m e) → AllZip (IsTranslated m slots) es cs → AllZip (MatchesEntry m) es cs
entries_match m slots [] [] h types own all = tt
entries_match m slots [] (c ∷ cs) h types own all = absurd all
entries_match m slots (e ∷ es) [] h types own all = absurd all
entries_match m slots (e ∷ es) (c ∷ cs) h types own all =
    (entry_matches m slots e c h types all.0 (own 0 e refl), entries_match m slots es cs h types (λ i x k. own (suc i) x k) all.1)

pub does_same : (m : Member) (slots : List ℕ) (c : MemberCode) → IsFine component_limits m → AreTypesOf m.instance.types (variable_fields m.instance.automaton) slots → c.name ≡ m.name → c.start ≡ record { table = m.instance.types; types = slots; values = m.starts } → AllZip (IsTranslated m slots) m.instance.automaton.entries c.entries → DoesSame m c
does_same m slots c h types name start entries =
    let es = m.instance.automaton.entries in
    let table-is : c.start.table ≡ m.instance.types = ap (λ (n : Node). n.table) start in
    let types-are : slots ≡ c.start.types = sym (ap (λ (n : Node). n.types) start) in
    let values-are : m.starts ≡ c.start.values = sym (ap (λ (n : Node). n.values) start) in
    record {
      matches = record {
        name = name;
        types = table-is;
        variables = subst (AreTypesOf m.instance.types (variable_fields m.instance.automaton)) types-are types;
        entries = entries_match m slots es c.entries h types (λ i e k. record { place = i; here = k }) entries;
      };
      like = record {
        kinds = λ a. kinds_same m slots a es _ _ (finds_same m slots a c.start.table table-is es c.entries entries);
        guards = λ a env vs local r. guards m slots c h table-is types entries a env vs local r;
        effects = λ a env vs has r. effects m slots c h table-is types entries a env vs r;
      };
      start = subst (Corresponds m.instance (state_of m.instance.automaton m.starts)) values-are (record { values = λ x. refl; typed = h.starts });
      sound = is_member m c h table-is name (subst (AreTypesOf m.instance.types (variable_fields m.instance.automaton)) types-are types)
          (subst (λ (n : Node). HaveTypes m.instance.types n.values n.types) (sym start) (fit_have m.instance.types (variable_fields m.instance.automaton) m.starts slots h.starts types))
          (subst (λ l. AllZip (IsTranslated m l) es c.entries) types-are entries);
    }

-- the members from place i on
abbrev From : List Member → ℕ → List Member → Type 0
From all i ms = (k : ℕ) (m : Member) → slice_get ms k ≡ Some m → slice_get all (i + k) ≡ Some m

from_next : (all : List Member) (i : ℕ) (m : Member) (ms : List Member) → From all i (m ∷ ms) → From all (i + 1) ms
from_next all i m ms h k n e = let same : i + suc k ≡ i + 1 + k = omega arith in ap (slice_get all) (sym same) ∙ h (suc k) n e

from_here : (all : List Member) (i : ℕ) (m : Member) (ms : List Member) → From all i (m ∷ ms) → slice_get all i ≡ Some m
from_here all i m ms h = let same : i ≡ i + 0 = omega arith in ap (slice_get all) same ∙ h 0 m refl

pub all_like : (all : List Member) (i : ℕ) (ms : List Member) (cs : List MemberCode) → From all i ms → AllZip DoesSame ms cs → AllLike (CorrespondsAt all) i (map (λ m. component_of m.instance) ms) (map table_component cs)
all_like all i [] [] f h = tt
all_like all i [] (c ∷ cs) f h = absurd h
all_like all i (m ∷ ms) [] f h = absurd h
all_like all i (m ∷ ms) (c ∷ cs) f h = (
  subst (λ o. IsLike (CorrespondsIn o) (component_of m.instance) (table_component c)) (sym (from_here all i m ms f)) h.0.like,
  all_like all (i + 1) ms cs (from_next all i m ms f) h.1,
)

pub all_match : (ms : List Member) (cs : List MemberCode) → AllZip DoesSame ms cs → AllZip MatchesMember ms cs
all_match [] [] h = tt
all_match [] (c ∷ cs) h = absurd h
all_match (m ∷ ms) [] h = absurd h
all_match (m ∷ ms) (c ∷ cs) h = (h.0.matches, all_match ms cs h.1)

pub all_related : (all : List Member) (i : ℕ) (ms : List Member) (cs : List MemberCode) → From all i ms → AllZip DoesSame ms cs → AllRelated (CorrespondsAt all) i (map (λ m. state_of m.instance.automaton m.starts) ms) (map (λ c. c.start.values) cs)
all_related all i [] [] f h = tt
all_related all i [] (c ∷ cs) f h = absurd h
all_related all i (m ∷ ms) [] f h = absurd h
all_related all i (m ∷ ms) (c ∷ cs) f h = (
  subst (λ o. CorrespondsIn o (state_of m.instance.automaton m.starts) c.start.values) (sym (from_here all i m ms f)) h.0.start,
  all_related all (i + 1) ms cs (from_next all i m ms f) h.1,
)

pub from_all : (ms : List Member) → From ms 0 ms
from_all ms k m e = let same : 0 + k ≡ k = omega arith in ap (slice_get ms) same ∙ e
