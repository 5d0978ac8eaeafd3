-- What runs by many seeds are given, and why nothing is.
use Rattle.std.proofs.Common.{◌≡◌, ◌⊎◌, [], ◌∷◌, ℕ, Bool, List, None, Option, Some, false, true, ap, arith, inl, inr, length, refl, sym}
use Rattle.std.specs.Borrow.{Bor}
use Rattle.std.specs.List.{AllZip}
use Rattle.std.specs.Option.{option_copied}
use Rattle.std.specs.Prelude.{◌==◌}
use Rattle.std.proofs.lemmas.Bool.{eqb-true}
use Rattle.ioa_value.specs.Actions.{Name}
use Rattle.ioa_lex.specs.declared.refusal.Refusal.{Refusal}
use Rattle.ioa_lex.specs.declared.refusal.Refusal.TheVariants as refusals
use Rattle.ioa_tree.specs.Hosts.{Hosted}
use Rattle.ioa_tree.specs.Tree.{SourceTree}
use Rattle.ioa_tree.specs.WellFormed.{WellFormed}
use Rattle.ioa_compile.specs.Programs.{Prog}
use Rattle.ioa_compile.specs.Subjects.{Subject, of_composition, of_hosts, of_table}
use Rattle.ioa_coverage.specs.declared.origin.Origin.{Origin}
use Rattle.ioa_coverage.specs.Covered.{IsOriginOf}
use Rattle.ioa_request.specs.declared.seeds.Seeds.{Seeds}
use Rattle.ioa_serving.specs.declared.failure.Failure.{Failure}
use Rattle.ioa_serving.specs.Alone.{IsUnrun}
use Rattle.ioa_serving.specs.Failing.{IsRefusedGiven, IsRefusedNamed}
use Rattle.ioa_serving.specs.Headline.{Spells, begins_object}
use Rattle.ioa_request.specs.Pasted.{texts}
use Rattle.ioa_serving.specs.SeedRuns.{IsSpecification, StandsFor, asked}
use Rattle.ioa_serving.specs.Seeds.{IsUnmonitored, monitors_of}
use Rattle.ioa_serving.specs.Watching.{IsNoSource, IsUnwatched, Specifies}
use Rattle.ioa_serving.proofs.Refused.{declared}
use Rattle.ioa_serving.proofs.Unrun.{ungiven}

-- specifications of a checked source, said of its text
pub specified : (text : List ℕ) (s : SourceTree) (names : List Name) (ps : List Prog) → begins_object text ≡ false → Spells text s → WellFormed s
    → AllZip (Specifies s) names ps → AllZip (IsSpecification text) names ps
specified text s [] [] source found well h = tt
specified text s [] (p ∷ ps) source found well h = absurd h
specified text s (name ∷ names) [] source found well h = absurd h
specified text s (name ∷ names) (p ∷ ps) source found well h = (
  (h.0.hosts, (source, declared text (Some name) s s h.0.tree h.0.hosts found refl well h.0.picks h.0.is_hosted), h.0.seen, h.0.runs),
  specified text s names ps source found well h.1,
)

-- a composition that is refused
pub refused_given : (text : List ℕ) (name : Option Name) (s : SourceTree) (r : Refusal) → begins_object text ≡ false → Spells text s → WellFormed s
    → (r ≡ refusals.OutOfMemory) ⊎ IsRefusedNamed s name r → IsRefusedGiven text name (Failure.Refused r)
refused_given text name s r source found well (inl k) = inl (source, inl k)
refused_given text name s r source found well (inr k) = inl (source, inr (inr (inr (s, found, well, k))))

-- a text that is no source
pub no_source_given : (text : List ℕ) (name : Option Name) (r : Refusal) → begins_object text ≡ false → IsNoSource text r → IsRefusedGiven text name (Failure.Refused r)
no_source_given text name r source (inl k) = inl (source, inl k)
no_source_given text name r source (inr (inl k)) = inl (source, inr (inl k))
no_source_given text name r source (inr (inr k)) = inl (source, inr (inr (inl k)))

-- what is refused since names are asked is refused since something is
pub since_asked : {A B N I : Type 0} → A ⊎ ((N → ⊥) × B) → A ⊎ ((N × I → ⊥) × B)
since_asked (inl k) = inl k
since_asked (inr k) = inr (λ h. k.0 h.0, k.1)

-- nothing is run
pub unprogrammed : (holds : Name → List ℕ → Type 0) (lacks : Name → Type 0) (s : Seeds) (text : List ℕ) (e : Failure) → holds s.run.file.now text
    → IsRefusedGiven text (option_copied s.run.composition) e ⊎ (((monitors_of s ≡ []) × (s.invariants ≡ false) → ⊥) × IsUnwatched text (monitors_of s) e)
    → IsUnrun holds lacks s.run e ⊎ IsUnmonitored holds s e
unprogrammed holds lacks s text e held (inl k) = inl (ungiven holds lacks s.run text e held k)
unprogrammed holds lacks s text e held (inr k) = inr (k.0, (text, held, k.1))

-- no specification is named
pub none_named : (xs : List (Bor Name)) → (length xs == 0) ≡ true → texts xs ≡ []
none_named [] e = refl
none_named (x ∷ xs) e = let z : length (x ∷ xs) ≡ 0 = eqb-true (length (x ∷ xs)) 0 e in absurd (omega (arith, z))

pub unnamed : (xs : List (Bor Name)) → texts xs ≡ [] → (length xs == 0) ≡ true
unnamed [] e = refl
unnamed (x ∷ xs) e = absurd (cc)

-- where there are no names, there are no specifications
pub none_specified : {P : Type 0} (Q : Name → P → Type 0) (xs : List (Bor Name)) → (length xs == 0) ≡ true → AllZip Q (texts xs) []
none_specified Q [] e = tt
none_specified Q (x ∷ xs) e = let z : length (x ∷ xs) ≡ 0 = eqb-true (length (x ∷ xs)) 0 e in absurd (omega (arith, z))

-- ---- the composition whose invariants are asked

-- of an object none are
pub nothing_asked : (x : Subject) (b : Bool) → b ≡ false → StandsFor b x (asked b None)
nothing_asked x false e = refl
nothing_asked x true e = absurd (cc)

-- that of a source stands for the hosts that it declares
pub stands : (b : Bool) (h : Hosted) (o : Option Origin) → IsOriginOf o (of_hosts h) → StandsFor b (of_hosts h) (asked b o)
stands false h o k = refl
stands true h (Some x) k = k.1
stands true h None k = absurd k

-- so does any other that declares them
pub stands_too : (b : Bool) (x : Subject) (o u : Option Origin) → StandsFor b x (asked b o) → IsOriginOf u x → StandsFor b x (asked b u)
stands_too false x o u k of = refl
stands_too true (of_hosts h) o u k of = stands true h u of
stands_too true (of_composition c) o u k of = absurd k
stands_too true (of_table p) o u k of = absurd k

-- it is lent
pub lent_none : (b : Bool) (o : Option Origin) → b ≡ false → None ≡ asked b o
lent_none false o e = refl
lent_none true o e = absurd (cc)

pub lent_no_source : (b : Bool) (o : Option Origin) → o ≡ None → None ≡ asked b o
lent_no_source false o e = refl
lent_no_source true None e = refl
lent_no_source true (Some x) e = absurd (cc)

pub lent_some : (b : Bool) (o : Option Origin) (x : Origin) → b ≡ true → o ≡ Some x → Some x.composition ≡ asked b o
lent_some true o x e is = ap (asked true) (sym is)
lent_some false o x e is = absurd (cc)
