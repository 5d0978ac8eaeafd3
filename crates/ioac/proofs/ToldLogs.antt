-- What was heard of standard input, and what is told of it.
use Rattle.std.proofs.Common.{◌≡◌, List, ℕ, Option, Some, None, refl, subst, inr}
use Rattle.std.specs.Prelude.{IfSome}
use Rattle.ioa_value.specs.Table.{Table}
use Rattle.ioa_system.specs.declared.log.Log.{Log}
use Rattle.ioa_system.specs.Logs.{Logged, logged}
use Rattle.ioa_log.specs.Begun.{IsBegun, IsUnbegun}
use Rattle.ioa_log.specs.LogTexts.{ReadsLog}
use Rattle.ioa_account.specs.declared.remarks.Told.{Told}
use Rattle.ioac.specs.Remarks.{IsNoLog, OfBegun, OfLog}

-- the log was read with the composition's own types
pub heard_so : (t : Told) (types : Table) (o : Option Log) (log : Log) → types ≡ t.composition.now.types → o ≡ Some log → IfSome o (λ l. ReadsLog types t.input.now (logged l))
    → ReadsLog t.composition.now.types t.input.now (logged log)
heard_so t types o log same is reads = subst (λ ts. ReadsLog ts t.input.now (logged log)) same (subst (λ x. IfSome x (λ l. ReadsLog types t.input.now (logged l))) is reads)

-- none was
pub none_heard : (t : Told) (types : Table) (o : Option Log) (tells : Logged → List ℕ → List ℕ → Type 0) (before : List ℕ) → types ≡ t.composition.now.types → o ≡ None
    → (o ≡ None → IsNoLog types t.input.now) → OfLog t tells before before
none_heard t types o tells before same none no_log = inr (subst (λ ts. IsNoLog ts t.input.now) same (no_log none), refl)

-- ---- the same of its first lines

pub begun_so : (t : Told) (n : ℕ) (types : Table) (o : Option Log) (log : Log) → types ≡ t.composition.now.types → o ≡ Some log
    → IfSome o (λ l. IsBegun types t.input.now n (logged l)) → IsBegun t.composition.now.types t.input.now n (logged log)
begun_so t n types o log same is begins =
    subst (λ ts. IsBegun ts t.input.now n (logged log)) same (subst (λ x. IfSome x (λ l. IsBegun types t.input.now n (logged l))) is begins)

pub none_begun : (t : Told) (n : ℕ) (types : Table) (o : Option Log) (tells : Logged → List ℕ → List ℕ → Type 0) (before : List ℕ) → types ≡ t.composition.now.types → o ≡ None
    → (o ≡ None → IsUnbegun types t.input.now n) → OfBegun t n tells before before
none_begun t n types o tells before same none not_so = inr (subst (λ ts. IsUnbegun ts t.input.now n) same (not_so none), refl)
