-- What is taken of standard input: which requests take it, and the text that stands in its place.
use Rattle.std.proofs.Common.{◌≡◌, ◌⊎◌, ℕ, Bool, true, false, if◌then◌else◌, List, Option, Some, None, Err, inl, inr, refl, sym, ap, ◌∙◌, arith, codes}
use Rattle.std.specs.Result.{IsErrOf}
use Rattle.std.specs.Borrow.{Bor}
use Rattle.clap.specs.Words.{Row, Text}
use Rattle.ioa_device.specs.Devices.{change}
use Rattle.ioa_device.specs.declared.failure.LogErr.{LogErr}
use Rattle.ioa_device.specs.Failing.{FailedOnceAtMost}
use Rattle.ioa_request.specs.declared.cut.Cut.{Cut}
use Rattle.ioa_request.specs.declared.request.Request.{Request}
use Rattle.ioa_request.specs.CommandLine.{IsAskedBy}
use Rattle.ioa_request.specs.Cuts.{cut_in, cut_of, is_performed}
use Rattle.ioa_serving.specs.declared.at_hand.AtHand.{AtHand}
use Rattle.ioa_serving.specs.declared.failure.Failure.{Failure}
use Rattle.ioa_serving.specs.declared.status.Status.{Status}
use Rattle.ioa_serving.specs.AtHand.{failures_of}
use Rattle.ioa_serving.specs.Serving.{IsReading}
use Rattle.ioa_serving.specs.Statuses.{failure_status}
use Rattle.ioac.specs.Commands.{IsTakingErr, at_hand}

-- a subcommand that performs no actions takes no beginning of standard input
not_performed : (found : Text × List Row) (name : Text) (cut : Cut) → found.0 ≡ name → is_performed name ≡ false → cut_of (Some found) ≡ Some cut → ⊥
not_performed found name cut is other e =
    let none : cut_of (Some found) ≡ None = ap (λ (b : Bool). if b then cut_in found.1 else None) (ap is_performed is ∙ other) in cc

-- what takes one reads standard input
cut_reads : (rows : Option (Text × List Row)) (cut : Cut) (asked : Request) → cut_of rows ≡ Some cut → IsAskedBy rows asked → IsReading asked
cut_reads None cut asked e h = absurd h
cut_reads (Some found) cut (Request.Replay file composition json) e h = tt
cut_reads (Some found) cut (Request.ReplayStates file composition shown) e h = tt
cut_reads (Some found) cut (Request.ReplayLog file composition json) e h = tt
cut_reads (Some found) cut (Request.ReplayLogStates file composition shown) e h = tt
cut_reads (Some found) cut (Request.ReplayInvariants file composition json) e h = tt
cut_reads (Some found) cut (Request.ReplayCoverage file composition log json) e h = tt
cut_reads (Some found) cut (Request.Log file composition) e h = tt
cut_reads (Some found) cut (Request.LogByLog file composition) e h = tt
cut_reads (Some found) cut (Request.Monitor file composition) e h = tt
cut_reads (Some found) cut (Request.MonitorJson file composition) e h = tt
cut_reads (Some found) cut (Request.StrictMonitor file composition json) e h = tt
cut_reads (Some found) cut (Request.Watch file compositions first counts json) e h = tt
cut_reads (Some found) cut (Request.Chart file composition selection) e h = tt
cut_reads (Some found) cut (Request.Graph file composition) e h = not_performed found (codes "graph") cut h.0 refl e
cut_reads (Some found) cut (Request.Run s) e h = not_performed found (codes "run") cut h.0 refl e
cut_reads (Some found) cut (Request.Seeds s) e h = not_performed found (codes "run") cut h.0 refl e
cut_reads (Some found) cut (Request.Check file compositions) e h = not_performed found (codes "check") cut h.0 refl e
cut_reads (Some found) cut (Request.Compile file out composition) e h = not_performed found (codes "compile") cut h.0 refl e
cut_reads (Some found) cut (Request.Dump file) e h = not_performed found (codes "dump") cut h.0 refl e
cut_reads (Some found) cut (Request.Explain topic) e h = not_performed found (codes "explain") cut h.0 refl e
cut_reads (Some found) cut Request.Library e h = not_performed found (codes "library") cut h refl e

pub uncut : (rows : Option (Text × List Row)) (cut : Option Cut) (asked : Request) → cut ≡ cut_of rows → IsAskedBy rows asked → (IsReading asked → ⊥) → cut ≡ None
uncut rows cut asked is h quiet = by cut refl
  where
    by : (o : Option Cut) → cut ≡ o → cut ≡ None
    by None e = e
    by (Some k) e = absurd (quiet (cut_reads rows k asked (sym is ∙ e) h))

-- a reader of a text in memory that was new is not worn out
unworn : (b : Bool) → FailedOnceAtMost 0 (failures_of b) → b ≡ false
unworn false l = refl
unworn true l = absurd (omega (arith, l))

pub held : (text : List ℕ) (rest : Bor (List ℕ)) (old new : AtHand) → old ≡ record { rest = rest; worn = false } → rest.now ≡ text
    → FailedOnceAtMost (failures_of old.worn) (failures_of new.worn)
    → change (λ h. Some h.rest.now) (λ h. failures_of h.worn) old new ≡ at_hand text (Some new.rest.now)
held text rest old new is all once =
    let fresh : old.worn ≡ false = ap (λ (h : AtHand). h.worn) is in
    let first : old.rest.now ≡ text = ap (λ (h : AtHand). h.rest.now) is ∙ all in
    let last : new.worn ≡ false = unworn new.worn (rw fresh at once) in
    rw (fresh, first, last) refl

-- what keeps a beginning from being taken has the status of what is broken
pub untaken_status : (failed : Type 0) (e : LogErr) → IsTakingErr failed e → failure_status (Failure.List e) ≡ Status.Unable
untaken_status failed e (inl io) = ap (λ (x : LogErr). failure_status (Failure.List x)) io.0
untaken_status failed e (inr short) = ap (λ (x : LogErr). failure_status (Failure.List x)) short

-- it is one of these
pub taking : (failed : Type 0) (e : LogErr) {T : Type 0} → (e ≡ LogErr.Io) ⊎ (e ≡ LogErr.OutOfMemory) → (IsErrOf {T = T} (Err e) LogErr.Io → failed) → IsTakingErr failed e
taking failed e (inl is) io = inl (is, io (ap Err is))
taking failed e (inr is) io = inr is
