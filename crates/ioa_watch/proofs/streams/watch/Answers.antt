use Rattle.std.proofs.Common.{◌≡◌, ◌+◌, ◌-◌, ◌<◌, ◌++◌, ◌∷◌, [], inl, inr, ℕ, List, Err, Ok, length, take, refl, sym, ap, subst, string_bytes, ◌∙◌, arith, length-append}
use Rattle.std.specs.Io.KnownBytes.{Appends}
use Rattle.std.proofs.KnownBytes.{Appends-nil, Appends-trans}
use Rattle.std.proofs.lemmas.Bool.{false≢true}
use Rattle.std.proofs.lemmas.Result.{err_from_is_err_and}
use Rattle.ioa_value.specs.Table.{Table}
use Rattle.ioa_compile.specs.Programs.{Prog}
use Rattle.ioa_device.specs.declared.failure.LogErr.{LogErr}
use Rattle.ioa_device.specs.Devices.{change}
use Rattle.ioa_device.specs.LineReading.{rest}
use Rattle.ioa_device.proofs.Devices.{first_fails, handed_on}
use Rattle.ioa_device.proofs.LineReading.{length_rest, line_taken, nothing_taken}
use Rattle.ioa_watch.specs.Streaming.{HasCome, HaveHeard}
use Rattle.ioa_watch.specs.Streams.{IsNoLine, IsNotJson, known_by, told}
use Rattle.ioa_watch.proofs.Failing.{failed_before, failed_behind, failed_last, failed_line, failed_within, watched_over, watched_whole}
use Rattle.ioa_watch.proofs.HeardUpTo.{over_of}
use Rattle.ioa_watch.proofs.streams.watch.Goals as goal

pub returns-in_err-lines-clause-refused : goal.returns-in_err-lines-clause-refused
returns-in_err-lines-clause-refused g c =
    let same = err_from_is_err_and c.from_residual.result c.from_residual.ensures.1 in
    rw (same.1, same.2) (failed_before c.args.json c.args.types.now c.args.programs.now c.args.first (g.W.Write.contents c.args.output.now) (g.R.Read.remaining c.args.input.now) LogErr.OutOfMemory (inr refl))

pub returns-in_err-stream-clause-refused : goal.returns-in_err-stream-clause-refused
returns-in_err-stream-clause-refused g c =
    let same = err_from_is_err_and c.from_residual-in_err-stream.result c.from_residual-in_err-stream.ensures.1 in
    rw (same.1, same.2) (failed_before c.args.json c.args.types.now c.args.programs.now c.args.first (g.W.Write.contents c.args.output.now) (g.R.Read.remaining c.args.input.now) LogErr.OutOfMemory (inr refl))

pub loop-turn-init : goal.loop-turn-init
loop-turn-init g c = record {
  within = c.in_ok-lines.ensures.within;
  over = λ e. absurd (false≢true (sym c.in_ok-lines.ensures.going ∙ e));
  read = refl;
  wrote = refl;
  counted = let z : length (rest c.in_ok-lines.lines) ≡ 0 = ap length c.in_ok-lines.ensures.none in omega (arith, z);
  come = (
    [],
    [],
    c.in_ok-stream.ensures,
    refl,
    nothing_taken (g.R.Read.remaining c.args.input.now) c.in_ok-lines.lines c.in_ok-lines.ensures.none,
    Appends-nil (g.W.Write.contents c.args.output.now),
  );
}

pub returns-then-is_over-clause-ok : goal.returns-then-is_over-clause-ok
returns-then-is_over-clause-ok g c =
    let ps : List Prog = c.args.programs.now in
    let k = c.loop-turn.invariant.come in
    watched_over c.args.json c.args.types.now ps c.args.first (g.W.Write.contents c.args.output.now) k.0 k.1 k.2.came (g.R.Read.remaining c.args.input.now) _ k.4
    (g.W.Write.contents c.loop-turn.output) (λ xs. HaveHeard ps xs c.loop-turn.stream.watchers.items)
    (over_of c.args.json c.args.types.now ps c.args.first k.0 k.1 c.loop-turn.stream c.is_over.result k.2 c.is_over.ensures ∙ c.if-is_over.true) k.5 k.2.heard

pub returns-in_err-has_more-clause-refused : goal.returns-in_err-has_more-clause-refused
returns-in_err-has_more-clause-refused g c =
    let k = c.loop-turn.invariant.come in
    let error : LogErr = c.in_err-has_more.field-0.0 in
    let same = err_from_is_err_and c.from_residual-in_err-has_more.result c.from_residual-in_err-has_more.ensures.1 in
    rw (same.1, same.2) (failed_behind c.args.json c.args.types.now c.args.programs.now c.args.first (g.W.Write.contents c.args.output.now) k.0 k.1 k.2.came (g.R.Read.remaining c.args.input.now) _ k.4
    (g.W.Write.contents c.loop-turn.output) error (inl c.in_err-has_more.ensures.only) k.5)

pub blamed-requires : goal.blamed-requires
blamed-requires g c = λ e. omega (arith, c.loop-turn.invariant.counted)

pub returns-in_err-write_accepted-clause-refused : goal.returns-in_err-write_accepted-clause-refused
returns-in_err-write_accepted-clause-refused g c =
    let types : Table = c.args.types.now in
    let ps : List Prog = c.args.programs.now in
    let k = c.loop-turn.invariant.come in
    let error : LogErr = c.in_err-write_accepted.field-0.0 in
    let same = err_from_is_err_and c.from_residual-in_err-write_accepted.result c.from_residual-in_err-write_accepted.ensures.1 in
    rw (same.1, same.2) (failed_last c.args.json types ps c.args.first (g.W.Write.contents c.args.output.now) k.0 k.1 k.2.came (g.R.Read.remaining c.args.input.now) _ k.4
    (g.W.Write.contents c.loop-turn.output) _ (g.W.Write.contents c.write_accepted.new.output) error c.in_err-write_accepted.ensures.only
    (over_of c.args.json types ps c.args.first k.0 k.1 c.loop-turn.stream c.is_over.result k.2 c.is_over.ensures ∙ c.if-is_over.false)
    (c.in_ok-has_more.ensures.none (ap Ok c.if-not-branch.true)) k.5
    (c.in_err-write_accepted.ensures.begun ps k.1 (subst (HaveHeard ps k.1) (sym c.deref.ensures.value) k.2.heard)))

pub returns-then-not-branch-clause-ok : goal.returns-then-not-branch-clause-ok
returns-then-not-branch-clause-ok g c =
    let types : Table = c.args.types.now in
    let ps : List Prog = c.args.programs.now in
    let k = c.loop-turn.invariant.come in
    watched_whole c.args.json types ps c.args.first (g.W.Write.contents c.args.output.now) k.0 k.1 k.2.came (g.R.Read.remaining c.args.input.now) _ k.4
    (g.W.Write.contents c.loop-turn.output) (g.W.Write.contents c.write_accepted.new.output) _ (λ xs. HaveHeard ps xs c.loop-turn.stream.watchers.items)
    (over_of c.args.json types ps c.args.first k.0 k.1 c.loop-turn.stream c.is_over.result k.2 c.is_over.ensures ∙ c.if-is_over.false)
    (c.in_ok-has_more.ensures.none (ap Ok c.if-not-branch.true)) k.5
    (c.in_ok-write_accepted.ensures.ok ps k.1 (subst (HaveHeard ps k.1) (sym c.deref.ensures.value) k.2.heard)) k.2.heard

pub returns-in_err-next-clause-refused : goal.returns-in_err-next-clause-refused
returns-in_err-next-clause-refused g c =
    let k = c.loop-turn.invariant.come in
    let error : LogErr = c.in_err-next.field-0.0 in
    let same = err_from_is_err_and c.from_residual-in_err-next.result c.from_residual-in_err-next.ensures.1 in
    rw (same.1, same.2) (failed_behind c.args.json c.args.types.now c.args.programs.now c.args.first (g.W.Write.contents c.args.output.now) k.0 k.1 k.2.came (g.R.Read.remaining c.args.input.now) _ k.4
    (g.W.Write.contents c.loop-turn.output) error c.in_err-next.ensures.only k.5)

pub returns-in_err-next-clause-devices : goal.returns-in_err-next-clause-devices
returns-in_err-next-clause-devices g c =
    let read = change g.R.Read.remaining g.R.Device.failure_count c.args.input.now c.next.new.input in
    let wrote = change g.W.Write.contents g.W.Device.failure_count c.args.output.now c.loop-turn.output in
    let same = err_from_is_err_and c.from_residual-in_err-next.result c.from_residual-in_err-next.ensures.1 in
    first_fails _ read wrote
    (handed_on g.R.Read.remaining g.R.Device.failure_count c.args.input.now c.has_more.new.input c.next.new.input c.in_err-next.field-0.0 same.0 LogErr.Io c.from_residual-in_err-next.result
    same.1 same.2 (omega (arith, c.in_ok-has_more.ensures.devices.passed (λ e. absurd (cc)), c.loop-turn.invariant.read)) c.in_err-next.ensures.devices)
    c.loop-turn.invariant.wrote

pub take_line-requires : goal.take_line-requires
take_line-requires g c =
    let k = c.loop-turn.invariant.come in
    (c.args.json, c.args.types.now, c.args.programs.now, c.args.first, k.0, k.1, k.2, omega (arith, k.3, c.loop-turn-test.true))

pub returns-in_err-news-clause-refused : goal.returns-in_err-news-clause-refused
returns-in_err-news-clause-refused g c =
    let types : Table = c.args.types.now in
    let ps : List Prog = c.args.programs.now in
    let k = c.loop-turn.invariant.come in
    let error : LogErr = c.in_err-news.field-0.0 in
    let same = err_from_is_err_and c.from_residual-in_err-news.result c.from_residual-in_err-news.ensures.1 in
    let line : List ℕ = c.next.new.self.line.items in
    let n : c.loop-turn.turn + 1 ≡ length k.0 + 1 = ap (λ (m : ℕ). m + 1) (sym k.3) in
    rw (same.1, same.2) (failed_line c.args.json types ps c.args.first (g.W.Write.contents c.args.output.now) k.0 k.1 k.2.came (g.R.Read.remaining c.args.input.now) _ k.4
    _ _ (g.W.Write.contents c.loop-turn.output) line (c.loop-turn.turn + 1) error
    (over_of c.args.json types ps c.args.first k.0 k.1 c.loop-turn.stream c.is_over.result k.2 c.is_over.ensures ∙ c.if-is_over.false) n c.in_err-news.ensures.only
    (c.in_ok-has_more.ensures.some (ap Ok c.if-not-branch.false)) c.in_ok-next.ensures.line k.5
    (λ m e. let w = c.in_err-news.ensures.not_json m (let x : error ≡ LogErr.NotJson m = cc in ap Err x) in (w.0, subst IsNotJson c.deref-in-loop-turn.ensures.value w.1))
    (λ m e. let w = c.in_err-news.ensures.bad m (let x : error ≡ LogErr.BadEntry m = cc in ap Err x) c.args.json types ps c.args.first k.0 k.1 k.2 in (w.0, subst (IsNoLine types (known_by ps)) c.deref-in-loop-turn.ensures.value w.1)))

pub returns-in_err-send_all-clause-refused : goal.returns-in_err-send_all-clause-refused
returns-in_err-send_all-clause-refused g c =
    let types : Table = c.args.types.now in
    let ps : List Prog = c.args.programs.now in
    let k = c.loop-turn.invariant.come in
    let line : List ℕ = c.next.new.self.line.items in
    let same = err_from_is_err_and c.from_residual-in_err-send_all.result c.from_residual-in_err-send_all.ensures.1 in
    let io : c.in_err-send_all.field-0.0 ≡ LogErr.Io = c.in_err-send_all.ensures.io.0 in
    let begun = c.in_err-send_all.ensures.begun in
    let t = c.in_ok-news.ensures.ok c.args.json types ps c.args.first k.0 k.1 k.2 (over_of c.args.json types ps c.args.first k.0 k.1 c.loop-turn.stream c.is_over.result k.2 c.is_over.ensures ∙ c.if-is_over.false) in
    let come = subst (λ (l : List ℕ). HasCome c.args.json types ps c.args.first (k.0 ++ l ∷ []) (k.1 ++ t.more) c.take_line.new.self) c.deref-in-loop-turn.ensures.value t.come in
    let taken = line_taken (g.R.Read.remaining c.args.input.now) _ _ _ k.0 line k.4 (c.in_ok-has_more.ensures.some (ap Ok c.if-not-branch.false)) c.in_ok-next.ensures.line in
    rw (same.1, same.2, io) (failed_within c.args.json types ps c.args.first (g.W.Write.contents c.args.output.now) (k.0 ++ line ∷ []) (k.1 ++ t.more) come.came (g.R.Read.remaining c.args.input.now) _ taken
    (g.W.Write.contents c.loop-turn.output) (g.W.Write.contents c.send_all.new.output) (told c.args.json ps k.1) (string_bytes c.in_ok-news.news) LogErr.Io (inl refl) t.news_are k.5
    (begun.0, subst (λ xs. Appends (g.W.Write.contents c.loop-turn.output) (g.W.Write.contents c.send_all.new.output) (take begun.0 xs)) c.as_bytes.ensures.value begun.1))

pub loop-turn-preserved : goal.loop-turn-preserved
loop-turn-preserved g c =
    let types : Table = c.args.types.now in
    let ps : List Prog = c.args.programs.now in
    let k = c.loop-turn.invariant.come in
    let line : List ℕ = c.next.new.self.line.items in
    let t = c.in_ok-news.ensures.ok c.args.json types ps c.args.first k.0 k.1 k.2 (over_of c.args.json types ps c.args.first k.0 k.1 c.loop-turn.stream c.is_over.result k.2 c.is_over.ensures ∙ c.if-is_over.false) in
    let come = subst (λ (l : List ℕ). HasCome c.args.json types ps c.args.first (k.0 ++ l ∷ []) (k.1 ++ t.more) c.take_line.new.self) c.deref-in-loop-turn.ensures.value t.come in
    let old = g.W.Write.contents c.args.output.now in
    let mid = g.W.Write.contents c.loop-turn.output in
    let new = g.W.Write.contents c.send_all.new.output in
    let written : Appends mid new (string_bytes c.in_ok-news.news) = subst (Appends mid new) c.as_bytes.ensures.value c.in_ok-send_all.ensures.ok in
    record {
      within = c.in_ok-next.ensures.within;
      over = c.in_ok-next.ensures.over;
      read = c.in_ok-next.ensures.devices.passed (λ e. absurd (cc)) ∙ (c.in_ok-has_more.ensures.devices.passed (λ e. absurd (cc)) ∙ c.loop-turn.invariant.read);
      wrote = c.in_ok-send_all.ensures.passed ∙ c.loop-turn.invariant.wrote;
      counted =
          let room : c.has_more.new.self.start < c.has_more.new.self.end = c.in_ok-has_more.ensures.room (ap Ok c.if-not-branch.false) in
          let long : length (rest c.has_more.new.self) ≡ c.has_more.new.self.end - c.has_more.new.self.start = length_rest c.has_more.new.self c.in_ok-has_more.ensures.within.0 in
          c.in_ok-next.ensures.counted c.loop-turn.turn (c.in_ok-has_more.ensures.counted c.loop-turn.turn c.loop-turn.invariant.counted) (omega (arith, long, room));
      come = (
        k.0 ++ line ∷ [],
        k.1 ++ t.more,
        come,
        length-append k.0 (line ∷ []) ∙ ap (λ (m : ℕ). m + 1) k.3,
        line_taken (g.R.Read.remaining c.args.input.now) _ _ _ k.0 line k.4 (c.in_ok-has_more.ensures.some (ap Ok c.if-not-branch.false)) c.in_ok-next.ensures.line,
        subst (Appends old new) (sym t.news_are) (Appends-trans old mid new (told c.args.json ps k.1) (string_bytes c.in_ok-news.news) k.5 written),
      );
    }

pub returns-clause-refused : goal.returns-clause-refused
returns-clause-refused g c =
    let k = c.loop-turn.invariant.come in
    failed_behind c.args.json c.args.types.now c.args.programs.now c.args.first (g.W.Write.contents c.args.output.now) k.0 k.1 k.2.came (g.R.Read.remaining c.args.input.now) _ k.4
    (g.W.Write.contents c.loop-turn.output) c.blamed.result (inl c.blamed.ensures.same) k.5
