use Rattle.std.proofs.Common.{◌≡◌, ◌∙◌, ap, length, map, refl, subst, sym}
use Rattle.std.proofs.lemmas.List.{length-map}
use Rattle.std.proofs.lemmas.Result.{err_from_is_err_and}
use Rattle.ioa_compile.specs.Programs.{Prog}
use Rattle.ioa_compile.specs.Shown.{member_code}
use Rattle.ioa_value.specs.Actions.{act_of}
use Rattle.ioa_compile.specs.Subjects.{its_names, its_types}
use Rattle.ioa_compile.proofs.Subjects.{does_as}
use Rattle.ioa_system.specs.Logs.{logged}
use Rattle.ioa_serving.specs.Alone.{AreSources}
use Rattle.ioa_serving.proofs.Hosted.{count_same}
use Rattle.ioa_serving.proofs.Refused.{err_so}
use Rattle.ioa_serving.proofs.Unrun.{has_log, has_script, has_words, logless, scriptless, wordless}
use Rattle.ioa_serving.proofs.ready.ready_with.Goals as goal

pub returns-in_err-words-clause-refused : goal.returns-in_err-words-clause-refused
returns-in_err-words-clause-refused g c =
    let e = err_from_is_err_and c.from_residual.result c.from_residual.ensures.1 in
    let p : Prog = c.args.sourced.program in
    let count : length c.members-components.result.now ≡ length p.members = sym (length-map c.members-components.result.now member_code) ∙ ap length c.members-components.ensures.value in
    err_so c.from_residual.result e.0 _ _ e.1 e.2
    (λ x gives runs.
    wordless (g.F.Store.holds c.args.store.now) (g.F.Store.lacks c.args.store.now) c.args.settings.now x (length c.members-components.result.now) c.in_err-words.field-0.0 gives
    (count ∙ count_same p x runs) c.in_err-words.ensures.refused)

pub returns-in_err-script-clause-refused : goal.returns-in_err-script-clause-refused
returns-in_err-script-clause-refused g c =
    let e = err_from_is_err_and c.from_residual-in_err-script.result c.from_residual-in_err-script.ensures.1 in
    let p : Prog = c.args.sourced.program in
    let count : length c.members-components.result.now ≡ length p.members = sym (length-map c.members-components.result.now member_code) ∙ ap length c.members-components.ensures.value in
    err_so c.from_residual-in_err-script.result e.0 _ _ e.1 e.2
    (λ x gives runs.
    let words = has_words (g.F.Store.holds c.args.store.now) (g.F.Store.lacks c.args.store.now) c.args.settings.now.words (length c.members-components.result.now) (length (its_names x)) c.in_ok-words.words
    (count ∙ count_same p x runs) c.in_ok-words.ensures.words in
    scriptless (g.F.Store.holds c.args.store.now) (g.F.Store.lacks c.args.store.now)
    c.args.settings.now x c.types.result.now c.in_err-script.field-0.0 gives words (c.types.ensures.value ∙ (does_as p x runs).types)
    c.in_err-script.ensures.refused)

pub returns-in_err-log-clause-refused : goal.returns-in_err-log-clause-refused
returns-in_err-log-clause-refused g c =
    let e = err_from_is_err_and c.from_residual-in_err-log.result c.from_residual-in_err-log.ensures.1 in
    let p : Prog = c.args.sourced.program in
    let count : length c.members-components.result.now ≡ length p.members = sym (length-map c.members-components.result.now member_code) ∙ ap length c.members-components.ensures.value in
    err_so c.from_residual-in_err-log.result e.0 _ _ e.1 e.2
    (λ x gives runs.
    let words = has_words (g.F.Store.holds c.args.store.now) (g.F.Store.lacks c.args.store.now) c.args.settings.now.words (length c.members-components.result.now) (length (its_names x)) c.in_ok-words.words
    (count ∙ count_same p x runs) c.in_ok-words.ensures.words in
    let script = has_script (g.F.Store.holds c.args.store.now) (g.F.Store.lacks c.args.store.now)
    (its_types x) c.types.result.now _ (map act_of c.in_ok-script.script.items) (c.types.ensures.value ∙ (does_as p x runs).types) c.in_ok-script.ensures.script in
    logless (g.F.Store.holds c.args.store.now) (g.F.Store.lacks c.args.store.now)
    c.args.settings.now x c.types-2.result.now c.in_err-log.field-0.0 gives words (c.types-2.ensures.value ∙ (does_as p x runs).types)
    (map act_of c.in_ok-script.script.items, script) c.in_err-log.ensures.refused)

pub returns-clause-ready : goal.returns-clause-ready
returns-clause-ready g c = λ x gives runs declares.
    let p : Prog = c.args.sourced.program in
    let count : length c.members-components.result.now ≡ length p.members = sym (length-map c.members-components.result.now member_code) ∙ ap length c.members-components.ensures.value in
    let words = has_words (g.F.Store.holds c.args.store.now) (g.F.Store.lacks c.args.store.now) c.args.settings.now.words (length c.members-components.result.now) (length (its_names x)) c.in_ok-words.words
    (count ∙ count_same p x runs) c.in_ok-words.ensures.words in
    let script = has_script (g.F.Store.holds c.args.store.now) (g.F.Store.lacks c.args.store.now)
    (its_types x) c.types.result.now _ (map act_of c.in_ok-script.script.items) (c.types.ensures.value ∙ (does_as p x runs).types) c.in_ok-script.ensures.script in
    let log = has_log (g.F.Store.holds c.args.store.now) (g.F.Store.lacks c.args.store.now)
    (its_types x) c.types-2.result.now _ (logged c.in_ok-log.log) (c.types-2.ensures.value ∙ (does_as p x runs).types) c.in_ok-log.ensures.from in (
      record {
        subject = x;
        ready = record { gives = gives; words = words; inputs = script; log = log };
        runs = runs;
        declares = declares;
        program = c.members-components.ensures.sound;
        words = subst (λ n. AreSources (g.F.Store.holds c.args.store.now) c.args.settings.now.words n c.in_ok-words.words) count c.in_ok-words.ensures.words;
      },
      refl,
    )
