use Rattle.std.proofs.Common.{◌≡◌, ap, ◌∙◌, codes, rules}
use Rattle.clap.specs.Words.{App, app_of, new_app, with_rule}
use Rattle.clap.specs.Simple.{app_of_fields}
use Rattle.ioa_request.specs.CommandLine.{IsLocal, explain_rule, file_rule}
use Rattle.ioa_request.proofs.request.dump_command.Goals as goal

pub returns-clause-app : goal.returns-clause-app
returns-clause-app c =
    let bare : app_of c.after_help-command.result ≡ new_app (codes "dump") = ap app_of_fields c.after_help-command.ensures ∙ ap app_of_fields c.about.ensures ∙ c.new.ensures.app in
    let none : App = new_app (codes "dump") in
    let has_one : App = with_rule none file_rule in
    let one = c.taking-command.ensures.app none file_rule bare c.object_argument.ensures.local c.object_argument.ensures.rule in
    c.taking.ensures.app has_one explain_rule one c.explain_flag.ensures.local c.explain_flag.ensures.rule

pub returns-clause-local : goal.returns-clause-local
returns-clause-local c =
    let bare : IsLocal c.after_help-command.result = search rules in
    let one = c.taking-command.ensures.local bare c.object_argument.ensures.local in
    c.taking.ensures.local one c.explain_flag.ensures.local
