use Rattle.std.proofs.Common.{◌≡◌, ap, ◌∙◌, codes, rules}
use Rattle.clap.specs.Words.{App, app_of, new_app, with_rule}
use Rattle.clap.specs.Simple.{app_of_fields}
use Rattle.ioa_request.specs.CommandLine.{IsLocal, explain_rule, text_rule}
use Rattle.ioa_request.proofs.request.explain_command.Goals as goal

pub returns-clause-app : goal.returns-clause-app
returns-clause-app c =
    let bare : app_of c.after_help-command.result ≡ new_app (codes "explain") = ap app_of_fields c.after_help-command.ensures ∙ ap app_of_fields c.about.ensures ∙ c.new.ensures.app in
    let none : App = new_app (codes "explain") in
    let has_one : App = with_rule none text_rule in
    let one = c.taking-command.ensures.app none text_rule bare c.text_argument.ensures.local c.text_argument.ensures.rule in
    c.taking.ensures.app has_one explain_rule one c.explain_flag.ensures.local c.explain_flag.ensures.rule

pub returns-clause-local : goal.returns-clause-local
returns-clause-local c =
    let bare : IsLocal c.after_help-command.result = search rules in
    let one = c.taking-command.ensures.local bare c.text_argument.ensures.local in
    c.taking.ensures.local one c.explain_flag.ensures.local
