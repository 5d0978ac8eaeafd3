use Rattle.std.proofs.Common.{◌≡◌, ap, ◌∙◌, codes, rules}
use Rattle.clap.specs.Words.{App, app_of, new_app, with_rule}
use Rattle.clap.specs.Simple.{app_of_fields}
use Rattle.ioa_request.specs.CommandLine.{IsLocal, comp_rule, explain_rule, file_rule}
use Rattle.ioa_request.proofs.request.graph_command.Goals as goal

pub returns-clause-app : goal.returns-clause-app
returns-clause-app c =
    let bare : app_of c.after_help-command.result ≡ new_app (codes "graph") = ap app_of_fields c.after_help-command.ensures ∙ ap app_of_fields c.about.ensures ∙ c.new.ensures.app in
    let none : App = new_app (codes "graph") in
    let has_one : App = with_rule none file_rule in
    let one = c.taking-command.ensures.app none file_rule bare c.file_argument.ensures.local c.file_argument.ensures.rule in
    let has_two : App = with_rule has_one comp_rule in
    let two = c.taking-command-2.ensures.app has_one comp_rule one c.composition_option.ensures.local c.composition_option.ensures.rule in
    c.taking.ensures.app has_two explain_rule two c.explain_flag.ensures.local c.explain_flag.ensures.rule

pub returns-clause-local : goal.returns-clause-local
returns-clause-local c =
    let bare : IsLocal c.after_help-command.result = search rules in
    let one = c.taking-command.ensures.local bare c.file_argument.ensures.local in
    let two = c.taking-command-2.ensures.local one c.composition_option.ensures.local in
    c.taking.ensures.local two c.explain_flag.ensures.local
