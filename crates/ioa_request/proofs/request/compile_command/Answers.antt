use Rattle.std.proofs.Common.{◌≡◌, ap, ◌∙◌, codes, rules}
use Rattle.clap.specs.Words.{App, app_of, new_app, with_rule}
use Rattle.clap.specs.Simple.{app_of_fields}
use Rattle.ioa_request.specs.CommandLine.{IsLocal, comp_rule, explain_rule, file_rule, out_rule}
use Rattle.ioa_request.proofs.request.compile_command.Goals as goal

pub returns-clause-app : goal.returns-clause-app
returns-clause-app c =
    let bare : app_of c.after_help-command.result ≡ new_app (codes "compile") = ap app_of_fields c.after_help-command.ensures ∙ ap app_of_fields c.about.ensures ∙ c.new.ensures.app in
    let none : App = new_app (codes "compile") in
    let has_one : App = with_rule none file_rule in
    let one = c.taking-command.ensures.app none file_rule bare c.source_argument.ensures.local c.source_argument.ensures.rule in
    let has_two : App = with_rule has_one out_rule in
    let two = c.taking-command-2.ensures.app has_one out_rule one c.out_argument.ensures.local c.out_argument.ensures.rule in
    let has_three : App = with_rule has_two comp_rule in
    let three = c.taking-command-3.ensures.app has_two comp_rule two c.composition_option.ensures.local c.composition_option.ensures.rule in
    c.taking.ensures.app has_three explain_rule three c.explain_flag.ensures.local c.explain_flag.ensures.rule

pub returns-clause-local : goal.returns-clause-local
returns-clause-local c =
    let bare : IsLocal c.after_help-command.result = search rules in
    let one = c.taking-command.ensures.local bare c.source_argument.ensures.local in
    let two = c.taking-command-2.ensures.local one c.out_argument.ensures.local in
    let three = c.taking-command-3.ensures.local two c.composition_option.ensures.local in
    c.taking.ensures.local three c.explain_flag.ensures.local
