use Rattle.std.proofs.Common.{◌≡◌, true, ap, ◌∙◌, codes}
use Rattle.clap.specs.Words.{App, app_of, new_app, with_subcommand}
use Rattle.clap.specs.Simple.{Shape, app_of_fields, on_top}
use Rattle.ioa_request.specs.CommandLine.{bare_app, chart_app, check_app, compile_app, dump_app, explain_app, graph_app, library_app, log_app, monitor_app, replay_app, run_app, watch_app}
use Rattle.ioa_request.proofs.request.program.Goals as goal

pub returns : goal.returns
returns c =
    let named : app_of c.about.result ≡ new_app (codes "ioac") = ap app_of_fields c.about.ensures ∙ c.new.ensures.app in
    let versioned = ap app_of_fields c.version.ensures ∙ ap (on_top (λ (s : Shape). record s { has_version = true })) named in
    let required = ap app_of_fields c.subcommand_required.ensures ∙ ap (on_top (λ (s : Shape). record s { subcommand_required = true })) versioned in
    let bare : app_of c.arg_required_else_help-command.result ≡ bare_app =
    ap app_of_fields c.arg_required_else_help-command.ensures ∙ ap (on_top (λ (s : Shape). record s { arg_required_else_help = true })) required in
    let has_one : App = with_subcommand bare_app check_app.top in
    let one = c.with-command.ensures bare_app check_app bare c.check_command.ensures.app c.check_command.ensures.local in
    let has_two : App = with_subcommand has_one compile_app.top in
    let two = c.with-command-2.ensures has_one compile_app one c.compile_command.ensures.app c.compile_command.ensures.local in
    let has_three : App = with_subcommand has_two dump_app.top in
    let three = c.with-command-3.ensures has_two dump_app two c.dump_command.ensures.app c.dump_command.ensures.local in
    let has_four : App = with_subcommand has_three replay_app.top in
    let four = c.with-command-4.ensures has_three replay_app three c.replay_command.ensures.app c.replay_command.ensures.local in
    let has_five : App = with_subcommand has_four log_app.top in
    let five = c.with-command-5.ensures has_four log_app four c.log_command.ensures.app c.log_command.ensures.local in
    let has_six : App = with_subcommand has_five run_app.top in
    let six = c.with-command-6.ensures has_five run_app five c.run_command.ensures.app c.run_command.ensures.local in
    let has_seven : App = with_subcommand has_six monitor_app.top in
    let seven = c.with-command-7.ensures has_six monitor_app six c.monitor_command.ensures.app c.monitor_command.ensures.local in
    let has_eight : App = with_subcommand has_seven watch_app.top in
    let eight = c.with-command-8.ensures has_seven watch_app seven c.watch_command.ensures.app c.watch_command.ensures.local in
    let has_nine : App = with_subcommand has_eight chart_app.top in
    let nine = c.with-command-9.ensures has_eight chart_app eight c.chart_command.ensures.app c.chart_command.ensures.local in
    let has_ten : App = with_subcommand has_nine graph_app.top in
    let ten = c.with-command-10.ensures has_nine graph_app nine c.graph_command.ensures.app c.graph_command.ensures.local in
    let has_eleven : App = with_subcommand has_ten explain_app.top in
    let eleven = c.with-command-11.ensures has_ten explain_app ten c.explain_command.ensures.app c.explain_command.ensures.local in
    c.with.ensures has_eleven library_app eleven c.library_command.ensures.app c.library_command.ensures.local
