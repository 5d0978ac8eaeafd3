use Rattle.std.proofs.Common.{codes}
use Rattle.clap.specs.Words.{App, new_app, with_rule}
use Rattle.ioa_request.specs.CommandLine.{explain_rule, file_rule, first_rule, json_rule, specification_rule}
use Rattle.ioa_request.proofs.watch_usage.watch_command.Goals as goal

pub returns-clause-app : goal.returns-clause-app
returns-clause-app c =
    let none : App = new_app (codes "watch") in
    let has_one : App = with_rule none file_rule in
    let one = c.taking-command.ensures.app none file_rule c.described_watch.ensures.app c.source_argument.ensures.local c.source_argument.ensures.rule in
    let has_two : App = with_rule has_one specification_rule in
    let two = c.taking-command-2.ensures.app has_one specification_rule one c.specification_option.ensures.local c.specification_option.ensures.rule in
    let has_three : App = with_rule has_two first_rule in
    let three = c.taking-command-3.ensures.app has_two first_rule two c.first_flag.ensures.local c.first_flag.ensures.rule in
    let has_four : App = with_rule has_three json_rule in
    let four = c.taking-command-4.ensures.app has_three json_rule three c.json_flag.ensures.local c.json_flag.ensures.rule in
    c.taking.ensures.app has_four explain_rule four c.explain_flag.ensures.local c.explain_flag.ensures.rule

pub returns-clause-local : goal.returns-clause-local
returns-clause-local c =
    let one = c.taking-command.ensures.local c.described_watch.ensures.local c.source_argument.ensures.local in
    let two = c.taking-command-2.ensures.local one c.specification_option.ensures.local in
    let three = c.taking-command-3.ensures.local two c.first_flag.ensures.local in
    let four = c.taking-command-4.ensures.local three c.json_flag.ensures.local in
    c.taking.ensures.local four c.explain_flag.ensures.local
