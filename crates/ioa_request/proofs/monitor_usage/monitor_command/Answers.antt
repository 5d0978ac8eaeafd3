use Rattle.std.proofs.Common.{codes}
use Rattle.clap.specs.Words.{App, new_app, with_rule}
use Rattle.ioa_request.specs.CommandLine.{comp_rule, explain_rule, file_rule, json_rule, strict_rule}
use Rattle.ioa_request.proofs.monitor_usage.monitor_command.Goals as goal

pub returns-clause-app : goal.returns-clause-app
returns-clause-app c =
    let none : App = new_app (codes "monitor") in
    let has_one : App = with_rule none file_rule in
    let one = c.taking-command.ensures.app none file_rule c.described_monitor.ensures.app c.file_argument.ensures.local c.file_argument.ensures.rule in
    let has_two : App = with_rule has_one comp_rule in
    let two = c.taking-command-2.ensures.app has_one comp_rule one c.composition_option.ensures.local c.composition_option.ensures.rule in
    let has_three : App = with_rule has_two strict_rule in
    let three = c.taking-command-3.ensures.app has_two strict_rule two c.strict_flag.ensures.local c.strict_flag.ensures.rule in
    let has_four : App = with_rule has_three json_rule in
    let four = c.taking-command-4.ensures.app has_three json_rule three c.json_flag.ensures.local c.json_flag.ensures.rule in
    c.taking.ensures.app has_four explain_rule four c.explain_flag.ensures.local c.explain_flag.ensures.rule

pub returns-clause-local : goal.returns-clause-local
returns-clause-local c =
    let one = c.taking-command.ensures.local c.described_monitor.ensures.local c.file_argument.ensures.local in
    let two = c.taking-command-2.ensures.local one c.composition_option.ensures.local in
    let three = c.taking-command-3.ensures.local two c.strict_flag.ensures.local in
    let four = c.taking-command-4.ensures.local three c.json_flag.ensures.local in
    c.taking.ensures.local four c.explain_flag.ensures.local
