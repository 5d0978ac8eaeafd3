use Rattle.std.proofs.Common.{codes}
use Rattle.clap.specs.Words.{App, new_app, with_rule}
use Rattle.ioa_request.specs.CommandLine.{comp_rule, coverage_rule, enabled_rule, explain_rule, file_rule, invariants_rule, json_rule, log_rule, states_rule, until_rule}
use Rattle.ioa_request.proofs.request.replay_command.Goals as goal

pub returns-clause-app : goal.returns-clause-app
returns-clause-app c =
    let none : App = new_app (codes "replay") in
    let has_one : App = with_rule none file_rule in
    let one = c.taking-command.ensures.app none file_rule c.described_replay.ensures.app c.file_argument.ensures.local c.file_argument.ensures.rule in
    let has_two : App = with_rule has_one comp_rule in
    let two = c.taking-command-2.ensures.app has_one comp_rule one c.composition_option.ensures.local c.composition_option.ensures.rule in
    let has_three : App = with_rule has_two log_rule in
    let three = c.taking-command-3.ensures.app has_two log_rule two c.log_flag.ensures.local c.log_flag.ensures.rule in
    let has_four : App = with_rule has_three invariants_rule in
    let four = c.taking-command-4.ensures.app has_three invariants_rule three c.invariants_flag.ensures.local c.invariants_flag.ensures.rule in
    let has_five : App = with_rule has_four states_rule in
    let five = c.taking-command-5.ensures.app has_four states_rule four c.states_flag.ensures.local c.states_flag.ensures.rule in
    let has_six : App = with_rule has_five enabled_rule in
    let six = c.taking-command-6.ensures.app has_five enabled_rule five c.enabled_flag.ensures.local c.enabled_flag.ensures.rule in
    let has_seven : App = with_rule has_six coverage_rule in
    let seven = c.taking-command-7.ensures.app has_six coverage_rule six c.coverage_flag.ensures.local c.coverage_flag.ensures.rule in
    let has_eight : App = with_rule has_seven until_rule in
    let eight = c.taking-command-8.ensures.app has_seven until_rule seven c.until_option.ensures.local c.until_option.ensures.rule in
    let has_nine : App = with_rule has_eight json_rule in
    let nine = c.taking-command-9.ensures.app has_eight json_rule eight c.json_flag.ensures.local c.json_flag.ensures.rule in
    c.taking.ensures.app has_nine explain_rule nine c.explain_flag.ensures.local c.explain_flag.ensures.rule

pub returns-clause-local : goal.returns-clause-local
returns-clause-local c =
    let one = c.taking-command.ensures.local c.described_replay.ensures.local c.file_argument.ensures.local in
    let two = c.taking-command-2.ensures.local one c.composition_option.ensures.local in
    let three = c.taking-command-3.ensures.local two c.log_flag.ensures.local in
    let four = c.taking-command-4.ensures.local three c.invariants_flag.ensures.local in
    let five = c.taking-command-5.ensures.local four c.states_flag.ensures.local in
    let six = c.taking-command-6.ensures.local five c.enabled_flag.ensures.local in
    let seven = c.taking-command-7.ensures.local six c.coverage_flag.ensures.local in
    let eight = c.taking-command-8.ensures.local seven c.until_option.ensures.local in
    let nine = c.taking-command-9.ensures.local eight c.json_flag.ensures.local in
    c.taking.ensures.local nine c.explain_flag.ensures.local
