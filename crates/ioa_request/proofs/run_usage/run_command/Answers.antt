use Rattle.std.proofs.Common.{codes}
use Rattle.clap.specs.Words.{App, new_app, with_rule}
use Rattle.ioa_request.specs.CommandLine.{alone_rule, comp_rule, coverage_rule, explain_rule, file_rule, inputs_rule, invariants_rule, json_rule, keep_rule, log_rule, monitor_rule, reports_rule, resume_rule, seed_rule, seeds_rule, turns_rule, words_rule}
use Rattle.ioa_request.proofs.run_usage.run_command.Goals as goal

pub returns-clause-app : goal.returns-clause-app
returns-clause-app c =
    let none : App = new_app (codes "run") in
    let has_one : App = with_rule none file_rule in
    let one = c.taking-command.ensures.app none file_rule c.described_run.ensures.app c.file_argument.ensures.local c.file_argument.ensures.rule in
    let has_two : App = with_rule has_one comp_rule in
    let two = c.taking-command-2.ensures.app has_one comp_rule one c.composition_option.ensures.local c.composition_option.ensures.rule in
    let has_three : App = with_rule has_two alone_rule in
    let three = c.taking-command-3.ensures.app has_two alone_rule two c.alone_flag.ensures.local c.alone_flag.ensures.rule in
    let has_four : App = with_rule has_three turns_rule in
    let four = c.taking-command-4.ensures.app has_three turns_rule three c.turns_option.ensures.local c.turns_option.ensures.rule in
    let has_five : App = with_rule has_four seed_rule in
    let five = c.taking-command-5.ensures.app has_four seed_rule four c.seed_option.ensures.local c.seed_option.ensures.rule in
    let has_six : App = with_rule has_five words_rule in
    let six = c.taking-command-6.ensures.app has_five words_rule five c.words_option.ensures.local c.words_option.ensures.rule in
    let has_seven : App = with_rule has_six seeds_rule in
    let seven = c.taking-command-7.ensures.app has_six seeds_rule six c.seeds_option.ensures.local c.seeds_option.ensures.rule in
    let has_eight : App = with_rule has_seven monitor_rule in
    let eight = c.taking-command-8.ensures.app has_seven monitor_rule seven c.monitor_option.ensures.local c.monitor_option.ensures.rule in
    let has_nine : App = with_rule has_eight invariants_rule in
    let nine = c.taking-command-9.ensures.app has_eight invariants_rule eight c.invariants_flag.ensures.local c.invariants_flag.ensures.rule in
    let has_ten : App = with_rule has_nine keep_rule in
    let ten = c.taking-command-10.ensures.app has_nine keep_rule nine c.keep_option.ensures.local c.keep_option.ensures.rule in
    let has_eleven : App = with_rule has_ten json_rule in
    let eleven = c.taking-command-11.ensures.app has_ten json_rule ten c.json_flag.ensures.local c.json_flag.ensures.rule in
    let has_twelve : App = with_rule has_eleven inputs_rule in
    let twelve = c.taking-command-12.ensures.app has_eleven inputs_rule eleven c.inputs_option.ensures.local c.inputs_option.ensures.rule in
    let has_thirteen : App = with_rule has_twelve resume_rule in
    let thirteen = c.taking-command-13.ensures.app has_twelve resume_rule twelve c.resume_option.ensures.local c.resume_option.ensures.rule in
    let has_fourteen : App = with_rule has_thirteen log_rule in
    let fourteen = c.taking-command-14.ensures.app has_thirteen log_rule thirteen c.log_flag.ensures.local c.log_flag.ensures.rule in
    let has_fifteen : App = with_rule has_fourteen reports_rule in
    let fifteen = c.taking-command-15.ensures.app has_fourteen reports_rule fourteen c.reports_flag.ensures.local c.reports_flag.ensures.rule in
    let has_sixteen : App = with_rule has_fifteen coverage_rule in
    let sixteen = c.taking-command-16.ensures.app has_fifteen coverage_rule fifteen c.coverage_flag.ensures.local c.coverage_flag.ensures.rule in
    c.taking.ensures.app has_sixteen explain_rule sixteen c.explain_flag.ensures.local c.explain_flag.ensures.rule

pub returns-clause-local : goal.returns-clause-local
returns-clause-local c =
    let one = c.taking-command.ensures.local c.described_run.ensures.local c.file_argument.ensures.local in
    let two = c.taking-command-2.ensures.local one c.composition_option.ensures.local in
    let three = c.taking-command-3.ensures.local two c.alone_flag.ensures.local in
    let four = c.taking-command-4.ensures.local three c.turns_option.ensures.local in
    let five = c.taking-command-5.ensures.local four c.seed_option.ensures.local in
    let six = c.taking-command-6.ensures.local five c.words_option.ensures.local in
    let seven = c.taking-command-7.ensures.local six c.seeds_option.ensures.local in
    let eight = c.taking-command-8.ensures.local seven c.monitor_option.ensures.local in
    let nine = c.taking-command-9.ensures.local eight c.invariants_flag.ensures.local in
    let ten = c.taking-command-10.ensures.local nine c.keep_option.ensures.local in
    let eleven = c.taking-command-11.ensures.local ten c.json_flag.ensures.local in
    let twelve = c.taking-command-12.ensures.local eleven c.inputs_option.ensures.local in
    let thirteen = c.taking-command-13.ensures.local twelve c.resume_option.ensures.local in
    let fourteen = c.taking-command-14.ensures.local thirteen c.log_flag.ensures.local in
    let fifteen = c.taking-command-15.ensures.local fourteen c.reports_flag.ensures.local in
    let sixteen = c.taking-command-16.ensures.local fifteen c.coverage_flag.ensures.local in
    c.taking.ensures.local sixteen c.explain_flag.ensures.local
