use Rattle.ioa_serving.proofs.Carried.{charts_as_source, graphs_as_source, list_logs_as_source, log_logs_as_source, logs_as_source, monitors_as_source, replays_as_source}
use Rattle.ioa_serving.proofs.laws.objects_do_as_their_sources.Goals as goal

pub returns-clause-lists : goal.returns-clause-lists
returns-clause-lists c = replays_as_source

pub returns-clause-logs : goal.returns-clause-logs
returns-clause-logs c = logs_as_source

pub returns-clause-list_logs : goal.returns-clause-list_logs
returns-clause-list_logs c = list_logs_as_source

pub returns-clause-log_logs : goal.returns-clause-log_logs
returns-clause-log_logs c = log_logs_as_source

pub returns-clause-charts : goal.returns-clause-charts
returns-clause-charts c = charts_as_source

pub returns-clause-graphs : goal.returns-clause-graphs
returns-clause-graphs c = graphs_as_source

pub returns-clause-monitors : goal.returns-clause-monitors
returns-clause-monitors c = monitors_as_source
