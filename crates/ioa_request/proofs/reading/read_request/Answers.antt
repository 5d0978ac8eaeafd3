use Rattle.std.proofs.Common.{Some, codes, refl}
use Rattle.ioa_request.specs.declared.request.Request.{Request}
use Rattle.ioa_request.proofs.Asked.{read_none, read_some}
use Rattle.ioa_request.proofs.reading.read_request.Goals as goal

pub returns-in-replay-clause-some : goal.returns-in-replay-clause-some
returns-in-replay-clause-some c =
    read_some c.args.matches.now c.in_ok-name.found.now c.in_ok-name.name.now (codes "replay") c.read_replay.result c.in_ok-name.ensures.name c.in_ok-name.ensures.rows c.in-replay.is
    c.read_replay.ensures.some

pub returns-in-replay-clause-none : goal.returns-in-replay-clause-none
returns-in-replay-clause-none c =
    read_none c.args.matches.now c.in_ok-name.found.now c.in_ok-name.name.now (codes "replay") c.read_replay.result c.in_ok-name.ensures.name c.in_ok-name.ensures.rows c.in-replay.is
    c.read_replay.ensures.none

pub returns-in-log-clause-some : goal.returns-in-log-clause-some
returns-in-log-clause-some c =
    read_some c.args.matches.now c.in_ok-name.found.now c.in_ok-name.name.now (codes "log") c.read_log.result c.in_ok-name.ensures.name c.in_ok-name.ensures.rows c.in-log.is
    c.read_log.ensures.some

pub returns-in-log-clause-none : goal.returns-in-log-clause-none
returns-in-log-clause-none c =
    read_none c.args.matches.now c.in_ok-name.found.now c.in_ok-name.name.now (codes "log") c.read_log.result c.in_ok-name.ensures.name c.in_ok-name.ensures.rows c.in-log.is
    c.read_log.ensures.none

pub returns-in-run-clause-some : goal.returns-in-run-clause-some
returns-in-run-clause-some c =
    read_some c.args.matches.now c.in_ok-name.found.now c.in_ok-name.name.now (codes "run") c.read_run.result c.in_ok-name.ensures.name c.in_ok-name.ensures.rows c.in-run.is
    c.read_run.ensures.some

pub returns-in-run-clause-none : goal.returns-in-run-clause-none
returns-in-run-clause-none c =
    read_none c.args.matches.now c.in_ok-name.found.now c.in_ok-name.name.now (codes "run") c.read_run.result c.in_ok-name.ensures.name c.in_ok-name.ensures.rows c.in-run.is
    c.read_run.ensures.none

pub returns-in-monitor-clause-some : goal.returns-in-monitor-clause-some
returns-in-monitor-clause-some c =
    read_some c.args.matches.now c.in_ok-name.found.now c.in_ok-name.name.now (codes "monitor") c.read_monitor.result c.in_ok-name.ensures.name c.in_ok-name.ensures.rows c.in-monitor.is
    c.read_monitor.ensures.some

pub returns-in-monitor-clause-none : goal.returns-in-monitor-clause-none
returns-in-monitor-clause-none c =
    read_none c.args.matches.now c.in_ok-name.found.now c.in_ok-name.name.now (codes "monitor") c.read_monitor.result c.in_ok-name.ensures.name c.in_ok-name.ensures.rows c.in-monitor.is
    c.read_monitor.ensures.none

pub returns-in-watch-clause-some : goal.returns-in-watch-clause-some
returns-in-watch-clause-some c =
    read_some c.args.matches.now c.in_ok-name.found.now c.in_ok-name.name.now (codes "watch") c.read_watch.result c.in_ok-name.ensures.name c.in_ok-name.ensures.rows c.in-watch.is
    c.read_watch.ensures.some

pub returns-in-watch-clause-none : goal.returns-in-watch-clause-none
returns-in-watch-clause-none c =
    read_none c.args.matches.now c.in_ok-name.found.now c.in_ok-name.name.now (codes "watch") c.read_watch.result c.in_ok-name.ensures.name c.in_ok-name.ensures.rows c.in-watch.is
    c.read_watch.ensures.none

pub returns-in-chart-clause-some : goal.returns-in-chart-clause-some
returns-in-chart-clause-some c =
    read_some c.args.matches.now c.in_ok-name.found.now c.in_ok-name.name.now (codes "chart") c.read_chart.result c.in_ok-name.ensures.name c.in_ok-name.ensures.rows c.in-chart.is
    c.read_chart.ensures.some

pub returns-in-chart-clause-none : goal.returns-in-chart-clause-none
returns-in-chart-clause-none c =
    read_none c.args.matches.now c.in_ok-name.found.now c.in_ok-name.name.now (codes "chart") c.read_chart.result c.in_ok-name.ensures.name c.in_ok-name.ensures.rows c.in-chart.is
    c.read_chart.ensures.none

pub returns-in-graph-clause-some : goal.returns-in-graph-clause-some
returns-in-graph-clause-some c =
    read_some c.args.matches.now c.in_ok-name.found.now c.in_ok-name.name.now (codes "graph") c.read_graph.result c.in_ok-name.ensures.name c.in_ok-name.ensures.rows c.in-graph.is
    c.read_graph.ensures.some

pub returns-in-graph-clause-none : goal.returns-in-graph-clause-none
returns-in-graph-clause-none c =
    read_none c.args.matches.now c.in_ok-name.found.now c.in_ok-name.name.now (codes "graph") c.read_graph.result c.in_ok-name.ensures.name c.in_ok-name.ensures.rows c.in-graph.is
    c.read_graph.ensures.none

pub returns-in-check-clause-some : goal.returns-in-check-clause-some
returns-in-check-clause-some c =
    read_some c.args.matches.now c.in_ok-name.found.now c.in_ok-name.name.now (codes "check") c.read_check.result c.in_ok-name.ensures.name c.in_ok-name.ensures.rows c.in-check.is
    c.read_check.ensures.some

pub returns-in-check-clause-none : goal.returns-in-check-clause-none
returns-in-check-clause-none c =
    read_none c.args.matches.now c.in_ok-name.found.now c.in_ok-name.name.now (codes "check") c.read_check.result c.in_ok-name.ensures.name c.in_ok-name.ensures.rows c.in-check.is
    c.read_check.ensures.none

pub returns-in-compile-clause-some : goal.returns-in-compile-clause-some
returns-in-compile-clause-some c =
    read_some c.args.matches.now c.in_ok-name.found.now c.in_ok-name.name.now (codes "compile") c.read_compile.result c.in_ok-name.ensures.name c.in_ok-name.ensures.rows c.in-compile.is
    c.read_compile.ensures.some

pub returns-in-compile-clause-none : goal.returns-in-compile-clause-none
returns-in-compile-clause-none c =
    read_none c.args.matches.now c.in_ok-name.found.now c.in_ok-name.name.now (codes "compile") c.read_compile.result c.in_ok-name.ensures.name c.in_ok-name.ensures.rows c.in-compile.is
    c.read_compile.ensures.none

pub returns-in-dump-clause-some : goal.returns-in-dump-clause-some
returns-in-dump-clause-some c =
    read_some c.args.matches.now c.in_ok-name.found.now c.in_ok-name.name.now (codes "dump") c.read_dump.result c.in_ok-name.ensures.name c.in_ok-name.ensures.rows c.in-dump.is
    c.read_dump.ensures.some

pub returns-in-dump-clause-none : goal.returns-in-dump-clause-none
returns-in-dump-clause-none c =
    read_none c.args.matches.now c.in_ok-name.found.now c.in_ok-name.name.now (codes "dump") c.read_dump.result c.in_ok-name.ensures.name c.in_ok-name.ensures.rows c.in-dump.is
    c.read_dump.ensures.none

pub returns-in-explain-clause-some : goal.returns-in-explain-clause-some
returns-in-explain-clause-some c =
    read_some c.args.matches.now c.in_ok-name.found.now c.in_ok-name.name.now (codes "explain") c.read_explain.result c.in_ok-name.ensures.name c.in_ok-name.ensures.rows c.in-explain.is
    c.read_explain.ensures.some

pub returns-in-explain-clause-none : goal.returns-in-explain-clause-none
returns-in-explain-clause-none c =
    read_none c.args.matches.now c.in_ok-name.found.now c.in_ok-name.name.now (codes "explain") c.read_explain.result c.in_ok-name.ensures.name c.in_ok-name.ensures.rows c.in-explain.is
    c.read_explain.ensures.none

pub returns-in-library-clause-some : goal.returns-in-library-clause-some
returns-in-library-clause-some c =
    read_some c.args.matches.now c.in_ok-name.found.now c.in_ok-name.name.now (codes "library") (Some Request.Library) c.in_ok-name.ensures.name c.in_ok-name.ensures.rows c.in-library.is
    refl
