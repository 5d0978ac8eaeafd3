use Rattle.ioac.proofs.requests.serve.Goals as goal

pub returns-in-Monitor-clause-refused : goal.returns-in-Monitor-clause-refused
returns-in-Monitor-clause-refused g c = rw c.in-Monitor.is c.monitor.ensures.refused

pub returns-in-Watch-clause-served : goal.returns-in-Watch-clause-served
returns-in-Watch-clause-served g c = rw c.in-Watch.is c.watch.ensures.served

pub returns-in-Watch-clause-refused : goal.returns-in-Watch-clause-refused
returns-in-Watch-clause-refused g c = rw c.in-Watch.is c.watch.ensures.refused

pub returns-in-Chart-clause-served : goal.returns-in-Chart-clause-served
returns-in-Chart-clause-served g c = rw c.in-Chart.is c.chart.ensures.served

pub returns-in-Chart-clause-refused : goal.returns-in-Chart-clause-refused
returns-in-Chart-clause-refused g c = rw c.in-Chart.is c.chart.ensures.refused

pub returns-in-Seeds-clause-served : goal.returns-in-Seeds-clause-served
returns-in-Seeds-clause-served g c = rw c.in-Seeds.is c.run_seeds_file.ensures.served

pub returns-in-Seeds-clause-refused : goal.returns-in-Seeds-clause-refused
returns-in-Seeds-clause-refused g c = rw c.in-Seeds.is c.run_seeds_file.ensures.refused

pub returns-in-Compile-clause-served : goal.returns-in-Compile-clause-served
returns-in-Compile-clause-served g c = rw c.in-Compile.is c.compile.ensures.served

pub returns-in-Compile-clause-refused : goal.returns-in-Compile-clause-refused
returns-in-Compile-clause-refused g c = rw c.in-Compile.is c.compile.ensures.refused

pub returns-in-StrictMonitor-clause-served : goal.returns-in-StrictMonitor-clause-served
returns-in-StrictMonitor-clause-served g c = rw c.in-StrictMonitor.is c.monitor_strictly.ensures.served

pub returns-in-StrictMonitor-clause-refused : goal.returns-in-StrictMonitor-clause-refused
returns-in-StrictMonitor-clause-refused g c = rw c.in-StrictMonitor.is c.monitor_strictly.ensures.refused

pub returns-in-MonitorJson-clause-refused : goal.returns-in-MonitorJson-clause-refused
returns-in-MonitorJson-clause-refused g c = rw c.in-MonitorJson.is c.monitor_json.ensures.refused

pub returns-in-ReplayCoverage-clause-served : goal.returns-in-ReplayCoverage-clause-served
returns-in-ReplayCoverage-clause-served g c = rw c.in-ReplayCoverage.is c.replay_coverage.ensures.served

pub returns-in-ReplayCoverage-clause-refused : goal.returns-in-ReplayCoverage-clause-refused
returns-in-ReplayCoverage-clause-refused g c = rw c.in-ReplayCoverage.is c.replay_coverage.ensures.refused
