use Rattle.ioa_serving.proofs.replay_forms.replay_log_in_form.Goals as goal

pub returns-then-json-clause-replays : goal.returns-then-json-clause-replays
returns-then-json-clause-replays g c = rw c.if-json.true c.replay_log_objects_text.ensures.replays

pub returns-then-json-clause-unwritten : goal.returns-then-json-clause-unwritten
returns-then-json-clause-unwritten g c = rw c.if-json.true c.replay_log_objects_text.ensures.unwritten

pub returns-clause-replays : goal.returns-clause-replays
returns-clause-replays g c = rw c.if-json.false c.replay_log_text.ensures.replays

pub returns-clause-unwritten : goal.returns-clause-unwritten
returns-clause-unwritten g c = rw c.if-json.false c.replay_log_text.ensures.unwritten
