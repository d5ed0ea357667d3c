use Rattle.std.proofs.Common.{vec_len}
use Rattle.boss_jobs.specs.Jobs.{world}
use Rattle.boss_words.specs.Words.{job_of, texts}
use Rattle.boss_manager.proofs.Asked.{asked-adopt, asked-adopt_memory, asked-check, asked-check_memory, asked-feed, asked-feed_memory, asked-help, asked-kept, asked-load, asked-script, asked-serve, asked-shift, asked-shift_memory, asked-standby, asked-standby_memory, asked-usage, asked-usage_only, asked-version}
use Rattle.boss_manager.proofs.top_call.boss.Goals as goal

pub returns-clause-script : goal.returns-clause-script
returns-clause-script g c = asked-script g.F.Files g.S.Source g.K.Sink g.A.Actuators (vec_len c.args.devices.now)
    (world c.args.files.now c.args.source.now c.args.sink.now c.args.devices.now.items)
    (world c.do_words.new.files c.do_words.new.source c.do_words.new.sink c.do_words.new.devices.items)
    c.do_words.result (job_of (texts c.args.words.now.items)) c.do_words.ensures.does

pub returns-clause-kept_script : goal.returns-clause-kept_script
returns-clause-kept_script g c = asked-kept g.F.Files g.S.Source g.K.Sink g.A.Actuators (vec_len c.args.devices.now)
    (world c.args.files.now c.args.source.now c.args.sink.now c.args.devices.now.items)
    (world c.do_words.new.files c.do_words.new.source c.do_words.new.sink c.do_words.new.devices.items)
    c.do_words.result (job_of (texts c.args.words.now.items)) c.do_words.ensures.does

pub returns-clause-check : goal.returns-clause-check
returns-clause-check g c = asked-check g.F.Files g.S.Source g.K.Sink g.A.Actuators (vec_len c.args.devices.now)
    (world c.args.files.now c.args.source.now c.args.sink.now c.args.devices.now.items)
    (world c.do_words.new.files c.do_words.new.source c.do_words.new.sink c.do_words.new.devices.items)
    c.do_words.result (job_of (texts c.args.words.now.items)) c.do_words.ensures.does

pub returns-clause-check_memory : goal.returns-clause-check_memory
returns-clause-check_memory g c = asked-check_memory g.F.Files g.S.Source g.K.Sink g.A.Actuators (vec_len c.args.devices.now)
    (world c.args.files.now c.args.source.now c.args.sink.now c.args.devices.now.items)
    (world c.do_words.new.files c.do_words.new.source c.do_words.new.sink c.do_words.new.devices.items)
    c.do_words.result (job_of (texts c.args.words.now.items)) c.do_words.ensures.does

pub returns-clause-adopt : goal.returns-clause-adopt
returns-clause-adopt g c = asked-adopt g.F.Files g.S.Source g.K.Sink g.A.Actuators (vec_len c.args.devices.now)
    (world c.args.files.now c.args.source.now c.args.sink.now c.args.devices.now.items)
    (world c.do_words.new.files c.do_words.new.source c.do_words.new.sink c.do_words.new.devices.items)
    c.do_words.result (job_of (texts c.args.words.now.items)) c.do_words.ensures.does

pub returns-clause-adopt_memory : goal.returns-clause-adopt_memory
returns-clause-adopt_memory g c = asked-adopt_memory g.F.Files g.S.Source g.K.Sink g.A.Actuators (vec_len c.args.devices.now)
    (world c.args.files.now c.args.source.now c.args.sink.now c.args.devices.now.items)
    (world c.do_words.new.files c.do_words.new.source c.do_words.new.sink c.do_words.new.devices.items)
    c.do_words.result (job_of (texts c.args.words.now.items)) c.do_words.ensures.does

pub returns-clause-shift : goal.returns-clause-shift
returns-clause-shift g c = asked-shift g.F.Files g.S.Source g.K.Sink g.A.Actuators (vec_len c.args.devices.now)
    (world c.args.files.now c.args.source.now c.args.sink.now c.args.devices.now.items)
    (world c.do_words.new.files c.do_words.new.source c.do_words.new.sink c.do_words.new.devices.items)
    c.do_words.result (job_of (texts c.args.words.now.items)) c.do_words.ensures.does

pub returns-clause-shift_memory : goal.returns-clause-shift_memory
returns-clause-shift_memory g c = asked-shift_memory g.F.Files g.S.Source g.K.Sink g.A.Actuators (vec_len c.args.devices.now)
    (world c.args.files.now c.args.source.now c.args.sink.now c.args.devices.now.items)
    (world c.do_words.new.files c.do_words.new.source c.do_words.new.sink c.do_words.new.devices.items)
    c.do_words.result (job_of (texts c.args.words.now.items)) c.do_words.ensures.does

pub returns-clause-feed : goal.returns-clause-feed
returns-clause-feed g c = asked-feed g.F.Files g.S.Source g.K.Sink g.A.Actuators (vec_len c.args.devices.now)
    (world c.args.files.now c.args.source.now c.args.sink.now c.args.devices.now.items)
    (world c.do_words.new.files c.do_words.new.source c.do_words.new.sink c.do_words.new.devices.items)
    c.do_words.result (job_of (texts c.args.words.now.items)) c.do_words.ensures.does

pub returns-clause-feed_memory : goal.returns-clause-feed_memory
returns-clause-feed_memory g c = asked-feed_memory g.F.Files g.S.Source g.K.Sink g.A.Actuators (vec_len c.args.devices.now)
    (world c.args.files.now c.args.source.now c.args.sink.now c.args.devices.now.items)
    (world c.do_words.new.files c.do_words.new.source c.do_words.new.sink c.do_words.new.devices.items)
    c.do_words.result (job_of (texts c.args.words.now.items)) c.do_words.ensures.does

pub returns-clause-standby : goal.returns-clause-standby
returns-clause-standby g c = asked-standby g.F.Files g.S.Source g.K.Sink g.A.Actuators (vec_len c.args.devices.now)
    (world c.args.files.now c.args.source.now c.args.sink.now c.args.devices.now.items)
    (world c.do_words.new.files c.do_words.new.source c.do_words.new.sink c.do_words.new.devices.items)
    c.do_words.result (job_of (texts c.args.words.now.items)) c.do_words.ensures.does

pub returns-clause-standby_memory : goal.returns-clause-standby_memory
returns-clause-standby_memory g c = asked-standby_memory g.F.Files g.S.Source g.K.Sink g.A.Actuators (vec_len c.args.devices.now)
    (world c.args.files.now c.args.source.now c.args.sink.now c.args.devices.now.items)
    (world c.do_words.new.files c.do_words.new.source c.do_words.new.sink c.do_words.new.devices.items)
    c.do_words.result (job_of (texts c.args.words.now.items)) c.do_words.ensures.does

pub returns-clause-load : goal.returns-clause-load
returns-clause-load g c = asked-load g.F.Files g.S.Source g.K.Sink g.A.Actuators (vec_len c.args.devices.now)
    (world c.args.files.now c.args.source.now c.args.sink.now c.args.devices.now.items)
    (world c.do_words.new.files c.do_words.new.source c.do_words.new.sink c.do_words.new.devices.items)
    c.do_words.result (job_of (texts c.args.words.now.items)) c.do_words.ensures.does

pub returns-clause-help : goal.returns-clause-help
returns-clause-help g c = asked-help g.F.Files g.S.Source g.K.Sink g.A.Actuators (vec_len c.args.devices.now)
    (world c.args.files.now c.args.source.now c.args.sink.now c.args.devices.now.items)
    (world c.do_words.new.files c.do_words.new.source c.do_words.new.sink c.do_words.new.devices.items)
    c.do_words.result (job_of (texts c.args.words.now.items)) c.do_words.ensures.does

pub returns-clause-version : goal.returns-clause-version
returns-clause-version g c = asked-version g.F.Files g.S.Source g.K.Sink g.A.Actuators (vec_len c.args.devices.now)
    (world c.args.files.now c.args.source.now c.args.sink.now c.args.devices.now.items)
    (world c.do_words.new.files c.do_words.new.source c.do_words.new.sink c.do_words.new.devices.items)
    c.do_words.result (job_of (texts c.args.words.now.items)) c.do_words.ensures.does

pub returns-clause-serves : goal.returns-clause-serves
returns-clause-serves g c = asked-serve g.F.Files g.S.Source g.K.Sink g.A.Actuators (vec_len c.args.devices.now)
    (world c.args.files.now c.args.source.now c.args.sink.now c.args.devices.now.items)
    (world c.do_words.new.files c.do_words.new.source c.do_words.new.sink c.do_words.new.devices.items)
    c.do_words.result (job_of (texts c.args.words.now.items)) c.do_words.ensures.does

pub returns-clause-usage_only : goal.returns-clause-usage_only
returns-clause-usage_only g c = asked-usage_only g.F.Files g.S.Source g.K.Sink g.A.Actuators (vec_len c.args.devices.now)
    (world c.args.files.now c.args.source.now c.args.sink.now c.args.devices.now.items)
    (world c.do_words.new.files c.do_words.new.source c.do_words.new.sink c.do_words.new.devices.items)
    c.do_words.result (job_of (texts c.args.words.now.items)) c.do_words.ensures.does

pub returns-clause-usage : goal.returns-clause-usage
returns-clause-usage g c = asked-usage g.F.Files g.S.Source g.K.Sink g.A.Actuators (vec_len c.args.devices.now)
    (world c.args.files.now c.args.source.now c.args.sink.now c.args.devices.now.items)
    (world c.do_words.new.files c.do_words.new.source c.do_words.new.sink c.do_words.new.devices.items)
    c.do_words.result (job_of (texts c.args.words.now.items)) c.do_words.ensures.does
