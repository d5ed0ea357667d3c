use Rattle.std.proofs.Common.{refl, sym, ap, subst, ◌∙◌, arith}
use Rattle.boss_feeding.specs.Held.{HasLog}
use Rattle.boss_feeding.specs.Nexts.{TellsSome}
use Rattle.boss_feeding.proofs.LogSteps.{log_broken, log_told, none_told, record_told}
use Rattle.boss_snapshot.specs.Fronts.{version_of}
use Rattle.boss_feeding.proofs.logs.tell_records.Goals as goal

pub loop-more-init : goal.loop-more-init
loop-more-init g c = record {
  far = omega arith;
  version = refl;
  room = refl;
  reads = λ tells. refl;
  windows = λ tells. refl;
  faults = refl;
  sink = refl;
  told = λ tells takes events has.
      none_told c.args.from c.args.before events (g.D.Disk.reads c.args.journal.now.disk) (g.K.Sink.taken c.args.sink.now) c.args.journal.now.place has;
}

pub tell_next-requires-clause-version : goal.tell_next-requires-clause-version
tell_next-requires-clause-version g c told =
    let so = c.loop-more.invariant in so.version ∙ c.requires.version told ∙ ap version_of (sym (so.reads told))

pub loop-more-preserved : goal.loop-more-preserved
loop-more-preserved g c =
    let so = c.loop-more.invariant in
    let ok = c.in-Ok-Some.ensures in
    let moves = rw c.in-Ok-Some.field-0-is at ok.moves in
    let more = c.in-Ok-Some.more in
    let number = c.loop-more.number in
    let start = g.D.Disk.reads c.args.journal.now.disk in
    let old = g.K.Sink.taken c.args.sink.now in
    let now = g.K.Sink.taken c.loop-more.sink in
    let new = g.K.Sink.taken c.tell_next.new.sink in
    let place = c.loop-more.journal.place in
    let after = c.tell_next.new.journal.place in
    record {
      far = let before = so.far in omega (arith, moves.0, before);
      version = c.tell_next.ensures.version ∙ so.version;
      room = c.tell_next.ensures.room ∙ so.room;
      reads = λ tells. c.tell_next.ensures.reads tells ∙ so.reads tells;
      windows = λ tells. c.tell_next.ensures.windows tells ∙ so.windows tells;
      faults = ok.cause ∙ so.faults;
      sink = ok.sink ∙ so.sink;
      told = λ tells takes events has.
          let l = so.told tells takes events has in
          let next = rw c.in-Ok-Some.field-0-is at (ok.told tells takes l.left (subst (HasLog place l.left) (sym (so.reads tells)) l.log)) in
          record_told c.args.from c.args.before events start old now new place after number more l
          (subst (λ bytes. TellsSome c.args.from number l.left bytes now new after more) (so.reads tells) next);
    }

pub returns-in-Ok-None-clause-told : goal.returns-in-Ok-None-clause-told
returns-in-Ok-None-clause-told g c tells takes events has =
    let so = c.loop-more.invariant in
    let l = so.told tells takes events has in
    let place = c.loop-more.journal.place in
    let end = rw c.in-Ok-None.field-0-is at (c.in-Ok-None.ensures.told tells takes l.left (subst (HasLog place l.left) (sym (so.reads tells)) l.log)) in
    end.1 ∙ log_told c.args.from c.args.before events (g.D.Disk.reads c.args.journal.now.disk) (g.K.Sink.taken c.args.sink.now) (g.K.Sink.taken c.loop-more.sink) place c.loop-more.number l end.0

pub returns-in-Err-clause-told : goal.returns-in-Err-clause-told
returns-in-Err-clause-told g c tells takes events has =
    let so = c.loop-more.invariant in
    let l = so.told tells takes events has in
    let place = c.loop-more.journal.place in
    log_broken c.args.from c.args.before events (g.D.Disk.reads c.args.journal.now.disk) (g.K.Sink.taken c.args.sink.now) (g.K.Sink.taken c.loop-more.sink)
    (g.K.Sink.taken c.tell_next.new.sink) place c.loop-more.number l (c.in-Err.ensures.told tells takes l.left (subst (HasLog place l.left) (sym (so.reads tells)) l.log))
