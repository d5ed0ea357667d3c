use Rattle.std.proofs.Common.{◌+◌, sym, ap, subst, ◌∙◌, arith}
use Rattle.boss_feeding.specs.Faults.{ActiveCause}
use Rattle.boss_feeding.specs.Held.{HasLog}
use Rattle.boss_feeding.specs.Lines.{lines_text}
use Rattle.boss_feeding.proofs.Writing.{nothing_told}
use Rattle.boss_pair_find.proofs.Orders.{at_both}
use Rattle.boss_snapshot.specs.Fronts.{version_of}
use Rattle.def_feed.specs.Feeds.{event_items}
use Rattle.boss_feeding.proofs.feeding.feed_log.Goals as goal

pub tell_log-told-requires-clause-version : goal.tell_log-told-requires-clause-version
tell_log-told-requires-clause-version g c tells =
    let inside = c.requires.inside tells in
    let past = c.requires.past tells in
    c.in-Ok.ensures.version tells (omega (arith, inside, past)) ∙ ap version_of (sym (c.in-Ok.ensures.reads tells))

pub returns-in-Ok-clause-told : goal.returns-in-Ok-clause-told
returns-in-Ok-clause-told g c tells takes events has =
    c.tell_log-told.ensures.told tells takes events
    (subst (λ place. HasLog place events (g.D.Disk.reads c.in-Ok.journal.disk)) (sym (c.in-Ok.ensures.place tells)) (subst (HasLog c.args.gate events) (sym (c.in-Ok.ensures.reads tells)) has))

pub returns-in-Ok-clause-reads : goal.returns-in-Ok-clause-reads
returns-in-Ok-clause-reads g c tells = ap g.D.Disk.reads c.close.ensures ∙ c.tell_log-told.ensures.reads tells ∙ c.in-Ok.ensures.reads tells

pub returns-in-Ok-clause-windows : goal.returns-in-Ok-clause-windows
returns-in-Ok-clause-windows g c tells = ap g.D.Disk.story c.close.ensures ∙ c.tell_log-told.ensures.windows tells ∙ c.in-Ok.ensures.windows tells

pub returns-in-Ok-clause-cause : goal.returns-in-Ok-clause-cause
returns-in-Ok-clause-cause g c =
    at_both (λ before now. ActiveCause before now c.tell_log-told.result) _ _ _ _ c.in-Ok.ensures.cause (ap g.D.Disk.faults (sym c.close.ensures)) c.tell_log-told.ensures.cause

pub returns-in-Err-clause-told : goal.returns-in-Err-clause-told
returns-in-Err-clause-told g c tells takes events has = nothing_told (g.K.Sink.taken c.args.sink.now) (lines_text (event_items c.args.from (c.args.before + 1) events))

pub returns-in-Err-clause-cause : goal.returns-in-Err-clause-cause
returns-in-Err-clause-cause g c = c.in-Err.ensures.cause.1
