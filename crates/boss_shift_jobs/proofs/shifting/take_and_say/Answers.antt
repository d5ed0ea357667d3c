use Rattle.std.proofs.Common.{◌≡◌, ℕ, ◌+◌, sym, ap, subst, ◌∙◌}
use Rattle.boss_disk_pair.specs.Rests.{counted}
use Rattle.boss_durable.specs.Followed.{lasts_after, may_last, Takes}
use Rattle.boss_durable.specs.Words.{lasting, leaves, passes}
use Rattle.boss_model.specs.Seen.{seen}
use Rattle.boss_model.specs.Sound.{IsSoundPersistent}
use Rattle.boss_model.specs.State.{Persistent}
use Rattle.law_shift.specs.Shifted.{shifted}
use Rattle.law_shift.proofs.ShiftedSound.{shifted-sound}
use Rattle.boss_shift_jobs.specs.Telling.{TellsTaken}
use Rattle.boss_shift_jobs.proofs.Coming.{taken-so}
use Rattle.boss_shift_jobs.proofs.Moving.{taken-moves}
use Rattle.boss_shift_jobs.proofs.shifting.take_and_say.Goals as goal

pub returns-clause-comes : goal.returns-clause-comes
returns-clause-comes g c =
    let durable = c.args.durable in
    let call = c.take_state-taken in
    let to = shifted c.args.by (lasting durable) in
    let state : seen c.shift_state-shifted.result ≡ to = c.shift_state-shifted.ensures ∙ ap (shifted c.args.by) c.requires.kept in
    let number : c.one_more-events.result ≡ counted (durable.disks.events + 1) = c.one_more-events.ensures ∙ ap (λ n. counted (n + 1)) c.events.ensures.is in
    taken-so g.D.Disk g.K.Sink c.args.catalogue.now c.args.by durable c.requires.plant c.requires.digest c.requires.keeps c.requires.leaves
    c.args.sink.now c.say_taken-status.new.sink c.say_taken-status.result.0 call.new.self c.close.result
    (record { parts = c.close.ensures.disks; opens = c.close.ensures.opens; left = c.close.ensures.left })
    c.requires.may (shifted-sound c.args.by durable.engine.plant (lasting durable) c.requires.may c.requires.sound) call.ensures.plant call.ensures.digest call.result
    (subst (λ (q : Persistent × ℕ). Takes durable call.new.self q.0 q.1 call.result) (λ i. (state i, number i)) call.ensures.takes)
    (λ events kept. subst (λ e. leaves call.new.self (lasts_after call.result (lasting durable) e) (may_last call.result (lasting durable) e)) state (call.ensures.leaves events kept))
    call.ensures.cause (call.ensures.stopped ∙ c.requires.going)
    (subst (λ line. TellsTaken g.K.Sink line call.result c.args.sink.now c.say_taken-status.new.sink c.say_taken-status.result.0) c.requires.line c.say_taken-status.ensures)

pub returns-clause-moves : goal.returns-clause-moves
returns-clause-moves g c told =
    let durable = c.args.durable in
    let call = c.take_state-taken in
    let to = shifted c.args.by (lasting durable) in
    let state : seen c.shift_state-shifted.result ≡ to = c.shift_state-shifted.ensures ∙ ap (shifted c.args.by) c.requires.kept in
    taken-moves g.D.Disk c.args.catalogue.now durable c.requires.plant c.requires.digest c.requires.keeps c.requires.leaves c.args.by
    call.new.self c.close.result call.result c.close.ensures.disks told
    (λ events kept. subst (λ e. passes durable call.new.self (lasting durable) (may_last call.result (lasting durable) e)) state (call.ensures.passes events kept))

-- a sound state stays sound
pub say_taken-status-requires-clause-sound : goal.say_taken-status-requires-clause-sound
say_taken-status-requires-clause-sound g c is =
    let durable = c.args.durable in
    let call = c.take_state-taken in
    let to = shifted c.args.by (lasting durable) in
    let state : seen c.shift_state-shifted.result ≡ to = c.shift_state-shifted.ensures ∙ ap (shifted c.args.by) c.requires.kept in
    let refused : (¬ IsSoundPersistent durable.engine.plant (seen c.shift_state-shifted.result)) × (call.new.self ≡ durable) =
    subst (λ taken. Takes durable call.new.self (seen c.shift_state-shifted.result) c.one_more-events.result taken) is call.ensures.takes in
    refused.0 (subst (IsSoundPersistent durable.engine.plant) (sym state) (shifted-sound c.args.by durable.engine.plant (lasting durable) c.requires.may c.requires.sound))
