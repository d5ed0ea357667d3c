use Rattle.std.proofs.Common.{◌≢◌, ◌∙◌, ◌∷◌, [], sym, ap, subst}
use Rattle.boss_disk.specs.Story.{Story}
use Rattle.boss_disk.specs.Window.{settled, overwritten}
use Rattle.boss_journal.specs.Places.{IsAtRest}
use Rattle.boss_journal.proofs.Shutting.{gate_read, still_leaves, still_rests, shutting_behind, shut_rests, stays_so}
use Rattle.boss_journal.proofs.reading.shut_gate.Goals as goal

pub returns-in_err-gate-clause-images : goal.returns-in_err-gate-clause-images
returns-in_err-gate-clause-images g c told front records last synced =
    stays_so _ _ _ (c.read_byte.ensures.windows told) (still_leaves front records c.args.place _ _ last synced)

pub returns-then-gate-eq0-clause-rests : goal.returns-then-gate-eq0-clause-rests
returns-then-gate-eq0-clause-rests g c told front records last synced =
    let zero = sym (gate_read front records c.args.place _ _ last (c.in_ok-gate.ensures.given told)) ∙ c.if-gate-eq0.true in
    let same = c.read_byte.ensures.reads told in
    let still = c.read_byte.ensures.windows told in
    let rest = still_rests front records c.args.place _ _ last synced zero in
    subst (λ held. IsAtRest front records c.args.place held (g.D.Disk.story c.read_byte.new.disk).window) (sym same)
    (subst (λ (s : Story). IsAtRest front records c.args.place (g.D.Disk.reads c.args.disk.now) s.window) (sym still) rest)

pub returns-then-gate-eq0-clause-images : goal.returns-then-gate-eq0-clause-images
returns-then-gate-eq0-clause-images g c told front records last synced =
    stays_so _ _ _ (c.read_byte.ensures.windows told) (still_leaves front records c.args.place _ _ last synced)

pub returns-in_err-write_through-clause-images : goal.returns-in_err-write_through-clause-images
returns-in_err-write_through-clause-images g c told front records last synced =
    let gate = gate_read front records c.args.place _ _ last (c.in_ok-gate.ensures.given told) in
    let other : last.log.gate ≢ 0 = λ zero. c.if-gate-eq0.false (gate ∙ zero) in
    shutting_behind front records c.args.place _ _ _ _ _ _ last synced other (c.read_byte.ensures.reads told) (c.read_byte.ensures.windows told) (c.write_through.ensures.windows told)

pub returns-clause-images : goal.returns-clause-images
returns-clause-images g c told front records last synced =
    let gate = gate_read front records c.args.place _ _ last (c.in_ok-gate.ensures.given told) in
    let other : last.log.gate ≢ 0 = λ zero. c.if-gate-eq0.false (gate ∙ zero) in
    shutting_behind front records c.args.place _ _ _ _ _ _ last synced other (c.read_byte.ensures.reads told) (c.read_byte.ensures.windows told) (c.write_through.ensures.windows told)

pub returns-clause-rests : goal.returns-clause-rests
returns-clause-rests g c told front records last synced =
    let same = c.read_byte.ensures.reads told in
    shut_rests front records c.args.place _ _ _ last
    (c.in_ok-write_through.ensures.bytes told ∙ ap (overwritten c.args.place (0 ∷ [])) same)
    ((c.in_ok-write_through.ensures.windows told).kept ∙ ap (λ held. settled (overwritten c.args.place (0 ∷ []) held)) same)
