use Rattle.std.proofs.Common.{◌≤◌, ◌<◌, ap, ◌∙◌, arith}
use Rattle.boss_model.specs.Time.{due}
use Rattle.boss_marks.proofs.Early.{early-sooner}
use Rattle.boss_engine.proofs.Seen.{seen-early, seen-persistent, seen-sound}
use Rattle.boss_engine.proofs.engine.Engine.first_due.Goals as goal

pub first_due-due-requires : goal.first_due-due-requires
first_due-due-requires c =
    let inside = c.self.inside in
    (inside.plant.items, c.self.invariant.places.points, seen-sound inside.plant.items inside.machine inside.is_open c.self.invariant.sound)

pub returns-clause-due : goal.returns-clause-due
returns-clause-due c n before =
    let inside = c.self.inside in
    let sooner : n < c.first_due-due.result = omega (arith, c.min.ensures, before) in
    rw (← c.self.view_is) (ap (due n) (seen-persistent inside.plant.items inside.machine inside.is_open) ∙ c.first_due-due.ensures n sooner)

pub returns-clause-retries : goal.returns-clause-retries
returns-clause-retries c =
    let inside = c.self.inside in
    let sooner : c.min.result ≤ c.next_retry.result = omega (arith, c.min.ensures) in
    rw (← c.self.view_is) (seen-early inside.plant.items inside.machine inside.is_open c.min.result
    (early-sooner c.next_retry.result c.min.result inside.machine.marks.proxies sooner c.next_retry.ensures))
