use Rattle.std.proofs.Common.{sym, ◌∙◌, refl, vec_len}
use Rattle.boss_scripts.specs.Outside.{trace}
use Rattle.boss_scripts.specs.Runs.{served}
use Rattle.boss_scripts.proofs.CallLemmas.{goes-on, went-drained}
use Rattle.boss_scripts.proofs.Going.{broke-off-then, went-nothing, went-then}
use Rattle.boss_scripts.proofs.Keeping.{kept-sound}
use Rattle.boss_scripts.proofs.Results.{on-err}
use Rattle.boss_scripts.proofs.ServeLemmas.{device-there}
use Rattle.boss_scripts.proofs.draining.drain.Goals as goal

pub loop-driver-init : goal.loop-driver-init
loop-driver-init g c = record {
  under = refl;
  room = refl;
  len = refl;
  cause = refl;
  went = went-nothing g.V.Keeper (served c.args.catalogue.now c.args.moment) c.args.keeper.now (trace g.K.Sink g.A.Actuators c.args.sink.now c.args.devices.now.items);
}

pub serve-requires-clause-plant : goal.serve-requires-clause-plant
serve-requires-clause-plant g c = c.loop-driver.invariant.went.kept.same_plant ∙ c.requires.plant

pub serve-requires-clause-running : goal.serve-requires-clause-running
serve-requires-clause-running g c = (goes-on _ _ _ (sym c.next_driver.ensures ∙ c.in-Some.is)).0

pub serve-requires-clause-sound : goal.serve-requires-clause-sound
serve-requires-clause-sound g c =
    kept-sound g.V.Keeper _ _ _ c.loop-driver.invariant.went.kept c.requires.sound (goes-on _ _ _ (sym c.next_driver.ensures ∙ c.in-Some.is)).0

pub serve-requires-clause-wants : goal.serve-requires-clause-wants
serve-requires-clause-wants g c = (goes-on _ _ _ (sym c.next_driver.ensures ∙ c.in-Some.is)).1

pub serve-requires-clause-device : goal.serve-requires-clause-device
serve-requires-clause-device g c =
    let inv = c.loop-driver.invariant in
    let goes = goes-on _ _ _ (sym c.next_driver.ensures ∙ c.in-Some.is) in
    let same = inv.went.kept.same_plant ∙ c.requires.plant in
    device-there (vec_len c.loop-driver.devices) (g.V.Keeper.plant c.loop-driver.keeper) c.args.moment (g.V.Keeper.state c.loop-driver.keeper) c.in-Some.driver c.requires.moment
    (rw (inv.len, same) c.requires.devices) (kept-sound g.V.Keeper _ _ _ inv.went.kept c.requires.sound goes.0) goes.1

pub loop-driver-preserved : goal.loop-driver-preserved
loop-driver-preserved g c =
    let inv = c.loop-driver.invariant in
    let done = c.in_ok-serve.ensures in
    record {
      under = c.serve.ensures.under ∙ inv.under;
      room = c.serve.ensures.room ∙ inv.room;
      len = c.serve.ensures.len ∙ inv.len;
      cause = done.cause.fine ∙ inv.cause;
      went = went-then g.V.Keeper c.requires.plant inv.went done.did;
    }

pub returns-in_err-serve-clause-broke : goal.returns-in_err-serve-clause-broke
returns-in_err-serve-clause-broke g c = on-err c.from_residual.result _ (broke-off-then g.V.Keeper c.requires.plant c.loop-driver.invariant.went c.in_err-serve.ensures.broke)

pub returns-clause-did : goal.returns-clause-did
returns-clause-did g c =
    let inv = c.loop-driver.invariant in
    went-then g.V.Keeper c.requires.plant inv.went
    (went-drained g.V.Keeper c.args.catalogue.now c.args.moment c.loop-driver.keeper (inv.went.kept.same_plant ∙ c.requires.plant)
    (trace g.K.Sink g.A.Actuators c.loop-driver.sink c.loop-driver.devices.items) (sym c.next_driver.ensures ∙ c.in_default.is))
