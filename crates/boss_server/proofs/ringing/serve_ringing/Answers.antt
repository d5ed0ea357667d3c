use Rattle.std.proofs.Common.{List, [], sym, ap, ◌∙◌, subst, append-nil}
use Rattle.boss_model.specs.declared.event.Event.{Event}
use Rattle.boss_model.specs.Sound.{IsSound}
use Rattle.boss_shared.specs.Keeping.{IsHeld}
use Rattle.boss_ringing.proofs.Lifting.{held-back}
use Rattle.boss_server.specs.Making.{GainsNoPause}
use Rattle.boss_server.proofs.WaitsLemmas.{from-waits}
use Rattle.boss_server.proofs.ringing.serve_ringing.Goals as goal

-- no ringer was to be had
pub returns-in-Err-clause-waiter : goal.returns-in-Err-clause-waiter
returns-in-Err-clause-waiter g c = record {
  notes = [];
  noted = λ told. c.ringer.ensures.stays.1 ∙ sym (append-nil (g.W.Waiter.waits c.args.outside.now.waiter.now));
  unpaused = λ told. tt;
}

-- the keeper that rings is as sound as the one in it
pub serve_keeper-ringing-requires-clause-running : goal.serve_keeper-ringing-requires-clause-running
serve_keeper-ringing-requires-clause-running g c κs within = ap g.V.Keeper.stopped c.new-ringing.ensures.keeper ∙ c.requires.running

pub serve_keeper-ringing-requires-clause-kept : goal.serve_keeper-ringing-requires-clause-kept
serve_keeper-ringing-requires-clause-kept g c κs within =
    subst (λ it. IsSound (g.V.Keeper.plant it) (g.V.Keeper.state it)) (sym c.new-ringing.ensures.keeper) c.requires.kept

pub serve_keeper-ringing-requires-clause-images : goal.serve_keeper-ringing-requires-clause-images
serve_keeper-ringing-requires-clause-images g c κs within =
    subst (λ it. g.V.Keeper.leaves it (g.V.Keeper.state it).persistent (g.V.Keeper.state it).persistent) (sym c.new-ringing.ensures.keeper) c.requires.images

pub serve_keeper-ringing-requires-clause-events : goal.serve_keeper-ringing-requires-clause-events
serve_keeper-ringing-requires-clause-events g c κs within =
    subst (λ it. (before : List Event) × g.V.Keeper.keeps it before) (sym c.new-ringing.ensures.keeper) c.requires.events

pub serve_keeper-ringing-requires-clause-plant : goal.serve_keeper-ringing-requires-clause-plant
serve_keeper-ringing-requires-clause-plant g c κs within = c.requires.plant ∙ ap g.V.Keeper.plant (sym c.new-ringing.ensures.keeper)

-- what the keeper that rings stands for the one in it stands for
pub returns-in-Ok-ended-clause-ran : goal.returns-in-Ok-ended-clause-ran
returns-in-Ok-ended-clause-ran g c =
    let v = g.V.Keeper in
    let ran = rw c.in-Ok-ended.is at c.serve_keeper-ringing.ensures.ran in
    record {
      log = ran.log;
      held = subst (λ start. IsHeld v.plant v.state v.stopped v.faults v.leaves v.passes v.keeps start c.serve_keeper-ringing.result.0.keeper ran.log) c.new-ringing.ensures.keeper
          (held-back v.plant v.state v.stopped v.faults v.leaves v.passes v.keeps c.new-ringing.result c.serve_keeper-ringing.result.0 ran.log ran.held);
      account = from-waits _ _ _ _ _ _ _ _ _ _ _ _ _ _ _ _ _ _ _ _ _ _ _ _ c.ringer.ensures.stays.1 ran.account;
      disk = ran.disk;
    }

pub returns-clause-nothing : goal.returns-clause-nothing
returns-clause-nothing g c =
    let v = g.V.Keeper in
    subst (λ start. IsHeld v.plant v.state v.stopped v.faults v.leaves v.passes v.keeps start c.serve_keeper-ringing.result.0.keeper []) c.new-ringing.ensures.keeper
    (held-back v.plant v.state v.stopped v.faults v.leaves v.passes v.keeps c.new-ringing.result c.serve_keeper-ringing.result.0 [] (rw c.in-Err-ended.is at c.serve_keeper-ringing.ensures.nothing))

pub returns-clause-waiter : goal.returns-clause-waiter
returns-clause-waiter g c =
    subst (λ noted. GainsNoPause g.W.Waiter.tells noted (g.W.Waiter.waits c.serve_keeper-ringing.new.outside.waiter.now)) c.ringer.ensures.stays.1
    (rw c.in-Err-ended.is at c.serve_keeper-ringing.ensures.waiter)

pub returns-in-Ok-ended-clause-under : goal.returns-in-Ok-ended-clause-under
returns-in-Ok-ended-clause-under g c = c.serve_keeper-ringing.ensures.under ∙ ap g.V.Keeper.under c.new-ringing.ensures.keeper

pub returns-clause-under : goal.returns-clause-under
returns-clause-under g c = c.serve_keeper-ringing.ensures.under ∙ ap g.V.Keeper.under c.new-ringing.ensures.keeper
