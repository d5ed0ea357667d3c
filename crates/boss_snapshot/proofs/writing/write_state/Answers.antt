use Rattle.std.proofs.Common.{refl}
use Rattle.boss_model.specs.Seen.{seen}
use Rattle.boss_snapshot.proofs.Writings.{all_leaves, clear_leaves, rest_leaves}
use Rattle.boss_snapshot.proofs.writing.write_state.Goals as goal

pub returns-in_err-clear-clause-images : goal.returns-in_err-clear-clause-images
returns-in_err-clear-clause-images g c told synced =
    clear_leaves _ c.args.digest.now c.args.generation c.args.events (seen c.args.kept.now) _ _ (c.clear.ensures.images told synced)

pub returns-in_err-gate-clause-images : goal.returns-in_err-gate-clause-images
returns-in_err-gate-clause-images g c told synced =
    rest_leaves _ c.args.digest.now c.args.generation c.args.events (seen c.args.kept.now) _ _ _ (c.clear.ensures.images told synced)
    (c.in_ok-clear.ensures.zero told synced) (c.write_rest.ensures.goes told)

pub returns-in_err-put_mark-clause-images : goal.returns-in_err-put_mark-clause-images
returns-in_err-put_mark-clause-images g c told synced =
    all_leaves _ c.args.digest.now c.args.generation c.args.events (seen c.args.kept.now) _ _ _ _ _ (λ first. refl) (c.clear.ensures.images told synced)
    (c.in_ok-clear.ensures.zero told synced) (c.write_rest.ensures.goes told) (c.put_mark.ensures.images told _ (c.in_ok-gate.ensures.text told))

pub returns-clause-images : goal.returns-clause-images
returns-clause-images g c told synced =
    all_leaves _ c.args.digest.now c.args.generation c.args.events (seen c.args.kept.now) _ _ _ _ _ (λ first. refl) (c.clear.ensures.images told synced)
    (c.in_ok-clear.ensures.zero told synced) (c.write_rest.ensures.goes told) (c.put_mark.ensures.images told _ (c.in_ok-gate.ensures.text told))
