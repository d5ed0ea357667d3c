use Rattle.std.proofs.Common.{Ok, Err, subst}
use Rattle.boss_jobs.specs.Loads.{Loads}
use Rattle.boss_adopt_jobs.proofs.Loading.{asks-first, asks-second, asks-whole, cause-first, cause-second, first-refused, second-refused}
use Rattle.boss_adopt_jobs.proofs.catalogues.load_both.Goals as goal

-- ---- both can be used

pub returns-in-Ok-load-clause-loads : goal.returns-in-Ok-load-clause-loads
returns-in-Ok-load-clause-loads g c = (
  c.in-Ok.ensures.loads,
  λ tells. subst (λ held. Loads c.args.devices held (Ok c.in-Ok-load.new)) (c.in-Ok.ensures.stays tells c.args.new_name.now) (c.in-Ok-load.ensures.loads tells),
)

pub returns-in-Ok-load-clause-asks : goal.returns-in-Ok-load-clause-asks
returns-in-Ok-load-clause-asks g c tells =
    asks-whole c.args.old_name.now c.args.new_name.now _ _ _ (record { old = c.in-Ok.old; new = c.in-Ok-load.new }) (c.in-Ok.ensures.asks tells) (c.in-Ok-load.ensures.asks tells)

-- ---- the new one is refused

pub returns-in-Err-load-clause-loads : goal.returns-in-Err-load-clause-loads
returns-in-Err-load-clause-loads g c =
    second-refused g.F.Files c.args.devices c.args.files.now c.args.old_name.now c.args.new_name.now c.in-Ok.old c.in-Err-load.unusable c.in-Ok.ensures.loads
    (λ tells. subst (λ held. Loads c.args.devices held (Err c.in-Err-load.unusable)) (c.in-Ok.ensures.stays tells c.args.new_name.now) (c.in-Err-load.ensures.loads tells))

pub returns-in-Err-load-clause-asks : goal.returns-in-Err-load-clause-asks
returns-in-Err-load-clause-asks g c tells =
    asks-second c.args.old_name.now c.args.new_name.now _ _ _ c.in-Err-load.unusable (c.in-Ok.ensures.asks tells) (c.in-Err-load.ensures.asks tells)

pub returns-in-Err-load-clause-cause : goal.returns-in-Err-load-clause-cause
returns-in-Err-load-clause-cause g c =
    cause-second _ _ _ c.in-Err-load.unusable c.in-Ok.ensures.cause c.in-Err-load.ensures.cause

-- ---- the old one is

pub returns-in-Err-clause-loads : goal.returns-in-Err-clause-loads
returns-in-Err-clause-loads g c =
    first-refused g.F.Files c.args.devices c.args.files.now c.args.old_name.now c.args.new_name.now c.in-Err.unusable c.in-Err.ensures.loads

pub returns-in-Err-clause-asks : goal.returns-in-Err-clause-asks
returns-in-Err-clause-asks g c tells = asks-first c.args.old_name.now c.args.new_name.now _ _ c.in-Err.unusable (c.in-Err.ensures.asks tells)

pub returns-in-Err-clause-cause : goal.returns-in-Err-clause-cause
returns-in-Err-clause-cause g c = cause-first _ _ c.in-Err.unusable c.in-Err.ensures.cause
