use Rattle.std.proofs.Common.{Err, sym, subst}
use Rattle.std.proofs.lemmas.Result.{IfOk-weaker, IfErr-weaker}
use Rattle.boss_adopting.specs.Adopts.{Adopts}
use Rattle.boss_changing.specs.Adoptions.{IsRestored}
use Rattle.boss_model.specs.Catalogue.{actuators}
use Rattle.boss_model.specs.Seen.{seen}
use Rattle.boss_model.specs.Sound.{IsSoundPersistent}
use Rattle.boss_model.specs.State.{Persistent}
use Rattle.law_adoption.proofs.MovedSound.{adoption-sound}
use Rattle.boss_changing.proofs.preparing.adopt_kept.Goals as goal

pub restore-requires : goal.restore-requires
restore-requires c =
    let may = c.in-Ok.ensures in
    subst (λ (d : Persistent). IsSoundPersistent (actuators c.args.new.now) d) (sym may.2)
    (adoption-sound c.args.old.now c.args.new.now (seen c.args.kept.now) c.count.ensures.apart c.requires may.0 may.1)

pub returns-in-Ok-clause-prepared : goal.returns-in-Ok-clause-prepared
returns-in-Ok-clause-prepared c =
    let may = c.in-Ok.ensures in
    IfOk-weaker c.restore.result _ _
    (λ prepared is. record { may = (may.0, may.1); restored = subst (λ (d : Persistent). IsRestored c.args.new.now d prepared) may.2 is }) c.restore.ensures.restored

pub returns-in-Ok-clause-refuses : goal.returns-in-Ok-clause-refuses
returns-in-Ok-clause-refuses c =
    IfErr-weaker c.restore.result _ _
    (λ why is. subst (λ w. Adopts c.args.old.now c.args.new.now (seen c.args.kept.now) (Err w)) (sym is) tt) c.restore.ensures.refuses
