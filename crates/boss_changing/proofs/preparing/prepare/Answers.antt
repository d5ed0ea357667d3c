use Rattle.std.proofs.Common.{List, sym, subst}
use Rattle.std.proofs.Common.{Err}
use Rattle.std.proofs.lemmas.Result.{IfOk-weaker, IfErr-weaker}
use Rattle.boss_adopting.specs.Adopts.{Adopts}
use Rattle.boss_changing.specs.Adoptions.{IsPrepared}
use Rattle.boss_durable.specs.Words.{lasting}
use Rattle.boss_model.specs.declared.state.Actuator.{Actuator}
use Rattle.boss_model.specs.Sound.{IsSoundPersistent}
use Rattle.boss_model.specs.State.{Persistent}
use Rattle.boss_changing.proofs.preparing.prepare.Goals as goal

pub adopt_kept-requires : goal.adopt_kept-requires
adopt_kept-requires g c =
    subst (λ (q : List Actuator × Persistent). IsSoundPersistent q.0 q.1) (λ i. (c.requires i, sym c.in-Ok.ensures.kept i)) c.keep.ensures.sound

pub returns-in-Ok-clause-prepared : goal.returns-in-Ok-clause-prepared
returns-in-Ok-clause-prepared g c =
    IfOk-weaker c.adopt_kept.result _ _
    (λ prepared is. subst (λ (d : Persistent). IsPrepared c.args.old.now c.args.new.now d prepared) c.in-Ok.ensures.kept is) c.adopt_kept.ensures.prepared

pub returns-in-Ok-clause-refuses : goal.returns-in-Ok-clause-refuses
returns-in-Ok-clause-refuses g c =
    IfErr-weaker c.adopt_kept.result _ _
    (λ why is. subst (λ (d : Persistent). Adopts c.args.old.now c.args.new.now d (Err why)) c.in-Ok.ensures.kept is) c.adopt_kept.ensures.refuses
