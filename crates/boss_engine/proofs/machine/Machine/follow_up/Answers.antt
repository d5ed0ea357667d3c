use Rattle.std.proofs.Common.{◌≡◌, ◌<◌, ◌==◌, not, ◌||◌, [], ◌∷◌, length, Some, subst, sym, ap, ◌∙◌}
use Rattle.std.specs.Option.{option_map_or}
use Rattle.boss_model.specs.declared.notice.Cause.TheVariants as cause
use Rattle.boss_model.specs.declared.state.Lease.{Lease}
use Rattle.boss_model.specs.Ends.{end_leases, is_of}
use Rattle.boss_model.specs.Happenings.{Happening, tell}
use Rattle.boss_model.specs.Target.{in_force}
use Rattle.boss_persistent.specs.Lasting.{persistent_of}
use Rattle.law_effects.specs.Changes.{may_be_told}
use Rattle.boss_engine.proofs.Concerned.{concerned-changed, concerned-owner}
use Rattle.boss_engine.proofs.Doing.{ended-all, ended-changed, marked-unchanged, told-changed, told-only}
use Rattle.law_due.proofs.Owners.{in-force-known}
use Rattle.boss_engine.proofs.machine.Machine.follow_up.Goals as goal

pub tell-requires : goal.tell-requires
tell-requires c =
    let d = persistent_of c.args.self.now.lasting in
    let found : Some c.in-Some.lease.now ≡ in_force d.leases c.args.point = c.in-Some.ensures in
    record {
      owner = subst (λ (h : Happening). h.owner < length d.processes) (sym c.fault_of-happened.ensures)
          (in-force-known c.requires.can_act.0 d c.requires.can_act.1.sound c.args.point c.in-Some.lease.now (sym found));
      moment = c.requires.moment.0;
    }

pub returns-in-EndAll-clause-after : goal.returns-in-EndAll-clause-after
returns-in-EndAll-clause-after c =
    let d = persistent_of c.args.self.now.lasting in
    let found : Some c.in-Some.lease.now ≡ in_force d.leases c.args.point = c.in-Some.ensures in
    c.abort.ensures.after ∙ (ap (λ (h : Happening). end_leases (is_of h.txn) cause.Fault c.args.n (h ∷ []) d) c.fault_of-happened.ensures
    ∙ sym (ended-all c.args.point c.args.n c.in-Some.lease.now c.args.first d found (sym c.in-EndAll.is ∙ c.on_fault.ensures)))

pub returns-in-Tell-clause-after : goal.returns-in-Tell-clause-after
returns-in-Tell-clause-after c =
    let d = persistent_of c.args.self.now.lasting in
    let found : Some c.in-Some.lease.now ≡ in_force d.leases c.args.point = c.in-Some.ensures in
    c.tell.ensures.after ∙ (ap (λ (h : Happening). record d { now = c.args.n; processes = tell d.processes h }) c.fault_of-happened.ensures
    ∙ sym (told-only c.requires.can_act.0 c.args.point c.args.n c.in-Some.lease.now c.args.first d c.requires.can_act.1.sound found (sym c.in-Tell.is ∙ c.on_fault.ensures)))

pub returns-in-EndAll-clause-changed : goal.returns-in-EndAll-clause-changed
returns-in-EndAll-clause-changed c =
    ended-changed c.args.point c.args.n c.in-Some.lease.now c.args.first (persistent_of c.args.self.now.lasting) c.in-Some.ensures (sym c.in-EndAll.is ∙ c.on_fault.ensures)

pub returns-in-Tell-clause-changed : goal.returns-in-Tell-clause-changed
returns-in-Tell-clause-changed c =
    let d = persistent_of c.args.self.now.lasting in
    concerned-changed _ _ _ c.then_some.ensures ∙ c.tell.ensures.changed ∙ ap (λ (h : Happening). not (d.now == c.args.n) || may_be_told d.processes h.owner) c.fault_of-happened.ensures
    ∙ told-changed c.args.point c.args.n c.in-Some.lease.now c.args.first d c.in-Some.ensures (sym c.in-Tell.is ∙ c.on_fault.ensures)

pub returns-in-Mark-clause-changed : goal.returns-in-Mark-clause-changed
returns-in-Mark-clause-changed c =
    marked-unchanged c.args.point c.args.n c.in-Some.lease.now c.args.first (persistent_of c.args.self.now.lasting) (sym c.in-Mark.is ∙ c.on_fault.ensures)

pub returns-in-EndAll-clause-owner : goal.returns-in-EndAll-clause-owner
returns-in-EndAll-clause-owner c = ap (λ found. option_map_or (λ (lease : Lease). lease.owner) found 0) c.in-Some.ensures

pub returns-in-Tell-clause-owner : goal.returns-in-Tell-clause-owner
returns-in-Tell-clause-owner c =
    concerned-owner _ _ _ _ c.then_some.ensures (ap (λ found. option_map_or (λ (lease : Lease). lease.owner) found 0) c.in-Some.ensures)
