use Rattle.std.proofs.Common.{ℕ, ◌≤◌, refl, sym, subst, arith}
use Rattle.boss_durable.specs.Words.{lasting}
use Rattle.law_shift.specs.Shifted.{MayShift}
use Rattle.boss_shift_jobs.proofs.Coming.{too-far-so}
use Rattle.boss_shift_jobs.proofs.Moving.{still-moves, still-stays}
use Rattle.boss_shift_jobs.proofs.Reaches.{less-may, more-may-not}
use Rattle.boss_shift_jobs.proofs.shifting.shift_kept_state.Goals as goal

-- ---- so far they can't be taken back

pub returns-then-by-most-clause-comes : goal.returns-then-by-most-clause-comes
returns-then-by-most-clause-comes g c =
    let d = lasting c.args.durable in
    let most = c.most_shift-most.result in
    let may : MayShift most d = subst (MayShift most) c.requires.kept c.most_shift-most.ensures.may in
    let greatest : (other : ℕ) → MayShift other d → other ≤ most =
    λ other can. c.most_shift-most.ensures.most other (subst (MayShift other) (sym c.requires.kept) can) in
    too-far-so g.D.Disk g.K.Sink c.args.catalogue.now c.args.by c.args.durable c.requires.plant c.requires.digest c.requires.keeps c.requires.leaves
    c.args.sink.now c.say_too_far-status.new.sink c.say_too_far-status.result.0 c.args.durable c.close.result
    (record { parts = c.close.ensures.disks; opens = c.close.ensures.opens; left = c.close.ensures.left }) refl
    most (more-may-not c.args.by most d (omega (arith, c.if-by-most.true)) greatest) may greatest c.say_too_far-status.ensures

pub returns-then-by-most-clause-moves : goal.returns-then-by-most-clause-moves
returns-then-by-most-clause-moves g c =
    still-moves g.D.Disk c.args.catalogue.now c.args.durable c.requires.plant c.requires.digest c.requires.keeps c.requires.leaves c.args.by c.close.result c.close.ensures.disks

pub returns-then-by-most-clause-stays : goal.returns-then-by-most-clause-stays
returns-then-by-most-clause-stays g c refuses =
    still-stays g.D.Disk c.args.catalogue.now c.args.durable c.requires.plant c.requires.digest c.requires.keeps c.requires.leaves c.close.result c.close.ensures.disks

-- ---- they can

pub shift_within-requires-clause-may : goal.shift_within-requires-clause-may
shift_within-requires-clause-may g c =
    let most = c.most_shift-most.result in
    less-may c.args.by most (lasting c.args.durable) (omega (arith, c.if-by-most.false)) (subst (MayShift most) c.requires.kept c.most_shift-most.ensures.may)

pub returns-clause-stays : goal.returns-clause-stays
returns-clause-stays g c refuses =
    let most = c.most_shift-most.result in
    absurd (refuses (less-may c.args.by most (lasting c.args.durable) (omega (arith, c.if-by-most.false)) (subst (MayShift most) c.requires.kept c.most_shift-most.ensures.may)))
