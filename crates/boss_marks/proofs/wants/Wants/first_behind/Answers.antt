use Rattle.std.proofs.Common.{◌≡◌, ◌<◌, length, true, false, sym, ◌∙◌, ap, arith}
use Rattle.boss_model.specs.Lists.{member}
use Rattle.boss_marks.specs.Wants.{first_of}
use Rattle.boss_marks.proofs.Firsts.{onward}
use Rattle.boss_marks.proofs.Wanting.{is_of, read_at, next_known, next_left, next_first, next_further, next_smaller}
use Rattle.boss_marks.proofs.wants.Wants.first_behind.Goals as goal

pub loop-next-init : goal.loop-next-init
loop-next-init c =
    let inside : member c.args.point c.self.inside.line.points ≡ true = rw (← c.self.view_is) at c.requires in
    record {
      left = ap (first_of c.self.inside.drivers.items c.args.driver) (ap (λ next. onward next c.self.inside.line.points) c.after-next.ensures ∙ next_left c.self.invariant c.args.point);
      stands = λ want is. next_known c.self.invariant c.args.point inside want (sym c.after-next.ensures ∙ is);
    }

pub index-requires : goal.index-requires
index-requires c =
    let known : c.in-Some.want < length c.self.inside.drivers.items = c.self.invariant.known c.in-Some.want (c.loop-next.invariant.stands c.in-Some.want c.in-Some.is) in
    let place : c.want.inside.0 ≡ c.in-Some.want = c.want.view_is in
    omega arith

pub returns-then-eq : goal.returns-then-eq
returns-then-eq c =
    let known = c.self.invariant.known c.in-Some.want (c.loop-next.invariant.stands c.in-Some.want c.in-Some.is) in
    let read = read_at c.self.inside.drivers.items c.want.inside.0 c.in-Some.want c.index.result.now 0 c.want.view_is known c.index.ensures in
    let own : is_of c.self.inside.drivers.items c.args.driver c.in-Some.want ≡ true = rw (← read) (sym c.eq.ensures ∙ c.if-eq.true) in
    rw (← c.self.view_is) (next_first c.self.invariant c.args.driver c.args.point c.in-Some.want c.loop-next.next c.in-Some.is c.loop-next.invariant.left own)

pub loop-next-smaller : goal.loop-next-smaller
loop-next-smaller c = next_smaller c.self.invariant c.in-Some.want c.loop-next.next c.after-next-in-Some.result c.in-Some.is c.after-next-in-Some.ensures

pub loop-next-preserved : goal.loop-next-preserved
loop-next-preserved c =
    let inside : member c.in-Some.want c.self.inside.line.points ≡ true = c.loop-next.invariant.stands c.in-Some.want c.in-Some.is in
    let read = read_at c.self.inside.drivers.items c.want.inside.0 c.in-Some.want c.index.result.now 0 c.want.view_is (c.self.invariant.known c.in-Some.want inside) c.index.ensures in
    let other : is_of c.self.inside.drivers.items c.args.driver c.in-Some.want ≡ false = rw (← read) (sym c.eq.ensures ∙ c.if-eq.false) in
    record {
      left = next_further c.self.invariant c.args.driver c.args.point c.in-Some.want c.loop-next.next c.after-next-in-Some.result c.in-Some.is c.loop-next.invariant.left other c.after-next-in-Some.ensures;
      stands = λ want is. next_known c.self.invariant c.in-Some.want inside want (sym c.after-next-in-Some.ensures ∙ is);
    }
