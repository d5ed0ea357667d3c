use Rattle.std.proofs.Common.{◌≡◌, ◌<◌, ◌≤◌, nat_eq, true, false, length, sym, ◌∙◌, arith}
use Rattle.std.specs.Cmp.Lexicographic.{pointwise}
use Rattle.boss_persistent.proofs.Firsts.{skipped-more, position-here, position-none}
use Rattle.boss_persistent.proofs.Side.{named-names}
use Rattle.boss_persistent.proofs.processes.Processes.named.Goals as goal

pub loop-place-preserved : goal.loop-place-preserved
loop-place-preserved c =
    let inside : c.loop-place.place < length c.self.inside.entries.items = omega arith in
    let other : pointwise nat_eq c.index.result.now.name c.args.name.now ≡ false =
    rw (← c.bytes.ensures.value, ← c.bytes-in-loop-place.ensures.value) (sym c.eq.ensures ∙ c.if-eq.false) in
    skipped-more (λ known. pointwise nat_eq known.name c.args.name.now) c.self.inside.entries.items c.loop-place.place c.index.result.now inside c.index.ensures other c.loop-place.invariant

pub returns-then-eq : goal.returns-then-eq
returns-then-eq c =
    let inside : c.loop-place.place < length c.self.inside.entries.items = omega arith in
    let same : pointwise nat_eq c.index.result.now.name c.args.name.now ≡ true =
    rw (← c.bytes.ensures.value, ← c.bytes-in-loop-place.ensures.value) (sym c.eq.ensures ∙ c.if-eq.true) in
    let found = position-here (λ known. pointwise nat_eq known.name c.args.name.now) c.self.inside.entries.items c.loop-place.place c.index.result.now inside c.index.ensures same c.loop-place.invariant in
    rw (← c.self.view_is, named-names c.self.inside.entries.items c.self.inside.rings c.args.name.now c.self.invariant.0) (sym found)

pub returns : goal.returns
returns c =
    let past : length c.self.inside.entries.items ≤ c.loop-place.place = omega arith in
    let none = position-none (λ known. pointwise nat_eq known.name c.args.name.now) c.self.inside.entries.items c.loop-place.place past c.loop-place.invariant in
    rw (← c.self.view_is, named-names c.self.inside.entries.items c.self.inside.rings c.args.name.now c.self.invariant.0) (sym none)
