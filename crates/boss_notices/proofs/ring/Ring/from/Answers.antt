use Rattle.std.proofs.Common.{◌≡◌, ◌-◌, ◌≤◌, min, length, take, drop, length-drop, ap, refl, arith}
use Rattle.std.proofs.lemmas.List.{take_min}
use Rattle.boss_model.specs.Queries.{numbered_from}
use Rattle.boss_notices.specs.Rings.{start}
use Rattle.boss_notices.proofs.Numbering.{numbered_from-places}
use Rattle.boss_notices.proofs.ring.Ring.from.Goals as goal

pub returns-clause-list : goal.returns-clause-list
returns-clause-list c =
    let kept = c.args.self.now.kept in
    let first = c.first-first.result in
    let begin = c.min-start.result in
    let count : c.self.inside.count ≡ c.args.self.now.count = ap (λ r. r.count) c.self.view_is in
    let low : first ≤ begin = omega arith in
    let left : length (drop (begin - first) kept) ≡ length kept - (begin - first) = length-drop (begin - first) kept in
    let all : min c.args.most (length (drop (begin - first) kept)) ≡ c.min-wanted.result = omega arith in
    let asked : take c.min-wanted.result (drop (begin - first) kept) ≡ take c.args.most (drop (begin - first) kept) =
    rw (← all) (take_min c.args.most (drop (begin - first) kept)) in
    let starts : begin ≡ start c.args.self.now c.args.number = omega arith in
    let numbered : numbered_from begin c.args.most kept ≡ take c.args.most (drop (begin - first) kept) =
    numbered_from-places first begin c.args.most kept c.first-first.ensures.numbered low in
    rw (c.copy.ensures.list, asked, ← numbered, starts) refl
