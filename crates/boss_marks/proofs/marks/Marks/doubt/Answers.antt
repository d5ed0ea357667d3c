use Rattle.std.proofs.Common.{rules, ◌≡◌, true, false, length, ◌<◌, pos, sym, ◌∙◌}
use Rattle.std.proofs.lemmas.List.{get_or_read}
use Rattle.std.proofs.lemmas.Option.{unwrap_or-slice_get}
use Rattle.boss_model.specs.Devices.{is_settled, proxy_of, doubted}
use Rattle.boss_model.specs.Settle.{fresh}
use Rattle.boss_marks.specs.Marks.{wanted}
use Rattle.boss_marks.proofs.Doubts.{settled-doubted, other-stays}
use Rattle.boss_marks.proofs.marks.Marks.doubt.Goals as goal

pub returns-then-ne-clause-after : goal.returns-then-ne-clause-after
returns-then-ne-clause-after c =
    let known : c.args.point < length c.args.self.now.proxies = search rules in
    let other : false ≡ is_settled (proxy_of c.args.self.now.proxies c.args.point).mark = search rules in
    other-stays c.args.point c.args.differs c.args.self.now known other

pub returns-clause-answer : goal.returns-clause-answer
returns-clause-answer c = search rules

pub returns-clause-after : goal.returns-clause-after
returns-clause-after c =
    let known : c.args.point < length c.args.self.now.proxies = search rules in
    let settled : true ≡ is_settled (proxy_of c.args.self.now.proxies c.args.point).mark = search rules in
    let within : c.point.inside.0 < length c.self.inside.proxies.items = search rules in
    let own : c.index_mut.result.now ≡ proxy_of c.self.inside.proxies.items c.point.inside.0 =
    get_or_read _ _ _ within c.index_mut.ensures.value (fresh (pos 0)) ∙ sym (unwrap_or-slice_get c.self.inside.proxies.items c.point.inside.0 (fresh (pos 0))) in
    let turn : _ ≡ wanted c.args.point (doubted c.args.differs (0, proxy_of c.args.self.now.proxies c.args.point)) c.args.self.now = search rules in
    turn ∙ settled-doubted c.args.point c.args.differs c.args.self.now known settled
