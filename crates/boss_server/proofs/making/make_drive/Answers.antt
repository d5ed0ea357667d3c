use Rattle.std.proofs.Common.{◌≡◌, ℕ, ◌+◌, ◌<◌, List, [], ◌∷◌, ◌++◌, length, refl, sym, ap, ◌∙◌, arith, append_assoc}
use Rattle.std.proofs.lemmas.List.{append-nil}
use Rattle.boss_worker.specs.Workers.{share_at, was_at, IsReady}
use Rattle.boss_server.specs.Turns.{devices_of, shares_of, AllInTurn}
use Rattle.boss_server.proofs.FreshLemmas.{fresh-worker}
use Rattle.boss_server.proofs.TurnLemmas.{all-behind, devices-behind, first-removed, shares-behind}
use Rattle.boss_server.proofs.making.make_drive.Goals as goal

pub returns-clause-ready : goal.returns-clause-ready
returns-clause-ready g c = all-behind
    (λ number worker. (worker.server.now ≡ c.args.server.now) × (worker.number ≡ number)
    × IsReady g.G.Desk g.H.Host g.C.Clock g.W.Waiter g.A.Actuators c.args.server.now.catalogue.now c.args.server.now.desk c.args.server.now.workers number worker.pass worker.duty worker.clock worker.waiter worker.flags)
    c.args.made.now.items c.push_in_room.new.items.items _ c.push_in_room.ensures.items c.requires.ready (
      refl,
      omega (arith, c.requires.next, c.from.ensures),
      fresh-worker g.G.Desk g.H.Host g.C.Clock g.W.Waiter g.A.Actuators c.args.server.now.catalogue.now c.args.server.now.desk c.args.server.now.workers (length c.args.made.now.items) _ _ _ _ _ _
          c.split-own_pass.ensures.own.1 c.split-own_pass.ensures.parts.1 c.split-own_pass.ensures.mine.1 c.split-own_pass.ensures.held.1 c.requires.plant c.in_ok-own_clock.ensures.fresh.0 c.in_ok-own_clock.ensures.fresh.1 c.requires.told c.requires.few
          (c.requires.next, c.of-was.ensures) c.none.ensures,
    )

pub returns-clause-share : goal.returns-clause-share
returns-clause-share g c = shares-behind (λ worker. share_at g.H.Host worker.duty) c.args.made.now.items c.push_in_room.new.items.items _ c.push_in_room.ensures.items
    ∙ omega arith

pub returns-clause-devices : goal.returns-clause-devices
returns-clause-devices g c =
    let before : List g.row.A.Denot = devices_of c.args.made.now.items (λ worker. was_at worker.duty) in
    ap (λ list. list ++ c.remove-device.new.self.items) (devices-behind (λ worker. was_at worker.duty) c.args.made.now.items c.push_in_room.new.items.items _ c.push_in_room.ensures.items)
    ∙ append_assoc before (c.of-was.result.value ∷ []) c.remove-device.new.self.items
    ∙ ap (λ list. before ++ list) (ap (λ device. device ∷ c.remove-device.new.self.items) c.of-was.ensures
    ∙ first-removed c.args.outside.now.devices.now.items c.remove-device.result c.remove-device.new.self.items (omega (arith, c.requires.some)) c.remove-device.ensures.value c.remove-device.ensures.items)
