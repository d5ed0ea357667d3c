use Rattle.std.proofs.Common.{◌≡◌, ℕ, suc, Bool, ◌+◌, ◌-◌, ◌≤◌, ◌||◌, not, true, false, List, [], ◌∷◌, ◌++◌, length, refl, sym, ap, ◌∙◌, subst, arith, length-append, append-nil, append_assoc, rules, option_copied}
use Rattle.std.proofs.lemmas.Grind.{common_steps}
use Rattle.std.proofs.lemmas.List.{nil_from_length}
use Rattle.boss_worker.specs.declared.flags.Flags.{Flags}
use Rattle.boss_worker.specs.Desks.{own_of}
use Rattle.boss_worker.specs.Saying.{terms_of}
use Rattle.boss_worker.specs.Troubles.{both_flags}
use Rattle.def_history.specs.History.{deeds}
use Rattle.boss_worker.specs.Workers.{devices_at, faults_at, handed_at, served_at, share_at, was_at, HasLeft}
use Rattle.boss_server.specs.Accounts.{Returned}
use Rattle.boss_server.specs.Hosted.{hosted_at}
use Rattle.boss_server.specs.Together.{Together}
use Rattle.boss_server.specs.Turns.{devices_in, is_any_unrun, shares_in, EachInTurn}
use Rattle.boss_server.proofs.RanLemmas.{devices-first, each-first, shares-first, unrun-first}
use Rattle.boss_server.proofs.ReferenceLemmas.{references-same, references-then}
use Rattle.boss_server.proofs.ReturnedLemmas.{back-length, fits-next, put-length, put-next, returned-first, returned-next}
use Rattle.boss_server.proofs.TogetherLemmas.{together-first, together-next}
use Rattle.boss_server.proofs.joining.join_all.Goals as goal
use Rattle.boss_outside_server.specs.declared.waited.Waited.{Waited}

pub loop-ran-init : goal.loop-ran-init
loop-ran-init g c =
    let same : c.into_iter-ran-iterator.result.rest.items ≡ c.args.done.items = c.into_iter-ran-iterator.ensures.into_iter_gives.0 in
    record {
      own = c.requires.own;
      parts = omega arith;
      references = references-same c.args.outside.now;
      sound = c.requires.sound;
      listens = λ told. refl;
      spawner = refl;
      left = subst (λ items. EachInTurn items 0 (λ ran number worker. (worker.server.now ≡ c.args.server.now) × (worker.number ≡ number)
          × HasLeft g.G.Desk g.H.Host g.C.Clock g.W.Waiter g.A.Actuators ran (terms_of c.args.server.now.catalogue.now (g.G.Desk.denies c.args.server.now.desk) (option_copied c.args.server.now.keys) c.args.server.now.workers g.H.In.Source.tells g.H.Out.Sink.tells g.H.Host.tells g.C.Clock.tells g.W.Waiter.tells) c.args.server.now.desk number worker.pass worker.duty worker.clock worker.waiter worker.flags)) (sym same) c.requires.left;
      count = omega (arith, ap length same);
      shares = 0;
      all_shares = let e : shares_in c.into_iter-ran-iterator.result.rest.items (λ worker. share_at g.H.Host worker.duty) ≡ shares_in c.args.done.items (λ worker. share_at g.H.Host worker.duty) =
          ap (λ items. shares_in items (λ worker. share_at g.H.Host worker.duty)) same in omega (arith, e);
      works = [];
      together = subst (λ flags. Together (terms_of c.args.server.now.catalogue.now (g.G.Desk.denies c.args.server.now.desk) (option_copied c.args.server.now.keys) c.args.server.now.workers g.H.In.Source.tells g.H.Out.Sink.tells g.H.Host.tells g.C.Clock.tells g.W.Waiter.tells) 0 0 [] (own_of g.G.Desk c.args.pass.now) (g.G.Desk.seen c.args.pass.now)
          (g.H.Host.served c.args.outside.now.host.now) (g.H.Host.served c.args.outside.now.host.now) (g.C.Clock.given c.args.outside.now.clock.now) (g.C.Clock.given c.args.outside.now.clock.now) (hosted_at g.H.Host c.args.outside.now.host.now) (hosted_at g.H.Host c.args.outside.now.host.now)
          (g.C.Clock.faults c.args.outside.now.clock.now) (g.C.Clock.faults c.args.outside.now.clock.now) flags false) (sym c.none-flags.ensures)
          (together-first (terms_of c.args.server.now.catalogue.now (g.G.Desk.denies c.args.server.now.desk) (option_copied c.args.server.now.keys) c.args.server.now.workers g.H.In.Source.tells g.H.Out.Sink.tells g.H.Host.tells g.C.Clock.tells g.W.Waiter.tells) (own_of g.G.Desk c.args.pass.now) (g.G.Desk.seen c.args.pass.now) (g.H.Host.served c.args.outside.now.host.now) (g.C.Clock.given c.args.outside.now.clock.now)
          (hosted_at g.H.Host c.args.outside.now.host.now) (g.C.Clock.faults c.args.outside.now.clock.now) (ap deeds c.requires.empty));
      was = [];
      back = [];
      devices = refl;
      all_devices = ap (λ items. devices_in items (λ worker. was_at worker.duty)) same;
      room = let e : length (devices_in c.into_iter-ran-iterator.result.rest.items (λ worker. was_at worker.duty)) ≡ length (devices_in c.args.done.items (λ worker. was_at worker.duty)) =
          ap (λ items. length (devices_in items (λ worker. was_at worker.duty))) same in omega (arith, e, c.requires.room);
      returned = returned-first g.A.Actuators.calls (λ device. g.A.Actuators.tells × g.A.Actuators.whole device) (terms_of c.args.server.now.catalogue.now (g.G.Desk.denies c.args.server.now.desk) (option_copied c.args.server.now.keys) c.args.server.now.workers g.H.In.Source.tells g.H.Out.Sink.tells g.H.Host.tells g.C.Clock.tells g.W.Waiter.tells) g.W.Waiter.tells (own_of g.G.Desk c.args.pass.now) (g.W.Waiter.waits c.args.outside.now.waiter.now);
      unrun = ap is_any_unrun same;
    }

pub join_one-requires-clause-own : goal.join_one-requires-clause-own
join_one-requires-clause-own g c =
    let step : c.loop-ran.ran-iterator.rest.items ≡ c.in-Some.ran ∷ c.next.new.self.rest.items = c.in-Some.ensures.steps.0 in
    let facts = each-first c.in-Some.ran c.next.new.self.rest.items (length c.loop-ran.yielded) (λ ran number worker. (worker.server.now ≡ c.args.server.now) × (worker.number ≡ number)
    × HasLeft g.G.Desk g.H.Host g.C.Clock g.W.Waiter g.A.Actuators ran (terms_of c.args.server.now.catalogue.now (g.G.Desk.denies c.args.server.now.desk) (option_copied c.args.server.now.keys) c.args.server.now.workers g.H.In.Source.tells g.H.Out.Sink.tells g.H.Host.tells g.C.Clock.tells g.W.Waiter.tells) c.args.server.now.desk number worker.pass worker.duty worker.clock worker.waiter worker.flags) c.worker_of-worker.result.0 c.worker_of-worker.result.1 c.worker_of-worker.ensures
    (subst (λ items. EachInTurn items (length c.loop-ran.yielded) (λ ran number worker. (worker.server.now ≡ c.args.server.now) × (worker.number ≡ number)
    × HasLeft g.G.Desk g.H.Host g.C.Clock g.W.Waiter g.A.Actuators ran (terms_of c.args.server.now.catalogue.now (g.G.Desk.denies c.args.server.now.desk) (option_copied c.args.server.now.keys) c.args.server.now.workers g.H.In.Source.tells g.H.Out.Sink.tells g.H.Host.tells g.C.Clock.tells g.W.Waiter.tells) c.args.server.now.desk number worker.pass worker.duty worker.clock worker.waiter worker.flags)) step c.loop-ran.invariant.left) in
    (c.loop-ran.invariant.own, facts.0.2.own)

pub join_one-requires-clause-place : goal.join_one-requires-clause-place
join_one-requires-clause-place g c =
    let step : c.loop-ran.ran-iterator.rest.items ≡ c.in-Some.ran ∷ c.next.new.self.rest.items = c.in-Some.ensures.steps.0 in
    let facts = each-first c.in-Some.ran c.next.new.self.rest.items (length c.loop-ran.yielded) (λ ran number worker. (worker.server.now ≡ c.args.server.now) × (worker.number ≡ number)
    × HasLeft g.G.Desk g.H.Host g.C.Clock g.W.Waiter g.A.Actuators ran (terms_of c.args.server.now.catalogue.now (g.G.Desk.denies c.args.server.now.desk) (option_copied c.args.server.now.keys) c.args.server.now.workers g.H.In.Source.tells g.H.Out.Sink.tells g.H.Host.tells g.C.Clock.tells g.W.Waiter.tells) c.args.server.now.desk number worker.pass worker.duty worker.clock worker.waiter worker.flags) c.worker_of-worker.result.0 c.worker_of-worker.result.1 c.worker_of-worker.ensures
    (subst (λ items. EachInTurn items (length c.loop-ran.yielded) (λ ran number worker. (worker.server.now ≡ c.args.server.now) × (worker.number ≡ number)
    × HasLeft g.G.Desk g.H.Host g.C.Clock g.W.Waiter g.A.Actuators ran (terms_of c.args.server.now.catalogue.now (g.G.Desk.denies c.args.server.now.desk) (option_copied c.args.server.now.keys) c.args.server.now.workers g.H.In.Source.tells g.H.Out.Sink.tells g.H.Host.tells g.C.Clock.tells g.W.Waiter.tells) c.args.server.now.desk number worker.pass worker.duty worker.clock worker.waiter worker.flags)) step c.loop-ran.invariant.left) in
    let inv = c.loop-ran.invariant in
    fits-next g.A.Actuators c.args.server.now.workers (length c.loop-ran.yielded) c.worker_of-worker.result.0.duty inv.back c.args.outside.now.devices.now.items c.loop-ran.outside.devices.now.items facts.0.2.placed
    (back-length g.A.Actuators.calls (λ device. g.A.Actuators.tells × g.A.Actuators.whole device) 0 inv.was inv.back inv.works inv.returned.back ∙ inv.returned.drivers) inv.devices

pub join_one-requires-clause-room : goal.join_one-requires-clause-room
join_one-requires-clause-room g c =
    let step : c.loop-ran.ran-iterator.rest.items ≡ c.in-Some.ran ∷ c.next.new.self.rest.items = c.in-Some.ensures.steps.0 in
    let handed : devices_in c.loop-ran.ran-iterator.rest.items (λ worker. was_at worker.duty) ≡ was_at c.worker_of-worker.result.0.duty ++ devices_in c.next.new.self.rest.items (λ worker. was_at worker.duty) =
    ap (λ items. devices_in items (λ worker. was_at worker.duty)) step
    ∙ devices-first c.in-Some.ran c.next.new.self.rest.items (λ worker. was_at worker.duty) c.worker_of-worker.result.0 c.worker_of-worker.result.1 c.worker_of-worker.ensures in
    omega (arith, c.loop-ran.invariant.room, ap length handed, length-append (was_at c.worker_of-worker.result.0.duty) (devices_in c.next.new.self.rest.items (λ worker. was_at worker.duty)))

pub loop-ran-preserved : goal.loop-ran-preserved
loop-ran-preserved g c =
    let step : c.loop-ran.ran-iterator.rest.items ≡ c.in-Some.ran ∷ c.next.new.self.rest.items = c.in-Some.ensures.steps.0 in
    let facts = each-first c.in-Some.ran c.next.new.self.rest.items (length c.loop-ran.yielded) (λ ran number worker. (worker.server.now ≡ c.args.server.now) × (worker.number ≡ number)
    × HasLeft g.G.Desk g.H.Host g.C.Clock g.W.Waiter g.A.Actuators ran (terms_of c.args.server.now.catalogue.now (g.G.Desk.denies c.args.server.now.desk) (option_copied c.args.server.now.keys) c.args.server.now.workers g.H.In.Source.tells g.H.Out.Sink.tells g.H.Host.tells g.C.Clock.tells g.W.Waiter.tells) c.args.server.now.desk number worker.pass worker.duty worker.clock worker.waiter worker.flags) c.worker_of-worker.result.0 c.worker_of-worker.result.1 c.worker_of-worker.ensures
    (subst (λ items. EachInTurn items (length c.loop-ran.yielded) (λ ran number worker. (worker.server.now ≡ c.args.server.now) × (worker.number ≡ number)
    × HasLeft g.G.Desk g.H.Host g.C.Clock g.W.Waiter g.A.Actuators ran (terms_of c.args.server.now.catalogue.now (g.G.Desk.denies c.args.server.now.desk) (option_copied c.args.server.now.keys) c.args.server.now.workers g.H.In.Source.tells g.H.Out.Sink.tells g.H.Host.tells g.C.Clock.tells g.W.Waiter.tells) c.args.server.now.desk number worker.pass worker.duty worker.clock worker.waiter worker.flags)) step c.loop-ran.invariant.left) in
    let inv = c.loop-ran.invariant in
    let more : suc (length c.loop-ran.yielded) ≡ length (c.loop-ran.yielded ++ c.in-Some.ran ∷ []) = omega (arith, length-append c.loop-ran.yielded (c.in-Some.ran ∷ [])) in
    let backs : length inv.back ≡ length c.loop-ran.yielded - (c.args.server.now.workers + 1) =
    back-length g.A.Actuators.calls (λ device. g.A.Actuators.tells × g.A.Actuators.whole device) 0 inv.was inv.back inv.works inv.returned.back ∙ inv.returned.drivers in
    let handed : devices_in c.loop-ran.ran-iterator.rest.items (λ worker. was_at worker.duty) ≡ was_at c.worker_of-worker.result.0.duty ++ devices_in c.next.new.self.rest.items (λ worker. was_at worker.duty) =
    ap (λ items. devices_in items (λ worker. was_at worker.duty)) step
    ∙ devices-first c.in-Some.ran c.next.new.self.rest.items (λ worker. was_at worker.duty) c.worker_of-worker.result.0 c.worker_of-worker.result.1 c.worker_of-worker.ensures in
    let note : Waited = g.W.Waiter.waited c.worker_of-worker.result.0.waiter in
    record {
      own = c.join_one.ensures.own;
      parts = omega (arith, c.join_one.ensures.parts, facts.0.2.one, inv.parts, more);
      references = references-then c.args.outside.now c.loop-ran.outside c.join_one.new.outside inv.references c.join_one.ensures.references;
      sound = c.join_one.ensures.sound;
      listens = λ told. c.join_one.ensures.listens told ∙ inv.listens told;
      spawner = c.join_one.ensures.spawner ∙ inv.spawner;
      left = subst (λ n. EachInTurn c.next.new.self.rest.items n (λ ran number worker. (worker.server.now ≡ c.args.server.now) × (worker.number ≡ number)
          × HasLeft g.G.Desk g.H.Host g.C.Clock g.W.Waiter g.A.Actuators ran (terms_of c.args.server.now.catalogue.now (g.G.Desk.denies c.args.server.now.desk) (option_copied c.args.server.now.keys) c.args.server.now.workers g.H.In.Source.tells g.H.Out.Sink.tells g.H.Host.tells g.C.Clock.tells g.W.Waiter.tells) c.args.server.now.desk number worker.pass worker.duty worker.clock worker.waiter worker.flags)) more facts.1;
      count = omega (arith, inv.count, ap length step, more);
      shares = inv.shares + share_at g.H.Host c.worker_of-worker.result.0.duty;
      all_shares =
          let e : shares_in c.loop-ran.ran-iterator.rest.items (λ worker. share_at g.H.Host worker.duty) ≡ share_at g.H.Host c.worker_of-worker.result.0.duty + shares_in c.next.new.self.rest.items (λ worker. share_at g.H.Host worker.duty) =
          ap (λ items. shares_in items (λ worker. share_at g.H.Host worker.duty)) step
          ∙ shares-first c.in-Some.ran c.next.new.self.rest.items (λ worker. share_at g.H.Host worker.duty) c.worker_of-worker.result.0 c.worker_of-worker.result.1 c.worker_of-worker.ensures in
          omega (arith, e, inv.all_shares);
      works = inv.works ++ facts.0.2.works;
      together = subst (λ n. Together (terms_of c.args.server.now.catalogue.now (g.G.Desk.denies c.args.server.now.desk) (option_copied c.args.server.now.keys) c.args.server.now.workers g.H.In.Source.tells g.H.Out.Sink.tells g.H.Host.tells g.C.Clock.tells g.W.Waiter.tells) n (inv.shares + share_at g.H.Host c.worker_of-worker.result.0.duty) (inv.works ++ facts.0.2.works) (own_of g.G.Desk c.join_one.new.pass) (g.G.Desk.seen c.join_one.new.pass)
          (g.H.Host.served c.args.outside.now.host.now) (g.H.Host.served c.join_one.new.outside.host.now) (g.C.Clock.given c.args.outside.now.clock.now) (g.C.Clock.given c.join_one.new.outside.clock.now) (hosted_at g.H.Host c.args.outside.now.host.now) (hosted_at g.H.Host c.join_one.new.outside.host.now)
          (g.C.Clock.faults c.args.outside.now.clock.now) (g.C.Clock.faults c.join_one.new.outside.clock.now) c.with-flags.result (c.loop-ran.unrun || not c.worker_of-worker.result.1)) more
          (subst (λ (flags : Flags). Together (terms_of c.args.server.now.catalogue.now (g.G.Desk.denies c.args.server.now.desk) (option_copied c.args.server.now.keys) c.args.server.now.workers g.H.In.Source.tells g.H.Out.Sink.tells g.H.Host.tells g.C.Clock.tells g.W.Waiter.tells) (suc (length c.loop-ran.yielded)) (inv.shares + share_at g.H.Host c.worker_of-worker.result.0.duty) (inv.works ++ facts.0.2.works) (own_of g.G.Desk c.join_one.new.pass) (g.G.Desk.seen c.join_one.new.pass)
          (g.H.Host.served c.args.outside.now.host.now) (g.H.Host.served c.join_one.new.outside.host.now) (g.C.Clock.given c.args.outside.now.clock.now) (g.C.Clock.given c.join_one.new.outside.clock.now) (hosted_at g.H.Host c.args.outside.now.host.now) (hosted_at g.H.Host c.join_one.new.outside.host.now)
          (g.C.Clock.faults c.args.outside.now.clock.now) (g.C.Clock.faults c.join_one.new.outside.clock.now) flags (c.loop-ran.unrun || not c.worker_of-worker.result.1))
          (sym (c.with-flags.ensures ∙ ap (both_flags c.loop-ran.flags) c.join_one.ensures.flags))
          (together-next (terms_of c.args.server.now.catalogue.now (g.G.Desk.denies c.args.server.now.desk) (option_copied c.args.server.now.keys) c.args.server.now.workers g.H.In.Source.tells g.H.Out.Sink.tells g.H.Host.tells g.C.Clock.tells g.W.Waiter.tells) (length c.loop-ran.yielded) inv.shares (share_at g.H.Host c.worker_of-worker.result.0.duty) inv.works facts.0.2.works
          (own_of g.G.Desk c.loop-ran.pass) (own_of g.G.Desk c.join_one.new.pass) (own_of g.G.Desk c.worker_of-worker.result.0.pass) (g.G.Desk.seen c.loop-ran.pass) (g.G.Desk.seen c.worker_of-worker.result.0.pass) (g.G.Desk.seen c.join_one.new.pass)
          (g.H.Host.served c.args.outside.now.host.now) (g.H.Host.served c.loop-ran.outside.host.now) (served_at g.H.Host c.worker_of-worker.result.0.duty) (g.H.Host.served c.join_one.new.outside.host.now)
          (g.C.Clock.given c.args.outside.now.clock.now) (g.C.Clock.given c.loop-ran.outside.clock.now) (g.C.Clock.given c.worker_of-worker.result.0.clock) (g.C.Clock.given c.join_one.new.outside.clock.now)
          (hosted_at g.H.Host c.args.outside.now.host.now) (hosted_at g.H.Host c.loop-ran.outside.host.now) (hosted_at g.H.Host c.join_one.new.outside.host.now)
          (g.C.Clock.faults c.args.outside.now.clock.now) (g.C.Clock.faults c.loop-ran.outside.clock.now) (g.C.Clock.faults c.join_one.new.outside.clock.now)
          (handed_at g.H.Host c.worker_of-worker.result.0.duty) (faults_at g.H.Host c.worker_of-worker.result.0.duty) (g.C.Clock.faults c.worker_of-worker.result.0.clock) c.loop-ran.flags c.worker_of-worker.result.0.flags c.loop-ran.unrun c.worker_of-worker.result.1
          inv.together facts.0.2.left c.join_one.ensures.joined c.join_one.ensures.seen c.join_one.ensures.served c.join_one.ensures.given c.join_one.ensures.hosted c.join_one.ensures.handed c.join_one.ensures.ticked c.join_one.ensures.ticks));
      was = inv.was ++ was_at c.worker_of-worker.result.0.duty;
      back = inv.back ++ devices_at c.worker_of-worker.result.0.duty;
      devices = c.join_one.ensures.devices ∙ put-next g.A.Actuators c.args.server.now.workers (length c.loop-ran.yielded) c.worker_of-worker.result.0.duty inv.back c.args.outside.now.devices.now.items c.loop-ran.outside.devices.now.items
          facts.0.2.placed backs inv.devices;
      all_devices = append_assoc inv.was (was_at c.worker_of-worker.result.0.duty) (devices_in c.next.new.self.rest.items (λ worker. was_at worker.duty)) ∙ ap (λ list. inv.was ++ list) (sym handed) ∙ inv.all_devices;
      room = omega (
        arith,
        inv.room,
        ap length handed,
        length-append (was_at c.worker_of-worker.result.0.duty) (devices_in c.next.new.self.rest.items (λ worker. was_at worker.duty)),
        put-length c.worker_of-worker.result.0.duty c.loop-ran.outside.devices.now.items
            (fits-next g.A.Actuators c.args.server.now.workers (length c.loop-ran.yielded) c.worker_of-worker.result.0.duty inv.back c.args.outside.now.devices.now.items c.loop-ran.outside.devices.now.items facts.0.2.placed backs inv.devices),
        ap length c.join_one.ensures.devices,
        c.join_one.ensures.room,
      );
      returned = subst (λ n. Returned g.A.Actuators.calls (λ device. g.A.Actuators.tells × g.A.Actuators.whole device) (terms_of c.args.server.now.catalogue.now (g.G.Desk.denies c.args.server.now.desk) (option_copied c.args.server.now.keys) c.args.server.now.workers g.H.In.Source.tells g.H.Out.Sink.tells g.H.Host.tells g.C.Clock.tells g.W.Waiter.tells) g.W.Waiter.tells n (inv.works ++ facts.0.2.works) (own_of g.G.Desk c.join_one.new.pass)
          (g.W.Waiter.waits c.args.outside.now.waiter.now) (g.W.Waiter.waits c.join_one.new.outside.waiter.now) (inv.was ++ was_at c.worker_of-worker.result.0.duty) (inv.back ++ devices_at c.worker_of-worker.result.0.duty) (c.loop-ran.unrun || not c.worker_of-worker.result.1)) more
          (returned-next g.A.Actuators (terms_of c.args.server.now.catalogue.now (g.G.Desk.denies c.args.server.now.desk) (option_copied c.args.server.now.keys) c.args.server.now.workers g.H.In.Source.tells g.H.Out.Sink.tells g.H.Host.tells g.C.Clock.tells g.W.Waiter.tells) g.W.Waiter.tells (length c.loop-ran.yielded) c.worker_of-worker.result.0.duty inv.works facts.0.2.works
          (own_of g.G.Desk c.loop-ran.pass) (own_of g.G.Desk c.worker_of-worker.result.0.pass) (own_of g.G.Desk c.join_one.new.pass)
          (g.W.Waiter.waits c.args.outside.now.waiter.now) (g.W.Waiter.waits c.loop-ran.outside.waiter.now) (g.W.Waiter.waits c.join_one.new.outside.waiter.now) inv.was inv.back note c.loop-ran.unrun c.worker_of-worker.result.1
          inv.returned inv.together.part.agreed facts.0.2.left.part.agreed inv.together.part.of_them facts.0.2.left.part.of_them c.join_one.ensures.joined
          facts.0.2.placed facts.0.2.called facts.0.2.noted facts.0.2.waits facts.0.2.worked facts.0.2.ended c.join_one.ensures.waited);
      unrun = unrun-first c.in-Some.ran c.next.new.self.rest.items c.worker_of-worker.result.0 c.worker_of-worker.result.1 c.worker_of-worker.ensures c.loop-ran.unrun
          ∙ ap (λ items. c.loop-ran.unrun || is_any_unrun items) (sym step) ∙ inv.unrun;
    }

or-none : (flag : Bool) → (flag || false) ≡ flag
or-none true = refl
or-none false = refl

pub returns-clause-unrun : goal.returns-clause-unrun
returns-clause-unrun g c =
    let all : length c.loop-ran.yielded ≡ length c.args.done.items =
    first_of (omega (arith, c.in-None.ensures.steps.0, c.loop-ran.invariant.count), search rules, grind (arith, common_steps)) in
    let none : c.loop-ran.ran-iterator.rest.items ≡ [] = nil_from_length c.loop-ran.ran-iterator.rest.items (omega (arith, c.loop-ran.invariant.count, all)) in
    sym (or-none c.loop-ran.unrun) ∙ sym (ap (λ items. c.loop-ran.unrun || is_any_unrun items) none) ∙ c.loop-ran.invariant.unrun

pub returns-clause-account : goal.returns-clause-account
returns-clause-account g c =
    let all : length c.loop-ran.yielded ≡ length c.args.done.items =
    first_of (omega (arith, c.in-None.ensures.steps.0, c.loop-ran.invariant.count), search rules, grind (arith, common_steps)) in
    let inv = c.loop-ran.invariant in
    let none : c.loop-ran.ran-iterator.rest.items ≡ [] = nil_from_length c.loop-ran.ran-iterator.rest.items (omega (arith, inv.count, all)) in
    let whole : inv.shares ≡ shares_in c.args.done.items (λ worker. share_at g.H.Host worker.duty) =
    let e : shares_in c.loop-ran.ran-iterator.rest.items (λ worker. share_at g.H.Host worker.duty) ≡ 0 = ap (λ items. shares_in items (λ worker. share_at g.H.Host worker.duty)) none in
    omega (arith, e, inv.all_shares) in
    let handed : inv.was ≡ devices_in c.args.done.items (λ worker. was_at worker.duty) =
    sym (append-nil inv.was) ∙ ap (λ items. inv.was ++ devices_in items (λ worker. was_at worker.duty)) (sym none) ∙ inv.all_devices in
    record {
      works = inv.works;
      together = subst (λ n. Together (terms_of c.args.server.now.catalogue.now (g.G.Desk.denies c.args.server.now.desk) (option_copied c.args.server.now.keys) c.args.server.now.workers g.H.In.Source.tells g.H.Out.Sink.tells g.H.Host.tells g.C.Clock.tells g.W.Waiter.tells) n (shares_in c.args.done.items (λ worker. share_at g.H.Host worker.duty)) inv.works (own_of g.G.Desk c.loop-ran.pass) (g.G.Desk.seen c.loop-ran.pass)
          (g.H.Host.served c.args.outside.now.host.now) (g.H.Host.served c.loop-ran.outside.host.now) (g.C.Clock.given c.args.outside.now.clock.now) (g.C.Clock.given c.loop-ran.outside.clock.now) (hosted_at g.H.Host c.args.outside.now.host.now) (hosted_at g.H.Host c.loop-ran.outside.host.now)
          (g.C.Clock.faults c.args.outside.now.clock.now) (g.C.Clock.faults c.loop-ran.outside.clock.now) c.loop-ran.flags c.loop-ran.unrun) all
          (subst (λ shares. Together (terms_of c.args.server.now.catalogue.now (g.G.Desk.denies c.args.server.now.desk) (option_copied c.args.server.now.keys) c.args.server.now.workers g.H.In.Source.tells g.H.Out.Sink.tells g.H.Host.tells g.C.Clock.tells g.W.Waiter.tells) (length c.loop-ran.yielded) shares inv.works (own_of g.G.Desk c.loop-ran.pass) (g.G.Desk.seen c.loop-ran.pass)
          (g.H.Host.served c.args.outside.now.host.now) (g.H.Host.served c.loop-ran.outside.host.now) (g.C.Clock.given c.args.outside.now.clock.now) (g.C.Clock.given c.loop-ran.outside.clock.now) (hosted_at g.H.Host c.args.outside.now.host.now) (hosted_at g.H.Host c.loop-ran.outside.host.now)
          (g.C.Clock.faults c.args.outside.now.clock.now) (g.C.Clock.faults c.loop-ran.outside.clock.now) c.loop-ran.flags c.loop-ran.unrun) whole inv.together);
      back = inv.back;
      devices_are = inv.devices;
      returned = subst (λ n. Returned g.A.Actuators.calls (λ device. g.A.Actuators.tells × g.A.Actuators.whole device) (terms_of c.args.server.now.catalogue.now (g.G.Desk.denies c.args.server.now.desk) (option_copied c.args.server.now.keys) c.args.server.now.workers g.H.In.Source.tells g.H.Out.Sink.tells g.H.Host.tells g.C.Clock.tells g.W.Waiter.tells) g.W.Waiter.tells n inv.works (own_of g.G.Desk c.loop-ran.pass)
          (g.W.Waiter.waits c.args.outside.now.waiter.now) (g.W.Waiter.waits c.loop-ran.outside.waiter.now) (devices_in c.args.done.items (λ worker. was_at worker.duty)) inv.back c.loop-ran.unrun) all
          (subst (λ was. Returned g.A.Actuators.calls (λ device. g.A.Actuators.tells × g.A.Actuators.whole device) (terms_of c.args.server.now.catalogue.now (g.G.Desk.denies c.args.server.now.desk) (option_copied c.args.server.now.keys) c.args.server.now.workers g.H.In.Source.tells g.H.Out.Sink.tells g.H.Host.tells g.C.Clock.tells g.W.Waiter.tells) g.W.Waiter.tells (length c.loop-ran.yielded) inv.works (own_of g.G.Desk c.loop-ran.pass)
          (g.W.Waiter.waits c.args.outside.now.waiter.now) (g.W.Waiter.waits c.loop-ran.outside.waiter.now) was inv.back c.loop-ran.unrun) handed inv.returned);
    }
