use Rattle.std.proofs.Common.{◌∷◌, ◌++◌, inl, inr, refl, sym, vec_len}
use Rattle.boss_server.specs.Sites.{gates_of}
use Rattle.boss_serve_jobs.specs.Preparing.{listed}
use Rattle.boss_serve_jobs.specs.ServeJobs.{all_at_start}
use Rattle.boss_serve_jobs.proofs.PreparingLemmas.{all-are-front}
use Rattle.boss_serve_jobs.proofs.ServeLemmas.{serves-memory}
use Rattle.boss_serve_jobs.proofs.ServeLifting.{memory-first-sink}
use Rattle.boss_serve_jobs.proofs.serve_jobs.do_memory_serve.Goals as goal

pub returns-clause-serves : goal.returns-clause-serves
returns-clause-serves g c =
    let f = g.F.Files in
    let given = c.args.world in
    let ready = c.in-Ok.ensures.prepares in
    serves-memory f g.S.Source g.K.Sink g.A.Actuators g.H.Host g.H.In.Source g.H.Out.Sink g.C.Clock g.W.Waiter g.P.Spawner
    c.args.name.now c.args.service.address.now c.args.service.rules.now c.args.service.plan.now c.args.service.keys.now (vec_len given.devices.now) c.args.service.workers c.args.service.connections
    (all_at_start given)
    _ c.serve_in_memory.result.0
    (inr (
      record {
        catalogue = c.in-Ok.made.0;
        comes = ready.comes;
        given = c.in-Ok.made.1;
        ruled = ready.ruled;
        entries = c.in-Ok.made.2;
        keyed = ready.keyed;
        devices = c.prepare.new.devices.items;
        set = ready.set;
        files = ready.files;
        serves = rw (sym c.parted-keys.ensures.keys) (memory-first-sink g.K.Sink g.A.Actuators g.H.Host g.H.In.Source g.H.Out.Sink g.C.Clock g.W.Waiter g.P.Spawner c.in-Ok.made.0 (gates_of c.in-Ok.made.0 c.in-Ok.made.1) _ c.args.service.workers c.args.service.connections
            c.prepare.new.devices.items given.clock.now given.host.now given.waiter.now given.spawner.now given.sink.now c.prepare.new.sink ready.sink _ c.serve_in_memory.result.0
            c.serve_in_memory.ensures.serves);
      },
      c.serve_in_memory.ensures.listens,
    ))
    refl
    (λ tells. all-are-front (c.args.name.now ∷ listed c.args.service.rules.now ++ listed c.args.service.keys.now ++ listed c.args.service.plan.now) _ _ (c.in-Ok.ensures.asks tells))
    c.in-Ok.ensures.stays

pub returns-in-Err-clause-serves : goal.returns-in-Err-clause-serves
returns-in-Err-clause-serves g c =
    let f = g.F.Files in
    let given = c.args.world in
    serves-memory f g.S.Source g.K.Sink g.A.Actuators g.H.Host g.H.In.Source g.H.Out.Sink g.C.Clock g.W.Waiter g.P.Spawner
    c.args.name.now c.args.service.address.now c.args.service.rules.now c.args.service.plan.now c.args.service.keys.now (vec_len given.devices.now) c.args.service.workers c.args.service.connections
    (all_at_start given)
    _ c.in-Err.status.0
    (inl (c.in-Err.ensures.prepares, record { clock = refl; host = refl; waiter = refl; spawner = refl }))
    refl
    (λ tells. c.in-Err.ensures.asks tells)
    c.in-Err.ensures.stays
