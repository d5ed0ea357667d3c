use Rattle.std.proofs.Common.{[], ◌∷◌, ◌++◌, inl, inr, refl, sym, ◌∙◌, vec_len}
use Rattle.boss_files.specs.Names.{second_name}
use Rattle.boss_jobs.specs.Journals.{in_files}
use Rattle.boss_server.specs.Sites.{gates_of}
use Rattle.boss_serve_jobs.specs.Preparing.{listed}
use Rattle.boss_serve_jobs.specs.ServeJobs.{all_at_start}
use Rattle.boss_jobs.proofs.Lifting.{later-follow}
use Rattle.boss_serve_jobs.proofs.PreparingLemmas.{all-then-front, front-of-more}
use Rattle.boss_serve_jobs.proofs.ServeLemmas.{does-serve}
use Rattle.boss_serve_jobs.proofs.ServeLifting.{over-first-sink, serves-so}
use Rattle.boss_serve_jobs.proofs.serve_jobs.do_kept_serve.Goals as goal

pub returns-clause-serves : goal.returns-clause-serves
returns-clause-serves g c =
    let f = g.F.Files in
    let given = c.args.world in
    let journal = c.args.journal.now in
    let ready = c.in-Ok.ensures.prepares in
    does-serve f g.S.Source g.K.Sink g.A.Actuators g.H.Host g.H.In.Source g.H.Out.Sink g.C.Clock g.W.Waiter g.P.Spawner
    c.args.name.now c.args.service.address.now c.args.service.rules.now c.args.service.plan.now c.args.service.keys.now (vec_len given.devices.now) c.args.service.workers c.args.service.connections
    (all_at_start given)
    _ c.serve_in_files.result.0 journal
    (inr (
      record {
        catalogue = c.in-Ok.made.0;
        comes = ready.comes;
        given = c.in-Ok.made.1;
        ruled = ready.ruled;
        entries = c.in-Ok.made.2;
        keyed = ready.keyed;
        devices = c.prepare.new.devices.items;
        set = ready.set;
        serves = rw (sym c.parted-keys.ensures.keys) (serves-so g.K.Sink g.A.Actuators g.H.Host g.H.In.Source g.H.Out.Sink g.C.Clock g.W.Waiter g.P.Spawner c.in-Ok.made.0 (gates_of c.in-Ok.made.0 c.in-Ok.made.1) _ c.args.service.workers c.args.service.connections _ _ _
            (in_files f journal given.files.now) (in_files f journal c.serve_in_files.new.files) (in_files f journal c.prepare.new.files) (in_files f journal c.serve_in_files.new.files)
            (later-follow f journal given.files.now c.prepare.new.files c.serve_in_files.new.files c.in-Ok.ensures.stays c.in-Ok.ensures.past ready.files)
            (over-first-sink g.K.Sink g.A.Actuators g.H.Host g.H.In.Source g.H.Out.Sink g.C.Clock g.W.Waiter g.P.Spawner c.in-Ok.made.0 (gates_of c.in-Ok.made.0 c.in-Ok.made.1) _ c.args.service.workers c.args.service.connections
            c.prepare.new.devices.items given.clock.now given.host.now given.waiter.now given.spawner.now given.sink.now c.prepare.new.sink ready.sink _ c.serve_in_files.result.0 _ _
            c.serve_in_files.ensures.serves));
      },
      c.serve_in_files.ensures.listens,
    ))
    refl
    (λ tells. all-then-front (c.args.name.now ∷ listed c.args.service.rules.now ++ listed c.args.service.keys.now ++ listed c.args.service.plan.now) (journal ∷ second_name journal ∷ []) (f.asked given.files.now) (f.asked c.prepare.new.files)
    (f.asked c.serve_in_files.new.files) (c.in-Ok.ensures.asks tells) (c.serve_in_files.ensures.asks tells))
    (λ tells file first second. c.serve_in_files.ensures.others tells file first second ∙ c.in-Ok.ensures.stays tells file)

pub returns-in-Err-clause-serves : goal.returns-in-Err-clause-serves
returns-in-Err-clause-serves g c =
    let f = g.F.Files in
    let given = c.args.world in
    let journal = c.args.journal.now in
    does-serve f g.S.Source g.K.Sink g.A.Actuators g.H.Host g.H.In.Source g.H.Out.Sink g.C.Clock g.W.Waiter g.P.Spawner
    c.args.name.now c.args.service.address.now c.args.service.rules.now c.args.service.plan.now c.args.service.keys.now (vec_len given.devices.now) c.args.service.workers c.args.service.connections
    (all_at_start given)
    _ c.in-Err.status.0 journal
    (inl (c.in-Err.ensures.prepares, record { clock = refl; host = refl; waiter = refl; spawner = refl }))
    refl
    (λ tells. front-of-more (c.args.name.now ∷ listed c.args.service.rules.now ++ listed c.args.service.keys.now ++ listed c.args.service.plan.now) (journal ∷ second_name journal ∷ []) _ _ (c.in-Err.ensures.asks tells))
    (λ tells file first second. c.in-Err.ensures.stays tells file)
