use Rattle.std.proofs.Common.{◌≡◌, inr, refl, List, [], length, min}
use Rattle.boss_model.specs.declared.event.Event.{Event}
use Rattle.boss_model.specs.Limits.{last_number}
use Rattle.boss_server.specs.Sites.{gates_of}
use Rattle.boss_serve_jobs.proofs.ServedLemmas.{served-memory}
use Rattle.boss_serve_jobs.proofs.serving.serve_in_memory.Goals as goal

pub serve_over-requires-clause-events : goal.serve_over-requires-clause-events
serve_over-requires-clause-events g c =
    let none : (before : List Event) × (c.in-Ok.unkept.events ≡ min (length before) last_number) = ([], c.in-Ok.ensures.events) in
    λ _ _. none

pub returns-in-Ok-clause-serves : goal.returns-in-Ok-clause-serves
returns-in-Ok-clause-serves g c =
    inr (served-memory g.K.Sink g.A.Actuators g.H.Host g.H.In.Source g.H.Out.Sink g.C.Clock g.W.Waiter g.P.Spawner c.args.site.catalogue.now c.in-Ok.unkept _
    (gates_of c.args.site.catalogue.now c.args.site.rules) c.args.site.keys c.args.service.workers c.args.service.connections _ _ _ c.in-Ok.ensures.new c.in-Ok.ensures.events c.serve_over.ensures.serves)

pub returns-then-is_err-clause-listens : goal.returns-then-is_err-clause-listens
returns-then-is_err-clause-listens g c told = inr (refl, refl, refl)

pub returns-in-Err-clause-listens : goal.returns-in-Err-clause-listens
returns-in-Err-clause-listens g c told = inr (refl, refl, refl)
