use Rattle.std.proofs.Common.{◌≡◌, false, ◌+◌, ◌++◌, length, sym, ap, ◌∙◌, rules}
use Rattle.std.proofs.lemmas.List.{length-append}
use Rattle.def_history.specs.History.{events, is_broken, run}
use Rattle.boss_model.specs.Catalogue.{actuators}
use Rattle.boss_journal_lines.specs.Reports.{summary_line}
use Rattle.boss_disk_pair.specs.Rests.{counted}
use Rattle.boss_serve_jobs.specs.Serving.{parts_of}
use Rattle.boss_server.specs.Sites.{gates_of}
use Rattle.boss_serve_jobs.proofs.ServedLemmas.{gained-so, parts-so, served-end, state-so, summary-so}
use Rattle.boss_serve_jobs.proofs.ListenLemmas.{listened}
use Rattle.boss_serve_jobs.proofs.serving.serve_over.Goals as goal

pub returns-clause-serves : goal.returns-clause-serves
returns-clause-serves g c =
    let v = g.V.Keeper in
    let plant = actuators c.args.site.catalogue.now in
    let start = c.args.keeper in
    let s = v.state start in
    let now = c.run_workers-keeper.result.0 in
    let ran = c.run_workers-keeper.ensures.ran in
    let log = ran.log in
    let told = c.standing.result in
    let more = events plant log s in
    let same : v.plant start ≡ plant = sym c.requires.plant in
    let state : is_broken log ≡ false → v.state now ≡ run plant log s = state-so _ _ _ _ _ _ _ plant start now log ran.held same in
    record {
      log = log;
      held = ran.held;
      end = λ number before kept many.
          served-end g.K.Sink g.A.Actuators g.H.Host g.H.In.Source g.H.Out.Sink g.C.Clock g.W.Waiter g.P.Spawner
          c.args.site.catalogue.now (gates_of c.args.site.catalogue.now c.args.site.rules) c.args.site.keys c.args.service.workers c.args.service.connections _ _ g.V.Tally.known s number told.events
          (summary_line told.events told.now told.leases told.pending) c.tell_end-status.result.0 log
          (λ fine. summary-so told.events told.now told.leases told.pending (v.state now) (run plant log s)
          c.standing.ensures.now c.standing.ensures.leases c.standing.ensures.pending (state fine))
          (λ fine known. c.standing.ensures.events known (before ++ more) (gained-so _ _ _ _ _ _ _ plant start now log ran.held same fine before kept)
          ∙ ap counted (length-append before more ∙ ap (λ n. n + length more) many))
          (parts_of c.new-outside.result) (parts_of c.run_workers-keeper.new.outside) c.run_workers-keeper.result.1 ran.end
          (parts-so (ap (λ v. v.items) c.new-outside.ensures.devices.1) c.new-outside.ensures.clock.1 c.new-outside.ensures.host.1
          c.new-outside.ensures.waiter.1 c.new-outside.ensures.spawner.1)
          (parts-so (search rules) (search rules) (search rules) (search rules) (search rules))
          c.tell_end-status.ensures;
    }

pub returns-clause-listens : goal.returns-clause-listens
returns-clause-listens g c told =
    listened g.H.Host c.args.service.address.now g.K.Sink _ _ _ c.new-outside.result.host.now c.run_workers-keeper.new.outside.host.now _ _
    c.tell_end-status.result.0 c.run_workers-keeper.result.1 c.new-outside.ensures.host.1 (search rules) (c.run_workers-keeper.ensures.listens told) c.tell_end-status.ensures
