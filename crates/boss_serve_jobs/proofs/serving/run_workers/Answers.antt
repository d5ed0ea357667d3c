use Rattle.std.proofs.Common.{◌≡◌, sym, subst, ◌∙◌}
use Rattle.boss_server.specs.Hosted.{RoseBy}
use Rattle.boss_server.proofs.TogetherLemmas.{rose-none}
use Rattle.boss_serve_jobs.proofs.BeginLemmas.{from-before}
use Rattle.boss_serve_jobs.proofs.KeyedLemmas.{works-keyed}
use Rattle.boss_serve_jobs.proofs.serving.run_workers.Goals as goal

-- the workers ran, over the host as it listens
pub returns-in-Ok-ended-clause-ran : goal.returns-in-Ok-ended-clause-ran
returns-in-Ok-ended-clause-ran g c =
    let h = g.H.Host in
    let was = c.args.outside.now.host.now in
    let bound = c.announce.new.self in
    let ran = rw c.in-Ok-ended.is at c.serve_ringing-keeper.ensures.ran in
    let account = from-before _ _ _ _ _ _ _ _ _ _ _ _ _ _ _ _ _ _ _ _ _ _ _ _ _ c.begin.ensures.moments c.begin.ensures.faults ran.account in
    let handed : h.handed bound ≡ h.handed was = c.announce.ensures.counts.0 ∙ c.in-Ok.ensures.counts.0 in
    record {
      log = ran.log;
      held = ran.held;
      end = record {
        bound = bound;
        listens = record {
          served = λ told. c.announce.ensures.connections told ∙ c.in-Ok.ensures.connections told;
          faults = c.announce.ensures.counts.3 ∙ c.in-Ok.ensures.cause.fine;
          handed = subst (RoseBy 0 (h.handed was)) (sym handed) (rose-none (h.handed was));
        };
        account = account;
        started = rw c.in-Ok-ended.is at c.serve_ringing-keeper.ensures.started;
        disk = ran.disk;
        keyed = works-keyed _ _ _ _ _ _ _ _ account.together.part.agreed;
      };
    }

-- it listens at the address, and went on to do so while the workers ran
pub returns-in-Ok-ended-clause-listens : goal.returns-in-Ok-ended-clause-listens
returns-in-Ok-ended-clause-listens g c told =
    c.serve_ringing-keeper.ensures.listens told ∙ c.announce.ensures.address told ∙ c.in-Ok.ensures.address told

pub returns-in-Err-ended-clause-listens : goal.returns-in-Err-ended-clause-listens
returns-in-Err-ended-clause-listens g c told =
    c.serve_ringing-keeper.ensures.listens told ∙ c.announce.ensures.address told ∙ c.in-Ok.ensures.address told
