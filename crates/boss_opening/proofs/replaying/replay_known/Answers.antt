use Rattle.std.proofs.Common.{sym, ◌∙◌}
use Rattle.std.proofs.lemmas.Bool.{both_ways}
use Rattle.boss_model.specs.Acts.{replay}
use Rattle.boss_opening.specs.Again.{LeadsOn}
use Rattle.boss_bounds.specs.Bounds.{is_modest}
use Rattle.boss_opening.proofs.Redone.{ok_leads}
use Rattle.boss_bounds.proofs.Spellings.{effective-modest, event-spelled}
use Rattle.boss_opening.proofs.replaying.replay_known.Goals as goal

pub returns-then-not-is_modest-clause-nowhere : goal.returns-then-not-is_modest-clause-nowhere
returns-then-not-is_modest-clause-nowhere c off to leads =
    both_ways (is_modest c.args.event.now.act) (sym c.is_modest.ensures ∙ c.if-not-is_modest.true)
    (effective-modest c.args.engine.now.plant c.args.event.now c.args.engine.now.state.persistent to c.requires.sound.persistent leads.leads)

pub replay-requires : goal.replay-requires
replay-requires c = event-spelled c.args.event.now c.requires.spelled (sym c.is_modest.ensures ∙ c.if-not-is_modest.false)

pub returns-clause-leads : goal.returns-clause-leads
returns-clause-leads c =
    let engine = c.args.engine.now in
    ok_leads engine.plant (replay engine.plant c.args.event.now engine.state.persistent) engine.state c.replay.new.self.state
    (LeadsOn engine.plant c.args.version engine.state.persistent c.args.event.now c.replay.new.self.state.persistent)
    c.replay.result c.replay.ensures.effective c.replay.ensures.state
    (λ found. record { spelled = c.requires.spelled; known = c.is_known.ensures.0 c.if-not-is_known.false; leads = found })
