use Rattle.std.proofs.Common.{◌≡◌, length, refl, ap, sym, ◌∙◌, subst, arith}
use Rattle.std.specs.List.{AllByRecursion}
use Rattle.std.proofs.lemmas.Bool.{eqb-true}
use Rattle.std.proofs.lemmas.List.{length-drop}
use Rattle.boss_model.specs.Catalogue.{actuators}
use Rattle.def_history.specs.History.{MayCall}
use Rattle.boss_sessions.specs.Speaking.{speech_of}
use Rattle.boss_sessions.proofs.AnsweredLemmas.{all-drop, answered-all, answered-halted, answered-more, answered-nothing}
use Rattle.boss_sessions.proofs.turns.answer_all.Goals as goal

pub loop-session-init : goal.loop-session-init
loop-session-init g c = record {
  own = c.requires.own;
  parts = refl;
  room = refl;
  text = refl;
  few = omega (arith, c.requires.few, ap length c.from_vec-held.ensures);
  may = subst (AllByRecursion (MayCall (actuators c.args.catalogue.now))) (sym c.from_vec-held.ensures) c.requires.may;
  answered = λ keys. answered-nothing (speech_of c.args.catalogue.now (g.G.Desk.denies c.args.desk.now) keys) c.args.session g.K.Sink.tells c.args.commands.items c.from_vec-held.result _ c.from_vec-held.ensures;
}

pub returns-in-Err-clause-replied : goal.returns-in-Err-clause-replied
returns-in-Err-clause-replied g c keys =
    answered-halted (speech_of c.args.catalogue.now (g.G.Desk.denies c.args.desk.now) keys) c.args.session g.K.Sink.tells c.args.commands.items c.loop-session.held _ _ _ c.in-Err.halt
    (c.loop-session.invariant.answered keys) (c.in-Err.ensures.replied keys)

pub loop-session-preserved : goal.loop-session-preserved
loop-session-preserved g c =
    let inv = c.loop-session.invariant in
    record {
      own = c.one_turn.ensures.own;
      parts = c.one_turn.ensures.parts ∙ inv.parts;
      room = c.one_turn.ensures.room ∙ inv.room;
      text = c.one_turn.ensures.text ∙ inv.text;
      few = omega (arith, inv.few, ap length c.without_front-held.ensures, length-drop c.in-Ok.count c.loop-session.held);
      may = subst (AllByRecursion (MayCall (actuators c.args.catalogue.now))) (sym c.without_front-held.ensures)
          (all-drop (MayCall (actuators c.args.catalogue.now)) c.loop-session.held c.in-Ok.count inv.may);
      answered = λ keys. answered-more (speech_of c.args.catalogue.now (g.G.Desk.denies c.args.desk.now) keys) c.args.session g.K.Sink.tells c.args.commands.items c.loop-session.held c.without_front-held.result _ _ _ c.in-Ok.count
          (inv.answered keys) (c.in-Ok.ensures.replied keys) c.in-Ok.ensures.some.1 c.without_front-held.ensures;
    }

pub returns-clause-replied : goal.returns-clause-replied
returns-clause-replied g c keys =
    let none : length c.loop-session.held ≡ 0 = sym (ap length c.slice.ensures) ∙ eqb-true (length c.slice.result.now) 0 (sym c.is_empty.ensures ∙ c.loop-session-test.false) in
    answered-all (speech_of c.args.catalogue.now (g.G.Desk.denies c.args.desk.now) keys) c.args.session g.K.Sink.tells c.args.commands.items c.loop-session.held _ _ none
    (c.loop-session.invariant.answered keys)
