use Rattle.std.proofs.Common.{◌≡◌, true, [], ◌∷◌, option_copied, refl, ap, sym, ◌∙◌, subst}
use Rattle.boss_model.specs.Lines.{is_blank}
use Rattle.boss_sessions.specs.Places.{footing_of, place_of}
use Rattle.boss_sessions.specs.Requests.{after_heard, footing, Hears}
use Rattle.boss_sessions.specs.Speaking.{manner_of}
use Rattle.boss_sessions.proofs.GatheredLemmas.{gathered-silent, gathered-line, stop-behind}
use Rattle.boss_sessions.proofs.PlaceLemmas.{spoken-blank}
use Rattle.boss_sessions.proofs.gathering.take_line.Goals as goal

pub returns-in-Some-clause-gathered : goal.returns-in-Some-clause-gathered
returns-in-Some-clause-gathered g c =
    gathered-silent (manner_of c.args.catalogue.now (option_copied c.args.keys)) g.S.Source.tells g.C.Clock.tells _ _ _ _ _ _ _ _ [] c.in-Some.heard refl (λ told. refl) refl
    c.in-Some.ensures.advances
    (stop-behind (manner_of c.args.catalogue.now (option_copied c.args.keys)) g.S.Source.tells g.C.Clock.tells (footing_of c.args.hearing.now) (footing_of c.next_line.new.hearing)
    (place_of c.next_line.new.hearing (g.S.Source.left c.next_line.new.source)) c.in-Some.heard c.in-Some.ensures.stops)

pub returns-then-is_blank-clause-gathered : goal.returns-then-is_blank-clause-gathered
returns-then-is_blank-clause-gathered g c =
    let line = c.next_line.new.hearing.reader.line in
    gathered-silent (manner_of c.args.catalogue.now (option_copied c.args.keys)) g.S.Source.tells g.C.Clock.tells _ _ _ _ _ _ _ _ (line ∷ []) _ refl (λ told. refl)
    (sym (spoken-blank line (ap is_blank (sym c.line.ensures.value) ∙ sym c.is_blank.ensures ∙ c.if-is_blank.true))) c.in_default.ensures.advances (refl, c.next_line.ensures.footing)

pub returns-clause-gathered : goal.returns-clause-gathered
returns-clause-gathered g c =
    let line = c.next_line.new.hearing.reader.line in
    let manner = manner_of c.args.catalogue.now (option_copied c.args.keys) in
    let at = footing_of c.args.hearing.now in
    let at' = footing true c.take_request.new.known in
    let calls = c.args.commands.now.items in
    let calls' = c.take_request.new.commands.items in
    let given = g.C.Clock.given c.args.clock.now in
    let given' = g.C.Clock.given c.take_request.new.clock in
    let heard = c.take_request.result in
    let here : Hears (manner.reading at line) g.C.Clock.tells at.later calls calls' given given' heard =
    subst (λ t. Hears (manner.reading t line) g.C.Clock.tells t.later calls calls' given given' heard) c.next_line.ensures.footing
    (subst (λ l. Hears (manner.reading (footing_of c.next_line.new.hearing) l) g.C.Clock.tells c.next_line.new.hearing.later calls calls' given given' heard) c.line-2.ensures.value c.take_request.ensures.hears) in
    let stands : at' ≡ after_heard manner at line heard =
    c.take_request.ensures.stands ∙ (λ i. after_heard manner (c.next_line.ensures.footing i) (c.line-2.ensures.value i) heard) in
    gathered-line manner g.S.Source.tells g.C.Clock.tells at at' calls calls' given given' _ _ line heard stands
    (ap is_blank (sym c.line.ensures.value) ∙ sym c.is_blank.ensures ∙ c.if-is_blank.false) c.in_default.ensures.advances here
