use Rattle.std.proofs.Common.{◌≡◌, inl, [], ◌∷◌, length, Some, refl, ap, arith, subst}
use Rattle.def_history.specs.declared.entry.Entry.TheVariants.{Did}
use Rattle.boss_model.specs.Effects.{event_of}
use Rattle.boss_durable.proofs.Doing.{done_does, done_runs, failed_does, failed_runs, unmoved_does, unmoved_keeps, unmoved_runs}
use Rattle.boss_durable.proofs.Takings.{first_taken, short_log, taken_short, want_grows}
use Rattle.boss_durable.proofs.durable.Durable.take.Goals as goal

pub put-requires-clause-fits : goal.put-requires-clause-fits
put-requires-clause-fits g c e is = c.in-Ok.ensures.fits e (subst (λ does. event_of c.args.command.now does ≡ Some e) c.in-Ok.ensures.effect is)

pub append_to-requires-clause-within : goal.append_to-requires-clause-within
append_to-requires-clause-within g c =
    let taken = first_taken c.args.self.now.engine.plant c.args.session c.args.moment c.args.command.now c.in-Ok.answer c.in-Ok.effect c.args.self.now.engine.state c.step.new.self.state
    c.clear.new.self c.put.new.self c.in-Ok.ensures.reached.whole c.in-Ok.ensures.reached.sound c.requires.may (ap (λ b. b.bytes.bytes) c.clear.ensures) (ap (λ b. b.events) c.clear.ensures)
    c.in-Ok.ensures.answer c.in-Ok.ensures.state c.in-Ok.ensures.effect c.put.ensures.bytes c.put.ensures.events in
    omega (arith, taken_short c.args.self.now.engine.plant _ c.args.self.now.engine.state _ _ taken)

pub returns-in-Ok-append_to-clause-images : goal.returns-in-Ok-append_to-clause-images
returns-in-Ok-append_to-clause-images g c =
    let taken = first_taken c.args.self.now.engine.plant c.args.session c.args.moment c.args.command.now c.in-Ok.answer c.in-Ok.effect c.args.self.now.engine.state c.step.new.self.state
    c.clear.new.self c.put.new.self c.in-Ok.ensures.reached.whole c.in-Ok.ensures.reached.sound c.requires.may (ap (λ b. b.bytes.bytes) c.clear.ensures) (ap (λ b. b.events) c.clear.ensures)
    c.in-Ok.ensures.answer c.in-Ok.ensures.state c.in-Ok.ensures.effect c.put.ensures.bytes c.put.ensures.events in
    done_runs c.args.self.now _ (Did c.args.session c.args.command.now c.args.moment c.in-Ok.answer ∷ []) c.put.new.self taken
    (λ count at. c.append_to.ensures.passes _ _ _ _ count at taken (omega arith))

pub returns-in-Ok-append_to-clause-kept : goal.returns-in-Ok-append_to-clause-kept
returns-in-Ok-append_to-clause-kept g c =
    let taken = first_taken c.args.self.now.engine.plant c.args.session c.args.moment c.args.command.now c.in-Ok.answer c.in-Ok.effect c.args.self.now.engine.state c.step.new.self.state
    c.clear.new.self c.put.new.self c.in-Ok.ensures.reached.whole c.in-Ok.ensures.reached.sound c.requires.may (ap (λ b. b.bytes.bytes) c.clear.ensures) (ap (λ b. b.events) c.clear.ensures)
    c.in-Ok.ensures.answer c.in-Ok.ensures.state c.in-Ok.ensures.effect c.put.ensures.bytes c.put.ensures.events in
    done_does c.args.self.now _ (Did c.args.session c.args.command.now c.args.moment c.in-Ok.answer ∷ []) c.put.new.self c.requires.going c.in-Ok-append_to.ensures.fine
    c.in-Ok.ensures.plant c.in-Ok-append_to.ensures.cause.1 taken (λ count at. c.in-Ok-append_to.ensures.rests _ _ _ _ count at taken (omega arith))
    (returns-in-Ok-append_to-clause-images g c)

pub returns-in-Err-append_to-clause-kept : goal.returns-in-Err-append_to-clause-kept
returns-in-Err-append_to-clause-kept g c =
    let taken = first_taken c.args.self.now.engine.plant c.args.session c.args.moment c.args.command.now c.in-Ok.answer c.in-Ok.effect c.args.self.now.engine.state c.step.new.self.state
    c.clear.new.self c.put.new.self c.in-Ok.ensures.reached.whole c.in-Ok.ensures.reached.sound c.requires.may (ap (λ b. b.bytes.bytes) c.clear.ensures) (ap (λ b. b.events) c.clear.ensures)
    c.in-Ok.ensures.answer c.in-Ok.ensures.state c.in-Ok.ensures.effect c.put.ensures.bytes c.put.ensures.events in
    failed_does c.args.self.now _ c.args.session 1 ((c.args.command.now, c.args.moment) ∷ []) [] c.requires.going c.in-Err-append_to.ensures.stops c.in-Ok.ensures.plant
    c.in-Err-append_to.ensures.cause (c.requires.may, tt) tt taken.state_is (λ count at. c.append_to.ensures.passes _ _ _ _ count at taken (omega arith)) (inl refl)

pub returns-in-Err-append_to-clause-images : goal.returns-in-Err-append_to-clause-images
returns-in-Err-append_to-clause-images g c =
    let taken = first_taken c.args.self.now.engine.plant c.args.session c.args.moment c.args.command.now c.in-Ok.answer c.in-Ok.effect c.args.self.now.engine.state c.step.new.self.state
    c.clear.new.self c.put.new.self c.in-Ok.ensures.reached.whole c.in-Ok.ensures.reached.sound c.requires.may (ap (λ b. b.bytes.bytes) c.clear.ensures) (ap (λ b. b.events) c.clear.ensures)
    c.in-Ok.ensures.answer c.in-Ok.ensures.state c.in-Ok.ensures.effect c.put.ensures.bytes c.put.ensures.events in
    failed_runs c.args.self.now _ c.args.session 1 ((c.args.command.now, c.args.moment) ∷ []) [] (inl refl) taken.state_is
    (λ count at. c.append_to.ensures.passes _ _ _ _ count at taken (omega arith))

pub returns-in-Err-clause-images : goal.returns-in-Err-clause-images
returns-in-Err-clause-images g c = unmoved_runs c.args.self.now _ refl

pub returns-in-Err-clause-kept : goal.returns-in-Err-clause-kept
returns-in-Err-clause-kept g c =
    unmoved_does c.args.self.now _ c.requires.going c.requires.going c.in-Err.ensures.err refl (unmoved_keeps c.args.self.now _ c.in-Err.ensures.err refl) (returns-in-Err-clause-images g c)

pub returns-in-Ok-append_to-clause-log : goal.returns-in-Ok-append_to-clause-log
returns-in-Ok-append_to-clause-log g c answer is =
    let taken = first_taken c.args.self.now.engine.plant c.args.session c.args.moment c.args.command.now c.in-Ok.answer c.in-Ok.effect c.args.self.now.engine.state c.step.new.self.state
    c.clear.new.self c.put.new.self c.in-Ok.ensures.reached.whole c.in-Ok.ensures.reached.sound c.requires.may (ap (λ b. b.bytes.bytes) c.clear.ensures) (ap (λ b. b.events) c.clear.ensures)
    c.in-Ok.ensures.answer c.in-Ok.ensures.state c.in-Ok.ensures.effect c.put.ensures.bytes c.put.ensures.events in
    short_log _ _ (length c.put.new.self.bytes.bytes) c.in-Ok-append_to.ensures.log
    (omega (arith, taken_short c.args.self.now.engine.plant _ c.args.self.now.engine.state _ _ taken))

pub returns-in-Err-clause-memory : goal.returns-in-Err-clause-memory
returns-in-Err-clause-memory g c = want_grows c.args.self.now.engine.state c.args.command.now c.in-Err.ensures.wants
