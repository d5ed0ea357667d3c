use Rattle.std.proofs.Common.{◌≡◌, ◌≤◌, length, take, ◌∙◌, arith, length-take}
use Rattle.def_history.specs.Made.{done_by}
use Rattle.boss_durable.proofs.ManyDone.{all_done, all_done_runs, all_failed, all_failed_runs, done_within, rest_fits, stops_at}
use Rattle.boss_durable.proofs.Takings.{done_few, short_log, taken_short}
use Rattle.boss_durable.proofs.durable.Durable.take_all.Goals as goal

pub append_to-requires-clause-within : goal.append_to-requires-clause-within
append_to-requires-clause-within g c =
    let many : length c.take_steps.new.answers.items ≤ c.args.many =
    done_within c.args.commands.now c.args.many (length c.take_steps.new.answers.items) c.take_steps.ensures.many c.requires.within in
    omega (arith, taken_short _ _ _ _ _ c.take_steps.ensures.taken, done_few c.args.session (take c.args.many c.args.commands.now) c.take_steps.new.answers.items, c.requires.few, c.requires.within)

pub returns-in-Ok-clause-kept : goal.returns-in-Ok-clause-kept
returns-in-Ok-clause-kept g c =
    let many : length c.take_steps.new.answers.items ≤ c.args.many =
    done_within c.args.commands.now c.args.many (length c.take_steps.new.answers.items) c.take_steps.ensures.many c.requires.within in
    let few : length (done_by c.args.session (take c.args.many c.args.commands.now) c.take_steps.new.answers.items) ≤ 16 =
    omega (arith, done_few c.args.session (take c.args.many c.args.commands.now) c.take_steps.new.answers.items, c.requires.few, c.requires.within) in
    all_done c.args.self.now _ c.args.session c.args.many c.args.commands.now c.take_steps.new.answers.items c.take_steps.new.batch many c.take_steps.ensures.taken
    (λ count at. c.append_to.ensures.passes _ _ _ _ count at c.take_steps.ensures.taken few) c.outcomes.result.rest c.outcomes.ensures.fine c.requires.going
    c.in-Ok.ensures.fine c.take_steps.ensures.plant c.in-Ok.ensures.cause.1 (λ count at. c.in-Ok.ensures.rests _ _ _ _ count at c.take_steps.ensures.taken few)

pub returns-in-Ok-clause-images : goal.returns-in-Ok-clause-images
returns-in-Ok-clause-images g c =
    let many : length c.take_steps.new.answers.items ≤ c.args.many =
    done_within c.args.commands.now c.args.many (length c.take_steps.new.answers.items) c.take_steps.ensures.many c.requires.within in
    let few : length (done_by c.args.session (take c.args.many c.args.commands.now) c.take_steps.new.answers.items) ≤ 16 =
    omega (arith, done_few c.args.session (take c.args.many c.args.commands.now) c.take_steps.new.answers.items, c.requires.few, c.requires.within) in
    all_done_runs c.args.self.now _ c.args.session c.args.many c.args.commands.now c.take_steps.new.answers.items c.take_steps.new.batch many c.take_steps.ensures.taken
    (λ count at. c.append_to.ensures.passes _ _ _ _ count at c.take_steps.ensures.taken few) c.outcomes.result.rest c.outcomes.ensures.fine

pub returns-in-Ok-clause-rest : goal.returns-in-Ok-clause-rest
returns-in-Ok-clause-rest g c =
    let within : length c.take_steps.new.answers.items ≤ length c.args.commands.now = omega (arith, c.take_steps.ensures.many, length-take c.args.many c.args.commands.now) in
    let same : c.len.result ≡ length c.take_steps.new.answers.items = omega (arith, c.len.ensures, c.take_steps.new.answers.ok.0) in
    rest_fits c.args.commands.now (length c.take_steps.new.answers.items) c.outcomes.result.done c.outcomes.result.rest within (c.outcomes.ensures.done ∙ same)
    (λ all. c.outcomes.ensures.all (same ∙ all)) (λ less. c.outcomes.ensures.rest (omega (arith, less, same)))
    (stops_at c.args.commands.now c.args.many (length c.take_steps.new.answers.items) c.take_steps.ensures.many c.requires.within c.take_steps.ensures.rest c.requires.wants)

pub returns-in-Ok-clause-log : goal.returns-in-Ok-clause-log
returns-in-Ok-clause-log g c fine =
    let many : length c.take_steps.new.answers.items ≤ c.args.many =
    done_within c.args.commands.now c.args.many (length c.take_steps.new.answers.items) c.take_steps.ensures.many c.requires.within in
    short_log _ _ (length c.take_steps.new.batch.bytes.bytes) c.in-Ok.ensures.log
    (omega (arith, taken_short _ _ _ _ _ c.take_steps.ensures.taken, done_few c.args.session (take c.args.many c.args.commands.now) c.take_steps.new.answers.items, c.requires.few, c.requires.within))

pub returns-in-Err-clause-kept : goal.returns-in-Err-clause-kept
returns-in-Err-clause-kept g c =
    let many : length c.take_steps.new.answers.items ≤ c.args.many =
    done_within c.args.commands.now c.args.many (length c.take_steps.new.answers.items) c.take_steps.ensures.many c.requires.within in
    let few : length (done_by c.args.session (take c.args.many c.args.commands.now) c.take_steps.new.answers.items) ≤ 16 =
    omega (arith, done_few c.args.session (take c.args.many c.args.commands.now) c.take_steps.new.answers.items, c.requires.few, c.requires.within) in
    all_failed c.args.self.now _ c.args.session c.args.many c.args.commands.now c.take_steps.new.answers.items c.take_steps.new.batch many c.take_steps.ensures.taken
    (λ count at. c.append_to.ensures.passes _ _ _ _ count at c.take_steps.ensures.taken few) _ c.clear-in-Err.ensures.items (omega (arith, many, c.requires.within)) c.requires.may c.requires.going
    c.in-Err.ensures.stops c.take_steps.ensures.plant c.in-Err.ensures.cause
    (stops_at c.args.commands.now c.args.many (length c.take_steps.new.answers.items) c.take_steps.ensures.many c.requires.within c.take_steps.ensures.rest c.requires.wants)

pub returns-in-Err-clause-images : goal.returns-in-Err-clause-images
returns-in-Err-clause-images g c =
    let many : length c.take_steps.new.answers.items ≤ c.args.many =
    done_within c.args.commands.now c.args.many (length c.take_steps.new.answers.items) c.take_steps.ensures.many c.requires.within in
    let few : length (done_by c.args.session (take c.args.many c.args.commands.now) c.take_steps.new.answers.items) ≤ 16 =
    omega (arith, done_few c.args.session (take c.args.many c.args.commands.now) c.take_steps.new.answers.items, c.requires.few, c.requires.within) in
    all_failed_runs c.args.self.now _ c.args.session c.args.many c.args.commands.now c.take_steps.new.answers.items c.take_steps.new.batch many c.take_steps.ensures.taken
    (λ count at. c.append_to.ensures.passes _ _ _ _ count at c.take_steps.ensures.taken few) _ c.clear-in-Err.ensures.items (omega (arith, many, c.requires.within))
    (stops_at c.args.commands.now c.args.many (length c.take_steps.new.answers.items) c.take_steps.ensures.many c.requires.within c.take_steps.ensures.rest c.requires.wants)
