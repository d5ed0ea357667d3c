use Rattle.std.proofs.Common.{◌≡◌, ℕ, ◌≤◌, ◌++◌, List, length, take, sym, ap, ◌∙◌, subst, arith, length-take}
use Rattle.std.specs.List.{AllByRecursion}
use Rattle.boss_model.specs.declared.command.Command.{Command}
use Rattle.boss_shared.specs.Calls.{RestFits}
use Rattle.boss_shared.proofs.Along.{fine_replied}
use Rattle.def_history.specs.declared.entry.Entry.{Entry}
use Rattle.def_history.specs.History.{MayCall}
use Rattle.def_history.specs.Made.{done_by}
use Rattle.boss_durable.specs.Taken.{Taken}
use Rattle.boss_durable.proofs.ManyDone.{all_front, done_front, done_within, rest_fits, stops_at}
use Rattle.boss_durable.proofs.durable.Durable.try_one.Goals as goal

pub take_more-requires-clause-few : goal.take_more-requires-clause-few
take_more-requires-clause-few g c =
    let few = c.requires.few in
    (few.0, few.1, few.2, omega (arith, few.3, length-take c.going_on-many.result c.slice-calls.result.now, ap length c.slice-calls.ensures))

pub take_more-requires-clause-may : goal.take_more-requires-clause-may
take_more-requires-clause-may g c =
    all_front (MayCall c.args.self.now.engine.plant) c.going_on-many.result c.slice-calls.result.now
    (subst (AllByRecursion (MayCall c.args.self.now.engine.plant)) (sym c.slice-calls.ensures) c.requires.may.may)

pub take_more-requires-clause-room : goal.take_more-requires-clause-room
take_more-requires-clause-room g c =
    omega (arith, length-take c.going_on-many.result c.slice-calls.result.now, ap length c.slice-calls.ensures, c.requires.may.room, c.clear.ensures.capacity)

pub returns-clause-taken : goal.returns-clause-taken
returns-clause-taken g c made start held =
    let calls = c.slice-calls.result.now in
    let answers = c.take_more.new.answers.items in
    let session = c.args.asked.now.session in
    let less = done_within calls c.going_on-many.result (length answers) c.take_more.ensures.many c.going_on-many.ensures.within in
    let is : done_by session (take c.going_on-many.result calls) answers ≡ done_by session c.args.asked.now.commands answers =
    done_front session calls answers c.going_on-many.result less ∙ ap (λ (calls : List (Command × ℕ)). done_by session calls answers) c.slice-calls.ensures in
    subst (λ (es : List Entry). Taken c.args.self.now.engine.plant (made ++ es) start c.take_more.new.engine.state c.take_more.new.batch) is (c.take_more.ensures.taken made start held)

pub returns-clause-told : goal.returns-clause-told
returns-clause-told g c =
    let calls = c.slice-calls.result.now in
    let many = c.going_on-many.result in
    let done = length c.take_more.new.answers.items in
    let less = done_within calls many done c.take_more.ensures.many c.going_on-many.ensures.within in
    let within : done ≤ length calls = omega (arith, less, c.going_on-many.ensures.within) in
    let same : c.len.result ≡ done = omega (arith, c.len.ensures, c.take_more.new.answers.ok.0) in
    fine_replied _ c.outcomes.ensures.fine (sym same ∙ sym c.outcomes.ensures.done)
    (subst (λ (calls : List (Command × ℕ)). RestFits calls c.outcomes.result.done c.outcomes.result.rest) c.slice-calls.ensures
    (rest_fits calls done c.outcomes.result.done c.outcomes.result.rest within (c.outcomes.ensures.done ∙ same) (λ all. c.outcomes.ensures.all (same ∙ all))
    (λ fewer. c.outcomes.ensures.rest (omega (arith, fewer, same))) (stops_at calls many done c.take_more.ensures.many c.going_on-many.ensures.within c.take_more.ensures.rest c.going_on-many.ensures.wants)))
    c.outcomes.ensures.undenied
