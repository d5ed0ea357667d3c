use Rattle.std.proofs.Common.{◌≡◌, ◌<◌, ℕ, nat_eq, ◌≤◌, vec_capacity, length, Option, Some, None, refl, subst, sym, ap, ◌∙◌, Vec, Global, List}
use Rattle.std.specs.Cmp.Lexicographic.{pointwise}
use Rattle.std.specs.Option.{IfSome}
use Rattle.boss_model.specs.Processes.{process_named, process_of}
use Rattle.boss_model.specs.State.{Process}
use Rattle.law_time.proofs.Filters.{position-within}
use Rattle.boss_persistent.proofs.Holders.{held-below}
use Rattle.boss_model.specs.declared.notice.Notice.{Notice}
use Rattle.boss_engine.specs.declared.ready.Ready.TheVariants as ready
use Rattle.boss_engine.specs.Ready.{IsReadyToList}
use Rattle.boss_engine.proofs.machine.Machine.notices.Goals as goal
use Rattle.boss_engine.proofs.machine.Machine.notices.Goals.{in-Some, in-None}

if-found : (count : ℕ) (found : Option ℕ) → ((process : ℕ) → found ≡ Some process → process < count) → IfSome found (λ process. process < count)
if-found count None below = tt
if-found count (Some process) below = below process refl

list-room : (name : Option (List ℕ)) (process : Option ℕ) (most : ℕ) (list : Vec Notice Global) → IsReadyToList name process most (ready.List list) → most ≤ vec_capacity list
list-room None None most list is = absurd is
list-room None (Some process) most list is = is
list-room (Some name) process most list is = is

pub returns-in-List-clause-tellable : goal.returns-in-List-clause-tellable
returns-in-List-clause-tellable c = λ plant.
    let processes = c.args.self.now.lasting.processes in
    let count = length processes in
    let attached = c.args.self.now.attached.items in
    let own = process_of attached c.args.session in
    let room = list-room c.args.name.now own c.args.max c.in-List.list (subst (IsReadyToList c.args.name.now own c.args.max) c.in-List.is c.requires.ready) in
    let known : IfSome c.match-name.process (λ process. process < count) =
    elim c.match-name.branch [
      | in-Some w ↦
          let found = process_named processes w.in-Some.name in
          subst (λ found. IfSome found (λ process. process < count)) (sym (w.process-is ∙ w.named-process.ensures))
          (if-found count found (position-within (λ (process : Process). pointwise nat_eq process.name w.in-Some.name) processes))
      | in-None w ↦
          let found = process_of attached c.args.session in
          let is : c.match-name.process ≡ found = w.process-is ∙ w.process_of-process.ensures ∙ ap (λ items. process_of items c.args.session) w.deref.ensures.value in
          subst (λ found. IfSome found (λ process. process < count)) (sym is)
          (if-found count found (λ process own. held-below attached c.args.session process count c.requires.attached (sym own)))
    ] in
    (known, room)
