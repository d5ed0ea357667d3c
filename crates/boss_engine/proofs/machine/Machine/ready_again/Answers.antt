use Rattle.std.proofs.Common.{◌≡◌, true, is_none, ◌&&◌, subst, sym}
use Rattle.std.specs.List.{list_all, AllByRecursion}
use Rattle.boss_model.specs.declared.event.Act.{Act}
use Rattle.boss_model.specs.Acts.{is_known_point, is_known_process}
use Rattle.boss_model.specs.Submit.{submit_refused}
use Rattle.law_effects.specs.Changes.{is_new}
use Rattle.law_effects.specs.Early.{early}
use Rattle.boss_persistent.specs.Lasting.{persistent_of}
use Rattle.boss_engine.specs.Writing.{IsWritable}
use Rattle.boss_engine.proofs.Again.{both-true, none-of}
use Rattle.boss_engine.proofs.Written.{all-writable}
use Rattle.boss_engine.proofs.machine.Machine.ready_again.Goals as goal

pub ready_transaction-requires-clause-writes : goal.ready_transaction-requires-clause-writes
ready_transaction-requires-clause-writes c =
    let plant = c.args.plant.now in
    let d = persistent_of c.args.self.now.lasting in
    let asked = subst (λ (done : Act). early plant c.args.n done d ≡ true) c.in-Submit.is c.requires.allowed in
    let writes = c.in-Submit.writes in
    let owner = c.in-Submit.owner in
    let none = is_none (submit_refused plant writes d) in
    let new = is_new owner c.in-Submit.seq d in
    let known = both-true (list_all (λ write. is_known_point plant write.point) writes) (is_known_process d owner && (new && none)) asked in
    let own = both-true (is_known_process d owner) (new && none) known.1 in
    let last = both-true new none own.1 in
    subst (AllByRecursion IsWritable) (sym c.slice.ensures) (all-writable plant writes d (none-of (submit_refused plant writes d) last.1))
