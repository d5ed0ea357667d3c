use Rattle.std.proofs.Common.{◌≡◌, ◌+◌, ◌%◌, ◌^◌, true, false, refl, sym, subst, ◌∙◌, arith}
use Rattle.def_bytes.specs.States.{state}
use Rattle.def_log.specs.Versions.{newest_version}
use Rattle.boss_disk_pair.specs.Images.{OpensEither}
use Rattle.boss_disk_pair.specs.Rests.{rests, changes}
use Rattle.boss_disk_pair.proofs.Generations.{changed_rests, changing_leaves, exchanged_rests, other_passes, written_run, written_now, written_seed}
use Rattle.boss_disk_pair.proofs.Orders.{other_moves}
use Rattle.boss_disk_pair.proofs.two_disks.TwoDisks.go_on_behind.Goals as goal

pub returns-then-self-clause-changes : goal.returns-then-self-clause-changes
unfolding rests changes
returns-then-self-clause-changes g c plant new_plant d e count at are sound = λ told.
    let never : false ≡ true = sym (at told).going ∙ c.if-self.true in absurd (cc)

pub returns-in-Ok-clause-rests : goal.returns-in-Ok-clause-rests
unfolding rests
returns-in-Ok-clause-rests g c plant new_plant d e count many at are sound counts = λ told.
    let fits = subst (λ x. (state 2).fits x ≡ true) are c.requires.fits in
    let written = written_now _ c.args.self.now.generation _ _ _ e _ _ _ refl are (c.in-Ok.ensures.done told) in
    let seeded = written_seed c.args.digest.now ((c.args.self.now.generation + 1) % 2 ^ 64) c.args.events _ e _ _ c.told-digest (omega arith) c.requires.few fits written
    c.seed_by-self.result c.seed_by-self.ensures.kept in
    exchanged_rests g.D.Disk new_plant c.args.digest.now c.seed_by-self.result c.args.events c.args.self.now.stopped e many _ newest_version _ _ _ _ _ _ _ _ c.write_state.new.disk c.args.self.now.journal.disk
    c.go_on_in.ensures.start.2 refl refl c.go_on_in.ensures.start.0 c.go_on_in.ensures.disk c.go_on_in.ensures.other
    (changed_rests _ _ _ _ _ _ _ _ _ _ _ _ _ _ _ (at told) new_plant c.args.digest.now c.told-digest e c.args.events c.requires.few fits sound many (counts told) c.seed_by-self.result (λ on. seeded) _ _ _ written)

pub returns-in-Ok-clause-changes : goal.returns-in-Ok-clause-changes
unfolding rests changes
returns-in-Ok-clause-changes g c plant new_plant d e count at are sound = λ told.
    other_passes g.D.Disk (OpensEither plant c.args.self.now.digest d new_plant c.args.digest.now e) _ c.args.self.now.second _ c.args.self.now.journal.disk c.args.self.now.spare _ _ _ refl
    c.go_on_in.ensures.disk c.go_on_in.ensures.other
    (changing_leaves _ _ _ _ _ _ _ _ _ _ _ _ _ _ _ (at told) new_plant c.args.digest.now c.told-digest e c.args.events c.requires.few (subst (λ x. (state 2).fits x ≡ true) are c.requires.fits) sound)
    (written_run _ _ c.args.self.now.generation _ _ e _ _ _ refl are (c.write_state.ensures.images told (at told).synced))

pub returns-in-Err-clause-changes : goal.returns-in-Err-clause-changes
unfolding rests changes
returns-in-Err-clause-changes g c plant new_plant d e count at are sound = λ told.
    other_moves (OpensEither plant c.args.self.now.digest d new_plant c.args.digest.now e) _ c.args.self.now.second _ _ _
    (changing_leaves _ _ _ _ _ _ _ _ _ _ _ _ _ _ _ (at told) new_plant c.args.digest.now c.told-digest e c.args.events c.requires.few (subst (λ x. (state 2).fits x ≡ true) are c.requires.fits) sound)
    (written_run _ _ c.args.self.now.generation _ _ e _ _ _ refl are (c.write_state.ensures.images told (at told).synced))
