use Rattle.std.proofs.Common.{refl, ◌∙◌, inl, inr, ⊎_elim}
use Rattle.boss_cluster.proofs.Changes.{differs_as, differs_nowhere, differs_written}
use Rattle.boss_cluster.proofs.Noting.{of_ok, of_err, told_whole, stays_whole, stays_either}
use Rattle.boss_cluster.proofs.disk.ClusterDisk.put_whole.Goals as goal

pub flush_whole-requires-clause-differs : goal.flush_whole-requires-clause-differs
flush_whole-requires-clause-differs g c told =
    let was = c.args.self.now in
    differs_as _ _ _ _ _ _ _ _ (c.from-from.ensures.value ∙ c.overwrite.ensures.from) (c.to-to.ensures ∙ c.overwrite.ensures.to) refl
    (c.bytes.ensures.bytes ∙ c.overwrite.ensures.bytes)
    (differs_written was.mirror.from was.mirror.to c.args.at _ was.mirror.bytes c.args.bytes.now (c.requires.there told) (was.differs told c.requires.going))

pub invariant_of-self : goal.invariant_of-self
invariant_of-self g c =
    let was = c.args.self.now in
    record {
      told = λ told no. cc;
      stays = λ told.
          stays_either c.args.at c.args.bytes.now was.mirror.bytes _ _ _ _ _ _ (c.flush_whole.ensures.found told) (was.told told c.requires.going) (was.stays told)
          (⊎_elim (λ none. inl none) (λ done. inr (done.0 ∙ c.bytes.ensures.bytes ∙ c.overwrite.ensures.bytes, done.1))
          (of_err c.flush_whole.result c.if-is_err.ensures.value (c.flush_whole.ensures.lost told)));
      differs = λ told no. cc;
    }

pub invariant_of-self-2 : goal.invariant_of-self-2
invariant_of-self-2 g c =
    let was = c.args.self.now in
    let done = λ (told : g.C.Cluster.tells). of_ok c.flush_whole.result c.if-is_err.ensures.value (c.flush_whole.ensures.done told) in
    record {
      told = λ told going. told_whole c.args.at c.args.bytes.now was.mirror.bytes _ _ _ _ _ (c.flush_whole.ensures.found told) (done told).1 (was.told told c.requires.going) (c.settle.ensures.bytes ∙ c.overwrite.ensures.bytes);
      stays = λ told. stays_whole c.args.at c.args.bytes.now was.mirror.bytes _ _ _ _ _ (c.flush_whole.ensures.found told) (done told).1 (was.told told c.requires.going) ((done told).0 ∙ c.bytes.ensures.bytes ∙ c.overwrite.ensures.bytes);
      differs = λ told going.
          differs_as _ _ _ _ _ _ _ _ c.settle.ensures.from c.settle.ensures.to refl c.settle.ensures.bytes
          (differs_nowhere _ _ ((done told).0 ∙ c.bytes.ensures.bytes));
    }
