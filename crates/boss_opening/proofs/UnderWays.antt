-- What shutting the last gate of a clean pair tells of the record that was under way.
use Rattle.std.proofs.Common.{◌≡◌, inl, inr, ◌⊎◌, ⊎_elim, ℕ, ◌+◌, Bool, List, [], ◌∷◌, ◌++◌, length, drop, refl, sym, ap, subst, ◌∙◌, append_assoc}
use Rattle.std.proofs.lemmas.List.{drop_at}
use Rattle.def_bytes.specs.Batches.{batch_text}
use Rattle.boss_disk.specs.declared.disk.Disk as disk
use Rattle.boss_pair_find.proofs.Orders.{out_of_order}
use Rattle.def_log.specs.Log.{framed, spelled}
use Rattle.boss_model.specs.declared.event.Event.{Event}
use Rattle.boss_model.specs.declared.state.Actuator.{Actuator}
use Rattle.boss_model.specs.State.{Persistent}
use Rattle.def_seal.specs.Seals.{sealed}
use Rattle.def_disk_pair.specs.Contents.{records_of, record_of, last_gate, HoldsCleanly, IsNext}
use Rattle.def_disk_pair.specs.Pairs.{OfPair, OpensCleanly}
use Rattle.boss_disk_pair.specs.declared.two_disks.TwoDisks.{TwoDisks}
use Rattle.boss_disk_pair.specs.Causes.{first_disk, second_disk}
use Rattle.boss_disk_pair.specs.Orders.{InOrder}
use Rattle.boss_disk_pair.specs.Reads.{AtEnd, IsUnderWay, MayCome, ends_at, is_clean, is_settled, reads_to}
use Rattle.boss_disk_pair.specs.Rests.{passes}
use Rattle.boss_disk_pair.proofs.Forced.{from_order}
use Rattle.boss_disk_pair.proofs.Readings.{of_that_in_force}
use Rattle.boss_disk_pair.proofs.Repairs.{IsOneEnd, clean_holds, one_end}
use Rattle.boss_disk_pair.proofs.Sums.{by_seed}
use Rattle.boss_disk_pair.proofs.Words.{passes_before}
use Rattle.boss_opening.specs.Reading.{IsReadOn, ReadWhole, ShutsCleanly}
use Rattle.boss_opening.specs.UnderWay.{IsUnderWayTo, MayComeTo}
use Rattle.boss_opening.proofs.ReadOn.{back, stays_clean, still_clean, still_settled}

head_is : (x y : ℕ) (xs ys : List ℕ) → x ∷ xs ≡ y ∷ ys → x ≡ y
head_is x y xs ys is = cc

tail_is : (x y : ℕ) (xs ys : List ℕ) → x ∷ xs ≡ y ∷ ys → xs ≡ ys
tail_is x y xs ys is = cc

module _ (plant : List Actuator) (digest seed : List ℕ) (version : ℕ) (second : Bool) (generation number : ℕ) (held other : List ℕ) (place : ℕ)
    (from : Persistent) (before : ℕ) (events : List Event) (to : Persistent)
    (end : AtEnd plant digest seed version second generation number held other place from before events to)
    (d : Persistent) (count : ℕ) (opens : InOrder (OpensCleanly plant digest d count) second held other) where
  clean : HoldsCleanly plant digest d count held
  clean = clean_holds plant digest d count second held other (from_order second held other end.coming.is_in_force) opens

  ends : IsOneEnd clean.held.version version clean.held.front end.coming.front (last_gate clean.held.version clean.held.front clean.batches)
      (last_gate version end.coming.front end.coming.batches) d to clean.held.log.gate end.at.log.gate clean.held.log.tail end.at.log.tail
  ends = one_end plant digest end.coming.whole version end.coming.front from before end.coming.batches to end.coming.course d count place held end.at clean

  -- it comes to one state
  pub one_state : d ≡ to
  one_state = ends.state_same

  -- the bytes from the gate on, by the record under way and by the log
  gate_on : (after : Persistent) (under : IsUnderWay plant version seed place held to after) → under.gate ∷ under.tail ≡ end.at.log.gate ∷ end.at.log.tail
  gate_on after under =
      sym (drop_at under.front (under.gate ∷ under.tail) place (sym under.placed)) ∙ ap (drop place) (sym under.is ∙ end.at.log.is
      ∙ sym (append_assoc end.coming.front (spelled (records_of version end.coming.front end.coming.batches)) (end.at.log.gate ∷ end.at.log.tail)))
      ∙ drop_at (end.coming.front ++ spelled (records_of version end.coming.front end.coming.batches)) (end.at.log.gate ∷ end.at.log.tail) place (sym end.at.here)

  -- a record in the place of the last gate
  same_record : (batch : List Event) → sealed version seed place (batch_text batch)
      ≡ record_of clean.held.version clean.held.front (last_gate clean.held.version clean.held.front clean.batches) batch
  same_record batch =
      by_seed version place seed end.coming.front (batch_text batch) end.coming.seeded
      ∙ ap (λ p. record_of version end.coming.front p batch) (end.at.here ∙ sym ends.place_same)
      ∙ ap (λ f. record_of version f (last_gate clean.held.version clean.held.front clean.batches) batch) (sym ends.front_same)
      ∙ ap (λ v. record_of v clean.held.front (last_gate clean.held.version clean.held.front clean.batches) batch) (sym ends.version_same)

  under_way : (after : Persistent) → IsUnderWay plant version seed place held to after → IsUnderWayTo plant digest d count after held
  under_way after under = record {
    clean = clean;
    not_shut = λ zero. under.not_zero (head_is _ _ under.tail end.at.log.tail (gate_on after under) ∙ sym ends.gate_same ∙ zero);
    batch = under.batch;
    more = under.more;
    next = subst (λ x. IsNext plant clean.held.version x under.batch after) (sym one_state)
        (subst (λ v. IsNext plant v to under.batch after) (sym ends.version_same) under.next);
    behind = ends.tail_same ∙ sym (tail_is under.gate end.at.log.gate _ _ (gate_on after under)) ∙ under.behind
        ∙ ap (λ r. framed r ++ 0 ∷ under.more) (same_record under.batch);
  }

  abbrev pub Comes : Persistent → List ℕ → List ℕ → List ℕ → Type 0
  Comes after key one two = OfPair (IsUnderWayTo plant key d count after) (λ bytes. ⊥) one two

  pub may_come : (after : Persistent) → MayCome plant version seed place held to after → (after ≡ d) ⊎ InOrder (Comes after digest) second held other
  may_come after (inl same) = inl (same ∙ sym one_state)
  may_come after (inr under) = inr
      (of_that_in_force (IsUnderWayTo plant digest d count after) (λ bytes. ⊥) second held other end.coming.is_in_force (under_way after under))

module _ {D : Type 0} {g : disk.Ghosts D} where
  -- what is said of the one in force and the other is said of the first and the second
  in_disks : (plant : List Actuator) (d : Persistent) (count : ℕ) (after : Persistent) (pair : TwoDisks D g) →
      (after ≡ d) ⊎ InOrder (λ one two. OfPair (IsUnderWayTo plant pair.digest d count after) (λ bytes. ⊥) one two) pair.second (g.reads pair.journal.disk) (g.reads pair.spare) →
      MayComeTo plant pair.digest d count after (g.reads (first_disk pair)) (g.reads (second_disk pair))
  in_disks plant d count after pair (inl same) = inl same
  in_disks plant d count after pair (inr under) =
      inr (out_of_order g.reads (λ one two. OfPair (IsUnderWayTo plant pair.digest d count after) (λ bytes. ⊥) one two) pair.second pair.journal.disk pair.spare under)

  -- What shutting it tells, where `now` is what the log leads to.
  pub record Shut (old new : TwoDisks D g) (plant : List Actuator) (d : Persistent) (count : ℕ) (now : Persistent) : Type 0 where
    pub after : Persistent
    pub may : MayComeTo plant old.digest d count after (g.reads (first_disk old)) (g.reads (second_disk old))
    pub runs : passes old new plant d after
    pub same : d ≡ now

  abbrev pub Shuts : TwoDisks D g → TwoDisks D g → List Actuator → Type 0
  Shuts mid new plant = (from d : Persistent) (before count : ℕ) (found : List Event) → ends_at mid plant from before found d → is_settled mid
      → is_clean mid plant d count → (after : Persistent) × MayCome plant mid.journal.version mid.seed mid.journal.place (g.reads mid.journal.disk) d after × passes mid new plant d after

  module _ (old mid new : TwoDisks D g) (plant : List Actuator) (from to : Persistent) (many count : ℕ) (read : IsReadOn old mid) (whole : ReadWhole old mid plant from many to)
      (begins : reads_to old plant from old.events [] from) (synced : is_settled old) (told : g.tells) (d : Persistent) (opens : is_clean old plant d count) where
    end : AtEnd plant mid.digest mid.seed mid.journal.version mid.second mid.generation mid.events (g.reads mid.journal.disk) (g.reads mid.spare) mid.journal.place from old.events whole.events to
    unfolding ends_at
    end = whole.ends old.events begins told

    mid_opens : InOrder (OpensCleanly plant mid.digest d count) mid.second (g.reads mid.journal.disk) (g.reads mid.spare)
    unfolding is_clean
    mid_opens = still_clean old mid read plant d count opens told

    pub comes_same : d ≡ to
    comes_same = one_state _ _ _ _ _ _ _ _ _ _ _ _ _ _ end d count mid_opens

    back_to : (after : Persistent) → (after ≡ d) ⊎ InOrder (λ one two. OfPair (IsUnderWayTo plant mid.digest d count after) (λ bytes. ⊥) one two) mid.second (g.reads mid.journal.disk) (g.reads mid.spare) →
        (after ≡ d) ⊎ InOrder (λ one two. OfPair (IsUnderWayTo plant old.digest d count after) (λ bytes. ⊥) one two) old.second (g.reads old.journal.disk) (g.reads old.spare)
    back_to after (inl same) = inl same
    back_to after (inr under) = inr (back old mid read (λ key one two. OfPair (IsUnderWayTo plant key d count after) (λ bytes. ⊥) one two) told under)

    pub shut : Shuts mid new plant → Shut old new plant d count to
    shut shuts =
        let found = shuts from to old.events count whole.events (whole.ends old.events begins) (still_settled old mid read synced)
        (subst (λ x. is_clean mid plant x count) comes_same (still_clean old mid read plant d count opens)) in
        record {
          after = found.0;
          may = in_disks plant d count found.0 old (back_to found.0 (may_come _ _ _ _ _ _ _ _ _ _ _ _ _ _ end d count mid_opens found.0 found.1));
          runs = passes_before old mid new plant d found.0 (stays_clean old mid read plant d count synced opens)
              (subst (λ x. passes mid new plant x found.0) (sym comes_same) found.2);
          same = comes_same;
        }
