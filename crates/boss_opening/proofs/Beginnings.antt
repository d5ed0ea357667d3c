-- A pair that holds nothing that counts, and one whose log was not read yet.
use Rattle.std.proofs.Common.{◌≡◌, inl, inr, ℕ, ◌+◌, Bool, true, false, List, [], length, refl, sym, ap, subst, ◌∙◌, arith, Some}
use Rattle.std.specs.Prelude.{Result, Ok, Err}
use Rattle.boss_disk.specs.declared.disk.Disk as disk
use Rattle.boss_disk.specs.Legs.{Legs, LeaveBoth, Two}
use Rattle.boss_disk.specs.Window.{settled}
use Rattle.boss_disk.proofs.Legs.{weaker_legs}
use Rattle.boss_durable.specs.declared.durable.Durable.{Durable}
use Rattle.boss_pair_find.specs.declared.refusal.DurableRefusal.{DurableRefusal}
use Rattle.boss_pair_find.specs.declared.refusal.DurableRefusal.TheVariants.{DiskFault, NoMemory}
use Rattle.boss_pair_find.specs.Holds.{IsNewPair}
use Rattle.boss_pair_find.specs.Refusals.{IsOfBytes, PairCause}
use Rattle.boss_pair_find.specs.Two.{counts, two}
use Rattle.def_log.specs.Kinds.{in_force, kind_of}
use Rattle.boss_model.specs.declared.event.Event.{Event}
use Rattle.boss_model.specs.declared.state.Actuator.{Actuator}
use Rattle.boss_model.specs.Settle.{opened}
use Rattle.boss_model.specs.State.{Persistent, State, first_persistent}
use Rattle.def_disk_pair.specs.Contents.{HoldsCleanly}
use Rattle.def_disk_pair.specs.Pairs.{HasEvents, IsNew, OfThatInForce, OpensCleanly, StandsFor}
use Rattle.boss_disk_pair.specs.declared.two_disks.TwoDisks.{TwoDisks}
use Rattle.boss_disk_pair.specs.Causes.{counts_of, first_disk, second_disk}
use Rattle.boss_disk_pair.specs.Images.{OpensToOne}
use Rattle.boss_disk_pair.specs.Orders.{first_of, second_of}
use Rattle.boss_disk_pair.specs.Reads.{is_settled}
use Rattle.boss_opening.specs.Opens.{Finishing, OpenedAt, OpenRefuses, Opening, Stays}
use Rattle.boss_opening.proofs.GoingOn.{closed_counts}
use Rattle.boss_opening.proofs.Openings.{finished, finished_legs, nothing_moved, refused}

-- ---- a new pair

new_stands : (plant : List Actuator) (digest first second : List ℕ) → IsNewPair first second → StandsFor plant digest first_persistent 0 [] first second
new_stands plant digest first second new =
    subst (λ i. OfThatInForce (HasEvents plant digest first_persistent 0 [])
    (λ bytes. IsNew bytes × (first_persistent ≡ first_persistent) × (◌≡◌ {A = ℕ} 0 0) × (◌≡◌ {A = List Event} [] [])) i first second) (sym new.0) (new.1, refl, refl, refl)

new_first : (plant : List Actuator) (digest first second : List ℕ) (d : Persistent) (count : ℕ) → IsNewPair first second → OpensCleanly plant digest d count first second → d ≡ first_persistent
new_first plant digest first second d count new opens =
    (subst (λ i. OfThatInForce (HoldsCleanly plant digest d count) (λ bytes. IsNew bytes × (d ≡ first_persistent) × (count ≡ 0)) i first second) new.0 opens).1

opens_first : (plant : List Actuator) (digest : List ℕ) (d : Persistent) (a b : List ℕ) → d ≡ first_persistent → OpensCleanly plant digest first_persistent 0 a b → OpensToOne plant digest d d a b
opens_first plant digest d a b same opens = inl (0, subst (λ x. OpensCleanly plant digest x 0 a b) (sym same) opens)

module _ {D : Type 0} (g : disk.Ghosts D) where
  module _ (plant : List Actuator) (digest : List ℕ) (limit : ℕ) (first second : D) where
    first_legs : (a b : D) (d : Persistent) → d ≡ first_persistent →
        Legs (LeaveBoth (OpensCleanly plant digest first_persistent 0)) (two (g.story first) (g.story second)) (two (g.story a) (g.story b)) →
        Legs (LeaveBoth (OpensToOne plant digest d d)) (two (g.story first) (g.story second)) (two (g.story a) (g.story b))
    first_legs a b d same legs = weaker_legs {Q = LeaveBoth (OpensCleanly plant digest first_persistent 0)} {R = LeaveBoth (OpensToOne plant digest d d)}
        (λ w v leave x y image last. opens_first plant digest d x y same (leave x y image last)) legs

    module _ (s : State) (pair : TwoDisks D g) (result : Result (Durable D g) ((D × D) × DurableRefusal)) (finishing : Finishing plant s limit pair result)
        (same_digest : pair.digest ≡ digest) (state_is : s.persistent ≡ first_persistent) where
      pub new_opening : (g.tells → IsNewPair (g.reads first) (g.reads second)) → pair.events ≡ 0 → counts_of pair ≡ counts (g.faults first) (g.faults second) →
          Opening plant digest limit first second result
      new_opening new none same =
          finished plant digest limit first second s pair result finishing same_digest
          (λ told. record {
            from = first_persistent;
            before = 0;
            events = [];
            stands = new_stands plant digest (g.reads first) (g.reads second) (new told);
            lasting = s.persistent;
            leads = ap Some (sym state_is);
            state_is = refl;
            number_is = none;
          }) same

      pub new_stays : g.tells → IsNewPair (g.reads first) (g.reads second) →
          Legs (LeaveBoth (OpensCleanly plant digest first_persistent 0)) (two (g.story first) (g.story second)) (two (g.story (first_disk pair)) (g.story (second_disk pair))) →
          Stays plant digest first second result
      new_stays told new legs d count opens =
          let same = new_first plant digest (g.reads first) (g.reads second) d count new opens in (
            d,
            inl refl,
            finished_legs plant digest limit first second s pair result finishing same_digest told d d (same ∙ sym state_is) (first_legs (first_disk pair) (second_disk pair) d same legs),
          )

    pub not_made : (back : D × D) (why : DurableRefusal) → (g.tells → why ≡ DiskFault) → PairCause (counts (g.faults first) (g.faults second)) (counts (g.faults back.0) (g.faults back.1)) why →
        Opening {D = D} {g = g} plant digest limit first second (Err (back, why))
    not_made back why fault cause = refused plant digest limit first second back why
        (λ told. subst (λ w. OpenRefuses plant digest (g.reads first) (g.reads second) w) (sym (fault told)) tt)
        (λ told some. absurd (subst IsOfBytes (fault told) some)) cause

    pub not_made_stays : (back : D × D) (why : DurableRefusal) → IsNewPair (g.reads first) (g.reads second) →
        Legs (LeaveBoth (OpensCleanly plant digest first_persistent 0)) (two (g.story first) (g.story second)) (two (g.story back.0) (g.story back.1)) →
        Stays {D = D} {g = g} plant digest first second (Err (back, why))
    not_made_stays back why new legs d count opens =
        (d, inl refl, first_legs back.0 back.1 d (new_first plant digest (g.reads first) (g.reads second) d count new opens) legs)

module _ {D : Type 0} (g : disk.Ghosts D) where
  -- ---- a pair that is not read

  settled_in : (b : Bool) (one other : D) → ((g.story one).window ≡ settled (g.reads one)) × ((g.story other).window ≡ settled (g.reads other)) →
      ((g.story (first_of b one other)).window ≡ settled (g.reads (first_of b one other))) × ((g.story (second_of b one other)).window ≡ settled (g.reads (second_of b one other)))
  settled_in false one other both = both
  settled_in true one other both = (both.1, both.0)

module _ {D : Type 0} {g : disk.Ghosts D} where
  pub settled_out : (pair : TwoDisks D g) → is_settled pair → g.tells →
      ((g.story (first_disk pair)).window ≡ settled (g.reads (first_disk pair))) × ((g.story (second_disk pair)).window ≡ settled (g.reads (second_disk pair)))
  unfolding is_settled
  settled_out pair synced told = settled_in g pair.second pair.journal.disk pair.spare (synced told)

  module _ (plant : List Actuator) (digest : List ℕ) (limit : ℕ) (pair : TwoDisks D g) (back : D × D) (is : (back.0 ≡ first_disk pair) × (back.1 ≡ second_disk pair)) (why : DurableRefusal) where
    pub unread : (g.tells → OpenRefuses plant digest (g.reads (first_disk pair)) (g.reads (second_disk pair)) why) →
        PairCause (counts_of pair) (counts_of pair) why → Opening {D = D} {g = g} plant digest limit (first_disk pair) (second_disk pair) (Err (back, why))
    unread refuses cause =
        refused plant digest limit (first_disk pair) (second_disk pair) back why refuses (λ told some. (ap g.reads is.0, ap g.reads is.1))
        (subst (λ now. PairCause (counts_of pair) now why) (closed_counts pair back is) cause)

    pub unread_stays : is_settled pair → g.tells → Stays {D = D} {g = g} plant digest (first_disk pair) (second_disk pair) (Err (back, why))
    unread_stays synced told =
        let both = settled_out pair synced told in
        nothing_moved g plant digest (first_disk pair) (second_disk pair) back why both.0 both.1 (ap g.story is.0) (ap g.story is.1)
