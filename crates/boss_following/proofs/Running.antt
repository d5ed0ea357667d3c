-- Each image on the way, call by call.
use Rattle.std.proofs.Common.{◌≡◌, inl, inr, ℕ, ◌≤◌, List, [], ◌∷◌, ◌++◌, length, refl, sym, ap, ◌∙◌, subst, append-nil, append_assoc}
use Rattle.boss_disk.specs.declared.disk.Disk as disk
use Rattle.boss_disk.specs.Legs.{Legs, LeaveBoth}
use Rattle.boss_disk.proofs.Legs.{then_legs, weaker_legs}
use Rattle.boss_disk_pair.specs.Images.{OpensToOne}
use Rattle.boss_disk_pair.specs.Rests as pair
use Rattle.boss_disk_pair.specs.Rests.{stories}
use Rattle.boss_durable.specs.declared.durable.Durable.{Durable}
use Rattle.boss_durable.specs.Words.{keeps, lasting, passes}
use Rattle.boss_durable.proofs.Doing.{keeps_passes}
use Rattle.boss_following.specs.Ends.{LastsAfterSome, OpensToSome, Runs, start_of}
use Rattle.boss_following.specs.Places.{place_of, spot}
use Rattle.boss_following.specs.declared.following.Following.{Following}
use Rattle.boss_following.specs.declared.place.Place.TheVariants.{Between}
use Rattle.boss_following.specs.Moves.{MayLast}
use Rattle.boss_following.specs.Steps.{IsStepOf}
use Rattle.boss_following.proofs.Lines.{Reaches, reaches-next, reaches-through}
use Rattle.boss_model.specs.declared.event.Event.{Event}
use Rattle.boss_model.specs.declared.state.Actuator.{Actuator}
use Rattle.boss_model.specs.Limits.{longest_line}
use Rattle.boss_model.specs.State.{Persistent}
use Rattle.def_feed.specs.Followers.{Follower, Step}

-- what lasts after some of the lines lasts after some of more lines
some-more : (plant : List Actuator) (start : Follower) (given more : List (List ℕ)) (d : Persistent) → LastsAfterSome plant start given d → LastsAfterSome plant start (given ++ more) d
some-more plant start given more d (now, some, is) =
    (now, (some.0, some.1 ++ more, ap (λ ls. ls ++ more) some.2 ∙ append_assoc some.0 some.1 more, some.3), is)

-- what opens to one of two of a kind opens to some
to-some : (plant : List Actuator) (digest : List ℕ) (Is : Persistent → Type 0) (a b : Persistent) → Is a → Is b → (first second : List ℕ) →
    OpensToOne plant digest a b first second → OpensToSome plant digest Is first second
to-some plant digest Is a b one other first second (inl opens) = (a, one, opens)
to-some plant digest Is a b one other first second (inr opens) = (b, other, opens)

module _ {D : Type 0} {g : disk.Ghosts D} where
  pub runs-wider : (Is Also : Persistent → Type 0) (old new : Durable D g) → ((d : Persistent) → Is d → Also d) → Runs Is old new → Runs Also old new
  runs-wider Is Also old new also run =
      weaker_legs (λ first second both x y at there. let opens = both x y at there in (opens.0, also opens.0 opens.1, opens.2)) run

  passes-run : (Is : Persistent → Type 0) (old new : Durable D g) (b : Persistent) → g.tells → passes old new (lasting old) b → Is (lasting old) → Is b → Runs Is old new
  unfolding passes pair.passes
  passes-run Is old new b tells run one other =
      weaker_legs (λ first second both x y at there. to-some old.engine.plant old.disks.digest Is (lasting old) b one other x y (both x y at there)) (run tells).1

  pub runs-nothing : (Is : Persistent → Type 0) (durable : Durable D g) (before : List Event) → g.tells → keeps durable before → Is (lasting durable) → Runs Is durable durable
  runs-nothing Is durable before tells held is = passes-run Is durable durable (lasting durable) tells (keeps_passes durable before held) is is

  runs-then : (Is : Persistent → Type 0) (old mid new : Durable D g) → mid.engine.plant ≡ old.engine.plant → mid.disks.digest ≡ old.disks.digest →
      Runs Is old mid → Runs Is mid new → Runs Is old new
  runs-then Is old mid new plant digest first more =
      then_legs first
      (subst (λ (p : List Actuator). Legs (LeaveBoth (OpensToSome p old.disks.digest Is)) (stories mid.disks) (stories new.disks)) plant
      (subst (λ (x : List ℕ). Legs (LeaveBoth (OpensToSome mid.engine.plant x Is)) (stories mid.disks) (stories new.disks)) digest more))

  -- a line more
  pub runs-next : (plant : List Actuator) (start : Follower) (from : Following) (given : List (List ℕ)) (line : List ℕ) (step : Step) (old mid new : Durable D g) →
      g.tells → mid.engine.plant ≡ old.engine.plant → mid.disks.digest ≡ old.disks.digest →
      Reaches plant start given (spot mid from) → length line ≤ longest_line → IsStepOf (spot mid from) line step → MayLast plant (spot mid from) step mid new →
      Runs (LastsAfterSome plant start given) old mid → Runs (LastsAfterSome plant start (given ++ line ∷ [])) old new
  runs-next plant start from given line step old mid new tells same digest reaches short told may first =
      let read : List (List ℕ) = given ++ line ∷ [] in
      let here : LastsAfterSome plant start read (lasting mid) = (spot mid from, (given, line ∷ [], refl, reaches-through plant start given (spot mid from) reaches), refl) in
      runs-then (LastsAfterSome plant start read) old mid new same digest
      (runs-wider (LastsAfterSome plant start given) (LastsAfterSome plant start read) old mid (some-more plant start given (line ∷ [])) first)
      (passes-run (LastsAfterSome plant start read) mid new may.0 tells may.1 here (elim may.2 [
        | inl stays ↦ subst (LastsAfterSome plant start read) (sym stays) here
        | inr on ↦ (
          on.0,
          (read, [], sym (append-nil read), reaches-through plant start read on.0 (reaches-next plant start given (spot mid from) reaches line step on.0 short told on.1)),
          on.2,
        )
      ]))

  -- before the first line
  pub spot-start : (durable : Durable D g) (following : Following) → following.place ≡ Between → spot durable following ≡ start_of durable
  spot-start durable following place = λ i. record { lasting = lasting durable; count = durable.disks.events; place = place_of (place i) following.state.items }
