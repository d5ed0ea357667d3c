-- What was followed of a feed: up to a line that ends it, or to the end of the lines.
use Rattle.std.proofs.Common.{◌≡◌, ℕ, ◌+◌, ◌≤◌, true, false, List, [], ◌∷◌, ◌++◌, length, Err, refl, sym, ap, ◌∙◌, subst, append_assoc}
use Rattle.boss_disk.specs.declared.disk.Disk as disk
use Rattle.boss_durable.specs.declared.durable.Durable.{Durable}
use Rattle.boss_durable.specs.Words.{keeps}
use Rattle.boss_following.specs.declared.following.Following.{Following}
use Rattle.boss_following.specs.declared.stop.FollowEnd.{FollowEnd}
use Rattle.boss_following.specs.declared.stop.Stop.{Stop}
use Rattle.boss_following.specs.declared.stop.Stop.TheVariants as stop
use Rattle.boss_following.specs.Ends.{ended_at, EndsAt, FollowedFeed, has_failed, LastsAfterSome, Runs, start_of, stopped_at}
use Rattle.boss_following.specs.Moves.{is_disk_fault, IsKept, MayLast, Steps}
use Rattle.boss_following.specs.Places.{place_of, spot}
use Rattle.boss_following.specs.Steps.{IsStepOf, Stays, Stops}
use Rattle.boss_following.proofs.Ending.{ends, stops}
use Rattle.boss_following.proofs.Lines.{Reaches}
use Rattle.boss_following.proofs.Running.{runs-next}
use Rattle.boss_lines.specs.declared.reader.Next.{Next}
use Rattle.boss_lines.specs.Given.{GivesLines}
use Rattle.boss_model.specs.declared.event.Event.{Event}
use Rattle.boss_model.specs.declared.state.Actuator.{Actuator}
use Rattle.boss_model.specs.Limits.{longest_line, most_lines}
use Rattle.boss_model.specs.Lines.{lines}
use Rattle.def_feed.specs.Followers.{Follower, Step}

-- where no disk has failed the line left all as it was
stays-there : (f now : Follower) (why : Stop) (line : ℕ) → has_failed (stopped_at why line) ≡ false → Stays f now why → (now.lasting ≡ f.lasting) × (now.count ≡ f.count)
stays-there f now (stop.Gap have found) line fine stays = stays
stays-there f now stop.BadLine line fine stays = stays
stays-there f now stop.DiskFault line fine stays = absurd (let clash : true ≡ false = fine in cc)
stays-there f now stop.NoMemory line fine stays = stays

no-disk-fault : (why : Stop) (line : ℕ) → has_failed (stopped_at why line) ≡ false → is_disk_fault (Err why) ≡ false
no-disk-fault (stop.Gap have found) line fine = refl
no-disk-fault stop.BadLine line fine = refl
no-disk-fault stop.DiskFault line fine = fine
no-disk-fault stop.NoMemory line fine = refl

module _ {D : Type 0} {g : disk.Ghosts D} where
  -- all that was read was followed
  pub fed-to-end : (old now : Durable D g) (following : Following) (given unread : List (List ℕ)) (bytes left : List ℕ) (answer : Next) (result : FollowEnd) →
      result ≡ ended_at (place_of following.place following.state.items) answer → lines bytes ≡ given ++ unread →
      Reaches old.engine.plant (start_of old) given (spot now following) → GivesLines most_lines bytes left given answer →
      ((before : List Event) → keeps old before → IsKept now) →
      (g.tells → (before : List Event) → keeps old before → Runs (LastsAfterSome old.engine.plant (start_of old) given) old now) →
      FollowedFeed old now bytes left result
  fed-to-end old now following given unread bytes left answer result is all reaches gives keep runs = record {
    read = given;
    unread = unread;
    all = all;
    now = spot now following;
    ends = subst (EndsAt old.engine.plant (start_of old) bytes left given (spot now following)) (sym is)
        (ends old.engine.plant (start_of old) given (spot now following) reaches bytes left (place_of following.place following.state.items) answer refl gives);
    lasts = λ fine. (refl, refl);
    keeps_on = λ before held fine. keep before held;
    images = runs;
  }

  -- a line more was read, and ends it
  pub fed-to-line : (old mid new : Durable D g) (from to : Following) (given rest : List (List ℕ)) (line : List ℕ) (bytes left : List ℕ) (step : Step) (why : Stop) (result : FollowEnd) →
      result ≡ stopped_at why (length given + 1) → lines bytes ≡ given ++ line ∷ rest → Reaches old.engine.plant (start_of old) given (spot mid from) →
      length line ≤ longest_line → IsStepOf (spot mid from) line step → Steps mid.engine.plant step mid from new to (Err why) →
      mid.engine.plant ≡ old.engine.plant → mid.disks.digest ≡ old.disks.digest →
      ((before : List Event) → keeps old before → IsKept mid) →
      (g.tells → (before : List Event) → keeps old before → Runs (LastsAfterSome old.engine.plant (start_of old) given) old mid) →
      FollowedFeed old new bytes left result
  fed-to-line old mid new from to given rest line bytes left step why result is all reaches short told steps same digest keep runs =
      let n = length given + 1 in
      let plant = old.engine.plant in
      let now = spot mid from in
      record {
        read = given ++ line ∷ [];
        unread = rest;
        all = all ∙ sym (append_assoc given (line ∷ []) rest);
        now = now;
        ends = subst (EndsAt plant (start_of old) bytes left (given ++ line ∷ []) now) (sym is)
            (stops plant (start_of old) given now reaches bytes left line rest step why all short told
            (subst (λ (p : List Actuator). Stops p now step why) same steps.moves.0));
        lasts = λ fine. stays-there now (spot new to) why n (sym (ap has_failed is) ∙ fine) steps.moves.1;
        keeps_on = λ before held fine. let kept = keep before held in steps.keeps_on kept.0 kept.1 (no-disk-fault why n (sym (ap has_failed is) ∙ fine));
        images = λ tells before held.
            let kept = keep before held in
            runs-next plant (start_of old) from given line step old mid new tells same digest reaches short told
            (subst (λ (p : List Actuator). MayLast p now step mid new) same (steps.images kept.0 kept.1)) (runs tells before held);
      }
