-- What is owed for a feed of one's own history, and where nothing was followed.
use Rattle.std.proofs.Common.{◌≡◌, inl, inr, ◌⊎◌, ℕ, List, [], length, refl, sym, subst}
use Rattle.boss_disk.specs.declared.disk.Disk as disk
use Rattle.boss_durable.specs.declared.durable.Durable.{Durable}
use Rattle.boss_durable.specs.Words.{lasting}
use Rattle.boss_following.specs.declared.stop.FollowEnd.{FollowEnd}
use Rattle.boss_following.specs.declared.stop.FollowEnd.TheVariants as end
use Rattle.boss_following.specs.Ends.{EndsAt, FollowedFeed, LastsAfterSome, start_of}
use Rattle.boss_following.specs.Owns.{BeginOwn, FollowedOwn, IsAmong, known_after}
use Rattle.boss_following.proofs.Owning.{among-own, own-comes, own-counts, own-leads, own-read}
use Rattle.boss_following.proofs.Running.{runs-nothing, runs-wider}
use Rattle.boss_model.specs.declared.event.Event.{Event}
use Rattle.boss_model.specs.Lines.{lines}
use Rattle.boss_model.specs.Plants.{IsPlant}
use Rattle.boss_model.specs.State.{Persistent}
use Rattle.def_feed.specs.Histories.{IsAfter}
use Rattle.def_feed.specs.Items.{Item}

module _ {D : Type 0} {g : disk.Ghosts D} where
  pub own-followed : (old new : Durable D g) (bytes left : List ℕ) (result : FollowEnd) (history : List Event) (told : List Item) → IsPlant old.engine.plant →
      FollowedFeed old new bytes left result → BeginOwn old.engine.plant history old.disks.events (lasting old) (lines bytes) told → FollowedOwn history told old new result
  own-followed old new bytes left result history told limits fed own =
      let plant = old.engine.plant in
      let known = old.disks.events in
      let d = lasting old in
      record {
        follows = own-comes plant history known d (lines bytes) told limits own fed.read fed.unread fed.all bytes left refl fed.now result fed.ends;
        many = length fed.read;
        are_read = own-read plant history known d (lines bytes) told limits own fed.read fed.unread fed.all bytes left refl fed.now result fed.ends;
        counts = own-counts plant history known d (lines bytes) told limits own fed.read fed.unread fed.all bytes left refl fed.now result new.disks.events
            (λ fine. (fed.lasts fine).1) fed.ends;
        leads = λ fine.
            subst (λ (n : ℕ). IsAfter plant history n (lasting new)) (sym (fed.lasts fine).1)
            (subst (λ (e : Persistent). IsAfter plant history fed.now.count e) (sym (fed.lasts fine).0)
            (own-leads plant history known d (lines bytes) told limits own fed.read fed.unread fed.all bytes left refl fed.now result fine fed.ends));
        keeps_on = fed.keeps_on;
        images = λ tells before held.
            runs-wider (LastsAfterSome plant (start_of old) fed.read) (IsAmong plant history known (known_after known told (length fed.read))) old new
            (among-own plant history known d (lines bytes) told limits own fed.read fed.unread fed.all) (fed.images tells before held);
      }

  -- ---- nothing was read

  nothing-read : (durable : Durable D g) (bytes : List ℕ) (result : FollowEnd) →
      ((result ≡ end.NoMemory) ⊎ (result ≡ end.Stopped)) → FollowedFeed durable durable bytes bytes result
  nothing-read durable bytes result is = record {
    read = [];
    unread = lines bytes;
    all = refl;
    now = start_of durable;
    ends = elim is [
      | inl none ↦ subst (EndsAt durable.engine.plant (start_of durable) bytes bytes [] (start_of durable)) (sym none) ([], [], refl, refl)
      | inr over ↦ subst (EndsAt durable.engine.plant (start_of durable) bytes bytes [] (start_of durable)) (sym over) (refl, refl)
    ];
    lasts = λ fine. (refl, refl);
    keeps_on = λ before held fine. (before, held);
    images = λ tells before held. runs-nothing (LastsAfterSome durable.engine.plant (start_of durable) []) durable before tells held (start_of durable, ([], [], refl, refl), refl);
  }

  pub no-memory : (durable : Durable D g) (bytes : List ℕ) → FollowedFeed durable durable bytes bytes end.NoMemory
  no-memory durable bytes = nothing-read durable bytes end.NoMemory (inl refl)

  pub stopped-before : (durable : Durable D g) (bytes : List ℕ) → FollowedFeed durable durable bytes bytes end.Stopped
  stopped-before durable bytes = nothing-read durable bytes end.Stopped (inr refl)
