-- Ending leases before their time keeps a sound persistent part sound.
use Rattle.std.proofs.Common.{◌≡◌, ℕ, ◌<◌, ◌≤◌, nat_lt, nat_le, List, [], ◌++◌, map, Bool, true, false, not, ◌&&◌, cond, Some, None, refl, ap, sym, ◌∙◌, arith}
use Rattle.std.specs.List.{filter, AllByRecursion}
use Rattle.std.proofs.lemmas.Bool.{cond_both}
use Rattle.std.proofs.lemmas.Bool.Decides.{nat_tests}
use Rattle.boss_model.specs.declared.notice.Cause.{Cause}
use Rattle.boss_model.specs.declared.notice.What.TheVariants as what
use Rattle.boss_model.specs.declared.state.Actuator.{Actuator}
use Rattle.boss_model.specs.declared.state.Lease.{Lease}
use Rattle.boss_model.specs.Ends.{shortened, shortened_if, end_if, end_leases}
use Rattle.boss_model.specs.Groups.{courses_of}
use Rattle.boss_model.specs.Happenings.{Happening, ended, lives}
use Rattle.boss_model.specs.Limits.{last_moment}
use Rattle.boss_model.specs.Lists.{member}
use Rattle.boss_model.specs.Reversions.{end_of, reversion_of, courses}
use Rattle.boss_model.specs.Sound.{IsLease, is_superseded, IsSoundPersistent}
use Rattle.boss_model.specs.State.{Persistent}
use Rattle.boss_model.specs.Time.{live, under_way, record_after, tick_to}
use Rattle.law_time.proofs.Coming.{now_after-within}
use Rattle.law_soundness.proofs.ConcludeSound.{IsNews, IsNext, conclude-sound}
use Rattle.law_time.proofs.Endings.{IsEnding, IsReverting, plain-cause, ending-change}
use Rattle.law_time.proofs.Filters.{each-mapped, each-always}
use Rattle.law_time.proofs.GroupSound.{IsTidings, IsTold}
use Rattle.law_time.proofs.Orders.{each-map, each-filter, each-passed, each-both, each-append}
use Rattle.law_time.proofs.TickSound.{IsSilent, known-lease, lease-numbers, word-of}

-- time has passed up to n: nothing more is due, and all that stands outlasts n
pub record IsAt (n : ℕ) (d : Persistent) : Type 0 where
  pub reached : d.now ≤ n
  pub live : AllByRecursion (λ lease. n < lease.until) d.leases
  pub running : AllByRecursion (λ r. n < end_of r) d.pending

pub at-tick : (d : Persistent) (n : ℕ) → d.now ≤ n → IsAt n (tick_to n d)
at-tick d n within = record {
  reached = now_after-within n d.now (courses d.pending d.leases) d.txns within;
  live = each-passed (λ lease. n < lease.until) (λ lease. nat_lt n lease.until) (λ lease passed. grind (arith, nat_tests)) d.leases;
  running = each-passed (λ r. n < end_of r) (λ r. nat_le r.start n && nat_lt n (end_of r)) (λ r passed. grind (arith, nat_tests)) (courses d.pending d.leases);
}

-- the done are those that do not live, in the words that a conclusion needs
pub alive-not-done : (plant : List Actuator) (d : Persistent) → IsSoundPersistent plant d → AllByRecursion (λ t. lives t.txn (courses_of d) ≡ true → member t.txn d.done ≡ false) d.txns
alive-not-done plant d sound = each-map (λ t. member t.txn d.done ≡ not (lives t.txn (courses_of d))) (λ t. lives t.txn (courses_of d) ≡ true → member t.txn d.done ≡ false)
    (λ t done alive. grind (arith)) d.txns sound.done

ending-by : (b : Bool) (why : Cause) (n : ℕ) (lease : Lease) → n < lease.until →
    IsEnding n lease (cond b (shortened n lease) lease) (cond b (Some (record { cause = why; at = n })) None)
ending-by true why n lease more =
    record { same = refl; shorter = omega arith; stays = λ after. absurd (omega arith); ends = λ _. (record { cause = why; at = n }, refl, refl) }
ending-by false why n lease more = record { same = refl; shorter = omega arith; stays = λ _. refl; ends = λ over. absurd (omega arith) }

pub ending-if : (which : Lease → Bool) (why : Cause) (n : ℕ) (lease : Lease) → n < lease.until → IsEnding n lease (shortened_if which n lease) (end_if which why n lease)
ending-if which why n lease more = ending-by (which lease) why n lease more

reverting-if : (which : Lease → Bool) (why : Cause) (n : ℕ) (lease : Lease) → is_superseded why ≡ false → IsReverting (end_if which why n lease)
reverting-if which why n lease plain end is = cond_both (which lease) (Some (record { cause = why; at = n })) None
    (λ how. how ≡ Some end → is_superseded end.cause ≡ false)
    (λ _ e. let same : record { cause = why; at = n } ≡ end = cc in ap (λ x. is_superseded x.cause) (sym same) ∙ plain) (λ _ e. cc) is

-- of several kinds of news, each silent and told
pub news-append : (plant : List Actuator) (n : ℕ) (xs ys : List Happening) → IsNews plant n xs → IsNews plant n ys → IsNews plant n (xs ++ ys)
news-append plant n xs ys p q = record {
  silent = each-append IsSilent xs ys p.silent q.silent;
  told = each-append (λ h. IsTidings plant n h.told h.at h.txn) xs ys p.told q.told;
}

pub no-news : (plant : List Actuator) (n : ℕ) → IsNews plant n []
no-news plant n = record { silent = tt; told = tt }

pub end_leases-sound : (plant : List Actuator) (which : Lease → Bool) (why : Cause) (n : ℕ) (first : List Happening) (d : Persistent) →
    IsSoundPersistent plant d → IsAt n d → n ≤ last_moment → is_superseded why ≡ false → IsNews plant n first → IsNext plant d (end_leases which why n first d)
end_leases-sound plant which why n first d sound at small plain news =
    let cut = map (shortened_if which n) d.leases in
    let ends = map (λ lease. ended why (reversion_of (shortened n lease))) (filter which d.leases) in
    let txns = map (record_after (end_if which why n) d.leases) d.txns in
    let told : IsNews plant n ends = record {
      silent = each-mapped IsSilent (λ lease. ended why (reversion_of (shortened n lease))) (filter which d.leases)
          (each-always (λ lease. IsSilent (ended why (reversion_of (shortened n lease)))) (λ lease. refl) (filter which d.leases));
      told = each-mapped (λ h. IsTidings plant n h.told h.at h.txn) (λ lease. ended why (reversion_of (shortened n lease))) (filter which d.leases)
          (each-filter (λ lease. IsTold plant n (what.Ended lease.point why) n lease.txn) which d.leases
          (each-map (λ lease. IsLease plant d.now lease × (lease.txn < d.next)) (λ lease. IsTold plant n (what.Ended lease.point why) n lease.txn)
          (λ lease both. record { past = omega arith; known = known-lease plant d.now lease both.0; words = (word-of d.next lease.txn sound.next both.1, plain-cause why plain) }) d.leases
          (each-both (IsLease plant d.now) (λ lease. lease.txn < d.next) d.leases sound.leases (lease-numbers plant d sound))));
    } in
    conclude-sound plant n (first ++ ends) d d.next (live n cut) (under_way n (courses d.pending cut)) txns
    (ending-change plant d n n (shortened_if which n) (end_if which why n) sound at.reached (omega arith) small
    (each-map (λ lease. n < lease.until) (λ lease. IsEnding n lease (shortened_if which n lease) (end_if which why n lease)) (ending-if which why n) d.leases at.live)
    (each-always (λ lease. IsReverting (end_if which why n lease)) (λ lease. reverting-if which why n lease plain) d.leases)
    (each-always (λ c. c.start ≤ n → c.start ≤ n) (λ c early. early) (courses d.pending cut)))
    (news-append plant n first ends news told)
    (each-mapped (λ t. lives t.txn (courses_of d) ≡ true → member t.txn d.done ≡ false) (record_after (end_if which why n) d.leases) d.txns (alive-not-done plant d sound))
