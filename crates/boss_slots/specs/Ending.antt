-- Source: own.
use Rattle.std.specs.Prelude.{◌≡◌, ℕ, ◌+◌, ◌*◌, ◌<◌, ◌≤◌, nat_lt, nat_le, Bool, true, false, not, if◌then◌else◌, List, [], ◌∷◌, ◌++◌, length, flat_map, Option, None, Some, slice_index_or}
use Rattle.std.specs.Option.{option_map, option_or, option_to_list}
use Rattle.std.specs.List.{AllByRecursion}
use Rattle.std.specs.List.Sorted.{IsPermutation}
use Rattle.boss_model.specs.declared.command.Step.{Step}
use Rattle.boss_model.specs.declared.state.Lease.{Lease}
use Rattle.boss_model.specs.declared.state.Pending.{Pending}
use Rattle.boss_model.specs.declared.notice.Cause.{Cause}
use Rattle.boss_model.specs.Ends.{shortened}
use Rattle.boss_model.specs.Submit.{cut, is_taken, superseded}
use Rattle.boss_model.specs.Reversions.{end_of, reversion_of, turns}
use Rattle.boss_booking.specs.Books.{Telling}
use Rattle.boss_booking.specs.Gathered.{ended_with, lease_tellings, pending_tellings, plain}
use Rattle.law_due.specs.Playing.{IsEndable, IsPlayable}
use Rattle.boss_slots.specs.Slots.{all, keep}
use Rattle.boss_slots.specs.Tables.{IsAwaited, IsKept, IsTimed, lease_at, number, pending_at}
use Rattle.boss_slots.specs.declared.tables.Tables.{Tables}

-- ---- leases and reversions end slot by slot

-- what is still to tell of all that the tables have
unfoldable pub dues : (Lease → List Telling) → (Pending → List Telling) → Tables → List Telling
dues of_lease of_pending t = flat_map of_lease (all (lease_at t) (length t.arrays.items)) ++ flat_map of_pending (all (pending_at t) (length t.arrays.items))

-- Some slots were taken up, and others not yet. The leases that stay, what is left in each slot, and what is told now and later
-- are those of the tables at first; a point that was not touched is as it was.
pub record IsEnding (stays : Lease → Bool) (left : Option Lease → Option Pending → Option Pending) (of_lease : Lease → List Telling) (of_pending : Pending → List Telling)
    (first now : Tables) (said_before said : List Telling) (marks_before marks : List Bool) : Type 0 where
  pub points : length now.arrays.items ≡ length first.arrays.items
  pub leases : (p q : ℕ) → keep stays (lease_at now p q) ≡ keep stays (lease_at first p q)
  pub pending : (p q : ℕ) → left (lease_at now p q) (pending_at now p q) ≡ left (lease_at first p q) (pending_at first p q)
  pub told : IsPermutation (said_before ++ dues of_lease of_pending first) (said ++ dues of_lease of_pending now)
  pub flags : length marks ≡ length marks_before
  pub touched : (p : ℕ) → slice_index_or marks_before p false ≡ true → slice_index_or marks p false ≡ true
  pub untouched : (p : ℕ) → slice_index_or marks p false ≡ false → (q : ℕ) → (lease_at now p q ≡ lease_at first p q) × (pending_at now p q ≡ pending_at first p q)

-- ---- time passes to n

abbrev pub outlives : ℕ → Lease → Bool
outlives n lease = nat_lt n lease.until

-- what is left in a slot after n: the reversion that was under way, or that of a lease that has ended
abbrev pub left_at : ℕ → Option Lease → Option Pending → Option Pending
left_at n lease reversion = keep (λ r. nat_lt n (end_of r)) (option_or reversion (option_map reversion_of (keep (λ l. nat_le l.until n) lease)))

-- no step of these ends up to n but after u
abbrev pub AreBy : ℕ → ℕ → ℕ → List Step → Type 0
AreBy n u start steps = AllByRecursion (λ turn. turn ≤ n → turn ≤ u) (turns start steps)

-- nothing comes of a slot up to n but after u
abbrev pub IsLeaseBy : ℕ → ℕ → Option Lease → Type 0
IsLeaseBy n u None = Unit {0}
IsLeaseBy n u (Some lease) = lease.until ≤ n → (lease.until ≤ u) × AreBy n u lease.until lease.revert

abbrev pub IsPendingBy : ℕ → ℕ → Option Pending → Type 0
IsPendingBy n u None = Unit {0}
IsPendingBy n u (Some reversion) = AreBy n u reversion.start reversion.steps

abbrev pub IsAllBy : ℕ → ℕ → Tables → Type 0
IsAllBy n u t = (p q : ℕ) → IsLeaseBy n u (lease_at t p q) × IsPendingBy n u (pending_at t p q)

-- what can be told as time passes to n is within its room, and all that stands can end and play
pub record IsPassable (n last : ℕ) (t : Tables) (said : List Telling) (most : ℕ) (marks : List Bool) : Type 0 where
  pub kept : IsKept t
  pub timed : IsTimed last t
  pub reached : last ≤ n
  pub endable : (p q : ℕ) (lease : Lease) → lease_at t p q ≡ Some lease → IsEndable lease
  pub playable : (p q : ℕ) (reversion : Pending) → pending_at t p q ≡ Some reversion → IsPlayable reversion × (reversion.start ≤ n)
  pub flags : length marks ≡ length t.arrays.items
  pub room : length said + length (dues (lease_tellings n) (pending_tellings n) t) ≤ most

-- Time is passing to n. `last` is the last moment at which something that was taken up was due, and `began` if there was none.
pub record IsPassing (n began last : ℕ) (first now : Tables) (said_before said : List Telling) (marks_before marks : List Bool) : Type 0 where
  pub ending : IsEnding (outlives n) (left_at n) (lease_tellings n) (pending_tellings n) first now said_before said marks_before marks
  pub later : began ≤ last
  pub covered : (u : ℕ) → last ≤ u → IsAllBy n u now → IsAllBy n u first
  pub least : (u : ℕ) → began ≤ u → IsAllBy n u first → (last ≤ u) × IsAllBy n u now
  pub waiting : (p : ℕ) → slice_index_or marks p false ≡ false → (q : ℕ) (reversion : Pending) → pending_at now p q ≡ Some reversion →
      IsAwaited began reversion (slice_index_or now.timers (16 * length now.arrays.items + number p q) None)

-- a timer goes off by n
abbrev pub is_due : ℕ → Option ℕ → Bool
is_due n None = false
is_due n (Some timer) = nat_le timer n

-- ---- leases end at n before their time

abbrev pub outstays : (Lease → Bool) → Lease → Bool
outstays which lease = not (which lease)

-- what is then left in a slot
abbrev pub left_by : (Lease → Bool) → ℕ → Option Lease → Option Pending → Option Pending
left_by which n lease reversion = keep (λ r. nat_lt n (end_of r)) (option_or reversion (option_map (λ l. reversion_of (shortened n l)) (keep which lease)))

abbrev pub told_by : (Lease → Bool) → Cause → ℕ → Lease → List Telling
told_by which why n lease = if which lease then ended_with why (reversion_of (shortened n lease)) ∷ [] else []

abbrev pub silent : Pending → List Telling
silent reversion = []

-- some leases have ended so, and there is room to tell of the others
pub record IsOrderly (which : Lease → Bool) (why : Cause) (n : ℕ) (first now : Tables) (said_before said : List Telling) (most : ℕ) (marks_before marks : List Bool) : Type 0 where
  pub ending : IsEnding (outstays which) (left_by which n) (told_by which why n) silent first now said_before said marks_before marks
  pub kept : IsKept now
  pub timed : IsTimed n now
  pub endable : (p q : ℕ) (lease : Lease) → lease_at now p q ≡ Some lease → IsEndable lease
  pub runs : (p q : ℕ) (reversion : Pending) → pending_at now p q ≡ Some reversion → n < end_of reversion
  pub flags : length marks ≡ length now.arrays.items
  pub room : length said + length (dues (told_by which why n) silent now) ≤ most

-- ---- new leases take their slots

-- what is told of what stood in a slot
abbrev pub replaced_at : ℕ → ℕ → Option Lease → Option Pending → List Telling
replaced_at by n lease reversion = option_to_list (option_map (λ l. plain (superseded by n l)) lease) ++ option_to_list (option_map (λ r. plain (cut by n r)) reversion)

abbrev pub untaken : List Lease → Lease → Bool
untaken new lease = not (is_taken new lease.point lease.priority)

abbrev pub left_untaken : List Lease → Option Lease → Option Pending → Option Pending
left_untaken new lease reversion = keep (λ r. not (is_taken new r.point r.priority)) reversion

abbrev pub told_taken : List Lease → ℕ → ℕ → Lease → List Telling
told_taken new by n lease = if is_taken new lease.point lease.priority then plain (superseded by n lease) ∷ [] else []

abbrev pub told_cut : List Lease → ℕ → ℕ → Pending → List Telling
told_cut new by n reversion = if is_taken new reversion.point reversion.priority then plain (cut by n reversion) ∷ [] else []

-- some of the slots that are taken are clear, and there is room to tell of what stands in the others
pub record IsClearing (new : List Lease) (by n : ℕ) (first now : Tables) (said_before said : List Telling) (most : ℕ) (marks_before marks : List Bool) : Type 0 where
  pub ending : IsEnding (untaken new) (left_untaken new) (told_taken new by n) (told_cut new by n) first now said_before said marks_before marks
  pub kept : IsKept now
  pub timed : IsTimed n now
  pub flags : length marks ≡ length now.arrays.items
  pub room : length said + length (dues (told_taken new by n) (told_cut new by n) now) ≤ most
