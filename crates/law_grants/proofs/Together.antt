-- What lasts after a step, put together of its rows and its books.
use Rattle.std.proofs.Common.{◌≡◌, ℕ, ◌+◌, ◌≤◌, nat_lt, List, [], ◌∷◌, ◌++◌, length, Bool, not, map, Option, Some, None, refl, ap, sym, ◌∙◌, subst, arith, length-append}
use Rattle.std.specs.List.{filter, fold}
use Rattle.std.proofs.lemmas.Bool.{cond_both}
use Rattle.std.proofs.lemmas.List.{length-map}
use Rattle.boss_model.specs.declared.notice.Cause.{Cause}
use Rattle.boss_model.specs.declared.notice.What.{What}
use Rattle.boss_model.specs.declared.notice.What.TheVariants as what
use Rattle.boss_model.specs.declared.state.Lease.{Lease}
use Rattle.boss_model.specs.declared.state.Pending.{Pending}
use Rattle.boss_model.specs.Ends.{shortened_if}
use Rattle.boss_model.specs.Happenings.{Happening}
use Rattle.boss_model.specs.Order.{in_order}
use Rattle.boss_model.specs.State.{Persistent, lease_slot}
use Rattle.boss_model.specs.Submit.{is_taken}
use Rattle.boss_model.specs.Time.{live}
use Rattle.boss_stages.specs.Stages.{Stages, changed, finished, finished_if_over, is_over, kept_as, with_end, without_reversion}
use Rattle.law_time.proofs.Filters.{few-filter}
use Rattle.boss_booking.specs.Books.{Telling, Books, StandsFor, after_what, booked}
use Rattle.boss_booking.specs.Gathered.{AreBooksOf, plain}
use Rattle.boss_booking.specs.Passed.{IsFirstTold, faulted, nothing}
use Rattle.law_due.proofs.DueLemmas.{length-in_order}
use Rattle.boss_booking.proofs.EndsBooked.{map-plain}

abbrev pub put_together : ℕ → ℕ → List Lease → List Pending → Books → Persistent
put_together now next leases pending books = record {
  now = now;
  next = next;
  leases = leases;
  pending = pending;
  txns = map (λ kept. kept.transaction) books.stages.kept;
  done = books.stages.done;
  processes = books.processes;
}

-- with the rows of a persistent part and its books, it is that part
pub together : (now next : ℕ) (leases : List Lease) (pending : List Pending) (books made : Books) (after : Persistent) → books ≡ made → AreBooksOf made after →
    now ≡ after.now → next ≡ after.next → leases ≡ after.leases → pending ≡ after.pending → put_together now next leases pending books ≡ after
together now next leases pending books made after same are at numbered held under = λ i. record {
  now = at i;
  next = numbered i;
  leases = held i;
  pending = under i;
  txns = (ap (λ b. map (λ kept. kept.transaction) b.stages.kept) same ∙ are.stands.txns) i;
  done = (ap (λ b. b.stages.done) same ∙ are.stands.done) i;
  processes = (ap (λ b. b.processes) same ∙ are.processes) i;
}

-- and the records stand for it
pub stands-for : (books made : Books) (after there : Persistent) → books ≡ made → AreBooksOf made after → there ≡ after → StandsFor books.stages there
stands-for books made after there same are is = subst (StandsFor books.stages) (sym is) (subst (λ b. StandsFor b.stages after) (sym same) are.stands)

-- ---- booking makes no room, and takes none

room-over : (txn : ℕ) (s : Stages) → (finished_if_over txn s).room ≡ s.room
room-over txn s = cond_both (is_over (kept_as txn s.kept)) (finished txn s) s (λ x. x.room ≡ s.room) (λ _. refl) (λ _. refl)

room-what : (told : Option What) (txn at : ℕ) (reverts : Bool) (s : Stages) → (after_what txn at reverts told s).room ≡ s.room
room-what None txn at reverts s = refl
room-what (Some (what.Fault point)) txn at reverts s = refl
room-what (Some (what.Ended point why)) txn at reverts s = room-over txn (record s { kept = changed txn (with_end point why at reverts) s.kept })
room-what (Some (what.Reverted point)) txn at reverts s = room-over txn (record s { kept = changed txn (without_reversion point) s.kept })
room-what (Some (what.Cut point by)) txn at reverts s = room-over txn (record s { kept = changed txn (without_reversion point) s.kept })
room-what (Some what.Done) txn at reverts s = refl

pub room-booked : (es : List Telling) (books : Books) → (fold booked books es).stages.room ≡ books.stages.room
room-booked [] books = refl
room-booked (e ∷ es) books = room-booked es (booked books e) ∙ room-what e.happening.told e.happening.txn e.happening.at e.reverts books.stages

-- ---- what is told first

pub few-first : (why : Cause) (n : ℕ) (d : Persistent) (first : List Happening) → IsFirstTold why n d first → length (map plain first) ≤ 1
few-first why n d _ nothing = omega arith
few-first why n d _ (faulted point lease found) = omega arith

-- the happenings are known from the tellings
pub same-first : (first other : List Happening) → map plain first ≡ map plain other → first ≡ other
same-first first other same = sym (map-plain first) ∙ ap (map (λ e. e.happening)) same ∙ map-plain other

-- ---- how many leases there are after the new ones took their slots

pub few-taken : (leases new : List Lease) → length (in_order lease_slot (filter (λ lease. not (is_taken new lease.point lease.priority)) leases ++ new)) ≤ length leases + length new
few-taken leases new =
    let kept = filter (λ lease. not (is_taken new lease.point lease.priority)) leases in
    omega (arith, length-in_order lease_slot (kept ++ new), length-append kept new, few-filter (λ lease. not (is_taken new lease.point lease.priority)) leases)

-- no more leases are live after some ended
pub few-ended : (which : Lease → Bool) (n : ℕ) (leases : List Lease) → length (live n (map (shortened_if which n) leases)) ≤ length leases
few-ended which n leases = omega (arith, few-filter (λ lease. nat_lt n lease.until) (map (shortened_if which n) leases), length-map leases (shortened_if which n))
