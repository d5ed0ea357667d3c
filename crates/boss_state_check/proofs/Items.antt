-- The test of one item tells that it is what soundness asks, and the other way round: leases, reversions, notices, processes.
use Rattle.std.proofs.Common.{◌≡◌, ℕ, ◌+◌, ◌-◌, ◌≤◌, ◌==◌, nat_lt, pos, nat_eq, List, [], ◌∷◌, length, map, true, not, ◌&&◌, ◌||◌, ◌^◌, Option, Some, None, refl, sym, ◌∙◌}
use Rattle.std.specs.Prelude.{nat_le}
use Rattle.std.specs.Cmp.Lexicographic.{pointwise}
use Rattle.std.specs.List.{list_all, list_any}
use Rattle.boss_model.specs.declared.kept.Acceptance.{Acceptance}
use Rattle.boss_model.specs.declared.kept.Acceptance.TheVariants as acceptance
use Rattle.boss_model.specs.declared.kept.KeptProcess.{KeptProcess}
use Rattle.boss_model.specs.declared.kept.KeptReply.{KeptReply}
use Rattle.boss_model.specs.declared.notice.Cause.{Cause}
use Rattle.boss_model.specs.declared.notice.Cause.TheVariants as cause
use Rattle.boss_model.specs.declared.notice.Notice.{Notice}
use Rattle.boss_model.specs.declared.notice.What.{What}
use Rattle.boss_model.specs.declared.notice.What.TheVariants as what
use Rattle.boss_model.specs.declared.state.Actuator.{Actuator}
use Rattle.boss_model.specs.declared.state.Lease.{Lease}
use Rattle.boss_model.specs.declared.state.Pending.{Pending}
use Rattle.boss_model.specs.Catalogue.{fits_at}
use Rattle.boss_model.specs.Limits.{longest_lease, last_number, notices_kept}
use Rattle.boss_model.specs.Names.{is_name}
use Rattle.boss_model.specs.Reversions.{end_of}
use Rattle.boss_model.specs.Seen.{seen_process}
use Rattle.boss_model.specs.Sound.{IsLease, IsPending, IsCause, IsWhat, IsKnown, IsNotice, IsAcceptance, IsReply, IsProcess, NumberedFrom, DistinctNames}
use Rattle.boss_model.specs.Submit.{is_level, is_reversion}
use Rattle.law_time.proofs.Orders.{each-map, each-both}
use Rattle.boss_state_check.specs.Tests.{is_lease, is_pending, is_cause, is_told, is_notice, is_acceptance, is_reply, are_numbered, is_process, have_own_names}
use Rattle.boss_state_check.proofs.Tested.{both, not-true, not-false, lt, is-lt, le, is-le, eq, is-eq, each-of, each-tests}

-- ---- leases and reversions

pub lease-of : (plant : List Actuator) (now : ℕ) (lease : Lease) → is_lease plant now lease ≡ true → IsLease plant now lease
lease-of plant now lease is =
    let a = both (fits_at plant lease.point lease.value && is_level (pos lease.priority) && is_reversion plant lease.point lease.revert && nat_lt now lease.until) (nat_le lease.until (now + longest_lease)) is in
    let b = both (fits_at plant lease.point lease.value && is_level (pos lease.priority) && is_reversion plant lease.point lease.revert) (nat_lt now lease.until) a.0 in
    let c = both (fits_at plant lease.point lease.value && is_level (pos lease.priority)) (is_reversion plant lease.point lease.revert) b.0 in
    let d = both (fits_at plant lease.point lease.value) (is_level (pos lease.priority)) c.0 in
    record { fitting = d.0; level = d.1; reverting = c.1; live = lt now lease.until b.1; soon = le lease.until (now + longest_lease) a.1 }

pub lease-tests : (plant : List Actuator) (now : ℕ) (lease : Lease) → IsLease plant now lease → is_lease plant now lease ≡ true
lease-tests plant now lease is = λ i.
    is.fitting i && is.level i && is.reverting i && is-lt now lease.until is.live i && is-le lease.until (now + longest_lease) is.soon i

pub pending-of : (plant : List Actuator) (now : ℕ) (r : Pending) → is_pending plant now r ≡ true → IsPending plant now r
pending-of plant now r is =
    let a = both (is_level (pos r.priority) && is_reversion plant r.point r.steps && nat_le r.start now) (nat_lt now (end_of r)) is in
    let b = both (is_level (pos r.priority) && is_reversion plant r.point r.steps) (nat_le r.start now) a.0 in
    let c = both (is_level (pos r.priority)) (is_reversion plant r.point r.steps) b.0 in
    record { level = c.0; steps = c.1; started = le r.start now b.1; running = lt now (end_of r) a.1 }

pub pending-tests : (plant : List Actuator) (now : ℕ) (r : Pending) → IsPending plant now r → is_pending plant now r ≡ true
pending-tests plant now r is = λ i. is.level i && is.steps i && is-le r.start now is.started i && is-lt now (end_of r) is.running i

-- ---- notices

pub cause-of : (why : Cause) → is_cause why ≡ true → IsCause why
cause-of cause.Expired is = tt
cause-of cause.Cancelled is = tt
cause-of cause.Died is = tt
cause-of cause.Fault is = tt
cause-of (cause.Superseded by) is = lt by (2 ^ 64) is

pub cause-tests : (why : Cause) → IsCause why → is_cause why ≡ true
cause-tests cause.Expired is = refl
cause-tests cause.Cancelled is = refl
cause-tests cause.Died is = refl
cause-tests cause.Fault is = refl
cause-tests (cause.Superseded by) is = is-lt by (2 ^ 64) is

told-of : (points : ℕ) (told : What) → is_told points told ≡ true → IsKnown points told × IsWhat told
told-of points (what.Fault point) is = (lt point points is, tt)
told-of points (what.Ended point why) is = let parts = both (nat_lt point points) (is_cause why) is in (lt point points parts.0, cause-of why parts.1)
told-of points (what.Reverted point) is = (lt point points is, tt)
told-of points (what.Cut point by) is = let parts = both (nat_lt point points) (nat_lt by (2 ^ 64)) is in (lt point points parts.0, lt by (2 ^ 64) parts.1)
told-of points what.Done is = (tt, tt)

told-tests : (points : ℕ) (told : What) → IsKnown points told → IsWhat told → is_told points told ≡ true
told-tests points (what.Fault point) known word = is-lt point points known
told-tests points (what.Ended point why) known word = λ i. is-lt point points known i && cause-tests why word i
told-tests points (what.Reverted point) known word = is-lt point points known
told-tests points (what.Cut point by) known word = λ i. is-lt point points known i && is-lt by (2 ^ 64) word i
told-tests points what.Done known word = refl

abbrev IsHeard : ℕ → ℕ → Notice → Type 0
IsHeard points now notice = (notice.at ≤ now) × IsKnown points notice.what × IsNotice notice

notice-of : (points now : ℕ) (notice : Notice) → is_notice points now notice ≡ true → IsHeard points now notice
notice-of points now notice is =
    let a = both (nat_le notice.at now && is_told points notice.what) (nat_lt notice.txn (2 ^ 64)) is in
    let b = both (nat_le notice.at now) (is_told points notice.what) a.0 in
    let told = told-of points notice.what b.1 in
    (le notice.at now b.0, told.0, (lt notice.txn (2 ^ 64) a.1, told.1))

notice-tests : (points now : ℕ) (notice : Notice) → IsHeard points now notice → is_notice points now notice ≡ true
notice-tests points now notice is = λ i.
    is-le notice.at now is.0 i && told-tests points notice.what is.1 is.2.1 i && is-lt notice.txn (2 ^ 64) is.2.0 i

numbers-of : (number : ℕ) (notices : List Notice) → are_numbered number notices ≡ true → NumberedFrom number notices
numbers-of number [] is = tt
numbers-of number (notice ∷ notices) is =
    let parts = both (notice.number == number) (are_numbered (number + 1) notices) is in (eq notice.number number parts.0, numbers-of (number + 1) notices parts.1)

numbers-tests : (number : ℕ) (notices : List Notice) → NumberedFrom number notices → are_numbered number notices ≡ true
numbers-tests number [] is = refl
numbers-tests number (notice ∷ notices) is = λ i. is-eq notice.number number is.0 i && numbers-tests (number + 1) notices is.1 i

-- ---- processes

acceptance-of : (given : Acceptance) → is_acceptance given ≡ true → IsAcceptance given
acceptance-of (acceptance.Accepted txn until) is = let parts = both (nat_lt txn (2 ^ 64)) (nat_lt until (2 ^ 64)) is in (lt txn (2 ^ 64) parts.0, lt until (2 ^ 64) parts.1)
acceptance-of (acceptance.Renewed txn until) is = let parts = both (nat_lt txn (2 ^ 64)) (nat_lt until (2 ^ 64)) is in (lt txn (2 ^ 64) parts.0, lt until (2 ^ 64) parts.1)
acceptance-of (acceptance.Cancelled txn at) is = let parts = both (nat_lt txn (2 ^ 64)) (nat_lt at (2 ^ 64)) is in (lt txn (2 ^ 64) parts.0, lt at (2 ^ 64) parts.1)

acceptance-tests : (given : Acceptance) → IsAcceptance given → is_acceptance given ≡ true
acceptance-tests (acceptance.Accepted txn until) is = λ i. is-lt txn (2 ^ 64) is.0 i && is-lt until (2 ^ 64) is.1 i
acceptance-tests (acceptance.Renewed txn until) is = λ i. is-lt txn (2 ^ 64) is.0 i && is-lt until (2 ^ 64) is.1 i
acceptance-tests (acceptance.Cancelled txn at) is = λ i. is-lt txn (2 ^ 64) is.0 i && is-lt at (2 ^ 64) is.1 i

reply-of : (reply : Option KeptReply) → is_reply reply ≡ true → IsReply reply
reply-of None is = tt
reply-of (Some reply) is =
    let a = both (nat_le 1 reply.seq && nat_lt reply.seq last_number) (is_acceptance reply.acceptance) is in
    let b = both (nat_le 1 reply.seq) (nat_lt reply.seq last_number) a.0 in
    (le 1 reply.seq b.0, lt reply.seq last_number b.1, acceptance-of reply.acceptance a.1)

reply-tests : (reply : Option KeptReply) → IsReply reply → is_reply reply ≡ true
reply-tests None is = refl
reply-tests (Some reply) is = λ i. is-le 1 reply.seq is.0 i && is-lt reply.seq last_number is.1 i && acceptance-tests reply.acceptance is.2 i

pub process-of : (plant : List Actuator) (now : ℕ) (p : KeptProcess) → is_process (length plant) now p ≡ true → IsProcess plant now (seen_process p)
process-of plant now p is =
    let first = p.count + 1 - length p.notices in
    let a = both (is_name p.name && nat_le p.count last_number && nat_le (length p.notices) notices_kept && nat_le (length p.notices) p.count
    && are_numbered first p.notices && list_all (is_notice (length plant) now) p.notices) (is_reply p.reply) is in
    let b = both (is_name p.name && nat_le p.count last_number && nat_le (length p.notices) notices_kept && nat_le (length p.notices) p.count
    && are_numbered first p.notices) (list_all (is_notice (length plant) now) p.notices) a.0 in
    let c = both (is_name p.name && nat_le p.count last_number && nat_le (length p.notices) notices_kept && nat_le (length p.notices) p.count) (are_numbered first p.notices) b.0 in
    let d = both (is_name p.name && nat_le p.count last_number && nat_le (length p.notices) notices_kept) (nat_le (length p.notices) p.count) c.0 in
    let e = both (is_name p.name && nat_le p.count last_number) (nat_le (length p.notices) notices_kept) d.0 in
    let f = both (is_name p.name) (nat_le p.count last_number) e.0 in
    let heard = each-of (IsHeard (length plant) now) (is_notice (length plant) now) (notice-of (length plant) now) p.notices b.1 in
    record {
      name = f.0;
      count = le p.count last_number f.1;
      few = le (length p.notices) notices_kept e.1;
      sent = le (length p.notices) p.count d.1;
      numbers = numbers-of first p.notices c.1;
      past = each-map (IsHeard (length plant) now) (λ notice. notice.at ≤ now) (λ notice is. is.0) p.notices heard;
      known = each-map (IsHeard (length plant) now) (λ notice. IsKnown (length plant) notice.what) (λ notice is. is.1) p.notices heard;
      words = each-map (IsHeard (length plant) now) IsNotice (λ notice is. is.2) p.notices heard;
      reply = reply-of p.reply a.1;
    }

pub process-tests : (plant : List Actuator) (now : ℕ) (p : KeptProcess) → IsProcess plant now (seen_process p) → is_process (length plant) now p ≡ true
process-tests plant now p is =
    let heard = each-map (λ notice. ((notice.at ≤ now) × IsKnown (length plant) notice.what) × IsNotice notice) (IsHeard (length plant) now) (λ notice is. (is.0.0, is.0.1, is.1)) p.notices
    (each-both (λ notice. (notice.at ≤ now) × IsKnown (length plant) notice.what) IsNotice p.notices
    (each-both (λ notice. notice.at ≤ now) (λ notice. IsKnown (length plant) notice.what) p.notices is.past is.known) is.words) in
    let all = each-tests (IsHeard (length plant) now) (is_notice (length plant) now) (notice-tests (length plant) now) p.notices heard in
    let numbered = numbers-tests (p.count + 1 - length p.notices) p.notices is.numbers in
    let replied = reply-tests p.reply is.reply in
    λ i. is.name i && is-le p.count last_number is.count i && is-le (length p.notices) notices_kept is.few i && is-le (length p.notices) p.count is.sent i
    && numbered i && all i && replied i

-- ---- names

others-same : (name : List ℕ) (ps : List KeptProcess) → list_any (λ other. pointwise nat_eq other.name name) ps ≡ list_any (λ other. pointwise nat_eq other name) (map (λ p. p.name) (map seen_process ps))
others-same name [] = refl
others-same name (p ∷ ps) = λ i. pointwise nat_eq p.name name || others-same name ps i

pub names-of : (ps : List KeptProcess) → have_own_names ps ≡ true → DistinctNames (map (λ p. p.name) (map seen_process ps))
names-of [] is = tt
names-of (p ∷ ps) is =
    let parts = both (not (list_any (λ other. pointwise nat_eq other.name p.name) ps)) (have_own_names ps) is in
    (sym (others-same p.name ps) ∙ not-true (list_any (λ other. pointwise nat_eq other.name p.name) ps) parts.0, names-of ps parts.1)

pub names-tests : (ps : List KeptProcess) → DistinctNames (map (λ p. p.name) (map seen_process ps)) → have_own_names ps ≡ true
names-tests [] is = refl
names-tests (p ∷ ps) is = λ i. not-false (list_any (λ other. pointwise nat_eq other.name p.name) ps) (others-same p.name ps ∙ is.0) i && names-tests ps is.1 i
