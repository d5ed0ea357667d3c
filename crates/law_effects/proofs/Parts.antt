-- What each kind of act makes of a sound persistent part, and that it is another one.
use Rattle.std.proofs.Common.{◌≡◌, ℕ, zero, suc, ◌+◌, ◌<◌, ◌==◌, max, nat_lt, ℤ, List, [], ◌∷◌, ◌++◌, length, map, set, Bool, true, false, not, ◌&&◌, ◌||◌, cond, Option, Some, None, unsigned_abs, refl, ap, sym, ◌∙◌, arith, append-nil, length-append}
use Rattle.std.specs.Option.{option_map_or}
use Rattle.std.specs.List.{filter, fold, list_any, slice_get, AllByRecursion}
use Rattle.std.proofs.lemmas.Bool.Decides.{nat_tests}
use Rattle.boss_model.specs.declared.command.Policy.{Policy}
use Rattle.boss_model.specs.declared.command.Policy.TheVariants.{Abort, Keep}
use Rattle.boss_model.specs.declared.command.Setting.{Setting}
use Rattle.boss_model.specs.declared.notice.Cause.{Cause}
use Rattle.boss_model.specs.declared.notice.Cause.TheVariants as cause
use Rattle.boss_model.specs.declared.notice.What.{What}
use Rattle.boss_model.specs.declared.notice.What.TheVariants as what
use Rattle.boss_model.specs.declared.state.Actuator.{Actuator}
use Rattle.boss_model.specs.declared.state.Lease.{Lease}
use Rattle.boss_model.specs.declared.state.Pending.{Pending}
use Rattle.boss_model.specs.Ends.{is_of, shortened_if, end_leases, fault, faulted_under, faulted}
use Rattle.boss_model.specs.Groups.{courses_of, conclude}
use Rattle.boss_model.specs.Happenings.{Happening, rank, lives, done_at, finish, posted, post, tell}
use Rattle.boss_model.specs.Limits.{notices_kept, last_number}
use Rattle.boss_model.specs.Lists.{member, keep_last}
use Rattle.boss_model.specs.Order.{in_order}
use Rattle.boss_model.specs.Processes.{enrolled}
use Rattle.boss_model.specs.Renew.{is_meant, extended, extended_if, renewed}
use Rattle.boss_model.specs.Reversions.{courses}
use Rattle.boss_model.specs.Same.{same_persistent}
use Rattle.boss_model.specs.Sound.{IsSoundPersistent}
use Rattle.boss_model.specs.State.{lease_slot, Process, Persistent}
use Rattle.boss_model.specs.Submit.{granted, begun, is_taken, superseded, cut, superseded_end, submitted}
use Rattle.boss_model.specs.Target.{in_force}
use Rattle.boss_model.specs.Time.{live, kept, record_after}
use Rattle.law_machine.proofs.SameDecides.{persistent-equal, persistent-self}
use Rattle.law_soundness.proofs.EndSound.{IsAt}
use Rattle.law_soundness.proofs.SubmitSound.{left-live}
use Rattle.law_time.proofs.Filters.{filter-none, filter-all, each-always}
use Rattle.law_time.proofs.GroupSound.{tell-length}
use Rattle.law_time.proofs.Orders.{each-map, each-filter, least-of}
use Rattle.law_time.proofs.Slots.{IsSameLease, lives-same, lives-courses}
use Rattle.law_effects.specs.Changes.{lengthens, may_be_told, fault_changes, failure_changes}

-- ---- two persistent parts are told apart by one of their fields

pub differs : (x y : Persistent) → (x ≡ y → true ≡ false) → same_persistent x y ≡ false
differs x y never = by (same_persistent x y) refl
  where
    by : (b : Bool) → same_persistent x y ≡ b → same_persistent x y ≡ false
    by true same = same ∙ never (persistent-equal x y same)
    by false other = other

-- a flag that says whether they differ
pub told : (x y : Persistent) (changed : Bool) → (changed ≡ true → x ≡ y → true ≡ false) → (changed ≡ false → x ≡ y) → same_persistent x y ≡ not changed
told x y true never stays = differs x y (never refl)
told x y false never stays = ap (same_persistent x) (sym (stays refl)) ∙ persistent-self x

-- ---- a process is taken on, a transaction is submitted

pub enrolled-differs : (name : List ℕ) (n : ℕ) (d : Persistent) → same_persistent d (enrolled name n d) ≡ false
enrolled-differs name n d = differs d (enrolled name n d) (λ same.
    let new : Process = record { name = name; count = 0; kept = []; reply = None } in
    let more : length d.processes ≡ length (d.processes ++ new ∷ []) = ap (λ x. length x.processes) same in
    absurd (omega (arith, length-append d.processes (new ∷ []))))

pub submitted-differs : (owner : ℕ) (policy : Policy) (writes : List Setting) (n : ℕ) (d : Persistent) → same_persistent d (submitted owner policy writes n d) ≡ false
submitted-differs owner policy writes n d = differs d (submitted owner policy writes n d) (λ same.
    let more : d.next ≡ d.next + 1 = ap (λ x. x.next) same in absurd (omega arith))

-- a conclusion leaves as many processes as there were
concluded-many : (n : ℕ) (happened : List Happening) (d changed : Persistent) → length (conclude n happened d changed).processes ≡ length d.processes
concluded-many n happened d changed = tell-length d.processes
    (in_order rank (happened ++ map (done_at n) (filter (λ t. lives t.txn (courses_of d) && not (lives t.txn (courses_of changed))) changed.txns)))

pub submitted-many : (owner : ℕ) (policy : Policy) (writes : List Setting) (n : ℕ) (d : Persistent) → length (submitted owner policy writes n d).processes ≡ length d.processes
submitted-many owner policy writes n d =
    let new = granted owner policy d.next n writes in
    let gone = λ (lease : Lease). is_taken new lease.point lease.priority in
    let broken = λ (reversion : Pending). is_taken new reversion.point reversion.priority in
    concluded-many n (map (superseded d.next n) (filter gone d.leases) ++ map (cut d.next n) (filter broken d.pending)) d (record d {
      next = d.next + 1;
      leases = in_order lease_slot (filter (λ lease. not (gone lease)) d.leases ++ new);
      pending = filter (λ reversion. not (broken reversion)) d.pending;
      txns = map (record_after (superseded_end new d.next n) d.leases) d.txns ++ begun owner policy d.next writes ∷ [];
    })

-- ---- leases end

none-left : (which : Lease → Bool) (leases : List Lease) → list_any which (filter (λ lease. not (which lease)) leases) ≡ false
none-left which [] = refl
none-left which (lease ∷ leases) = grind (arith, none-left which leases)

pub ends-differ : (which : Lease → Bool) (why : Cause) (n : ℕ) (first : List Happening) (d : Persistent) → IsAt n d → list_any which d.leases ≡ true →
    same_persistent d (end_leases which why n first d) ≡ false
ends-differ which why n first d at some = differs d (end_leases which why n first d) (λ same.
    let left : live n (map (shortened_if which n) d.leases) ≡ filter (λ lease. not (which lease)) d.leases = left-live which n d.leases at.live in
    sym some ∙ ap (λ x. list_any which x.leases) same ∙ ap (list_any which) left ∙ none-left which d.leases)

-- each of some leases is of its transaction
each-of : (leases : List Lease) → AllByRecursion (λ lease. list_any (is_of lease.txn) leases ≡ true) leases
each-of [] = tt
each-of (lease ∷ leases) = (
  grind (arith, nat_tests),
  each-map (λ l. list_any (is_of l.txn) leases ≡ true) (λ l. list_any (is_of l.txn) (lease ∷ leases) ≡ true) (λ l is. grind (arith)) leases (each-of leases),
)

-- ---- a renewal

extended-same : (meant : Lease → Bool) (until : ℕ) (leases : List Lease) → AllByRecursion (λ lease. IsSameLease lease (extended_if meant until lease)) leases
extended-same meant until leases = each-always (λ lease. IsSameLease lease (extended_if meant until lease)) (λ lease. by (meant lease) lease) leases
  where
    by : (b : Bool) (lease : Lease) → IsSameLease lease (cond b (extended until lease) lease)
    by true lease = refl
    by false lease = refl

-- a renewal that makes a lease longer
longer-by : (meant : Lease → Bool) (until : ℕ) (leases : List Lease) → list_any (λ lease. meant lease && nat_lt lease.until until) leases ≡ true →
    leases ≡ map (extended_if meant until) leases → true ≡ false
longer-by meant until [] some same = sym some
longer-by meant until (lease ∷ leases) some same = by (λ found. longer-by meant until leases found cc) (meant lease) refl (nat_lt lease.until until) refl
  where
    by : (list_any (λ l. meant l && nat_lt l.until until) leases ≡ true → true ≡ false) →
        (b : Bool) → meant lease ≡ b → (short : Bool) → nat_lt lease.until until ≡ short → true ≡ false
    by rest true is true less =
        let here : lease ≡ extended_if meant until lease = cc in
        let extends : extended_if meant until lease ≡ extended until lease = ap (λ b. cond b (extended until lease) lease) is in
        let most : lease.until ≡ max lease.until until = ap (λ l. l.until) (here ∙ extends) in
        let short : lease.until < until = grind (arith, nat_tests) in
        absurd (omega arith)
    by rest true is false more = rest (grind (arith))
    by rest false is short _ = rest (grind (arith))

none-longer : (meant : Lease → Bool) (until : ℕ) (leases : List Lease) → list_any (λ lease. meant lease && nat_lt lease.until until) leases ≡ false →
    leases ≡ map (extended_if meant until) leases
none-longer meant until [] none = refl
none-longer meant until (lease ∷ leases) none = λ i. by (meant lease) refl i ∷ none-longer meant until leases (grind (arith)) i
  where
    by : (b : Bool) → meant lease ≡ b → lease ≡ extended_if meant until lease
    by true is =
        let long : max lease.until until ≡ lease.until = grind (arith, nat_tests) in
        (λ i. record lease { until = sym long i }) ∙ sym (ap (λ b. cond b (extended until lease) lease) is)
    by false is = sym (ap (λ b. cond b (extended until lease) lease) is)

-- ---- a notice is sent

set-itself : (ps : List Process) (place : ℕ) (p : Process) → slice_get ps place ≡ Some p → ps ≡ set ps place p
set-itself [] place p found = refl
set-itself (x ∷ xs) zero p found = let same : x ≡ p = cc in λ i. same i ∷ xs
set-itself (x ∷ xs) (suc place) p found = ap (λ ys. x ∷ ys) (set-itself xs place p found)

pub set-got : (ps : List Process) (place : ℕ) (p q : Process) → slice_get ps place ≡ Some p → slice_get (set ps place q) place ≡ Some q
set-got [] place p q found = cc
set-got (x ∷ xs) zero p q found = refl
set-got (x ∷ xs) (suc place) p q found = set-got xs place p q found

module _ (ps : List Process) (owner at txn : ℕ) (notice : What) where
  abbrev one-more : Process → Process
  one-more p = record p {
    count = p.count + 1;
    kept = keep_last notices_kept (p.kept ++ (record { number = p.count + 1; at = at; txn = txn; what = notice }) ∷ []);
  }

  post-alike : (found : Option Process) → slice_get ps owner ≡ found → option_map_or (λ p. not (p.count == last_number)) found false ≡ false →
      ps ≡ post ps owner found at txn notice
  post-alike None is full = refl
  post-alike (Some p) is full =
      let last : (p.count == last_number) ≡ true = grind (arith) in
      set-itself ps owner p is ∙ ap (set ps owner) (sym (ap (λ b. cond b p (one-more p)) last))

  post-apart : (found : Option Process) → slice_get ps owner ≡ found → option_map_or (λ p. not (p.count == last_number)) found false ≡ true →
      ps ≡ post ps owner found at txn notice → true ≡ false
  post-apart None is room same = sym room
  post-apart (Some p) is room same =
      let more : (p.count == last_number) ≡ false = grind (arith) in
      let next : posted at txn notice p ≡ one-more p = ap (λ b. cond b p (one-more p)) more in
      let got : Some p ≡ Some (one-more p) = sym is ∙ ap (λ xs. slice_get xs owner) same ∙ set-got ps owner p (posted at txn notice p) is ∙ ap Some next in
      let count : p.count ≡ p.count + 1 = ap (λ f. option_map_or (λ (x : Process). x.count) f 0) got in
      absurd (omega arith)

module _ (plant : List Actuator) (n : ℕ) (d : Persistent) (sound : IsSoundPersistent plant d) where
  -- a conclusion by which no transaction loses its last lease or reversion
  concluded : (happened : List Happening) (leases : List Lease) → ((txn : ℕ) → lives txn (courses d.pending leases) ≡ lives txn (courses_of d)) →
      fold finish d.done (in_order rank happened) ≡ d.done →
      conclude n happened d (record d { leases = leases }) ≡ record d { now = n; leases = leases; processes = fold tell d.processes (in_order rank happened) }
  concluded happened leases alive silent =
      let cs = courses d.pending leases in
      let ended : filter (λ t. lives t.txn (courses_of d) && not (lives t.txn cs)) d.txns ≡ [] =
      filter-none (λ t. lives t.txn (courses_of d) && not (lives t.txn cs)) d.txns
      (each-always (λ t. (lives t.txn (courses_of d) && not (lives t.txn cs)) ≡ false) (λ t. grind (arith, alive t.txn)) d.txns) in
      let told_all = ap (λ ts. in_order rank (happened ++ map (done_at n) ts)) ended ∙ ap (in_order rank) (append-nil happened) in
      let stay : kept cs d.done d.txns ≡ d.txns = filter-all (λ t. lives t.txn cs || member t.txn d.done) d.txns
      (each-map (λ t. member t.txn d.done ≡ not (lives t.txn (courses_of d))) (λ t. (lives t.txn cs || member t.txn d.done) ≡ true)
      (λ t done. grind (arith, alive t.txn)) d.txns sound.done) in
      let done_same = ap (fold finish d.done) told_all ∙ silent in
      (λ i. record {
        now = n;
        next = d.next;
        leases = leases;
        pending = d.pending;
        txns = kept cs (done_same i) d.txns;
        done = done_same i;
        processes = fold tell d.processes (told_all i);
      }) ∙ ap (λ ts. record d { now = n; leases = leases; txns = ts; processes = fold tell d.processes (in_order rank happened) }) stay

  pub renewed-is : (txn : ℕ) (asked : ℤ) (points : List ℕ) →
      renewed txn asked points n d ≡ record d { now = n; leases = map (extended_if (is_meant txn points) (n + unsigned_abs asked)) d.leases }
  renewed-is txn asked points =
      let meant = is_meant txn points in
      let until = n + unsigned_abs asked in
      concluded [] (map (extended_if meant until) d.leases)
      (λ k. lives-courses k d.pending (map (extended_if meant until) d.leases)
      ∙ ap (λ b. lives k d.pending || b) (lives-same (extended_if meant until) k d.leases (extended-same meant until d.leases)) ∙ sym (lives-courses k d.pending d.leases)) refl

  pub renewed-told : (txn : ℕ) (asked : ℤ) (points : List ℕ) →
      same_persistent d (renewed txn asked points n d) ≡ not (not (d.now == n) || lengthens txn points (n + unsigned_abs asked) d.leases)
  renewed-told txn asked points =
      let meant = is_meant txn points in
      let until = n + unsigned_abs asked in
      let longer = map (extended_if meant until) d.leases in
      ap (same_persistent d) (renewed-is txn asked points)
      ∙ told d (record d { now = n; leases = longer }) (not (d.now == n) || lengthens txn points until d.leases)
      (λ some same. let now : d.now ≡ n = ap (λ x. x.now) same in
      longer-by meant until d.leases (grind (arith, nat_tests)) (ap (λ x. x.leases) same))
      (λ none. let now : d.now ≡ n = grind (arith, nat_tests) in
      let same : d.leases ≡ longer = none-longer meant until d.leases (grind (arith, nat_tests)) in
      λ i. record d { now = now i; leases = same i })

  -- ---- a device fails

  pub kept-told : (lease : Lease) → same_persistent d (faulted_under Keep lease n d) ≡ not (fault_changes Keep n lease d)
  kept-told lease =
      let all = tell d.processes (fault n lease) in
      ap (same_persistent d) (concluded (fault n lease ∷ []) d.leases (λ k. refl) refl)
      ∙ told d (record d { now = n; processes = all }) (not (d.now == n) || may_be_told d.processes lease.owner)
      (λ some same. let now : d.now ≡ n = ap (λ x. x.now) same in
      post-apart d.processes lease.owner n lease.txn (what.Fault lease.point) (slice_get d.processes lease.owner) refl (grind (arith, nat_tests)) (ap (λ x. x.processes) same))
      (λ none. let now : d.now ≡ n = grind (arith, nat_tests) in
      let same : d.processes ≡ all = post-alike d.processes lease.owner n lease.txn (what.Fault lease.point) (slice_get d.processes lease.owner) refl (grind (arith, nat_tests)) in
      λ i. record d { now = now i; processes = same i })

  -- each lease is of its transaction, and so is the one in force
  in-force-of : (point : ℕ) (lease : Lease) → in_force d.leases point ≡ Some lease → list_any (is_of lease.txn) d.leases ≡ true
  in-force-of point lease is = least-of (λ l. list_any (is_of l.txn) d.leases ≡ true) (λ l. l.priority) (filter (λ l. l.point == point) d.leases) lease
      (each-filter (λ l. list_any (is_of l.txn) d.leases ≡ true) (λ l. l.point == point) d.leases (each-of d.leases)) is

  pub faulted-told : IsAt n d → (point : ℕ) (found : Option Lease) → in_force d.leases point ≡ found → same_persistent d (faulted found n d) ≡ not (failure_changes n found d)
  faulted-told at point None is = persistent-self d
  faulted-told at point (Some lease) is = by lease.policy
    where
      by : (policy : Policy) → same_persistent d (faulted_under policy lease n d) ≡ not (fault_changes policy n lease d)
      by Abort = ends-differ (is_of lease.txn) cause.Fault n (fault n lease ∷ []) d at (in-force-of point lease is)
      by Keep = kept-told lease
