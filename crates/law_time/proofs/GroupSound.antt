-- After a change of leases, reversions and records, the group of what happened makes the persistent part sound: who was told,
-- who became done, and which records stay.
use Rattle.std.proofs.Common.{◌≡◌, ℕ, zero, suc, ◌+◌, ◌-◌, ◌<◌, ◌≤◌, ◌==◌, List, [], ◌∷◌, ◌++◌, length, drop, map, set, Bool, true, false, not, ◌&&◌, ◌||◌, Option, Some, None, is_none, refl, ap, sym, ◌∙◌, subst, arith, length-append, length-drop}
use Rattle.std.specs.List.{filter, fold, AllByRecursion, slice_get}
use Rattle.std.proofs.lemmas.List.{length-map}
use Rattle.std.proofs.lemmas.Bool.{cond_both}
use Rattle.std.proofs.lemmas.Bool.Decides.{nat_tests}
use Rattle.boss_model.specs.declared.notice.Notice.{Notice}
use Rattle.boss_model.specs.declared.notice.What.{What}
use Rattle.boss_model.specs.declared.state.Actuator.{Actuator}
use Rattle.boss_model.specs.declared.state.Pending.{Pending}
use Rattle.boss_model.specs.Happenings.{Happening, lives, is_done, finish, posted, post, tell_of, tell}
use Rattle.boss_model.specs.Limits.{most_writes, done_kept, most_processes, notices_kept, last_moment, last_number}
use Rattle.boss_model.specs.Lists.{member, keep_last}
use Rattle.boss_model.specs.Records.{End, Part, Transaction}
use Rattle.boss_model.specs.Reversions.{courses}
use Rattle.boss_model.specs.Sound.{Rising, Distinct, DistinctNames, NumberedFrom, IsWord, IsKnown, IsWhat, IsNotice, IsLease, IsPending, IsPart, IsTransaction, has_part, is_kept, is_start, number_rank, IsProcess, IsSoundPersistent}
use Rattle.boss_model.specs.State.{lease_slot, pending_slot, Process, Persistent}
use Rattle.boss_model.specs.Time.{kept}
use Rattle.boss_model.proofs.Members.{member-drop, Distinct-drop, Distinct-snoc}
use Rattle.law_time.proofs.Orders.{each-map, each-filter, each-passed, each-both, each-append, Rising-filter}
use Rattle.law_time.proofs.NothingDue.{of-pending, of-leases}
use Rattle.law_time.proofs.Places.{each-member, member-each}
use Rattle.law_time.proofs.Records.{IsOther, finish-other, member-snoc}

-- ---- the last transactions that are done

length-keep_last : {X : Type 0} (most : ℕ) (xs : List X) → length (keep_last most xs) ≤ most
length-keep_last most xs = omega (arith, length-drop (length xs - most) xs)

pub few-finish : (done : List ℕ) (hs : List Happening) → length done ≤ done_kept → length (fold finish done hs) ≤ done_kept
few-finish done [] few = few
few-finish done (h ∷ hs) few = few-finish (finish done h) hs
    (cond_both (is_done h.told) (keep_last done_kept (done ++ h.txn ∷ [])) done (λ xs. length xs ≤ done_kept) (λ _. length-keep_last done_kept (done ++ h.txn ∷ [])) (λ _. few))

-- what becomes done becomes so once
abbrev pub DoneOnce : List Happening → Type 0
DoneOnce [] = Unit {0}
DoneOnce (h ∷ hs) = (is_done h.told ≡ true → AllByRecursion (IsOther h.txn) hs) × DoneOnce hs

-- what becomes done was not done before
abbrev pub IsNewlyDone : List ℕ → Happening → Type 0
IsNewlyDone done h = is_done h.told ≡ true → member h.txn done ≡ false

newly-finish : (done : List ℕ) (h : Happening) (hs : List Happening) → AllByRecursion (IsNewlyDone done) hs → (is_done h.told ≡ true → AllByRecursion (IsOther h.txn) hs) →
    AllByRecursion (IsNewlyDone (finish done h)) hs
newly-finish done h hs new other = cond_both (is_done h.told) (keep_last done_kept (done ++ h.txn ∷ [])) done (λ xs. AllByRecursion (IsNewlyDone xs) hs)
    (λ yes. each-map (λ g. IsNewlyDone done g × IsOther h.txn g) (IsNewlyDone (keep_last done_kept (done ++ h.txn ∷ [])))
    (λ g both finished. let away : member g.txn done ≡ false = both.0 finished in let apart : (is_done g.told && (g.txn == h.txn)) ≡ false = both.1 in
    member-drop g.txn (length (done ++ h.txn ∷ []) - done_kept) (done ++ h.txn ∷ []) (grind (arith, nat_tests, member-snoc g.txn h.txn done)))
    hs (each-both (IsNewlyDone done) (IsOther h.txn) hs new (other yes)))
    (λ _. new)

pub Distinct-finish : (done : List ℕ) (hs : List Happening) → Distinct done → AllByRecursion (IsNewlyDone done) hs → DoneOnce hs → Distinct (fold finish done hs)
Distinct-finish done [] once new done_once = once
Distinct-finish done (h ∷ hs) once new done_once = Distinct-finish (finish done h) hs
    (cond_both (is_done h.told) (keep_last done_kept (done ++ h.txn ∷ [])) done Distinct
    (λ yes. Distinct-drop (length (done ++ h.txn ∷ []) - done_kept) (done ++ h.txn ∷ []) (Distinct-snoc done h.txn once (new.0 yes))) (λ _. once))
    (newly-finish done h hs new.1 done_once.0) done_once.1

each-drop : {X : Type 0} (P : X → Type 0) (n : ℕ) (xs : List X) → AllByRecursion P xs → AllByRecursion P (drop n xs)
each-drop P zero xs all = all
each-drop P (suc n) [] all = all
each-drop P (suc n) (x ∷ xs) all = each-drop P n xs all.1

pub each-finish : (P : ℕ → Type 0) (done : List ℕ) (hs : List Happening) → AllByRecursion P done → AllByRecursion (λ h. is_done h.told ≡ true → P h.txn) hs →
    AllByRecursion P (fold finish done hs)
each-finish P done [] all new = all
each-finish P done (h ∷ hs) all new = each-finish P (finish done h) hs
    (cond_both (is_done h.told) (keep_last done_kept (done ++ h.txn ∷ [])) done (AllByRecursion P)
    (λ yes. each-drop P (length (done ++ h.txn ∷ []) - done_kept) (done ++ h.txn ∷ []) (each-append P done (h.txn ∷ []) all (new.0 yes, tt))) (λ _. all))
    new.1

-- ---- notices

-- it tells of a point of the plant and of a moment no later than this, and its numbers fit
pub record IsTold (plant : List Actuator) (now : ℕ) (told : What) (at txn : ℕ) : Type 0 where
  pub past : at ≤ now
  pub known : IsKnown (length plant) told
  pub words : IsWord txn × IsWhat told

abbrev pub IsTidings : List Actuator → ℕ → Option What → ℕ → ℕ → Type 0
IsTidings plant now None at txn = Unit {0}
IsTidings plant now (Some told) at txn = IsTold plant now told at txn

numbered-snoc : (number : ℕ) (ns : List Notice) (n : Notice) → NumberedFrom number ns → n.number ≡ number + length ns → NumberedFrom number (ns ++ n ∷ [])
numbered-snoc number [] n all next = (omega (arith, next), tt)
numbered-snoc number (x ∷ xs) n all next = (all.0, numbered-snoc (number + 1) xs n all.1 (omega (arith, next)))

numbered-drop : (number n : ℕ) (ns : List Notice) → n ≤ length ns → NumberedFrom number ns → NumberedFrom (number + n) (drop n ns)
numbered-drop number zero ns within all = let same : number + 0 ≡ number = omega arith in subst (λ k. NumberedFrom k ns) (sym same) all
numbered-drop number (suc n) [] within all = absurd (omega arith)
numbered-drop number (suc n) (x ∷ xs) within all =
    let same : number + suc n ≡ number + 1 + n = omega arith in
    subst (λ k. NumberedFrom k (drop n xs)) (sym same) (numbered-drop (number + 1) n xs (omega arith) all.1)

posted-sound : (plant : List Actuator) (now at txn : ℕ) (told : What) (p : Process) → IsTold plant now told at txn → IsProcess plant now p → IsProcess plant now (posted at txn told p)
posted-sound plant now at txn told p news is =
    let n : Notice = record { number = p.count + 1; at = at; txn = txn; what = told } in
    let all = p.kept ++ n ∷ [] in
    let q : Process = record p { count = p.count + 1; kept = keep_last notices_kept all } in
    let count : p.count ≤ last_number = is.count in
    let sent : length p.kept ≤ p.count = is.sent in
    let few : length p.kept ≤ notices_kept = is.few in
    let long : length all ≡ length p.kept + 1 = length-append p.kept (n ∷ []) in
    let left : length (keep_last notices_kept all) ≡ length all - (length all - notices_kept) = length-drop (length all - notices_kept) all in
    cond_both (p.count == last_number) p q (IsProcess plant now) (λ _. is)
    (λ room. record {
      name = is.name;
      count = grind (arith, nat_tests);
      few = length-keep_last notices_kept all;
      sent = omega arith;
      numbers =
          let start : p.count + 1 - length p.kept + (length all - notices_kept) ≡ p.count + 1 + 1 - length (keep_last notices_kept all) = omega arith in
          subst (λ k. NumberedFrom k (keep_last notices_kept all)) start
          (numbered-drop (p.count + 1 - length p.kept) (length all - notices_kept) all (omega arith) (numbered-snoc (p.count + 1 - length p.kept) p.kept n is.numbers (omega arith)));
      past = each-drop (λ notice. notice.at ≤ now) (length all - notices_kept) all (each-append (λ notice. notice.at ≤ now) p.kept (n ∷ []) is.past (news.past, tt));
      known = each-drop (λ notice. IsKnown (length plant) notice.what) (length all - notices_kept) all
          (each-append (λ notice. IsKnown (length plant) notice.what) p.kept (n ∷ []) is.known (news.known, tt));
      words = each-drop IsNotice (length all - notices_kept) all (each-append IsNotice p.kept (n ∷ []) is.words (news.words, tt));
      reply = is.reply;
    })

pub each-set : {X : Type 0} (P : X → Type 0) (xs : List X) (place : ℕ) (x : X) → P x → AllByRecursion P xs → AllByRecursion P (set xs place x)
each-set P [] place x here all = all
each-set P (y ∷ ys) zero x here all = (here, all.1)
each-set P (y ∷ ys) (suc place) x here all = (all.0, each-set P ys place x here all.1)

pub map-set : {X Y : Type 0} (f : X → Y) (xs : List X) (place : ℕ) (x y : X) → slice_get xs place ≡ Some y → f x ≡ f y → map f (set xs place x) ≡ map f xs
map-set f [] place x y found same = refl
map-set f (z ∷ zs) zero x y found same = let here : z ≡ y = cc in λ i. (same ∙ ap f (sym here)) i ∷ map f zs
map-set f (z ∷ zs) (suc place) x y found same = ap (λ ys. f z ∷ ys) (map-set f zs place x y found same)

pub got : {X : Type 0} (P : X → Type 0) (xs : List X) (place : ℕ) (x : X) → slice_get xs place ≡ Some x → AllByRecursion P xs → P x
got P [] place x found all = cc
got P (y ∷ ys) zero x found all = let here : y ≡ x = cc in subst P here all.0
got P (y ∷ ys) (suc place) x found all = got P ys place x found all.1

module _ (plant : List Actuator) (now : ℕ) where
  post-sound : (ps : List Process) (owner : ℕ) (found : Option Process) (at txn : ℕ) (told : What) → slice_get ps owner ≡ found → IsTold plant now told at txn →
      AllByRecursion (IsProcess plant now) ps → AllByRecursion (IsProcess plant now) (post ps owner found at txn told)
  post-sound ps owner None at txn told is news all = all
  post-sound ps owner (Some p) at txn told is news all =
      each-set (IsProcess plant now) ps owner (posted at txn told p) (posted-sound plant now at txn told p news (got (IsProcess plant now) ps owner p is all)) all

  tell_of-sound : (told : Option What) (ps : List Process) (h : Happening) → IsTidings plant now told h.at h.txn →
      AllByRecursion (IsProcess plant now) ps → AllByRecursion (IsProcess plant now) (tell_of told ps h)
  tell_of-sound None ps h news all = all
  tell_of-sound (Some told) ps h news all = post-sound ps h.owner (slice_get ps h.owner) h.at h.txn told refl news all

  pub tell-sound : (ps : List Process) (hs : List Happening) → AllByRecursion (λ h. IsTidings plant now h.told h.at h.txn) hs →
      AllByRecursion (IsProcess plant now) ps → AllByRecursion (IsProcess plant now) (fold tell ps hs)
  tell-sound ps [] news all = all
  tell-sound ps (h ∷ hs) news all = tell-sound (tell ps h) hs news.1 (tell_of-sound h.told ps h news.0 all)

posted-name : (at txn : ℕ) (told : What) (p : Process) → (posted at txn told p).name ≡ p.name
posted-name at txn told p = cond_both (p.count == last_number) p
    (record p { count = p.count + 1; kept = keep_last notices_kept (p.kept ++ (record { number = p.count + 1; at = at; txn = txn; what = told }) ∷ []) }) (λ q. q.name ≡ p.name) (λ _. refl) (λ _. refl)

post-names : (ps : List Process) (owner : ℕ) (found : Option Process) (at txn : ℕ) (told : What) → slice_get ps owner ≡ found →
    map (λ p. p.name) (post ps owner found at txn told) ≡ map (λ p. p.name) ps
post-names ps owner None at txn told is = refl
post-names ps owner (Some p) at txn told is = map-set (λ q. q.name) ps owner (posted at txn told p) p is (posted-name at txn told p)

tell_of-names : (told : Option What) (ps : List Process) (h : Happening) → map (λ p. p.name) (tell_of told ps h) ≡ map (λ p. p.name) ps
tell_of-names None ps h = refl
tell_of-names (Some told) ps h = post-names ps h.owner (slice_get ps h.owner) h.at h.txn told refl

pub tell-names : (ps : List Process) (hs : List Happening) → map (λ p. p.name) (fold tell ps hs) ≡ map (λ p. p.name) ps
tell-names ps [] = refl
tell-names ps (h ∷ hs) = tell-names (tell ps h) hs ∙ tell_of-names h.told ps h

pub tell-length : (ps : List Process) (hs : List Happening) → length (fold tell ps hs) ≡ length ps
tell-length ps hs = sym (length-map (fold tell ps hs) (λ p. p.name)) ∙ ap length (tell-names ps hs) ∙ length-map ps (λ p. p.name)

-- ---- records that stay

-- a record with a part in this slot stays, if the test of those that stay passes its number
pub part-stays : (test : Option End → Bool) (keeps : Transaction → Bool) (txns : List Transaction) (txn point priority : ℕ) →
    ((t : Transaction) → t.txn ≡ txn → keeps t ≡ true) → has_part test txns txn point priority ≡ true → has_part test (filter keeps txns) txn point priority ≡ true
part-stays test keeps [] txn point priority stays has = has
part-stays test keeps (t ∷ ts) txn point priority stays has =
    cond_both (t.txn == txn) true false (λ b. (t.txn == txn) ≡ b → has_part test (filter keeps (t ∷ ts)) txn point priority ≡ true)
    (λ is _. let kept : keeps t ≡ true = stays t (grind (arith, nat_tests)) in grind (arith, nat_tests, part-stays test keeps ts txn point priority stays))
    (λ other _. cond_both (keeps t) (t ∷ filter keeps ts) (filter keeps ts) (λ zs. has_part test zs txn point priority ≡ true)
    (λ _. grind (arith, nat_tests, part-stays test keeps ts txn point priority stays)) (λ _. part-stays test keeps ts txn point priority stays (grind (arith, nat_tests)))) (grind arith)

pub record-stays : (keeps : Transaction → Bool) (txns : List Transaction) (txn : ℕ) → ((t : Transaction) → t.txn ≡ txn → keeps t ≡ true) →
    is_kept txns txn ≡ true → is_kept (filter keeps txns) txn ≡ true
record-stays keeps [] txn stays has = has
record-stays keeps (t ∷ ts) txn stays has =
    cond_both (t.txn == txn) true false (λ b. (t.txn == txn) ≡ b → is_kept (filter keeps (t ∷ ts)) txn ≡ true)
    (λ is _. let kept : keeps t ≡ true = stays t (grind (arith, nat_tests)) in rw kept (grind (arith, nat_tests)))
    (λ other _. cond_both (keeps t) (t ∷ filter keeps ts) (filter keeps ts) (λ zs. is_kept zs txn ≡ true)
    (λ _. grind (arith, nat_tests, record-stays keeps ts txn stays)) (λ _. record-stays keeps ts txn stays (grind (arith, nat_tests)))) (grind arith)

lives-rest : (txn : ℕ) (c : Pending) (cs : List Pending) → lives txn cs ≡ true → lives txn (c ∷ cs) ≡ true
lives-rest txn c cs there = grind (arith, nat_tests)

pub each-lives : (cs : List Pending) → AllByRecursion (λ c. lives c.txn cs ≡ true) cs
each-lives [] = tt
each-lives (c ∷ cs) = (grind (arith, nat_tests), each-map (λ x. lives x.txn cs ≡ true) (λ x. lives x.txn (c ∷ cs) ≡ true) (λ x there. lives-rest x.txn c cs there) cs (each-lives cs))

-- ---- at a later moment, and among other leases and reversions

pub process-later : (plant : List Actuator) (now n : ℕ) (p : Process) → now ≤ n → IsProcess plant now p → IsProcess plant n p
process-later plant now n p later is = record {
  name = is.name;
  count = is.count;
  few = is.few;
  sent = is.sent;
  numbers = is.numbers;
  known = is.known;
  words = is.words;
  reply = is.reply;
  past = each-map (λ notice. notice.at ≤ now) (λ notice. notice.at ≤ n) (λ notice past. omega arith) p.kept is.past;
}

-- a transaction, whose parts stay on the same points
pub transaction-in : (plant : List Actuator) (d after : Persistent) (t : Transaction) (parts : List Part) → IsTransaction plant d t → t.txn < after.next → t.owner < length after.processes →
    map (λ part. part.point) parts ≡ map (λ part. part.point) t.parts → AllByRecursion (IsPart plant after.now t.txn after.leases) parts →
    AllByRecursion (λ r. r.txn ≡ t.txn → r.owner ≡ t.owner) (courses after.pending after.leases) → AllByRecursion (λ l. l.txn ≡ t.txn → l.policy ≡ t.policy) after.leases →
    IsTransaction plant after (record t { parts = parts })
transaction-in plant d after t parts is given owner same each_part owned policies =
    let many : length parts ≡ length t.parts = sym (length-map parts (λ part. part.point)) ∙ ap length same ∙ length-map t.parts (λ part. part.point) in
    record {
      numbered = is.numbered;
      given = given;
      owner = owner;
      some_part = subst (λ k. 1 ≤ k) (sym many) is.some_part;
      few_parts = subst (λ k. k ≤ most_writes) (sym many) is.few_parts;
      points = subst Distinct (sym same) is.points;
      parts = each_part;
      owned = owned;
      policies = policies;
    }

-- ---- the whole

-- A change before its group is told: all that holds of a sound persistent part, but that the records of transactions without
-- leases and reversions are still there, and that those which were not done before are not yet done.
pub record IsChange (plant : List Actuator) (d : Persistent) : Type 0 where
  pub now : d.now ≤ last_moment
  pub first : 1 ≤ d.next
  pub next : d.next ≤ last_number
  pub lease_slots : Rising lease_slot d.leases
  pub pending_slots : Rising pending_slot d.pending
  pub slots : Rising pending_slot (courses d.pending d.leases)
  pub leases : AllByRecursion (IsLease plant d.now) d.leases
  pub pending : AllByRecursion (IsPending plant d.now) d.pending
  pub numbers : Rising number_rank d.txns
  pub txns : AllByRecursion (IsTransaction plant d) d.txns
  pub open_parts : AllByRecursion (λ lease. has_part is_none d.txns lease.txn lease.point lease.priority ≡ true) d.leases
  pub ended_parts : AllByRecursion (λ reversion. has_part (is_start reversion.start) d.txns reversion.txn reversion.point reversion.priority ≡ true) d.pending
  pub not_done : AllByRecursion (λ t. lives t.txn (courses d.pending d.leases) ≡ true → member t.txn d.done ≡ false) d.txns
  pub few_done : length d.done ≤ done_kept
  pub done_once : Distinct d.done
  pub done_known : AllByRecursion (λ txn. is_kept d.txns txn ≡ true) d.done
  pub few_processes : length d.processes ≤ most_processes
  pub names : DistinctNames (map (λ process. process.name) d.processes)
  pub processes : AllByRecursion (IsProcess plant d.now) d.processes

-- the group of a change
pub record IsGroup (plant : List Actuator) (d : Persistent) (hs : List Happening) : Type 0 where
  -- no transaction that has a lease or a reversion becomes done
  pub others : AllByRecursion (λ t. lives t.txn (courses d.pending d.leases) ≡ true → AllByRecursion (IsOther t.txn) hs) d.txns
  pub new : AllByRecursion (IsNewlyDone d.done) hs
  pub known : AllByRecursion (λ h. is_done h.told ≡ true → is_kept d.txns h.txn ≡ true) hs
  pub once : DoneOnce hs
  pub told : AllByRecursion (λ h. IsTidings plant d.now h.told h.at h.txn) hs

abbrev pub grouped : List Happening → Persistent → Persistent
grouped hs d = record d {
  txns = kept (courses d.pending d.leases) (fold finish d.done hs) d.txns;
  done = fold finish d.done hs;
  processes = fold tell d.processes hs;
}

pub group-sound : (plant : List Actuator) (d : Persistent) (hs : List Happening) → IsChange plant d → IsGroup plant d hs → IsSoundPersistent plant (grouped hs d)
group-sound plant d hs change group =
    let cs = courses d.pending d.leases in
    let done = fold finish d.done hs in
    let keeps = λ (t : Transaction). lives t.txn cs || member t.txn done in
    let txns = filter keeps d.txns in
    let processes = fold tell d.processes hs in
    let many : length processes ≡ length d.processes = tell-length d.processes hs in
    let all_live : AllByRecursion (λ c. lives c.txn cs ≡ true) cs = each-lives cs in
    let stays : (txn : ℕ) → lives txn cs ≡ true → (t : Transaction) → t.txn ≡ txn → keeps t ≡ true =
    λ txn alive t same. let here : lives t.txn cs ≡ true = subst (λ k. lives k cs ≡ true) (sym same) alive in grind (arith, nat_tests) in
    record {
      now = change.now;
      first = change.first;
      next = change.next;
      lease_slots = change.lease_slots;
      pending_slots = change.pending_slots;
      slots = change.slots;
      leases = change.leases;
      pending = change.pending;
      numbers = Rising-filter number_rank keeps d.txns change.numbers;
      txns = each-filter (IsTransaction plant (grouped hs d)) keeps d.txns
          (each-map (IsTransaction plant d) (IsTransaction plant (grouped hs d)) (λ t is.
          transaction-in plant d (grouped hs d) t t.parts is is.given (subst (λ k. t.owner < k) (sym many) is.owner) refl is.parts is.owned is.policies) d.txns change.txns);
      open_parts = each-map (λ lease. (has_part is_none d.txns lease.txn lease.point lease.priority ≡ true) × (lives lease.txn cs ≡ true))
          (λ lease. has_part is_none txns lease.txn lease.point lease.priority ≡ true)
          (λ lease both. part-stays is_none keeps d.txns lease.txn lease.point lease.priority (stays lease.txn both.1) both.0) d.leases
          (each-both (λ lease. has_part is_none d.txns lease.txn lease.point lease.priority ≡ true) (λ lease. lives lease.txn cs ≡ true) d.leases change.open_parts
          (of-leases (λ c. lives c.txn cs ≡ true) d.pending d.leases all_live));
      ended_parts = each-map (λ r. (has_part (is_start r.start) d.txns r.txn r.point r.priority ≡ true) × (lives r.txn cs ≡ true))
          (λ r. has_part (is_start r.start) txns r.txn r.point r.priority ≡ true)
          (λ r both. part-stays (is_start r.start) keeps d.txns r.txn r.point r.priority (stays r.txn both.1) both.0) d.pending
          (each-both (λ r. has_part (is_start r.start) d.txns r.txn r.point r.priority ≡ true) (λ r. lives r.txn cs ≡ true) d.pending change.ended_parts
          (of-pending (λ c. lives c.txn cs ≡ true) d.pending d.leases all_live));
      done =
          let N = λ (t : Transaction). lives t.txn cs ≡ true → member t.txn d.done ≡ false in
          let O = λ (t : Transaction). lives t.txn cs ≡ true → AllByRecursion (IsOther t.txn) hs in
          each-map (λ t. (keeps t ≡ true) × (N t × O t)) (λ t. member t.txn done ≡ not (lives t.txn cs))
          (λ t all. cond_both (lives t.txn cs) true false (λ b. lives t.txn cs ≡ b → member t.txn done ≡ not (lives t.txn cs))
          (λ alive _. let before : member t.txn done ≡ true → member t.txn d.done ≡ true = finish-other t.txn d.done hs (all.1.1 alive) in
          let away : member t.txn d.done ≡ false = all.1.0 alive in grind (arith))
          (λ dead _. let passed : (lives t.txn cs || member t.txn done) ≡ true = all.0 in grind (arith)) (grind arith))
          txns (each-both (λ t. keeps t ≡ true) (λ t. N t × O t) txns (each-passed (λ t. keeps t ≡ true) keeps (λ t passed. passed) d.txns)
          (each-filter (λ t. N t × O t) keeps d.txns (each-both N O d.txns change.not_done group.others)));
      few_done = few-finish d.done hs change.few_done;
      done_once = Distinct-finish d.done hs change.done_once group.new group.once;
      done_known =
          let known : AllByRecursion (λ txn. is_kept d.txns txn ≡ true) done = each-finish (λ txn. is_kept d.txns txn ≡ true) d.done hs change.done_known group.known in
          each-member (λ txn. is_kept txns txn ≡ true) done (λ txn there. record-stays keeps d.txns txn
          (λ t same. let in_it : member t.txn done ≡ true = subst (λ k. member k done ≡ true) (sym same) there in grind (arith))
          (member-each (λ k. is_kept d.txns k ≡ true) txn done known there));
      few_processes = subst (λ k. k ≤ most_processes) (sym many) change.few_processes;
      names = subst DistinctNames (sym (tell-names d.processes hs)) change.names;
      processes = tell-sound plant d.now d.processes hs group.told change.processes;
    }
