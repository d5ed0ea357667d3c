-- The status of a transaction whose record is kept.
use Rattle.std.proofs.Common.{◌≡◌, ℕ, ◌==◌, List, [], ◌∷◌, map, true, false, ◌||◌, Option, Some, None, refl, ap, sym, ◌∙◌, arith}
use Rattle.std.specs.Prelude.{slice_get}
use Rattle.std.specs.List.{AllByRecursion}
use Rattle.std.specs.Option.{option_map, option_map_or}
use Rattle.std.proofs.lemmas.Bool.{cond_both}
use Rattle.std.proofs.lemmas.Bool.Decides.{nat_tests}
use Rattle.std.proofs.lemmas.Option.{slice_get-map}
use Rattle.boss_model.specs.declared.answer.Answer.TheVariants as answer
use Rattle.boss_model.specs.declared.state.Actuator.{Actuator}
use Rattle.boss_model.specs.Lists.{member}
use Rattle.boss_model.specs.Order.{comes_before}
use Rattle.boss_model.specs.Processes.{name_of}
use Rattle.boss_model.specs.Queries.{stage_of, live_of, pending_of, status_of, status}
use Rattle.boss_model.specs.Records.{Transaction}
use Rattle.boss_model.specs.Renew.{transaction_of}
use Rattle.boss_model.specs.Sound.{Rising, is_kept, number_rank, IsSoundPersistent}
use Rattle.boss_model.specs.State.{lease_slot, pending_slot, Process, Persistent}
use Rattle.law_adoption.specs.Adopted.{moved_lease, moved_pending, moved_txn, all_stay, staying, moved_process, adopted}
use Rattle.law_time.proofs.Orders.{each-map}
use Rattle.law_adoption.specs.MayMove.{in_use}
use Rattle.law_adoption.proofs.Alike.{as-many-pass}
use Rattle.law_adoption.proofs.MovedRecords.{is_kept-moved}
use Rattle.law_adoption.proofs.NothingRefused.{living-stay}

module _ (to : ℕ → Option ℕ) where
  -- ---- the record

  none-staying : (txn : ℕ) (txns : List Transaction) → AllByRecursion (λ t. comes_before (t.txn ∷ []) (txn ∷ []) ≡ false) txns → is_kept (staying to txns) txn ≡ false
  none-staying txn [] later = refl
  none-staying txn (t ∷ ts) later =
      let apart : comes_before (t.txn ∷ []) (txn ∷ []) ≡ false = later.0 in
      let other : (t.txn == txn) ≡ false = grind (arith, nat_tests) in
      let rest : is_kept (staying to ts) txn ≡ false = none-staying txn ts later.1 in
      cond_both (all_stay to t) (t ∷ staying to ts) (staying to ts) (λ left. is_kept left txn ≡ false) (λ _. λ i. other i || rest i) (λ _. rest)

  same-record : (txn : ℕ) (txns : List Transaction) → Rising number_rank txns → is_kept (staying to txns) txn ≡ true →
      transaction_of (map (moved_txn to) (staying to txns)) txn ≡ option_map (moved_txn to) (transaction_of txns txn)
  same-record txn [] rising there = cc
  same-record txn (t ∷ ts) rising there =
      cond_both (t.txn == txn) true false (λ b. (t.txn == txn) ≡ b → transaction_of (map (moved_txn to) (staying to (t ∷ ts))) txn ≡ option_map (moved_txn to) (transaction_of (t ∷ ts) txn))
      (λ _ is.
      let same : t.txn ≡ txn = grind (arith, nat_tests) in
      let none : is_kept (staying to ts) t.txn ≡ false = none-staying t.txn ts rising.0 in
      let stay : all_stay to t ≡ true = cond_both (all_stay to t) (t ∷ staying to ts) (staying to ts) (λ left. is_kept left txn ≡ true → all_stay to t ≡ true)
      (λ yes _. yes) (λ _ later. let not_there : is_kept (staying to ts) txn ≡ false = ap (is_kept (staying to ts)) (sym same) ∙ none in cc) there in
      grind (arith, stay, is))
      (λ _ other. cond_both (all_stay to t) (t ∷ staying to ts) (staying to ts)
      (λ left. is_kept left txn ≡ true → transaction_of (map (moved_txn to) left) txn ≡ option_map (moved_txn to) (transaction_of (t ∷ ts) txn))
      (λ _ later. let rest = same-record txn ts rising.1 (grind (arith)) in grind (arith, other, rest))
      (λ _ later. let rest = same-record txn ts rising.1 later in grind (arith, other, rest)) there)
      (grind arith)

  -- ---- its owner's name, and what it has left

  same-name_of : (processes : List Process) (owner : ℕ) → name_of (map (moved_process to) processes) owner ≡ name_of processes owner
  same-name_of processes owner = ap (λ found. option_map_or (λ p. p.name) found []) (slice_get-map (moved_process to) processes owner) ∙ of-one (slice_get processes owner)
    where
      of-one : (found : Option Process) → option_map_or (λ p. p.name) (option_map (moved_process to) found) [] ≡ option_map_or (λ p. p.name) found []
      of-one None = refl
      of-one (Some process) = refl

  same-live : (txn : ℕ) (d : Persistent) → live_of txn (adopted to d) ≡ live_of txn d
  same-live txn d = as-many-pass lease_slot (moved_lease to) (λ lease. lease.txn == txn) (λ lease. refl) d.leases

  same-pending : (txn : ℕ) (d : Persistent) → pending_of txn (adopted to d) ≡ pending_of txn d
  same-pending txn d = as-many-pass pending_slot (moved_pending to) (λ reversion. reversion.txn == txn) (λ reversion. refl) d.pending

  same-status : (d : Persistent) (found : Option Transaction) → status_of (option_map (moved_txn to) found) (adopted to d) ≡ status_of found d
  same-status d None = refl
  same-status d (Some t) = λ i. answer.Status t.txn (same-name_of d.processes t.owner i) (stage_of (same-live t.txn d i) (same-pending t.txn d i)) (same-live t.txn d i) (same-pending t.txn d i)

  pub status-kept : (plant : List Actuator) (d : Persistent) (txn : ℕ) → IsSoundPersistent plant d → is_kept (adopted to d).txns txn ≡ true → status txn (adopted to d) ≡ status txn d
  status-kept plant d txn sound there =
      ap (λ found. status_of found (adopted to d)) (same-record txn d.txns sound.numbers (sym (is_kept-moved to (staying to d.txns) txn) ∙ there))
      ∙ same-status d (transaction_of d.txns txn)

  -- ---- what is not done stays

  still-kept : (txn : ℕ) (txns : List Transaction) → AllByRecursion (λ t. t.txn ≡ txn → all_stay to t ≡ true) txns → is_kept txns txn ≡ true → is_kept (staying to txns) txn ≡ true
  still-kept txn [] all there = there
  still-kept txn (t ∷ ts) all there =
      let here : t.txn ≡ txn → all_stay to t ≡ true = all.0 in
      let rest : is_kept ts txn ≡ true → is_kept (staying to ts) txn ≡ true = still-kept txn ts all.1 in
      grind (arith, nat_tests, here, rest)

  pub living-kept : (d : Persistent) (txn : ℕ) → in_use to d ≡ None → is_kept d.txns txn ≡ true → member txn d.done ≡ false → is_kept (adopted to d).txns txn ≡ true
  living-kept d txn unused there living = is_kept-moved to (staying to d.txns) txn ∙ still-kept txn d.txns
      (each-map (λ t. member t.txn d.done ≡ false → all_stay to t ≡ true) (λ t. t.txn ≡ txn → all_stay to t ≡ true)
      (λ t stays same. stays (ap (λ n. member n d.done) same ∙ living)) d.txns (living-stay to d unused)) there
