-- An event that is within its ranges has a spelling.
use Rattle.std.proofs.Common.{◌≡◌, ℕ, ◌<◌, ◌≤◌, ◌==◌, ℤ, true, false, List, length, refl, arith}
use Rattle.std.specs.Int.{w32, w64}
use Rattle.std.specs.List.{AllByRecursion}
use Rattle.std.proofs.lemmas.Bool.{cond_both, lt-ltb, le-leb}
use Rattle.std.proofs.lemmas.Bool.Decides.{nat_tests}
use Rattle.def_bytes.specs.Fields.{Field, number, byte, only}
use Rattle.boss_model.specs.declared.command.Policy.{Policy}
use Rattle.boss_model.specs.declared.command.Setting.{Setting}
use Rattle.boss_model.specs.declared.event.Act.{Act}
use Rattle.boss_model.specs.declared.event.Act.TheVariants as act
use Rattle.boss_model.specs.declared.event.Event.{Event}
use Rattle.boss_model.specs.Limits.{longest_lease, most_writes, last_moment, last_number}
use Rattle.boss_model.specs.Sound.{IsWord}
use Rattle.law_time.proofs.Orders.{each-map}
use Rattle.law_spelling.specs.Ranges.{IsOwner, IsPoint, IsBetween, IsWritten, IsAct, IsSpelled}
use Rattle.def_bytes.specs.Parts.{within, moment}
use Rattle.def_bytes.specs.Events.{setting, submission, renewal, is_number, owned, numbered, by_number, act_tag, act_fits, event}
use Rattle.def_bytes.proofs.Spelling.{both_true}
use Rattle.law_spelling.proofs.Parts.{word-fits, owner-fits, point-fits, byte-fits, signed-fits, between-fits, up-to-a-byte, up-to-four-bytes, list-fits, name-fits, policy-fits, steps-fit}

-- ---- what stands behind the moment

setting-fits : (w : Setting) → IsWritten w → setting.fits w ≡ true
setting-fits w is = both_true _ _ (point-fits w.point is.point) (both_true _ _ (signed-fits w.value is.value)
    (both_true _ _ (between-fits byte 1 16 (up-to-a-byte 16 (omega arith)) w.priority is.priority)
    (both_true _ _ (between-fits (number w32) 1 longest_lease (up-to-four-bytes longest_lease (omega arith)) w.lease is.lease) (steps-fit w.revert is.revert))))

submission-fits : (p : Policy) (ws : List Setting) → 1 ≤ length ws → length ws ≤ most_writes → AllByRecursion IsWritten ws → submission.fits (p, ws) ≡ true
submission-fits p ws some few all = both_true _ _ (policy-fits p) (list-fits (within 1 most_writes) most_writes setting ws few
    (both_true _ _ (both_true _ _ (byte-fits (length ws) (omega arith)) (le-leb _ _ few)) (le-leb _ _ some))
    (each-map IsWritten (λ w. setting.fits w ≡ true) setting-fits ws all))

renewal-fits : (txn : ℕ) (longer : ℤ) (named : List ℕ) → IsWord txn → IsBetween 1 longest_lease longer → length named ≤ most_writes → AllByRecursion IsPoint named → renewal.fits (txn, (longer, named)) ≡ true
renewal-fits txn longer named word long few all = both_true _ _ (word-fits txn word)
    (both_true _ _ (between-fits (number w32) 1 longest_lease (up-to-four-bytes longest_lease (omega arith)) longer long)
    (list-fits byte most_writes (number w32) named few (byte-fits _ (omega arith)) (each-map IsPoint (λ n. (number w32).fits n ≡ true) point-fits named all)))

-- ---- acts, with a number or without

number-fits : (seq : ℕ) → (seq == 0) ≡ false → seq < last_number → (only is_number (number w64)).fits seq ≡ true
number-fits seq some few = both_true _ _ (word-fits seq (omega arith)) (both_true _ _ (grind (arith, nat_tests)) (lt-ltb _ _ few))

owned-fits : {X : Type 0} (f : Field X) (owner seq : ℕ) (x : X) → IsOwner owner → seq < last_number → f.fits x ≡ true →
    by_number seq ((owned f).fits (owner, x)) ((numbered f).fits (owner, (seq, x))) ≡ true
owned-fits f owner seq x known few fits =
    cond_both (seq == 0) ((owned f).fits (owner, x)) ((numbered f).fits (owner, (seq, x))) (λ b. b ≡ true)
    (λ _. both_true _ _ (owner-fits owner known) fits)
    (λ some. both_true _ _ (owner-fits owner known) (both_true _ _ (number-fits seq some few) fits))

act-fits : (a : Act) → IsAct a → act_fits a ≡ true
act-fits (act.Enrol bytes) is = name-fits bytes is
act-fits (act.Submit owner policy ws seq) is = owned-fits submission owner seq (policy, ws) is.0 is.4 (submission-fits policy ws is.1 is.2 is.3)
act-fits (act.Renew owner txn longer named seq) is = owned-fits renewal owner seq (txn, (longer, named)) is.0 is.5 (renewal-fits txn longer named is.1 is.2 is.3 is.4)
act-fits (act.Cancel owner txn seq) is = owned-fits (number w64) owner seq txn is.0 is.2 (word-fits txn is.1)
act-fits (act.Gone owner) is = owner-fits owner is
act-fits act.Tick is = refl
act-fits (act.Fault point) is = point-fits point is

tag-fits : (seq without with_it : ℕ) → without < 256 → with_it < 256 → by_number seq without with_it < 256
tag-fits seq without with_it small also = cond_both (seq == 0) without with_it (λ n. n < 256) (λ _. small) (λ _. also)

act-tag : (a : Act) → act_tag a < 256
act-tag (act.Enrol bytes) = omega arith
act-tag (act.Submit owner policy ws seq) = tag-fits seq 2 8 (omega arith) (omega arith)
act-tag (act.Renew owner txn longer named seq) = tag-fits seq 3 9 (omega arith) (omega arith)
act-tag (act.Cancel owner txn seq) = tag-fits seq 4 10 (omega arith) (omega arith)
act-tag (act.Gone owner) = omega arith
act-tag act.Tick = omega arith
act-tag (act.Fault point) = omega arith

-- ---- the event

moment-fits : (n : ℕ) → n ≤ last_moment → moment.fits n ≡ true
moment-fits n small = both_true _ _ (word-fits n (omega arith)) (le-leb _ _ small)

pub event-fits : (e : Event) → IsSpelled e → event.fits e ≡ true
event-fits e is = both_true _ _ (lt-ltb _ _ (act-tag e.act)) (both_true _ _ (moment-fits e.moment is.moment) (act-fits e.act is.act))
