-- Events are exact and short.
use Rattle.std.proofs.Common.{◌≡◌, ℕ, ◌≤◌, ◌==◌, nat_le, Bool, true, false, cond, ◌&&◌, List, ◌++◌, length, Option, Some, refl, sym, ap, subst, ◌∙◌, append_assoc, arith}
use Rattle.std.specs.Int.{w16, w32, w64}
use Rattle.std.proofs.lemmas.List.{length-append}
use Rattle.std.proofs.lemmas.Bool.Decides.{nat_tests}
use Rattle.def_bytes.specs.Exact.{IsBytes, TookKind, Undoes}
use Rattle.def_bytes.specs.Fields.{Field, ◌>>=◌, number, byte, both, only}
use Rattle.boss_model.specs.declared.event.Act.{Act}
use Rattle.boss_model.specs.declared.event.Act.TheVariants as act
use Rattle.boss_model.specs.declared.event.Event.{Event}
use Rattle.boss_model.specs.Limits.{most_writes}
use Rattle.def_bytes.specs.Parts.{nothing, within, signed64, natural, moment, name, policy, steps}
use Rattle.def_bytes.specs.Events.{setting_parts, setting_of, setting, writes, submission, renewal, is_number, owned, numbered, by_number, kind_at, act_tag, act_fits, act_text, act_at, acts, event_at, events, event}
use Rattle.def_bytes.proofs.Spelling.{IsSpelled, AreSpelled, bind_some, some-is, left_true, right_true, both_true, if_tag, no_tag, kind_takes, kind_again, word16, word32, word64, one_byte, pair, tested, whole, list, variants}
use Rattle.def_bytes.proofs.OfParts.{no_bytes, byte_within, signed, not_negative, moments, names, policies, reversion}

setting_undoes : Undoes setting_parts setting_of (both (number w32) (both signed64 (both (natural byte) (both (natural (number w32)) steps))))
setting_undoes = record { back = λ y fits. refl; whole = λ x y is. cc }

pub one_setting : IsSpelled setting
one_setting = whole setting_parts setting_of _ setting_undoes
    (pair _ _ word32 (pair _ _ signed (pair _ _ (not_negative byte one_byte) (pair _ _ (not_negative (number w32) word32) reversion))))

submissions : IsSpelled submission
submissions = pair policy writes policies (list (within 1 most_writes) most_writes setting (byte_within 1 most_writes) one_setting)

renewals : IsSpelled renewal
renewals = pair _ _ word64 (pair _ _ (not_negative (number w32) word32) (list byte most_writes (number w32) one_byte word32))

of_owner : {X : Type 0} (f : Field X) → IsSpelled f → IsSpelled (owned f)
of_owner f a = pair (number w16) f word16 a

with_number : {X : Type 0} (f : Field X) → IsSpelled f → IsSpelled (numbered f)
with_number f a = pair (number w16) (both (only is_number (number w64)) f) word16
    (pair (only is_number (number w64)) f (tested is_number (number w64) word64) a)

-- ---- acts that a process may number

record IsNumbered {X : Type 0} (without with_it : ℕ) (f : Field X) (made : ℕ → ℕ → X → Act) : Type 0 where
  told : (owner seq : ℕ) (x : X) → act_tag (made owner seq x) ≡ by_number seq without with_it
  fits : (owner seq : ℕ) (x : X) → act_fits (made owner seq x) ≡ by_number seq ((owned f).fits (owner, x)) ((numbered f).fits (owner, (seq, x)))
  text : (owner seq : ℕ) (x : X) → act_text (made owner seq x) ≡ by_number seq ((owned f).text (owner, x)) ((numbered f).text (owner, (seq, x)))
  plain : (bytes : List ℕ) → act_at without bytes ≡ kind_at (λ y. made y.0 0 y.1) (owned f) bytes
  other : (bytes : List ℕ) → act_at with_it bytes ≡ kind_at (λ y. made y.0 y.1.0 y.1.1) (numbered f) bytes

a_submit : IsNumbered 2 8 submission (λ owner seq x. act.Submit owner x.0 x.1 seq)
a_submit = record { told = λ o s x. refl; fits = λ o s x. refl; text = λ o s x. refl; plain = λ b. refl; other = λ b. refl }

a_renewal : IsNumbered 3 9 renewal (λ owner seq x. act.Renew owner x.0 x.1.0 x.1.1 seq)
a_renewal = record { told = λ o s x. refl; fits = λ o s x. refl; text = λ o s x. refl; plain = λ b. refl; other = λ b. refl }

a_cancel : IsNumbered 4 10 (number w64) (λ owner seq x. act.Cancel owner x seq)
a_cancel = record { told = λ o s x. refl; fits = λ o s x. refl; text = λ o s x. refl; plain = λ b. refl; other = λ b. refl }

module _ {X : Type 0} (without with_it : ℕ) (f : Field X) (made : ℕ → ℕ → X → Act) (is : IsNumbered without with_it f made) (spelled : IsSpelled f) where
  -- a process's own number is not 0
  has_number : (y : ℕ × (ℕ × X)) → (numbered f).fits y ≡ true → (y.1.0 == 0) ≡ false
  has_number y fits =
      let rest : (((number w64).fits y.1.0 && is_number y.1.0) && f.fits y.1.1) ≡ true = right_true ((number w16).fits y.0) _ fits in
      let number : is_number y.1.0 ≡ true = right_true ((number w64).fits y.1.0) (is_number y.1.0) (left_true ((number w64).fits y.1.0 && is_number y.1.0) (f.fits y.1.1) rest) in
      let least : nat_le 1 y.1.0 ≡ true = left_true (nat_le 1 y.1.0) _ number in
      grind (arith, nat_tests)

  numbered_takes : (bytes : List ℕ) (x : Act) (rest : List ℕ) → IsBytes bytes →
      kind_at (λ y. made y.0 y.1.0 y.1.1) (numbered f) bytes ≡ Some (x, rest) → TookKind acts with_it bytes x rest
  numbered_takes = kind_takes acts with_it _ _ (with_number f spelled) (λ y fits. record {
    told = is.told y.0 y.1.0 y.1.1 ∙ ap (λ b. cond b without with_it) (has_number y fits);
    fits = is.fits y.0 y.1.0 y.1.1 ∙ ap (λ b. cond b ((owned f).fits (y.0, y.1.1)) ((numbered f).fits y)) (has_number y fits) ∙ fits;
    text = is.text y.0 y.1.0 y.1.1 ∙ ap (λ b. cond b ((owned f).text (y.0, y.1.1)) ((numbered f).text y)) (has_number y fits);
  })

  by_number_again : (owner seq : ℕ) (x : X) (rest : List ℕ) (none : Bool) → (seq == 0) ≡ none →
      cond none ((owned f).fits (owner, x)) ((numbered f).fits (owner, (seq, x))) ≡ true →
      act_at (cond none without with_it) (cond none ((owned f).text (owner, x)) ((numbered f).text (owner, (seq, x))) ++ rest) ≡ Some (made owner seq x, rest)
  by_number_again owner seq x rest true zero_is fits =
      let seq-is : 0 ≡ seq = grind (arith, nat_tests) in
      is.plain ((owned f).text (owner, x) ++ rest) ∙ kind_again (λ y. made y.0 0 y.1) (owned f) (of_owner f spelled) (owner, x) rest fits
      ∙ ap (λ n. Some (made owner n x, rest)) seq-is
  by_number_again owner seq x rest false zero_is fits =
      is.other ((numbered f).text (owner, (seq, x)) ++ rest)
      ∙ kind_again (λ y. made y.0 y.1.0 y.1.1) (numbered f) (with_number f spelled) (owner, (seq, x)) rest fits

  numbered_again : (owner seq : ℕ) (x : X) (rest : List ℕ) → act_fits (made owner seq x) ≡ true →
      act_at (act_tag (made owner seq x)) (act_text (made owner seq x) ++ rest) ≡ Some (made owner seq x, rest)
  numbered_again owner seq x rest fits = rw (is.told owner seq x, is.text owner seq x)
      (by_number_again owner seq x rest (seq == 0) refl (sym (is.fits owner seq x) ∙ fits))

  by_number_short : (owner seq : ℕ) (x : X) (none : Bool) → cond none ((owned f).fits (owner, x)) ((numbered f).fits (owner, (seq, x))) ≡ true →
      length (cond none ((owned f).text (owner, x)) ((numbered f).text (owner, (seq, x)))) ≤ (numbered f).most
  by_number_short owner seq x true fits = omega (arith, (of_owner f spelled).short.short (owner, x) fits)
  by_number_short owner seq x false fits = (with_number f spelled).short.short (owner, (seq, x)) fits

  numbered_short : (owner seq : ℕ) (x : X) → act_fits (made owner seq x) ≡ true → length (act_text (made owner seq x)) ≤ (numbered f).most
  numbered_short owner seq x fits = rw (is.text owner seq x) (by_number_short owner seq x (seq == 0) (sym (is.fits owner seq x) ∙ fits))

-- ---- what is read

act_takes : (tag : ℕ) (bytes : List ℕ) (x : Act) (rest : List ℕ) → IsBytes bytes → act_at tag bytes ≡ Some (x, rest) → TookKind acts tag bytes x rest
act_takes tag bytes x rest are =
    if_tag acts tag 1 _ _ bytes x rest (kind_takes acts 1 _ _ names (λ y fits. record { told = refl; fits = fits; text = refl }) bytes x rest are)
    (if_tag acts tag 2 _ _ bytes x rest (kind_takes acts 2 _ _ (of_owner submission submissions) (λ y fits. record { told = refl; fits = fits; text = refl }) bytes x rest are)
    (if_tag acts tag 3 _ _ bytes x rest (kind_takes acts 3 _ _ (of_owner renewal renewals) (λ y fits. record { told = refl; fits = fits; text = refl }) bytes x rest are)
    (if_tag acts tag 4 _ _ bytes x rest (kind_takes acts 4 _ _ (of_owner (number w64) word64) (λ y fits. record { told = refl; fits = fits; text = refl }) bytes x rest are)
    (if_tag acts tag 5 _ _ bytes x rest (kind_takes acts 5 _ _ word16 (λ y fits. record { told = refl; fits = fits; text = refl }) bytes x rest are)
    (if_tag acts tag 6 _ _ bytes x rest (kind_takes acts 6 (λ y. act.Tick) nothing no_bytes (λ y fits. record { told = refl; fits = fits; text = refl }) bytes x rest are)
    (if_tag acts tag 7 _ _ bytes x rest (kind_takes acts 7 _ _ word32 (λ y fits. record { told = refl; fits = fits; text = refl }) bytes x rest are)
    (if_tag acts tag 8 _ _ bytes x rest (numbered_takes 2 8 submission _ a_submit submissions bytes x rest are)
    (if_tag acts tag 9 _ _ bytes x rest (numbered_takes 3 9 renewal _ a_renewal renewals bytes x rest are)
    (if_tag acts tag 10 _ _ bytes x rest (numbered_takes 4 10 (number w64) _ a_cancel word64 bytes x rest are)
    (no_tag acts tag bytes x rest))))))))))

-- ---- what is written is read

act_again : (a : Act) (rest : List ℕ) → act_fits a ≡ true → act_at (act_tag a) (act_text a ++ rest) ≡ Some (a, rest)
act_again (act.Enrol bytes) rest fits = kind_again act.Enrol name names bytes rest fits
act_again (act.Submit owner p ws seq) rest fits = numbered_again 2 8 submission _ a_submit submissions owner seq (p, ws) rest fits
act_again (act.Renew owner txn by ps seq) rest fits = numbered_again 3 9 renewal _ a_renewal renewals owner seq (txn, (by, ps)) rest fits
act_again (act.Cancel owner txn seq) rest fits = numbered_again 4 10 (number w64) _ a_cancel word64 owner seq txn rest fits
act_again (act.Gone owner) rest fits = kind_again act.Gone (number w16) word16 owner rest fits
act_again act.Tick rest fits = refl
act_again (act.Fault point) rest fits = kind_again act.Fault (number w32) word32 point rest fits

act_short : (a : Act) → act_fits a ≡ true → length (act_text a) ≤ 3660
act_short (act.Enrol bytes) fits = let h : length (name.text bytes) ≤ 65 = names.short.short bytes fits in omega (arith, h)
act_short (act.Submit owner p ws seq) fits = numbered_short 2 8 submission _ a_submit submissions owner seq (p, ws) fits
act_short (act.Renew owner txn by ps seq) fits =
    let h : length (act_text (act.Renew owner txn by ps seq)) ≤ 151 = numbered_short 3 9 renewal _ a_renewal renewals owner seq (txn, (by, ps)) fits in omega (arith, h)
act_short (act.Cancel owner txn seq) fits =
    let h : length (act_text (act.Cancel owner txn seq)) ≤ 18 = numbered_short 4 10 (number w64) _ a_cancel word64 owner seq txn fits in omega (arith, h)
act_short (act.Gone owner) fits = let h : length ((number w16).text owner) ≤ 2 = word16.short.short owner fits in omega (arith, h)
act_short act.Tick fits = omega arith
act_short (act.Fault point) fits = let h : length ((number w32).text point) ≤ 4 = word32.short.short point fits in omega (arith, h)

-- ---- events

abbrev event_again : ℕ → Act × List ℕ → Option (Event × List ℕ)
event_again n a = Some (record { moment = n; act = a.0 }, a.1)

event_takes : (tag : ℕ) (bytes : List ℕ) (x : Event) (rest : List ℕ) → IsBytes bytes → event_at tag bytes ≡ Some (x, rest) → TookKind events tag bytes x rest
event_takes tag bytes x rest are is =
    let found = bind_some (moment.at bytes) (λ m. act_at tag m.1 >>= event_again m.0) (x, rest) is in
    let after = bind_some (act_at tag found.0.1) (event_again found.0.0) (x, rest) found.2 in
    let a = moments.exact.takes bytes found.0.0 found.0.1 are found.1 in
    let b = act_takes tag found.0.1 after.0.0 after.0.1 a.rest_bytes after.1 in
    subst (λ (p : Event × List ℕ). TookKind events tag bytes p.0 p.1) (some-is _ _ after.2) (record {
      kind = b.kind;
      fits = both_true (moment.fits found.0.0) (act_fits after.0.0) a.fits b.fits;
      spelled = a.spelled ∙ ap (λ t. moment.text found.0.0 ++ t) b.spelled ∙ sym (append_assoc (moment.text found.0.0) (act_text after.0.0) after.0.1);
      rest_bytes = b.rest_bytes;
    })

pub events_spelled : AreSpelled events
events_spelled = record {
  exact = record {
    takes = event_takes;
    again = λ x rest fits.
        ap (λ t. moment.at t >>= λ m. act_at (act_tag x.act) m.1 >>= event_again m.0) (append_assoc (moment.text x.moment) (act_text x.act) rest)
        ∙ ap (λ found. found >>= λ m. act_at (act_tag x.act) m.1 >>= event_again m.0) (moments.exact.again x.moment (act_text x.act ++ rest) (left_true (moment.fits x.moment) (act_fits x.act) fits))
        ∙ ap (λ found. found >>= event_again x.moment) (act_again x.act rest (right_true (moment.fits x.moment) (act_fits x.act) fits));
  };
  short = λ x fits.
      let m : length (moment.text x.moment) ≤ 8 = moments.short.short x.moment (left_true (moment.fits x.moment) (act_fits x.act) fits) in
      let a : length (act_text x.act) ≤ 3660 = act_short x.act (right_true (moment.fits x.moment) (act_fits x.act) fits) in
      let all : length (moment.text x.moment ++ act_text x.act) ≤ 3668 = omega (arith, m, a, length-append (moment.text x.moment) (act_text x.act)) in
      all;
}

pub event_spelled : IsSpelled event
event_spelled = variants events events_spelled
