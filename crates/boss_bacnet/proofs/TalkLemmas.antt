-- Datagrams that were heard one after another, and tries.
use Rattle.std.proofs.Common.{◌≡◌, ◌≢◌, ℕ, suc, ◌+◌, ◌*◌, ◌≤◌, ◌<◌, true, false, List, [], ◌∷◌, ◌++◌, ◌⊎◌, ⊎_elim, Some, None, refl, sym, ap, ◌∙◌, subst, arith, length, zero-add, append-nil, append_assoc, length-append}
use Rattle.boss_outside.specs.Counts.{Rose}
use Rattle.boss_bacnet.specs.declared.asked.Asked.{Asked}
use Rattle.boss_outside.specs.declared.datagrams.Datagrams as link
use Rattle.boss_bacnet.specs.declared.fate.Fate.{Fate}
use Rattle.boss_bacnet.specs.declared.fate.Fate.TheVariants as fate
use Rattle.boss_bacnet.specs.Fates.{AllPassed, IsAnswered, FaredBy, is_answer}
use Rattle.boss_bacnet.specs.Frames.{frame}
use Rattle.boss_bacnet.specs.Talks.{Passed, PassedMany, Answered, HeardOne, Exchanged, Tried, repeated, FateCause, IsAfter, most_heard}

module _ (id : ℕ) (asked : Asked) where
  passed-both : (xs ys : List (List ℕ)) → AllPassed id asked xs → AllPassed id asked ys → AllPassed id asked (xs ++ ys)
  passed-both [] ys p q = q
  passed-both (x ∷ xs) ys p q = (p.0, passed-both xs ys p.1 q)

behind : {A : Type 0} (a b c xs ys : List A) → b ≡ a ++ xs → c ≡ b ++ ys → c ≡ a ++ (xs ++ ys)
behind a b c xs ys p q = q ∙ ap (λ k. k ++ ys) p ∙ append_assoc a xs ys

module _ {L : Type 0} (l : link.Ghosts L) (id : ℕ) (asked : Asked) where
  none : (s : L) → Passed l id asked s s 0
  none s = record { heard = []; received = λ _. sym (append-nil (l.received s)); silences = λ _. omega arith; sent = λ _. refl; passed = tt }

  pub none_heard : (s : L) → PassedMany l id asked s s 0
  unfolding none
  none_heard s = record { passed = none s; many = refl }

  both-passed : (quiet quiet' : ℕ) (a b c : L) → Passed l id asked a b quiet → Passed l id asked b c quiet' → Passed l id asked a c (quiet + quiet')
  both-passed quiet quiet' a b c p q = record {
    heard = p.heard ++ q.heard;
    received = λ t. behind (l.received a) (l.received b) (l.received c) p.heard q.heard (p.received t) (q.received t);
    silences = λ t. let first = p.silences t in let then = q.silences t in omega arith;
    sent = λ t. q.sent t ∙ p.sent t;
    passed = passed-both id asked p.heard q.heard p.passed q.passed;
  }

  as-passed : (b c : L) → HeardOne l id asked b c None → Passed l id asked b c 0
  as-passed b c q = record { heard = q.bytes ∷ []; received = q.received; silences = q.silences; sent = q.sent; passed = (q.judged_is, tt) }

  pub passed_on : (n : ℕ) (a b c : L) → PassedMany l id asked a b n → HeardOne l id asked b c None → PassedMany l id asked a c (n + 1)
  unfolding both-passed as-passed
  passed_on n a b c p q = record {
    passed = both-passed 0 0 a b c p.passed (as-passed b c q);
    many = length-append p.passed.heard (q.bytes ∷ []) ∙ ap (λ k. k + 1) p.many;
  }

  pub answered_on : (n : ℕ) (a b c : L) (end : Fate) → PassedMany l id asked a b n → HeardOne l id asked b c (Some end) → is_answer end ≡ true → Answered l id asked a c end
  answered_on n a b c end many q is = let p = many.passed in record {
    heard = p.heard ++ q.bytes ∷ [];
    received = λ t. behind (l.received a) (l.received b) (l.received c) p.heard (q.bytes ∷ []) (p.received t) (q.received t);
    sent = λ t. q.sent t ∙ p.sent t;
    answered = record { before = p.heard; last = q.bytes; heard_is = refl; passed = p.passed; judged_is = q.judged_is };
    answer = is;
  }

  pub silent_on : (n quiet : ℕ) (a b c : L) → PassedMany l id asked a b n → Passed l id asked b c quiet → Passed l id asked a c quiet
  silent_on n quiet a b c p q = subst (λ k. Passed l id asked a c k) (zero-add quiet) (both-passed 0 quiet a b c p.passed q)

  -- ---- tries

  pub none_tried : (s : L) → Tried l id asked s s 0
  none_tried s = record {
    heard = [];
    sent = λ _. sym (append-nil (l.sent s));
    received = λ _. sym (append-nil (l.received s));
    passed = tt;
    quiet = record { silences = 0; drowned = 0; all = refl; told = λ _. omega arith; many = omega arith };
    fine = refl;
  }

  once-more : (n : ℕ) (old mid : List (List ℕ)) (new : List (List ℕ)) → mid ≡ old ++ repeated n (frame id asked) → new ≡ mid ++ frame id asked ∷ []
      → new ≡ old ++ repeated (n + 1) (frame id asked)
  once-more n old mid new p q =
      let one : suc n ≡ n + 1 = omega arith in
      behind old mid new (repeated n (frame id asked)) (frame id asked ∷ []) p q ∙ ap (λ k. old ++ repeated k (frame id asked)) one

  -- what a send leaves as it was
  pub record Sent (b c : L) : Type 0 where
    pub sent : l.tells → l.sent c ≡ l.sent b ++ frame id asked ∷ []
    pub received : l.tells → l.received c ≡ l.received b
    pub silences : l.tells → l.silences c ≡ l.silences b
    pub fine : l.faults c ≡ l.faults b

  tried-with : (n silences drowned : ℕ) (a b c d : L) (p : Tried l id asked a b n) (s : Sent b c) (heard : List (List ℕ)) → silences + drowned ≡ 1
      → (l.tells → l.received d ≡ l.received c ++ heard) → (l.tells → l.silences d ≡ l.silences c + silences) → (l.tells → l.sent d ≡ l.sent c)
      → AllPassed id asked heard → most_heard * drowned ≤ length heard → l.faults d ≡ l.faults c → Tried l id asked a d (n + 1)
  tried-with n silences drowned a b c d p s heard one received told sent passed many fine = record {
    heard = p.heard ++ heard;
    sent = λ t. once-more n (l.sent a) (l.sent b) (l.sent d) (p.sent t) (sent t ∙ s.sent t);
    received = λ t. behind (l.received a) (l.received b) (l.received d) p.heard heard (p.received t) (received t ∙ ap (λ k. k ++ heard) (s.received t));
    passed = passed-both id asked p.heard heard p.passed passed;
    quiet = record {
      silences = p.quiet.silences + silences;
      drowned = p.quiet.drowned + drowned;
      all = let before = p.quiet.all in omega arith;
      told = λ t. let before = p.quiet.told t in let now = told t in let kept = s.silences t in omega arith;
      many = let before = p.quiet.many in omega (arith, length-append p.heard heard);
    };
    fine = fine ∙ s.fine ∙ p.fine;
  }

  pub tried_on : (n : ℕ) (a b c d : L) → Tried l id asked a b n → Sent b c → Passed l id asked c d 1 ⊎ PassedMany l id asked c d most_heard
      → l.faults d ≡ l.faults c → Tried l id asked a d (n + 1)
  tried_on n a b c d p s q fine = ⊎_elim
      (λ (q : Passed l id asked c d 1). tried-with n 1 0 a b c d p s q.heard refl q.received q.silences q.sent q.passed (omega arith) fine)
      (λ (q : PassedMany l id asked c d most_heard). tried-with n 0 1 a b c d p s q.passed.heard refl q.passed.received q.passed.silences q.passed.sent q.passed.passed (let many = q.many in omega arith) fine) q

  no-fault : (before now : ℕ) (end : Fate) → now ≡ before → end ≢ fate.LinkFault → FateCause before now end
  no-fault before now end same other = record { failed = λ is. absurd (other is); fine = λ _. same }

  is-not : (end other : Fate) → is_answer end ≡ true → is_answer other ≡ false → end ≢ other
  is-not end other is none same = let both : true ≡ false = sym is ∙ ap is_answer same ∙ none in cc

  after-answer : (end : Fate) (tries most : ℕ) → is_answer end ≡ true → 1 ≤ tries → IsAfter tries most end
  after-answer fate.Taken tries most is some = some
  after-answer fate.Has tries most is some = some
  after-answer fate.HasOther tries most is some = some
  after-answer (fate.Error class code) tries most is some = some
  after-answer (fate.Reject reason) tries most is some = some
  after-answer (fate.Abort reason) tries most is some = some
  after-answer fate.None tries most is some = some
  after-answer fate.NoPlace tries most is some = some
  after-answer fate.Silent tries most is some = cc
  after-answer fate.LinkFault tries most is some = cc

  answered-both : (xs ys : List (List ℕ)) (end : Fate) → AllPassed id asked xs → IsAnswered id asked ys end → IsAnswered id asked (xs ++ ys) end
  answered-both xs ys end p q = record {
    before = xs ++ q.before;
    last = q.last;
    heard_is = ap (λ k. xs ++ k) q.heard_is ∙ sym (append_assoc xs q.before (q.last ∷ []));
    passed = passed-both id asked xs q.before p q.passed;
    judged_is = q.judged_is;
  }

  pub was_answered : (n most : ℕ) (a b c d : L) (end : Fate) → n < most → Tried l id asked a b n → Sent b c → Answered l id asked c d end
      → l.faults d ≡ l.faults c → Exchanged l id asked a d most end
  was_answered n most a b c d end few p s q fine = record {
    heard = p.heard ++ q.heard;
    sent = λ t. (n + 1, omega arith, after-answer end (n + 1) most q.answer (omega arith), once-more n (l.sent a) (l.sent b) (l.sent d) (p.sent t) (q.sent t ∙ s.sent t));
    received = λ t. behind (l.received a) (l.received b) (l.received d) p.heard q.heard (p.received t) (q.received t ∙ ap (λ k. k ++ q.heard) (s.received t));
    fared = subst (λ b. FaredBy b id asked (p.heard ++ q.heard) end) (sym q.answer) (answered-both p.heard q.heard end p.passed q.answered);
    silent = λ is. absurd (is-not end fate.Silent q.answer refl is);
    cause = no-fault (l.faults a) (l.faults d) end (fine ∙ s.fine ∙ p.fine) (is-not end fate.LinkFault q.answer refl);
  }

  broken : (before now : ℕ) → Rose before now → FateCause before now fate.LinkFault
  broken before now rose = record { failed = λ _. rose; fine = λ other. absurd (other refl) }

  pub was_broken : (n most : ℕ) (a b c d : L) → n < most → Tried l id asked a b n → Sent b c → Passed l id asked c d 0 → Rose (l.faults c) (l.faults d)
      → Exchanged l id asked a d most fate.LinkFault
  was_broken n most a b c d few p s q rose = record {
    heard = p.heard ++ q.heard;
    sent = λ t. (n + 1, omega arith, tt, once-more n (l.sent a) (l.sent b) (l.sent d) (p.sent t) (q.sent t ∙ s.sent t));
    received = λ t. behind (l.received a) (l.received b) (l.received d) p.heard q.heard (p.received t) (q.received t ∙ ap (λ k. k ++ q.heard) (s.received t));
    fared = passed-both id asked p.heard q.heard p.passed q.passed;
    silent = λ is. cc;
    cause = broken (l.faults a) (l.faults d) (subst (λ k. Rose k (l.faults d)) (s.fine ∙ p.fine) rose);
  }

  pub was_unsent : (n most : ℕ) (a b c : L) → n < most → Tried l id asked a b n
      → (l.tells → (l.sent c ≡ l.sent b) ⊎ (l.sent c ≡ l.sent b ++ frame id asked ∷ [])) → (l.tells → l.received c ≡ l.received b)
      → Rose (l.faults b) (l.faults c) → Exchanged l id asked a c most fate.LinkFault
  was_unsent n most a b c few p sent received rose = record {
    heard = p.heard;
    sent = λ t. ⊎_elim {C = (tries : ℕ) × (tries ≤ most) × Unit {0} × (l.sent c ≡ l.sent a ++ repeated tries (frame id asked))}
        (λ same. (n, omega arith, tt, same ∙ p.sent t))
        (λ more. (n + 1, omega arith, tt, once-more n (l.sent a) (l.sent b) (l.sent c) (p.sent t) more)) (sent t);
    received = λ t. received t ∙ p.received t;
    fared = p.passed;
    silent = λ is. cc;
    cause = broken (l.faults a) (l.faults c) (subst (λ k. Rose k (l.faults c)) p.fine rose);
  }

  pub was_silent : (most : ℕ) (a b : L) → Tried l id asked a b most → Exchanged l id asked a b most fate.Silent
  was_silent most a b p = record {
    heard = p.heard;
    sent = λ t. (most, omega arith, refl, p.sent t);
    received = p.received;
    fared = p.passed;
    silent = λ _. p.quiet;
    cause = record { failed = λ is. cc; fine = λ _. p.fine };
  }
