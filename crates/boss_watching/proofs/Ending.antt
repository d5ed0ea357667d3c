-- Turns of a connection that watches: none yet, some more, and the end.
use Rattle.std.proofs.Common.{◌≡◌, inl, inr, ℕ, zero, suc, ◌+◌, ◌-◌, ◌^◌, ◌≤◌, ◌<◌, if◌then◌else◌, Bool, true, false, List, [], ◌∷◌, ◌++◌, refl, ap, sym, ◌∙◌, subst, append_assoc, append-nil, arith}
use Rattle.std.specs.Prelude.{nat_le}
use Rattle.std.proofs.lemmas.Bool.{cond_both}
use Rattle.std.proofs.lemmas.Bool.Decides.{nat_tests}
use Rattle.def_history.specs.declared.entry.Entry.{Entry}
use Rattle.def_history.specs.History.{deeds}
use Rattle.boss_outside_server.specs.declared.waiter.Woke.{Woke}
use Rattle.boss_outside_server.specs.declared.waiter.Woke.TheVariants.{Again, Close}
use Rattle.boss_outside_server.specs.Waits.{one_pause_more, CloseCause}
use Rattle.def_lanes.specs.Waits.{HasClosed, paused}
use Rattle.def_connection.specs.Watching.{quiet_after, quiet_in, IsAwake}
use Rattle.boss_watching.specs.declared.end.WatchEnd.{WatchEnd}
use Rattle.boss_watching.specs.declared.end.WatchEnd.TheVariants.{Idle, Closed, WriteFault, ClockFault, Stopped, DiskFault, NoMemory}
use Rattle.boss_watching.specs.Ends.{is_closed_end, IdleCause, IsCut, Lasted}
use Rattle.boss_watching.specs.Notes.{GoesOn}
use Rattle.boss_watching.specs.Turns.{pauses_in, Lasts, AddsTurn, AddsTold}

-- ---- entries one after another

quiet-append : (quiet : ℕ) (xs ys : List Entry) → quiet_in quiet (xs ++ ys) ≡ quiet_in (quiet_in quiet xs) ys
quiet-append quiet [] ys = refl
quiet-append quiet (x ∷ xs) ys = quiet-append (quiet_after quiet x) xs ys

awake-append : (idle quiet : ℕ) (xs ys : List Entry) → IsAwake idle quiet xs → IsAwake idle (quiet_in quiet xs) ys → IsAwake idle quiet (xs ++ ys)
awake-append idle quiet [] ys one other = other
awake-append idle quiet (x ∷ xs) ys one other = (one.0, awake-append idle (quiet_after quiet x) xs ys one.1 other)

paused-add : (a b pauses : ℕ) → paused (a + b) pauses ≡ paused b (paused a pauses)
paused-add zero b pauses = let same : 0 + b ≡ b = omega arith in ap (λ n. paused n pauses) same
paused-add (suc a) b pauses = let more : suc a + b ≡ suc (a + b) = omega arith in ap (λ n. paused n pauses) more ∙ ap one_pause_more (paused-add a b pauses) ∙ one-behind b (paused a pauses)
  where
    one-behind : (b p : ℕ) → one_pause_more (paused b p) ≡ paused b (one_pause_more p)
    one-behind zero p = refl
    one-behind (suc b) p = ap one_pause_more (one-behind b p)

pauses-append : (xs ys : List Entry) → pauses_in (xs ++ ys) ≡ pauses_in xs + pauses_in ys
pauses-append [] ys = omega arith
pauses-append (x ∷ xs) ys = let rest = pauses-append xs ys in omega (arith, rest)

grew-then : (old mid new xs ys : List Entry) → mid ≡ old ++ xs → new ≡ mid ++ ys → new ≡ old ++ (xs ++ ys)
grew-then old mid new xs ys one other = other ∙ ap (λ es. es ++ ys) one ∙ append_assoc old xs ys

module _ (idle : ℕ) (pausing : Type 0) where
  pub lasts-nothing : (quiet : ℕ) (old : List Entry) (pauses : ℕ) → Lasts idle quiet quiet old old pausing pauses pauses
  lasts-nothing quiet old pauses = record { more = []; grew = sym (append-nil (deeds old)); awake = tt; counted = refl; waited = λ tells. refl }

  pub lasts-then : (quiet quiet' quiet'' : ℕ) (old mid new : List Entry) (pauses pauses' pauses'' : ℕ) → Lasts idle quiet quiet' old mid pausing pauses pauses' →
      Lasts idle quiet' quiet'' mid new pausing pauses' pauses'' → Lasts idle quiet quiet'' old new pausing pauses pauses''
  lasts-then quiet quiet' quiet'' old mid new pauses pauses' pauses'' one other = record {
    more = one.more ++ other.more;
    grew = grew-then (deeds old) (deeds mid) (deeds new) one.more other.more one.grew other.grew;
    awake = awake-append idle quiet one.more other.more one.awake (subst (λ n. IsAwake idle n other.more) one.counted other.awake);
    counted = other.counted ∙ ap (λ n. quiet_in n other.more) one.counted ∙ sym (quiet-append quiet one.more other.more);
    waited = λ tells. other.waited tells ∙ ap (paused (pauses_in other.more)) (one.waited tells)
        ∙ sym (paused-add (pauses_in one.more) (pauses_in other.more) pauses) ∙ ap (λ n. paused n pauses) (sym (pauses-append one.more other.more));
  }

  -- a turn with a notice, and one without and its pause
  pub lasts-told : (quiet : ℕ) (old new : List Entry) (pauses : ℕ) → quiet < idle → AddsTurn true old new → Lasts idle quiet 0 old new pausing pauses pauses
  lasts-told quiet old new pauses less adds = record {
    more = adds.entry ∷ [];
    grew = adds.grew;
    awake = (less, tt);
    counted = rw adds.is_told refl;
    waited = λ tells. rw adds.is_told refl;
  }

  pub lasts-quiet : (quiet : ℕ) (old new : List Entry) (pauses pauses' : ℕ) → quiet < idle → AddsTurn false old new → (pausing → pauses' ≡ one_pause_more pauses) →
      Lasts idle quiet (quiet + 1) old new pausing pauses pauses'
  lasts-quiet quiet old new pauses pauses' less adds pause = record {
    more = adds.entry ∷ [];
    grew = adds.grew;
    awake = (less, tt);
    counted = rw adds.is_told refl;
    waited = λ tells. rw adds.is_told (pause tells);
  }

  lasts-same : (quiet : ℕ) (old new : List Entry) (pauses : ℕ) → deeds new ≡ deeds old → Lasts idle quiet quiet old new pausing pauses pauses
  lasts-same quiet old new pauses same = record { more = []; grew = same ∙ sym (append-nil (deeds old)); awake = tt; counted = refl; waited = λ tells. refl }

  cut-idle : (quiet : ℕ) (end : WatchEnd) → IsCut end → quiet < idle → IdleCause idle quiet end
  cut-idle quiet Idle cut less = absurd cut
  cut-idle quiet Closed cut less = absurd cut
  cut-idle quiet WriteFault cut less = less
  cut-idle quiet ClockFault cut less = less
  cut-idle quiet Stopped cut less = less
  cut-idle quiet DiskFault cut less = less
  cut-idle quiet NoMemory cut less = tt

  -- an end in the middle of a turn
  pub lasted-cut : (quiet : ℕ) (old mid new : List Entry) (pauses pauses' : ℕ) (end : WatchEnd) → Lasts idle 0 quiet old mid pausing pauses pauses' → quiet < idle → IsCut end →
      AddsTold mid new → Lasted idle old new pausing pauses pauses' end
  lasted-cut quiet old mid new pauses pauses' end lasts less cut (inl same) = record {
    quiet = quiet;
    lasts = lasts-then 0 quiet quiet old mid new pauses pauses' pauses' lasts (lasts-same quiet mid new pauses' same);
    is_idle = cut-idle quiet end cut less;
  }
  lasted-cut quiet old mid new pauses pauses' end lasts less cut (inr adds) = record {
    quiet = 0;
    lasts = lasts-then 0 quiet 0 old mid new pauses pauses' pauses' lasts (lasts-told quiet mid new pauses' less adds);
    is_idle = cut-idle 0 end cut (omega (arith, less));
  }

  -- an end behind several waits
  pub lasted-behind : (old mid new : List Entry) (pauses pauses' pauses'' : ℕ) (end : WatchEnd) → Lasts idle 0 0 old mid pausing pauses pauses' →
      Lasted idle mid new pausing pauses' pauses'' end → Lasted idle old new pausing pauses pauses'' end
  lasted-behind old mid new pauses pauses' pauses'' end one last = record {
    quiet = last.quiet;
    lasts = lasts-then 0 0 last.quiet old mid new pauses pauses' pauses'' one last.lasts;
    is_idle = last.is_idle;
  }

-- ---- where it is asked from next

pub goes-then : (from mid next : ℕ) (told : Bool) (before between now : ℕ) → GoesOn from mid false before between → GoesOn mid next told between now →
    GoesOn from next told before now
goes-then from mid next told before between now one other = record {
  first = other.first;
  within = other.within;
  rises = let a = one.rises in let b = other.rises in omega (arith, a, b);
  on = λ near. let a = one.on near in let b = other.on one.within in omega (arith, a, b);
  more = λ near some. let a = one.on near in let b = other.more one.within some in omega (arith, a, b);
}

-- at first it is asked from where it was to begin, and then from where the last turn, which had no notice, ended
abbrev pub Began : ℕ → ℕ → ℕ → ℕ → ℕ → Type 0
Began zero from next before now = (next ≡ from) × (now ≡ before)
Began (suc turns) from next before now = GoesOn from next false before now

pub began-then : (turns from mid next : ℕ) (told : Bool) (before between now : ℕ) → Began turns from mid before between → GoesOn mid next told between now →
    GoesOn from next told before now
began-then zero from mid next told before between now one other = subst (λ f. GoesOn f next told before now) one.0 (subst (λ b. GoesOn mid next told b now) one.1 other)
began-then (suc turns) from mid next told before between now one other = goes-then from mid next told before between now one other

pub began-more : (turns from mid next : ℕ) (before between now : ℕ) → Began turns from mid before between → GoesOn mid next false between now →
    Began (turns + 1) from next before now
began-more turns from mid next before between now one other = let more : suc turns ≡ turns + 1 = omega arith in subst (λ n. Began n from next before now) more (began-then turns from mid next false before between now one other)

-- what may come before the numbers end, with room for a first wait
abbrev pub to_come : ℕ → ℕ → ℕ
to_come next now = if nat_le next (now + 1) then 2 ^ 64 - next else 2 ^ 64

pub comes-less : (from next before now : ℕ) → 1 ≤ from → next < 2 ^ 64 → GoesOn from next true before now → to_come next now < to_come from before
comes-less from next before now some small on =
    let within : nat_le next (now + 1) ≡ true = grind (arith, nat_tests, on.within) in
    let later : to_come next now ≡ 2 ^ 64 - next = rw within refl in
    let first = on.first in
    cond_both (nat_le from (before + 1)) (2 ^ 64 - from) (2 ^ 64) (λ n. to_come next now < n)
    (λ near. let more = on.more (grind (arith, nat_tests)) refl in omega (arith, later, more, small))
    (λ far. omega (arith, later, first, small))

-- before its pause no turn is ended by one
pub closed-cut : (end : WatchEnd) (before now : ℕ) → IsCut end → HasClosed false before now → HasClosed (is_closed_end end) before now
closed-cut Idle before now cut stays = absurd cut
closed-cut Closed before now cut stays = absurd cut
closed-cut WriteFault before now cut stays = stays
closed-cut ClockFault before now cut stays = stays
closed-cut Stopped before now cut stays = stays
closed-cut DiskFault before now cut stays = stays
closed-cut NoMemory before now cut stays = stays

-- a pause that did not say Close leaves the count of closes as it was
pub not-closed : (woke : Woke) (before now : ℕ) → (woke ≡ Close → ⊥) → CloseCause before now woke → now ≡ before
not-closed Again before now other cause = cause
not-closed Close before now other cause = absurd (other refl)
