-- Watching goes on, and ends.
use Rattle.std.proofs.Common.{◌≡◌, ℕ, ◌≤◌, Bool, false, List, [], ◌∷◌, ◌++◌, length, map, refl, ap, sym, ◌∙◌, subst, append_assoc, Some}
use Rattle.std.proofs.lemmas.List.{append-nil, map-append}
use Rattle.boss_model.specs.declared.answer.Answer.{Answer}
use Rattle.boss_model.specs.declared.command.Command.TheVariants as command
use Rattle.def_history.specs.declared.entry.Entry.TheVariants.{Did}
use Rattle.def_history.specs.History.{deeds}
use Rattle.def_connection.specs.Talks.{Told, Standing}
use Rattle.def_connection.specs.Watching.{most_watched, next_from, watched_in, from_after, notes_in, Watches, Watched}
use Rattle.def_connection.proofs.Telling.{went-on, told-behind}

pub watched-append : (session : ℕ) (name : List ℕ) (from : ℕ) (xs ys : List (ℕ × Answer)) →
    watched_in session name from (xs ++ ys) ≡ watched_in session name from xs ++ watched_in session name (from_after from xs) ys
watched-append session name from [] ys = refl
watched-append session name from (x ∷ xs) ys = ap (λ rest. Did session (command.Notices (Some name) from most_watched) x.0 x.1 ∷ rest) (watched-append session name (next_from from x.1) xs ys)

after-append : (from : ℕ) (xs ys : List (ℕ × Answer)) → from_after from (xs ++ ys) ≡ from_after (from_after from xs) ys
after-append from [] ys = refl
after-append from (x ∷ xs) ys = after-append (next_from from x.1) xs ys

notes-append : (notes : Answer → List ℕ) (xs ys : List (ℕ × Answer)) → notes_in notes (xs ++ ys) ≡ notes_in notes xs ++ notes_in notes ys
notes-append notes [] ys = refl
notes-append notes (x ∷ xs) ys = ap (λ rest. notes x.1 ++ rest) (notes-append notes xs ys) ∙ sym (append_assoc (notes x.1) (notes_in notes xs) (notes_in notes ys))

module _ (notes : Answer → List ℕ) (session : ℕ) (name : List ℕ) (tells ticks : Type 0) where
  pub watches-nothing : (from : ℕ) (s : Standing) → Watches notes session name tells ticks from from s s
  watches-nothing from s = record {
    turns = [];
    grew = sym (append-nil (deeds s.own));
    asked = refl;
    told = λ told. sym (append-nil s.taken);
    calm = refl;
    gave = λ told. sym (append-nil s.given);
  }

  pub watches-then : (from mid next : ℕ) (a b c : Standing) → Watches notes session name tells ticks from mid a b → Watches notes session name tells ticks mid next b c →
      Watches notes session name tells ticks from next a c
  watches-then from mid next a b c one other = record {
    turns = one.turns ++ other.turns;
    grew = went-on (deeds a.own) (deeds b.own) (deeds c.own) (watched_in session name from one.turns) (watched_in session name mid other.turns) one.grew other.grew
        ∙ ap (λ list. deeds a.own ++ list) (ap (λ n. watched_in session name from one.turns ++ watched_in session name n other.turns) one.asked ∙ sym (watched-append session name from one.turns other.turns));
    asked = other.asked ∙ ap (λ n. from_after n other.turns) one.asked ∙ sym (after-append from one.turns other.turns);
    told = λ told. went-on a.taken b.taken c.taken (notes_in notes one.turns) (notes_in notes other.turns) (one.told told) (other.told told)
        ∙ ap (λ list. a.taken ++ list) (sym (notes-append notes one.turns other.turns));
    calm = other.calm ∙ one.calm;
    gave = λ told. went-on a.given b.given c.given (map (λ turn. turn.0) one.turns) (map (λ turn. turn.0) other.turns) (one.gave told) (other.gave told)
        ∙ ap (λ list. a.given ++ list) (sym (map-append (λ turn. turn.0) one.turns other.turns));
  }

  -- the last turns, of which a front was told, and a last moment that had no call
  pub watched-of : (unanswered : Bool) (from mid : ℕ) (a b c : Standing) (turns : List (ℕ × Answer)) (unused : List ℕ) → Watches notes session name tells ticks from mid a b → length unused ≤ 1 → (unanswered ≡ false → unused ≡ []) →
      deeds c.own ≡ deeds b.own ++ watched_in session name mid turns → (tells → Told b.taken c.taken b.faults c.faults (notes_in notes turns)) →
      (ticks → c.given ≡ b.given ++ (map (λ turn. turn.0) turns ++ unused)) → Watched notes session name tells ticks unanswered from a c
  watched-of unanswered from mid a b c turns unused one few used grew told gave = record {
    more = watched_in session name from (one.turns ++ turns);
    moments = map (λ turn. turn.0) (one.turns ++ turns) ++ unused;
    grew = went-on (deeds a.own) (deeds b.own) (deeds c.own) (watched_in session name from one.turns) (watched_in session name mid turns) one.grew grew
        ∙ ap (λ list. deeds a.own ++ list) (ap (λ n. watched_in session name from one.turns ++ watched_in session name n turns) one.asked ∙ sym (watched-append session name from one.turns turns));
    gave = λ told-now. went-on a.given b.given c.given (map (λ turn. turn.0) one.turns) (map (λ turn. turn.0) turns ++ unused) (one.gave told-now) (gave told-now)
        ∙ ap (λ list. a.given ++ list) (sym (append_assoc (map (λ turn. turn.0) one.turns) (map (λ turn. turn.0) turns) unused) ∙ ap (λ front. front ++ unused) (sym (map-append (λ turn. turn.0) one.turns turns)));
    noticed = record {
      turns = one.turns ++ turns;
      unused = unused;
      few = few;
      used = used;
      all_entries = refl;
      all_moments = refl;
      told = λ told-now. subst (Told a.taken c.taken a.faults c.faults) (sym (notes-append notes one.turns turns))
          (told-behind a.taken b.taken c.taken a.faults b.faults c.faults (notes_in notes one.turns) (notes_in notes turns) (one.told told-now) one.calm (told told-now));
    };
  }
