-- How far the events of a record were told.
use Rattle.std.proofs.Common.{◌≡◌, ℕ, ◌+◌, ◌<◌, ◌≤◌, true, List, [], ◌∷◌, ◌++◌, length, drop, refl, sym, ap, subst, ◌∙◌, arith, Option, Some, None, length-drop}
use Rattle.std.proofs.lemmas.List.{drop-drop, drop_at, drop_all}
use Rattle.boss_feeding.specs.Lines.{lines_text}
use Rattle.boss_feeding.specs.Telling.{AreSpelled}
use Rattle.boss_feeding.proofs.Items.{lines_of_events}
use Rattle.boss_feeding.proofs.Writing.{SoFar, none_yet, some_more, all_told, front_told}
use Rattle.boss_model.specs.declared.event.Event.{Event}
use Rattle.boss_opening.proofs.Splits.{batch_long}
use Rattle.boss_outside.specs.Streams.{TakesFront}
use Rattle.def_bytes.specs.Batches.{batch_text}
use Rattle.def_bytes.specs.Events.{event}
use Rattle.def_feed.specs.Feeds.{event_items}

pub size_is : (m n : ℕ) (found : Option ℕ) → found ≡ Some m → found ≡ Some n → m ≡ n
size_is m n found one other = let same : ◌≡◌ {A = Option ℕ} (Some m) (Some n) = sym one ∙ other in cc

pub not_none : (n : ℕ) (found : Option ℕ) → found ≡ None → found ≡ Some n → ⊥
not_none n found none some = let clash : ◌≡◌ {A = Option ℕ} None (Some n) = sym none ∙ some in absurd cc

module _ (before : ℕ) (batch : List Event) (bytes : List ℕ) where
  -- from a place on these events are left, and so many were before them
  pub record Left (place number : ℕ) : Type 0 where
    pub left : List Event
    pub spelled_so : AreSpelled left
    pub behind : drop place bytes ≡ batch_text left
    pub count : number + length left ≡ before + length batch

  pub all_left : AreSpelled batch → bytes ≡ batch_text batch → Left 0 before
  all_left spelled is = record { left = batch; spelled_so = spelled; behind = is; count = refl }

  -- the first of them
  pub record Next (place number : ℕ) (l : Left place number) : Type 0 where
    pub e : Event
    pub more : List Event
    pub are : l.left ≡ e ∷ more
    pub fits : event.fits e ≡ true
    pub spelled_so : AreSpelled more
    pub text : drop place bytes ≡ event.text e ++ batch_text more

  next_of : (place number : ℕ) (l : Left place number) (left : List Event) → l.left ≡ left → AreSpelled left → drop place bytes ≡ batch_text left → place < length bytes → Next place number l
  next_of place number l [] are spelled is inside = absurd (omega (arith, inside, length-drop place bytes, ap length is))
  next_of place number l (e ∷ more) are spelled is inside = record { e = e; more = more; are = are; fits = spelled.0; spelled_so = spelled.1; text = is }

  pub next_left : (place number : ℕ) (l : Left place number) → place < length bytes → Next place number l
  next_left place number l inside = next_of place number l l.left refl l.spelled_so l.behind inside

  pub step_left : (place number : ℕ) (l : Left place number) (n : Next place number l) (size : ℕ) → size ≡ length (event.text n.e) → Left (place + size) (number + 1)
  step_left place number l n size is = record {
    left = n.more;
    spelled_so = n.spelled_so;
    behind = sym (drop-drop size place bytes) ∙ ap (drop size) n.text ∙ drop_at (event.text n.e) (batch_text n.more) size (sym is);
    count = let count = l.count in let long = ap length n.are in omega (arith, count, long);
  }

  pub none_left : (place number : ℕ) (l : Left place number) → length bytes ≤ place → number ≡ before + length batch
  none_left place number l end =
      let nothing : [] ≡ batch_text l.left = sym (drop_all place bytes end) ∙ l.behind in
      let long = batch_long l.left in
      let count = l.count in
      omega (arith, ap length nothing, long, count)

  no_more : (left : List Event) → [] ≡ batch_text left → left ≡ []
  no_more [] is = refl
  no_more (e ∷ left) is = let long = batch_long (e ∷ left) in absurd (omega (arith, ap length is, long))

  pub nothing_left : (place number : ℕ) (l : Left place number) → length bytes ≤ place → l.left ≡ []
  nothing_left place number l end = no_more l.left (sym (drop_all place bytes end) ∙ l.behind)

  -- ---- what was told of them

  module _ (from : ℕ) where
    abbrev pub all_lines : List ℕ
    all_lines = lines_text (event_items from (before + 1) batch)

    pub record Told (old now : List ℕ) (place number : ℕ) : Type 0 where
      pub at : Left place number
      pub so : SoFar old now all_lines (lines_text (event_items from (number + 1) at.left))

    pub nothing_yet : (old : List ℕ) → AreSpelled batch → bytes ≡ batch_text batch → Told old old 0 before
    unfolding all_left
    nothing_yet old spelled is = record { at = all_left spelled is; so = none_yet old all_lines }

    first_lines : (place number : ℕ) (l : Left place number) (n : Next place number l) →
        lines_text (event_items from (number + 1) l.left) ≡ lines_text (event_items from (number + 1) (n.e ∷ [])) ++ lines_text (event_items from ((number + 1) + 1) n.more)
    first_lines place number l n = ap (λ es. lines_text (event_items from (number + 1) es)) n.are ∙ lines_of_events from (number + 1) (n.e ∷ []) n.more

    pub one_told : (old now new : List ℕ) (place number size : ℕ) (t : Told old now place number) (n : Next place number t.at) → size ≡ length (event.text n.e) →
        new ≡ now ++ lines_text (event_items from (number + 1) (n.e ∷ [])) → Told old new (place + size) (number + 1)
    unfolding step_left
    one_told old now new place number size t n is told = record {
      at = step_left place number t.at n size is;
      so = some_more old now new all_lines (lines_text (event_items from (number + 1) (n.e ∷ []))) (lines_text (event_items from ((number + 1) + 1) n.more))
          (subst (SoFar old now all_lines) (first_lines place number t.at n) t.so) told;
    }

    pub one_broken : (old now new : List ℕ) (place number : ℕ) (t : Told old now place number) (n : Next place number t.at) →
        TakesFront now new (lines_text (event_items from (number + 1) (n.e ∷ []))) → TakesFront old new all_lines
    one_broken old now new place number t n front =
        front_told old now new all_lines (lines_text (event_items from (number + 1) (n.e ∷ []))) (lines_text (event_items from ((number + 1) + 1) n.more))
        (subst (SoFar old now all_lines) (first_lines place number t.at n) t.so) front

    pub told_all : (old now : List ℕ) (place number : ℕ) → Told old now place number → length bytes ≤ place → now ≡ old ++ all_lines
    told_all old now place number t end =
        all_told old now all_lines (subst (λ es. SoFar old now all_lines (lines_text (event_items from (number + 1) es))) (nothing_left place number t.at end) t.so)
