-- How far the events of a log were told.
use Rattle.std.proofs.Common.{◌≡◌, ℕ, ◌+◌, List, [], ◌++◌, length, sym, ap, subst, ◌∙◌, arith}
use Rattle.boss_feeding.specs.Held.{HasLog}
use Rattle.boss_feeding.specs.Lines.{lines_text}
use Rattle.boss_feeding.specs.Nexts.{TellsSome}
use Rattle.boss_feeding.proofs.Items.{lines_of_events}
use Rattle.boss_feeding.proofs.FirstRecords.{IsFirst}
use Rattle.boss_feeding.proofs.Writing.{SoFar, none_yet, some_more, all_told, left_told, part_told}
use Rattle.boss_model.specs.declared.event.Event.{Event}
use Rattle.boss_outside.specs.Streams.{TakesFront}
use Rattle.def_feed.specs.Feeds.{event_items}

-- ---- the next record

module _ (gate : ℕ) (events : List Event) (bytes : List ℕ) (place : ℕ) (found : List ℕ) (first : IsFirst gate events bytes place found) (from number : ℕ) (old new : List ℕ) where
  pub some_told : (more : ℕ) → more ≡ number + length first.some → new ≡ old ++ lines_text (event_items from (number + 1) first.some) →
      TellsSome from number events bytes old new place more
  some_told more many told = record {
    some = first.some;
    left = first.left;
    are = first.are;
    log = first.log;
    many = many;
    told = told;
  }

  pub some_broken : TakesFront old new (lines_text (event_items from (number + 1) first.some)) → TakesFront old new (lines_text (event_items from (number + 1) events))
  some_broken front =
      let parts : lines_text (event_items from (number + 1) events) ≡ lines_text (event_items from (number + 1) first.some) ++ lines_text (event_items from ((number + 1) + length first.some) first.left) =
      ap (λ es. lines_text (event_items from (number + 1) es)) first.are ∙ lines_of_events from (number + 1) first.some first.left in
      subst (TakesFront old new) (sym parts)
      (part_told old new (lines_text (event_items from (number + 1) first.some)) (lines_text (event_items from ((number + 1) + length first.some) first.left)) front)

-- ---- record by record

module _ (from before : ℕ) (events : List Event) (bytes old : List ℕ) where
  abbrev pub all_lines : List ℕ
  all_lines = lines_text (event_items from (before + 1) events)

  -- these events stand behind the place, and so many were before them
  pub record LeftToTell (now : List ℕ) (place number : ℕ) : Type 0 where
    pub left : List Event
    pub log : HasLog place left bytes
    pub so : SoFar old now all_lines (lines_text (event_items from (number + 1) left))

  pub none_told : (place : ℕ) → HasLog place events bytes → LeftToTell old place before
  none_told place log = record { left = events; log = log; so = none_yet old all_lines }

  pub record_told : (now new : List ℕ) (place after number more : ℕ) (l : LeftToTell now place number) → TellsSome from number l.left bytes now new after more →
      LeftToTell new after more
  record_told now new place after number more l told =
      let on : (number + 1) + length told.some ≡ more + 1 = let many = told.many in omega (arith, many) in
      let parts : lines_text (event_items from (number + 1) l.left) ≡ lines_text (event_items from (number + 1) told.some) ++ lines_text (event_items from (more + 1) told.left) =
      ap (λ es. lines_text (event_items from (number + 1) es)) told.are ∙ lines_of_events from (number + 1) told.some told.left
      ∙ ap (λ n. lines_text (event_items from (number + 1) told.some) ++ lines_text (event_items from n told.left)) on in
      record {
        left = told.left;
        log = told.log;
        so = some_more old now new all_lines (lines_text (event_items from (number + 1) told.some)) (lines_text (event_items from (more + 1) told.left))
            (subst (SoFar old now all_lines) parts l.so) told.told;
      }

  pub log_told : (now : List ℕ) (place number : ℕ) (l : LeftToTell now place number) → l.left ≡ [] → now ≡ old ++ all_lines
  log_told now place number l none =
      all_told old now all_lines (subst (λ es. SoFar old now all_lines (lines_text (event_items from (number + 1) es))) none l.so)

  pub log_broken : (now new : List ℕ) (place number : ℕ) (l : LeftToTell now place number) → TakesFront now new (lines_text (event_items from (number + 1) l.left)) →
      TakesFront old new all_lines
  log_broken now new place number l front = left_told old now new all_lines (lines_text (event_items from (number + 1) l.left)) l.so front
