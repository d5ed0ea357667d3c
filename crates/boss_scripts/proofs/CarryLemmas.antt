-- A script that a keeper carries out: the wants of the beginning, and then its lines.
use Rattle.std.proofs.Common.{◌≡◌, ◌≢◌, ℕ, true, false, ◌||◌, Bool, List, [], ◌∷◌, ◌++◌, length, sym, ap, ◌∙◌, subst}
use Rattle.boss_model.specs.Catalogue.{Catalogue, actuators}
use Rattle.boss_model.specs.Limits.{most_lines}
use Rattle.boss_model.specs.Lines.{lines}
use Rattle.def_wire.specs.Texts.{line_of, too_long_text}
use Rattle.def_history.specs.declared.entry.Entry.{Entry}
use Rattle.def_history.specs.History.{is_broken}
use Rattle.boss_lines.specs.declared.reader.Next.{Next}
use Rattle.boss_lines.specs.declared.reader.Next.TheVariants.{TooLong}
use Rattle.boss_lines.specs.Given.{GivesLines}
use Rattle.boss_outside.specs.Counts.{Rose}
use Rattle.boss_outside.specs.Streams.{TakesFront}
use Rattle.boss_outside.proofs.Noting.{notes-same}
use Rattle.boss_shared.specs.declared.keeper.Keeper as keeper
use Rattle.boss_scripts.specs.Ends.{BrokeLines, CarriesOut, LeavesOff, TookLines}
use Rattle.boss_scripts.specs.Keepers.{BrokeOff, IsAt, Kept, Through, ThroughInTime, Went}
use Rattle.boss_scripts.specs.InTime.{AreInTimeFrom}
use Rattle.boss_scripts.specs.Outside.{Outside, Trace}
use Rattle.boss_scripts.specs.Runs.{after, Did, lines_taken, served, stop, Under}
use Rattle.boss_scripts.specs.Scripts.{RanScript}
use Rattle.boss_scripts.proofs.EndLemmas.{ended-behind}
use Rattle.boss_scripts.proofs.Fronts.{lines-cover}
use Rattle.boss_scripts.proofs.Going.{breaks-then, through-then}
use Rattle.boss_scripts.proofs.InputLemmas.{some-long}
use Rattle.boss_scripts.proofs.Keeping.{is-after, is-running, kept-nothing, kept-then, running}
use Rattle.boss_scripts.proofs.LineLemmas.{is-long}
use Rattle.boss_scripts.proofs.RunLemmas.{broke-then, broke-under, did-then, did-under}
use Rattle.boss_scripts.proofs.ScriptLemmas.{broke-over, broke-whole, nothing, opened, ran-over, ran-whole, ReadsInTime}
use Rattle.boss_scripts.proofs.TimeLemmas.{in-time-before, whole-in-time}

module _ {V : Type 0} (v : keeper.Ghosts V) (catalogue : Catalogue) {k : V} (same : v.plant k ≡ actuators catalogue) (off : v.stopped k ≡ false) where
  -- the mark is there exactly where the disk failed, and then its count rose
  marks : {now : V} {entries : List Entry} → Kept v k now entries → v.stopped now ≡ is_broken entries
  marks {now} {entries} kept = kept.marked ∙ ap (λ b. b || is_broken entries) off

  rises : {now : V} {entries : List Entry} → Kept v k now entries → is_broken entries ≡ true → Rose (v.faults k) (v.faults now)
  rises kept on = kept.rose off (marks kept ∙ on)

  pub leaves-nothing : (old : Outside) → LeavesOff v catalogue k k old old
  leaves-nothing old = record {
    entries = [];
    kept = kept-nothing v k;
    stopped = marks (kept-nothing v k);
    disk_fault = rises (kept-nothing v k);
    broke = λ _ _. nothing catalogue (v.state k) (lines old.left) old;
  }

  -- the wants of the beginning broke off; nothing was read
  pub leaves-opening : {now : V} (old new : Outside) → new.reads ≡ old.reads → BrokeOff v (actuators catalogue) (served catalogue 0) k now old.sink_tells old.trace new.trace → LeavesOff v catalogue k now old new
  unfolding broke-under
  leaves-opening old new unread broke = record {
    entries = broke.entries;
    kept = broke.kept;
    stopped = marks broke.kept;
    disk_fault = rises broke.kept;
    broke = λ _ tells.
        broke-whole catalogue (v.state k) (lines old.left) old new
        (broke-under (lines_taken catalogue (lines old.left)) (lines-cover catalogue (lines old.left)) (broke.broke tells (running v k) (is-running v k off)))
        (notes-same _ old.reads new.reads unread);
  }

  module _ {mid : V} (old : Outside) (between : Trace) (went : Went v (actuators catalogue) (served catalogue 0) stop k mid old.sink_tells old.trace between) where
    abbrev opens : (all : List (List ℕ)) → old.sink_tells → Through v (actuators catalogue) (opened catalogue all) (lines_taken catalogue all) k went.entries old.trace between
    opens all tells start is = did-under (lines_taken catalogue all) (went.did tells start is)

    -- how far the wants of the beginning led
    abbrev behind : Under
    behind = after (actuators catalogue) went.entries (running v k)

    abbrev there : IsAt v mid behind
    there = is-after v k mid went.entries went.kept (actuators catalogue) (running v k) same (is-running v k off)

    -- the source was read in time, if it was read so behind them
    in-time : (tells : old.sink_tells) {now : V} (new : Outside) (second : List Entry) → Kept v mid now second → (results : List Bool) →
        AreInTimeFrom catalogue behind second results old.left (length between.taken) old.reads new.reads →
        ReadsInTime catalogue (v.state k) (went.entries ++ second) old new ((went.did tells (running v k) (is-running v k off)).results ++ results)
    in-time tells new second kept results reads =
        whole-in-time catalogue (v.state k) old.left (went.did tells (running v k) (is-running v k off)) second results old.reads new.reads (λ on. kept.none (there.stopped ∙ on)) reads

    module _ {now : V} (new : Outside) where
      -- the lines broke off
      pub leaves-lines : BrokeLines v catalogue mid now old.source_tells old.left old.reads new.reads old.sink_tells between new.trace → LeavesOff v catalogue k now old new
      unfolding breaks-then broke-then did-under
      leaves-lines broke =
          let kept : Kept v k now (went.entries ++ broke.entries) = kept-then v k mid now went.entries broke.entries went.kept broke.kept in
          record {
            entries = went.entries ++ broke.entries;
            kept = kept;
            stopped = marks kept;
            disk_fault = rises kept;
            broke = λ left tells.
                let so = broke.broke left tells in
                broke-whole catalogue (v.state k) (lines old.left) old new
                (breaks-then v same went.kept broke.kept (opens (lines old.left) tells) (λ start is. (so start is).0) (running v k) (is-running v k off))
                (in-time tells new broke.entries broke.kept (so behind there).0.results (so behind there).1);
          }

      module _ (end : Next) (took : TookLines v catalogue mid now old.source_tells old.left new.left old.reads new.reads old.sink_tells between new.trace end) where
        abbrev entries : List Entry
        entries = went.entries ++ took.entries

        all-kept : Kept v k now entries
        all-kept = kept-then v k mid now went.entries took.entries went.kept took.kept

        -- they came to an end that is no line that is too long
        pub carries-out : end ≢ TooLong → CarriesOut v catalogue k now old new end
        unfolding through-then did-then did-under
        carries-out other = record {
          entries = entries;
          kept = all-kept;
          stopped = marks all-kept;
          disk_fault = rises all-kept;
          ended = λ left.
              let so = took.taken left in
              ended-behind (λ all is_over. RanScript catalogue (v.state k) all is_over entries old new) old new so.0 end other so.1 so.2
              (λ tells. ran-whole catalogue (v.state k) so.0 old new
              (through-then v same went.kept took.kept (opens so.0 tells) (λ start is. (so.3 tells start is).0) (running v k) (is-running v k off))
              (in-time tells new took.entries took.kept (so.3 tells behind there).0.results (so.3 tells behind there).1));
        }

        module _ (is : end ≡ TooLong) (told : List ℕ) (faults : ℕ) where
          abbrev last : Outside
          last = record new { write_faults = faults; trace = record new.trace { taken = told } }

          abbrev gives : (left : old.source_tells) → GivesLines most_lines old.left new.left (took.taken left).0 TooLong
          gives left = subst (GivesLines most_lines old.left new.left (took.taken left).0) is (took.taken left).1

          up-to : (left : old.source_tells) → old.sink_tells →
              (did : Did (actuators catalogue) (opened catalogue (lines old.left)) (lines_taken catalogue ((gives left).gives.0.0 ∷ (gives left).gives.0.1)) (running v k) entries old.trace new.trace)
              × ReadsInTime catalogue (v.state k) entries old new did.results
          unfolding through-then did-then did-under
          up-to left tells =
              let so = took.taken left in
              let breaks = (gives left).gives.0 in
              let lead : ThroughInTime v catalogue old.left old.reads new.reads (lines_taken catalogue (lines old.left)) (lines_taken catalogue (breaks.0 ∷ breaks.1)) mid took.entries between new.trace =
              subst (λ ls. ThroughInTime v catalogue old.left old.reads new.reads (lines_taken catalogue ls) (lines_taken catalogue (breaks.0 ∷ breaks.1)) mid took.entries between new.trace) (sym breaks.2)
              (in-time-before v catalogue old.left so.0 old.reads new.reads (went.kept.same_plant ∙ same) took.kept (so.3 tells) (breaks.0 ∷ breaks.1)) in (
                through-then v same went.kept took.kept (opens (lines old.left) tells) (λ start is. (lead start is).0) (running v k) (is-running v k off),
                in-time tells new took.entries took.kept (lead behind there).0.results (lead behind there).1,
              )

          -- a line that is too long was told
          pub carries-over : (old.sink_tells → told ≡ new.trace.taken ++ line_of too_long_text) → CarriesOut v catalogue k now old last TooLong
          carries-over tells = record {
            entries = entries;
            kept = all-kept;
            stopped = marks all-kept;
            disk_fault = rises all-kept;
            ended = λ left.
                let so = took.taken left in
                let breaks = (gives left).gives.0 in (
                  (gives left).read,
                  (gives left).split,
                  some-long (lines (gives left).read) so.0 (gives left).gives.1,
                  some-long (lines old.left) so.0 breaks,
                  λ tell. ran-over catalogue (v.state k) (lines old.left) old new breaks.0 breaks.1 (up-to left tell).0 (up-to left tell).1 told faults (is-long breaks.0 breaks.3) (tells tell),
                );
          }

          -- or it was told in part
          pub leaves-over : (old.sink_tells → TakesFront new.trace.taken told (line_of too_long_text)) → LeavesOff v catalogue k now old last
          leaves-over takes = record {
            entries = entries;
            kept = all-kept;
            stopped = marks all-kept;
            disk_fault = rises all-kept;
            broke = λ left tell.
                let breaks = (gives left).gives.0 in
                broke-over catalogue (v.state k) (lines old.left) old new breaks.0 breaks.1 (up-to left tell).0 (up-to left tell).1 told faults (is-long breaks.0 breaks.3) (takes tell);
          }
