use Rattle.std.proofs.Common.{◌≡◌, ◌++◌, ◌+◌, [], ◌∷◌, inl, length, sym, ap, subst, ◌∙◌, refl, arith}
use Rattle.std.proofs.lemmas.List.{length-append}
use Rattle.boss_lines.specs.Lines.{NextCause}
use Rattle.boss_lines.proofs.LinesLemmas.{no-fault, none-left}
use Rattle.boss_lines.proofs.TakenLemmas.{gives-lines, still-going, Taken, taken-line, taken-nothing}
use Rattle.boss_model.specs.Lines.{lines}
use Rattle.boss_scripts.specs.InTime.{AreInTimeFrom}
use Rattle.boss_scripts.specs.Outside.{trace}
use Rattle.boss_scripts.specs.Runs.{lines_taken, stop}
use Rattle.boss_scripts.specs.Keepers.{BreaksInTime, ThroughInTime}
use Rattle.boss_scripts.proofs.InputLemmas.{none-long}
use Rattle.boss_scripts.proofs.Keeping.{kept-nothing, kept-sound, kept-then}
use Rattle.boss_scripts.proofs.Results.{on-err}
use Rattle.boss_scripts.proofs.RunLemmas.{did-nothing, did-tell, did-told}
use Rattle.boss_scripts.proofs.TimeLemmas.{next-in-time, none-read, one-more-in-time, through-reads}
use Rattle.boss_scripts.proofs.script.take_lines.Goals as goal

pub loop-init : goal.loop-init
unfolding did-nothing did-tell did-told
loop-init g c = record {
  going = inl c.requires.fresh;
  over = λ left is. let none = c.requires.fresh in absurd cc;
  shown = c.show.ensures.told;
  under = refl;
  room = refl;
  len = refl;
  write = refl;
  read = c.show.ensures.faults;
  taken = (
    [],
    kept-nothing g.V.Keeper c.args.keeper.now,
    λ left. (
      [],
      subst (λ rest. Taken (c.args.reader.now.ahead ++ g.S.Source.left c.args.source.now) [] (c.args.reader.now.ahead ++ rest) c.args.reader.now.stopped) (sym c.show.ensures.left)
          (taken-nothing (c.args.reader.now.ahead ++ g.S.Source.left c.args.source.now) c.args.reader.now.stopped),
      refl,
      refl,
      λ tells start _. (
        did-nothing stop start (trace g.K.Sink g.A.Actuators c.args.sink.now c.args.devices.now.items),
        subst (AreInTimeFrom c.args.catalogue.now start [] [] (c.args.reader.now.ahead ++ g.S.Source.left c.args.source.now) (length (g.K.Sink.taken c.args.sink.now)) (g.S.Source.reads c.args.source.now))
            (sym c.show.ensures.reads) (none-read c.args.catalogue.now _ _ start [] [] (g.S.Source.reads c.args.source.now)),
      ),
    ),
  );
}

pub take_line-requires-clause-plant : goal.take_line-requires-clause-plant
take_line-requires-clause-plant g c = c.loop.invariant.taken.1.same_plant ∙ c.requires.plant

pub take_line-requires-clause-sound : goal.take_line-requires-clause-sound
take_line-requires-clause-sound g c = kept-sound g.V.Keeper _ _ _ c.loop.invariant.taken.1 c.requires.sound

pub loop-preserved : goal.loop-preserved
loop-preserved g c =
    let inv = c.loop.invariant in
    let did = c.in_ok-take_line-in-Line.ensures.did in
    let line : c.next.new.self.line ≡ c.line.result.now = sym c.line.ensures.value in
    record {
      going = c.in-Line.ensures.stops;
      over = λ left is.
          c.show-in-Line.ensures.left ∙ none-left (c.loop.reader.ahead ++ g.S.Source.left c.loop.source) c.next.new.self.ahead (g.S.Source.left c.next.new.source) c.next.new.self.line c.next.new.self.stopped
          (c.next.ensures.ends left c.in-Line.is) is;
      shown = c.show-in-Line.ensures.told;
      under = c.take_line.ensures.under ∙ inv.under;
      room = c.take_line.ensures.room ∙ inv.room;
      len = c.take_line.ensures.len ∙ inv.len;
      write = c.in_ok-take_line-in-Line.ensures.write ∙ inv.write;
      read = c.show-in-Line.ensures.faults ∙ c.in-Line.ensures.cause (no-fault c.loop.reader.stopped inv.going) ∙ inv.read;
      taken = (
        inv.taken.0 ++ did.entries,
        kept-then g.V.Keeper _ _ _ _ _ inv.taken.1 did.kept,
        λ left.
            let so = inv.taken.2 left in (
              so.0 ++ c.next.new.self.line ∷ [],
              subst (λ rest. Taken (c.args.reader.now.ahead ++ g.S.Source.left c.args.source.now) (so.0 ++ c.next.new.self.line ∷ []) (c.next.new.self.ahead ++ rest) c.next.new.self.stopped)
                  (sym c.show-in-Line.ensures.left)
                  (taken-line _ _ _ _ _ _ _ so.1
                  (still-going _ _ c.loop.reader.stopped c.next.result inv.going c.next.ensures.stays (λ over. let is = c.in-Line.is in absurd cc))
                  (c.in-Line.ensures.bytes left (inv.over left)).0 (c.next.ensures.ends left c.in-Line.is)),
              length-append so.0 (c.next.new.self.line ∷ []) ∙ ap (λ n. n + 1) so.2,
              none-long so.0 c.next.new.self.line so.3 c.line.ensures.within,
              λ tells.
                  subst (λ reads. ThroughInTime g.V.Keeper c.args.catalogue.now (c.args.reader.now.ahead ++ g.S.Source.left c.args.source.now) (g.S.Source.reads c.args.source.now) reads
                  (lines_taken c.args.catalogue.now (so.0 ++ c.next.new.self.line ∷ [])) stop c.args.keeper.now (inv.taken.0 ++ did.entries)
                  (trace g.K.Sink g.A.Actuators c.args.sink.now c.args.devices.now.items) (trace g.K.Sink g.A.Actuators c.take_line.new.sink c.take_line.new.devices.items))
                  (sym c.show-in-Line.ensures.reads)
                  (one-more-in-time g.V.Keeper c.args.catalogue.now _ so.0 _ _ c.requires.plant inv.taken.1
                  (through-reads g.V.Keeper c.args.catalogue.now _ so.0 _ _ c.requires.plant inv.taken.1 (so.4 tells) _ _ c.loop.reader.stopped _ (g.S.Source.reads c.next.new.source) so.1
                  (λ answer stays. ap g.S.Source.reads stays.1) c.next.ensures.stays (inv.shown tells) (c.next.ensures.reads left))
                  c.next.new.self.line did.kept (rw line (did.did tells))),
            ),
      );
    }

pub returns-in_err-take_line-in-Line-clause-broke : goal.returns-in_err-take_line-in-Line-clause-broke
returns-in_err-take_line-in-Line-clause-broke g c =
    let inv = c.loop.invariant in
    let broke = c.in_err-take_line-in-Line.ensures.broke in
    let line : c.next.new.self.line ≡ c.line.result.now = sym c.line.ensures.value in
    on-err c.from_residual.result _ (record {
      entries = inv.taken.0 ++ broke.entries;
      kept = kept-then g.V.Keeper _ _ _ _ _ inv.taken.1 broke.kept;
      broke = λ left tells.
          let so = inv.taken.2 left in
          let next = (c.in-Line.ensures.bytes left (inv.over left)).0 in
          subst (λ all. BreaksInTime g.V.Keeper c.args.catalogue.now (c.args.reader.now.ahead ++ g.S.Source.left c.args.source.now) (g.S.Source.reads c.args.source.now) (g.S.Source.reads c.next.new.source)
          (lines_taken c.args.catalogue.now all) c.args.keeper.now (inv.taken.0 ++ broke.entries)
          (trace g.K.Sink g.A.Actuators c.args.sink.now c.args.devices.now.items) (trace g.K.Sink g.A.Actuators c.take_line.new.sink c.take_line.new.devices.items)) (sym (so.1.all ∙ ap (λ ls. so.0 ++ ls) next))
          (next-in-time g.V.Keeper c.args.catalogue.now _ so.0 _ _ c.requires.plant inv.taken.1
          (through-reads g.V.Keeper c.args.catalogue.now _ so.0 _ _ c.requires.plant inv.taken.1 (so.4 tells) _ _ c.loop.reader.stopped _ (g.S.Source.reads c.next.new.source) so.1
          (λ answer stays. ap g.S.Source.reads stays.1) c.next.ensures.stays (inv.shown tells) (c.next.ensures.reads left))
          c.next.new.self.line broke.kept (lines (c.next.new.self.ahead ++ g.S.Source.left c.next.new.source)) (rw line (broke.broke tells)));
    })

pub returns-in_default : goal.returns-in_default
returns-in_default g c =
    let inv = c.loop.invariant in
    record {
      under = inv.under;
      took = record {
        entries = inv.taken.0;
        kept = inv.taken.1;
        taken = λ left.
            let so = inv.taken.2 left in (
              so.0,
              gives-lines _ _ _ _ _ _ _ _ c.next.result so.1 (still-going _ _ c.loop.reader.stopped c.next.result inv.going c.next.ensures.stays)
                  (c.next.ensures.bytes left (inv.over left)) c.next.ensures.leaves (λ is. absurd (c.in_default.not-Line is)),
              so.3,
              λ tells.
                  through-reads g.V.Keeper c.args.catalogue.now _ so.0 _ _ c.requires.plant inv.taken.1 (so.4 tells) _ _ c.loop.reader.stopped _ (g.S.Source.reads c.next.new.source) so.1
                  (λ answer stays. ap g.S.Source.reads stays.1) c.next.ensures.stays (inv.shown tells) (c.next.ensures.reads left),
            );
      };
      broke = tt;
      write = inv.write;
      read = subst (λ before. NextCause before (g.S.Source.faults c.next.new.source) c.next.result) inv.read (c.next.ensures.cause (no-fault c.loop.reader.stopped inv.going));
    }

pub returns-clause-took : goal.returns-clause-took
returns-clause-took g c =
    let inv = c.loop.invariant in
    record {
      entries = inv.taken.0;
      kept = inv.taken.1;
      taken = λ left.
          let so = inv.taken.2 left in (
            so.0,
            gives-lines _ _ _ _ _ _ _ _ c.next-2.result so.1 (still-going _ _ c.loop.reader.stopped c.next-2.result inv.going c.next-2.ensures.stays)
                (c.next-2.ensures.bytes left (inv.over left)) c.next-2.ensures.leaves
                (λ is. (omega (arith, so.2, c.loop.auto.counter-end, c.loop-test.false), (c.next-2.new.self.stopped, c.next-2.ensures.ends left is))),
            so.3,
            λ tells.
                through-reads g.V.Keeper c.args.catalogue.now _ so.0 _ _ c.requires.plant inv.taken.1 (so.4 tells) _ _ c.loop.reader.stopped _ (g.S.Source.reads c.next-2.new.source) so.1
                (λ answer stays. ap g.S.Source.reads stays.1) c.next-2.ensures.stays (inv.shown tells) (c.next-2.ensures.reads left),
          );
    }

pub returns-clause-read : goal.returns-clause-read
returns-clause-read g c =
    let inv = c.loop.invariant in
    subst (λ before. NextCause before (g.S.Source.faults c.next-2.new.source) c.next-2.result) inv.read (c.next-2.ensures.cause (no-fault c.loop.reader.stopped inv.going))
