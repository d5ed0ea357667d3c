use Rattle.std.proofs.Common.{◌≡◌, ◌++◌, ◌+◌, ℕ, List, [], ◌∷◌, inl, refl, sym, ap, subst, ◌∙◌, arith}
use Rattle.std.proofs.lemmas.List.{length-append}
use Rattle.boss_disk_pair.specs.Causes.{counts_of}
use Rattle.boss_lines.specs.Lines.{NextCause}
use Rattle.boss_lines.proofs.LinesLemmas.{no-fault, none-left}
use Rattle.boss_lines.proofs.TakenLemmas.{gives-lines, still-going, taken-line, taken-nothing, Taken}
use Rattle.boss_model.specs.declared.state.Actuator.{Actuator}
use Rattle.boss_model.specs.Limits.{most_lines}
use Rattle.boss_model.specs.Lines.{lines}
use Rattle.boss_following.specs.Ends.{DiskCause, ended_at, has_failed, LastsAfterSome, ReadCause, start_of, stopped_at, was_stopped}
use Rattle.boss_following.specs.Moves.{MayLast}
use Rattle.boss_following.specs.Places.{place_of, spot}
use Rattle.boss_following.specs.Steps.{IsStepOf, Made}
use Rattle.boss_following.proofs.Ending.{disk-ended, going-ended, read-ended}
use Rattle.boss_following.proofs.Feeding.{fed-to-end, fed-to-line}
use Rattle.boss_following.proofs.Lines.{Reaches, reaches-next, reaches-nothing}
use Rattle.boss_following.proofs.Running.{runs-next, runs-nothing, spot-start}
use Rattle.boss_following.proofs.feed.follow_lines.Goals as goal

pub loop-line-init : goal.loop-line-init
loop-line-init g c =
    let durable = c.args.durable.now in
    let start = start_of durable in
    let here = spot-start durable c.args.following.now c.requires.place in
    record {
      going = inl (ap (λ r. r.stopped) c.requires.fresh);
      over = λ tells is. let none = ap (λ r. r.stopped) c.requires.fresh in absurd cc;
      reads = refl;
      disks = refl;
      fine = c.requires.going;
      same_plant = refl;
      limit = refl;
      digest = refl;
      keeps_on = λ before held. (before, held);
      taken = λ tells. (
        [],
        subst (λ (ahead : List ℕ). Taken (g.S.Source.left c.args.source.now) [] (ahead ++ g.S.Source.left c.args.source.now) c.args.lines.now.stopped)
            (sym (ap (λ r. r.ahead) c.requires.fresh)) (taken-nothing (g.S.Source.left c.args.source.now) c.args.lines.now.stopped),
        refl,
        subst (Reaches durable.engine.plant start []) (sym here) (reaches-nothing durable.engine.plant start),
        λ told before held. runs-nothing (LastsAfterSome durable.engine.plant start []) durable before told held (start, ([], [], refl, refl), refl),
      );
    }

pub loop-line-preserved : goal.loop-line-preserved
loop-line-preserved g c =
    let inv = c.loop-line.invariant in
    let old = c.args.durable.now in
    let mid = c.loop-line.durable in
    let new = c.take_line-taken.new.durable in
    let from = c.loop-line.following in
    let to = c.take_line-taken.new.self in
    let line = c.next.new.self.line in
    let step = c.in_default-taken.ensures.0 in
    let steps = c.in_default-taken.ensures.2 in
    let told : IsStepOf (spot mid from) line step = subst (λ (l : List ℕ). IsStepOf (spot mid from) l step) c.line.ensures.value c.in_default-taken.ensures.1 in
    let made : Made old.engine.plant (spot mid from) step (spot new to) = subst (λ (p : List Actuator). Made p (spot mid from) step (spot new to)) inv.same_plant steps.moves in
    record {
      going = c.in-Line.ensures.stops;
      over = λ tells is.
          none-left (c.loop-line.lines.ahead ++ g.S.Source.left c.loop-line.source) c.next.new.self.ahead (g.S.Source.left c.next.new.source) line c.next.new.self.stopped
          (c.next.ensures.ends tells c.in-Line.is) is;
      reads = c.in-Line.ensures.cause (no-fault c.loop-line.lines.stopped inv.going) ∙ inv.reads;
      disks = steps.cause ∙ inv.disks;
      fine = steps.stops;
      same_plant = steps.same_plant ∙ inv.same_plant;
      limit = steps.limit ∙ inv.limit;
      digest = steps.digest ∙ inv.digest;
      keeps_on = λ before held. let kept = inv.keeps_on before held in steps.keeps_on kept.0 kept.1 refl;
      taken = λ tells.
          let so = inv.taken tells in (
            so.0 ++ line ∷ [],
            taken-line _ _ _ _ _ _ _ so.1
                (still-going _ _ c.loop-line.lines.stopped c.next.result inv.going c.next.ensures.stays (λ over. let is = c.in-Line.is in absurd cc))
                (c.in-Line.ensures.bytes tells (inv.over tells)).0 (c.next.ensures.ends tells c.in-Line.is),
            length-append so.0 (line ∷ []) ∙ ap (λ n. n + 1) so.2,
            reaches-next old.engine.plant (start_of old) so.0 (spot mid from) so.3 line step (spot new to) c.line.ensures.within told made,
            λ tell before held.
                let kept = inv.keeps_on before held in
                runs-next old.engine.plant (start_of old) from so.0 line step old mid new tell inv.same_plant inv.digest so.3 c.line.ensures.within told
                (subst (λ (p : List Actuator). MayLast p (spot mid from) step mid new) inv.same_plant (steps.images kept.0 kept.1)) (so.4 tell before held),
          );
    }

pub returns-in-Err-clause-follows : goal.returns-in-Err-clause-follows
returns-in-Err-clause-follows g c = λ tells.
    let inv = c.loop-line.invariant in
    let so = inv.taken tells in
    let mid = c.loop-line.durable in
    let from = c.loop-line.following in
    let line = c.next.new.self.line in
    let step = c.in-Err.ensures.0 in
    let told : IsStepOf (spot mid from) line step = subst (λ (l : List ℕ). IsStepOf (spot mid from) l step) c.line.ensures.value c.in-Err.ensures.1 in
    fed-to-line c.args.durable.now mid c.take_line-taken.new.durable from c.take_line-taken.new.self so.0 (lines (c.next.new.self.ahead ++ g.S.Source.left c.next.new.source)) line
    (g.S.Source.left c.args.source.now) (g.S.Source.left c.next.new.source) step c.in-Err.stop c.at.result
    (c.at.ensures ∙ ap (λ n. stopped_at c.in-Err.stop (n + 1)) (sym so.2))
    (so.1.all ∙ ap (λ ls. so.0 ++ ls) (c.in-Line.ensures.bytes tells (inv.over tells)).0)
    so.3 c.line.ensures.within told c.in-Err.ensures.2 inv.same_plant inv.digest inv.keeps_on so.4

pub returns-in_default : goal.returns-in_default
returns-in_default g c =
    let inv = c.loop-line.invariant in
    let old = c.args.durable.now in
    let now = c.loop-line.durable in
    let following = c.loop-line.following in
    let answer = c.next.result in
    let place = place_of following.place following.state.items in
    let is : c.end_at.result ≡ ended_at place answer = c.end_at.ensures following.state.items ∙ ap (λ p. ended_at (place_of p following.state.items) answer) c.place.ensures in
    let cause : NextCause (g.S.Source.faults c.args.source.now) (g.S.Source.faults c.next.new.source) answer =
    subst (λ (before : ℕ). NextCause before (g.S.Source.faults c.next.new.source) answer) inv.reads (c.next.ensures.cause (no-fault c.loop-line.lines.stopped inv.going)) in
    record {
      follows = λ tells.
          let so = inv.taken tells in
          fed-to-end old now following so.0 (lines (c.loop-line.lines.ahead ++ g.S.Source.left c.loop-line.source)) (g.S.Source.left c.args.source.now) (g.S.Source.left c.next.new.source)
          answer c.end_at.result is so.1.all so.3
          (gives-lines most_lines _ _ _ _ _ _ _ answer so.1 (still-going _ _ c.loop-line.lines.stopped answer inv.going c.next.ensures.stays)
          (c.next.ensures.bytes tells (inv.over tells)) c.next.ensures.leaves (λ line. absurd (c.in_default.not-Line line)))
          inv.keeps_on so.4;
      stopped = ap was_stopped is ∙ (going-ended place answer).0;
      stops = ap has_failed is ∙ (going-ended place answer).1 ∙ sym inv.fine;
      read = subst (ReadCause (g.S.Source.faults c.args.source.now) (g.S.Source.faults c.next.new.source)) (sym is)
          (read-ended (g.S.Source.faults c.args.source.now) (g.S.Source.faults c.next.new.source) place answer cause);
      disk = subst (DiskCause (counts_of old.disks) (counts_of now.disks)) (sym is) (disk-ended (counts_of old.disks) (counts_of now.disks) place answer inv.disks);
      plant = inv.same_plant;
      limit = inv.limit;
      digest = inv.digest;
    }

pub returns : goal.returns
returns g c =
    let inv = c.loop-line.invariant in
    let old = c.args.durable.now in
    let now = c.loop-line.durable in
    let following = c.loop-line.following in
    let answer = c.next-2.result in
    let place = place_of following.place following.state.items in
    let is : c.end_at-2.result ≡ ended_at place answer = c.end_at-2.ensures following.state.items ∙ ap (λ p. ended_at (place_of p following.state.items) answer) c.place-2.ensures in
    let cause : NextCause (g.S.Source.faults c.args.source.now) (g.S.Source.faults c.next-2.new.source) answer =
    subst (λ (before : ℕ). NextCause before (g.S.Source.faults c.next-2.new.source) answer) inv.reads (c.next-2.ensures.cause (no-fault c.loop-line.lines.stopped inv.going)) in
    record {
      follows = λ tells.
          let so = inv.taken tells in
          fed-to-end old now following so.0 (lines (c.loop-line.lines.ahead ++ g.S.Source.left c.loop-line.source)) (g.S.Source.left c.args.source.now) (g.S.Source.left c.next-2.new.source)
          answer c.end_at-2.result is so.1.all so.3
          (gives-lines most_lines _ _ _ _ _ _ _ answer so.1 (still-going _ _ c.loop-line.lines.stopped answer inv.going c.next-2.ensures.stays)
          (c.next-2.ensures.bytes tells (inv.over tells)) c.next-2.ensures.leaves
          (λ line. (omega (arith, so.2, c.loop-line.auto.line-end, c.loop-line-test.false), (c.next-2.new.self.stopped, c.next-2.ensures.ends tells line))))
          inv.keeps_on so.4;
      stopped = ap was_stopped is ∙ (going-ended place answer).0;
      stops = ap has_failed is ∙ (going-ended place answer).1 ∙ sym inv.fine;
      read = subst (ReadCause (g.S.Source.faults c.args.source.now) (g.S.Source.faults c.next-2.new.source)) (sym is)
          (read-ended (g.S.Source.faults c.args.source.now) (g.S.Source.faults c.next-2.new.source) place answer cause);
      disk = subst (DiskCause (counts_of old.disks) (counts_of now.disks)) (sym is) (disk-ended (counts_of old.disks) (counts_of now.disks) place answer inv.disks);
      plant = inv.same_plant;
      limit = inv.limit;
      digest = inv.digest;
    }
