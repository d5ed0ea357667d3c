-- One connection more, and where the work ends.
use Rattle.std.proofs.Common.{◌≡◌, ℕ, suc, ◌+◌, ◌-◌, ◌*◌, ◌^◌, ◌<◌, ◌≤◌, min, Bool, true, false, List, [], ◌∷◌, ◌++◌, length, map, refl, ap, sym, ◌∙◌, subst, arith, length-append}
use Rattle.std.specs.List.{AllByRecursion}
use Rattle.std.proofs.lemmas.List.{length-map, map-append}
use Rattle.def_history.specs.declared.entry.Entry.{Entry}
use Rattle.def_history.specs.History.{deeds, is_broken}
use Rattle.def_lanes.specs.Lanes.{of_session}
use Rattle.def_lanes.specs.Parts.{Terms, Part, Added}
use Rattle.def_lanes.specs.Works.{Work, visit, clock_cuts, course_of, lane_of_work, moments_in, owner, served_by, served_in}
use Rattle.def_lanes.proofs.Lists.{each-append}
use Rattle.def_lanes.proofs.Owners.{before-absent, before-more, owner-session, served_in-append}
use Rattle.def_lanes.proofs.PartLemmas.{part-nothing, part-more}
use Rattle.boss_outside_server.specs.Hosts.{Served}
use Rattle.boss_worker.specs.declared.flags.Flags.{Flags}
use Rattle.boss_worker.specs.declared.trouble.Trouble.{Trouble}
use Rattle.boss_worker.specs.declared.trouble.Trouble.TheVariants.{Nothing, Disk, Clock, Memory}
use Rattle.boss_worker.specs.Troubles.{no_flags, flags_after, failed_host, course_by, cut_by, ClockTrouble, Counts}
use Rattle.boss_worker.specs.Visits.{sessions_in, GoBySteps, IsFlagged, SoFar, Left}
use Rattle.boss_worker.proofs.FlagLemmas.{cuts-more, flagged-after, flagged-more, host-after, marked-after}

-- one number more
steps-more : (step first : ℕ) (numbers : List ℕ) (next : ℕ) → GoBySteps step first numbers → next ≡ first + step * length numbers → GoBySteps step first (numbers ++ next ∷ [])
steps-more step first [] next go is = (omega (arith, is), tt)
steps-more step first (number ∷ numbers) next go is = (go.0, steps-more step (first + step) numbers next go.1 (omega (arith, is)))

module _ (terms : Terms) (number : ℕ) where
  pub so-far-first : (own : List Entry) (served : List Served) (given : List ℕ) (handed next : ℕ) (flags : Flags) → deeds own ≡ [] → handed ≡ 0 → next ≡ 1 + number →
      SoFar terms number [] own served served given given handed next flags
  so-far-first own served given handed next flags none no_handed first = record {
    part = part-nothing terms number (suc number) own served given none;
    each = sym no_handed;
    next_is = rw no_handed (omega (arith, first));
    numbered = tt;
    before = tt;
    flagged = tt;
  }

  pub so-far-more : (works : List Work) (own own' : List Entry) (served served' served'' : List Served) (given given' given'' : List ℕ) (handed handed' next later : ℕ) (flags : Flags)
      (trouble : Trouble) (one : Served) (moments : List ℕ) (closed : Bool) → SoFar terms number works own served served' given given' handed next flags →
      Added terms.plant (of_session one.session) (terms.says (visit one (course_by moments trouble closed))) terms.clocking moments own own' given' given'' →
      (terms.hosting → served'' ≡ served' ++ one ∷ []) → one.session ≡ next → number < terms.workers → handed' ≡ handed + 1 → later ≡ next + terms.workers →
      SoFar terms number (works ++ visit one (course_by moments trouble closed) ∷ []) own' served served'' given given'' handed' later (flags_after trouble flags)
  so-far-more works own own' served served' served'' given given' given'' handed handed' next later flags trouble one moments closed so_far added back is low one_more further =
      let owned = owner-session terms.workers number handed one (course_by moments trouble closed) low (is ∙ so_far.next_is) in
      let grown : length (served_in (works ++ visit one (course_by moments trouble closed) ∷ [])) ≡ length (served_in works) + 1 =
      ap length (served_in-append works (visit one (course_by moments trouble closed) ∷ [])) ∙ length-append (served_in works) (one ∷ []) in
      let all : sessions_in (works ++ visit one (course_by moments trouble closed) ∷ []) ≡ sessions_in works ++ one.session ∷ [] =
      ap (map (λ (served : Served). served.session)) (served_in-append works (visit one (course_by moments trouble closed) ∷ []))
      ∙ map-append (λ (served : Served). served.session) (served_in works) (one ∷ []) in
      let many : length (sessions_in works) ≡ handed = length-map (served_in works) (λ (served : Served). served.session) ∙ so_far.each in
      record {
        part = part-more terms number (suc number) works (visit one (course_by moments trouble closed)) own own' served served' served'' given given' given'' so_far.part added
            (omega (arith, owned)) (omega (arith, owned)) (subst (λ s. AllByRecursion (λ work. ¬ (lane_of_work work ≡ of_session s)) works) (sym is) (before-absent next works so_far.before)) back;
        each = omega (arith, grown, so_far.each, one_more);
        next_is = next-turn (so_far.next_is);
        numbered = subst (GoBySteps terms.workers (1 + number)) (sym all) (steps-more terms.workers (1 + number) (sessions_in works) one.session so_far.numbered
            (is ∙ so_far.next_is ∙ ap (λ n. 1 + number + terms.workers * n) (sym many)));
        before = before-more next later works one (course_by moments trouble closed) so_far.before is (omega (arith, further, low));
        flagged = each-append (IsFlagged (flags_after trouble flags)) works (visit one (course_by moments trouble closed) ∷ []) (flagged-after trouble flags works so_far.flagged) (marked-after trouble flags, tt);
      }
    where
      next-turn : next ≡ 1 + number + terms.workers * handed → later ≡ 1 + number + terms.workers * handed'
      next-turn here = rw one_more (omega (arith, further, here))

  -- an accept that handed nothing out
  pub so-far-same : (works : List Work) (own : List Entry) (served served' served'' : List Served) (given given' : List ℕ) (handed handed' next : ℕ) (flags : Flags) →
      SoFar terms number works own served served' given given' handed next flags → (terms.hosting → served'' ≡ served') → handed' ≡ handed →
      SoFar terms number works own served served'' given given' handed' next flags
  so-far-same works own served served' served'' given given' handed handed' next flags so_far stays same = record {
    part = record {
      agreed = so_far.part.agreed;
      of_them = so_far.part.of_them;
      in_turn = so_far.part.in_turn;
      came_back = λ told. stays told ∙ so_far.part.came_back told;
      gave = so_far.part.gave;
    };
    each = so_far.each ∙ sym same;
    next_is = so_far.next_is ∙ ap (λ n. 1 + number + terms.workers * n) (sym same);
    numbered = so_far.numbered;
    before = so_far.before;
    flagged = so_far.flagged;
  }

  -- where the work ends
  module _ (share : ℕ) (works : List Work) (own seen : List Entry) (served served' : List Served) (given given' : List ℕ) (handed next host_faults clock_faults : ℕ) (flags : Flags)
      (so_far : SoFar terms number works own served served' given given' handed next flags) where
    pub left-closed : flags.host ≡ false → flags.disk ≡ false → host_faults ≡ 0 → Counts flags.clock clock_faults → min (clock_cuts works) (2 ^ 64 - 1) ≤ clock_faults → handed ≡ share →
        Left true terms number share works own seen served served' given given' handed host_faults clock_faults flags
    left-closed no_host no_disk calm ticked cuts all = record {
      part = so_far.part;
      each = so_far.each;
      numbered = so_far.numbered;
      whole = λ ran hosted sound. all;
      flagged = so_far.flagged;
      hosted = subst (λ flag. Counts flag host_faults) (sym no_host) calm;
      ticked = λ sound. ticked;
      cuts = λ sound. cuts;
      broken = λ broke. absurd (let no : true ≡ false = sym broke ∙ no_disk in cc);
    }

    pub left-failed : flags.disk ≡ false → 0 < host_faults → Counts flags.clock clock_faults → min (clock_cuts works) (2 ^ 64 - 1) ≤ clock_faults →
        Left true terms number share works own seen served served' given given' handed host_faults clock_faults (failed_host flags)
    left-failed no_disk rose ticked cuts = record {
      part = so_far.part;
      each = so_far.each;
      numbered = so_far.numbered;
      whole = λ ran hosted sound. absurd (let no : true ≡ false = hosted in cc);
      flagged = flagged-more flags (failed_host flags) (λ is. is) (λ is. is) (λ is. is) works so_far.flagged;
      hosted = rose;
      ticked = λ sound. ticked;
      cuts = λ sound. cuts;
      broken = λ broke. absurd (let no : true ≡ false = sym broke ∙ no_disk in cc);
    }

    pub left-broken : flags.host ≡ false → host_faults ≡ 0 → flags.disk ≡ true → is_broken seen ≡ true →
        Left true terms number share works own seen served served' given given' handed host_faults clock_faults flags
    left-broken no_host calm disk broke = record {
      part = so_far.part;
      each = so_far.each;
      numbered = so_far.numbered;
      whole = λ ran hosted sound. absurd (let no : true ≡ false = sym disk ∙ sound in cc);
      flagged = so_far.flagged;
      hosted = subst (λ flag. Counts flag host_faults) (sym no_host) calm;
      ticked = λ sound. absurd (let no : true ≡ false = sym disk ∙ sound in cc);
      cuts = λ sound. absurd (let no : true ≡ false = sym disk ∙ sound in cc);
      broken = λ flag. broke;
    }

-- ---- from fresh parts

pub part-fresh : (terms : Terms) (first end : ℕ) (works : List Work) (own : List Entry) (served served' : List Served) (given given' : List ℕ) →
    Part terms first end works own served served' given given' → (terms.hosting → served ≡ []) → (terms.clocking → given ≡ []) → Part terms first end works own [] served' [] given'
part-fresh terms first end works own served served' given given' part none no_moment = record {
  agreed = part.agreed;
  of_them = part.of_them;
  in_turn = part.in_turn;
  came_back = λ told. part.came_back told ∙ ap (λ front. front ++ served_in works) (none told);
  gave = λ told. part.gave told ∙ ap (λ front. front ++ moments_in works) (no_moment told);
}

pub left-fresh : (ran : Bool) (terms : Terms) (number share : ℕ) (works : List Work) (own seen : List Entry) (served served' : List Served) (given given' : List ℕ) (handed host_faults clock_faults : ℕ) (flags : Flags) →
    Left ran terms number share works own seen served served' given given' handed host_faults clock_faults flags → (terms.hosting → served ≡ []) → (terms.clocking → given ≡ []) →
    Left ran terms number share works own seen [] served' [] given' handed host_faults clock_faults flags
left-fresh ran terms number share works own seen served served' given given' handed host_faults clock_faults flags left none no_moment = record {
  part = part-fresh terms number (suc number) works own served served' given given' left.part none no_moment;
  each = left.each;
  numbered = left.numbered;
  whole = left.whole;
  flagged = left.flagged;
  hosted = left.hosted;
  ticked = left.ticked;
  cuts = left.cuts;
  broken = left.broken;
}

-- a worker that was never started left nothing
pub left-nothing : (terms : Terms) (number share : ℕ) (own seen : List Entry) (served : List Served) (given : List ℕ) (handed host_faults clock_faults : ℕ) (flags : Flags) → deeds own ≡ [] →
    (terms.hosting → served ≡ []) → (terms.clocking → given ≡ []) → handed ≡ 0 → host_faults ≡ 0 → clock_faults ≡ 0 → flags ≡ no_flags →
    Left false terms number share [] own seen [] served [] given handed host_faults clock_faults flags
left-nothing terms number share own seen served given handed host_faults clock_faults flags empty none no_moment no_handed no_fault no_miss unmarked = record {
  part = part-fresh terms number (suc number) [] own served served given given (part-nothing terms number (suc number) own served given empty) none no_moment;
  each = sym no_handed;
  numbered = tt;
  whole = λ ran. absurd (let no : false ≡ true = ran in cc);
  flagged = tt;
  hosted = subst (λ (f : Flags). Counts f.host host_faults) (sym unmarked) no_fault;
  ticked = λ sound. subst (λ (f : Flags). Counts f.clock clock_faults) (sym unmarked) no_miss;
  cuts = λ sound. omega arith;
  broken = λ is. absurd (let no : false ≡ true = ap (λ (f : Flags). f.disk) (sym unmarked) ∙ is in cc);
}

-- a worker that serves no connection left one work
pub left-one : (terms : Terms) (number : ℕ) (work : Work) (own own' seen : List Entry) (given given' : List ℕ) (misses misses' : ℕ) (flags : Flags) (trouble : Trouble) →
    Added terms.plant (lane_of_work work) (terms.says work) terms.clocking (course_of work).moments own own' given given' → deeds own ≡ [] → (terms.clocking → given ≡ []) → misses ≡ 0 → flags ≡ no_flags →
    served_by work ≡ [] → (course_of work).cut ≡ cut_by trouble → IsFlagged (flags_after trouble flags) work → number ≡ owner terms.workers work → ClockTrouble misses misses' trouble → (trouble ≡ Disk → is_broken seen ≡ true) →
    Left true terms number 0 (work ∷ []) own' seen [] [] [] given' 0 0 misses' (flags_after trouble flags)
left-one terms number work own own' seen given given' misses misses' flags trouble added empty no_moment no_miss unmarked serves cut_is flagged owned cause broken = record {
  part = part-fresh terms number (suc number) (work ∷ []) own' [] [] given given'
      (part-more terms number (suc number) [] work own own' [] [] [] given given given' (part-nothing terms number (suc number) own [] given empty) added
      (omega (arith, owned)) (omega (arith, owned)) tt (λ told. sym serves)) (λ told. refl) no_moment;
  each = ap (λ list. length (list ++ [])) serves;
  numbered = subst (λ list. GoBySteps terms.workers (1 + number) (map (λ (served : Served). served.session) (list ++ []))) (sym serves) tt;
  whole = λ ran accepted sound. refl;
  flagged = (flagged, tt);
  hosted = subst (λ flag. Counts flag 0) (sym (host-after trouble flags ∙ ap (λ (f : Flags). f.host) unmarked)) refl;
  ticked = λ sound. counted trouble cause sound;
  cuts = λ sound. cuts-more trouble work [] misses misses' cut_is (λ is. disked trouble is sound) cause (omega (arith, no_miss));
  broken = λ is. raised trouble refl is;
}
  where
    disked : (t : Trouble) → t ≡ Disk → (flags_after t flags).disk ≡ false → ⊥
    disked t is sound = let no : true ≡ false = ap (λ x. (flags_after x flags).disk) (sym is) ∙ sound in cc

    counted : (t : Trouble) → ClockTrouble misses misses' t → (flags_after t flags).disk ≡ false → Counts (flags_after t flags).clock misses'
    counted Nothing calm sound = subst (λ (f : Flags). Counts f.clock misses') (sym unmarked) (calm ∙ no_miss)
    counted Disk calm sound = absurd (let no : true ≡ false = sound in cc)
    counted Clock rose sound = omega (arith, rose)
    counted Memory calm sound = subst (λ (f : Flags). Counts f.clock misses') (sym unmarked) (calm ∙ no_miss)

    raised : (t : Trouble) → t ≡ trouble → (flags_after t flags).disk ≡ true → is_broken seen ≡ true
    raised Nothing is flag = absurd (let no : false ≡ true = ap (λ (f : Flags). f.disk) (sym unmarked) ∙ flag in cc)
    raised Disk is flag = broken (sym is)
    raised Clock is flag = absurd (let no : false ≡ true = ap (λ (f : Flags). f.disk) (sym unmarked) ∙ flag in cc)
    raised Memory is flag = absurd (let no : false ≡ true = ap (λ (f : Flags). f.disk) (sym unmarked) ∙ flag in cc)
