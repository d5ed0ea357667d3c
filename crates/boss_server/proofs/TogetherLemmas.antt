-- Workers taken together: at first none, and then one more.
use Rattle.std.proofs.Common.{◌≡◌, ◌⊎◌, inl, inr, ℕ, suc, ◌+◌, ◌-◌, ◌^◌, ◌<◌, ◌≤◌, ◌==◌, ◌||◌, min, not, Bool, true, false, List, [], ◌∷◌, ◌++◌, length, refl, ap, sym, ◌∙◌, subst, arith, length-append}
use Rattle.std.proofs.lemmas.Bool.{or_parts, cases_Bool, cases_lt}
use Rattle.boss_outside.specs.Counts.{Rose, Joins}
use Rattle.def_history.specs.declared.entry.Entry.{Entry}
use Rattle.def_history.specs.History.{deeds, is_broken}
use Rattle.def_lanes.specs.Parts.{Terms, Part, Joined}
use Rattle.def_lanes.specs.Works.{Work, clock_cuts, served_in, works_of, AreOf}
use Rattle.def_lanes.proofs.Lists.{each-append}
use Rattle.def_lanes.proofs.Owners.{clock_cuts-append, served_in-append, works-behind, works-first, works-last}
use Rattle.def_lanes.proofs.PartLemmas.{part-nothing, part-next}
use Rattle.boss_lock.specs.Places.{IsLonger}
use Rattle.boss_outside_server.specs.Hosts.{Served}
use Rattle.boss_worker.specs.declared.flags.Flags.{Flags}
use Rattle.boss_worker.specs.Troubles.{no_flags, both_flags, Counts}
use Rattle.boss_worker.specs.Visits.{sessions_in, GoBySteps, IsFlagged, Left}
use Rattle.boss_worker.proofs.FlagLemmas.{flagged-more}
use Rattle.boss_server.specs.Hosted.{Hosted, RoseBy}
use Rattle.boss_server.specs.Together.{RoseWhere, Together}
use Rattle.boss_server.proofs.DeskJoins.{broken-longer}

-- what one flag says is said of both
or-first : (flag other : Bool) → flag ≡ true → (flag || other) ≡ true
or-first flag other is = ap (λ b. b || other) is

or-second : (flag other : Bool) → other ≡ true → (flag || other) ≡ true
or-second true other is = refl
or-second false other is = is

rose-then : (flag other : Bool) (before between now part : ℕ) → RoseWhere flag before between → Counts other part → Joins between part now → RoseWhere (flag || other) before now
rose-then true true before between now part first counts joins = let more : Rose between now = joins.failed counts in omega (arith, first, more)
rose-then true false before between now part first counts joins = let same : now ≡ between = joins.fine counts in omega (arith, first, same)
rose-then false true before between now part first counts joins = let more : Rose between now = joins.failed counts in omega (arith, first, more)
rose-then false false before between now part first counts joins = let same : now ≡ between = joins.fine counts in omega (arith, first, same)

either-broken : (flag other : Bool) (seen part now : List Entry) → (flag ≡ true → is_broken seen ≡ true) → (other ≡ true → is_broken part ≡ true) → IsLonger seen part now →
    (flag || other) ≡ true → is_broken now ≡ true
either-broken true other seen part now first then longer is = broken-longer seen now longer.1 (first refl)
either-broken false other seen part now first then longer is = broken-longer part now longer.2 (then is)

-- a count that rose twice
pub rose-both : (first then before between now : ℕ) → RoseBy first before between → RoseBy then between now → RoseBy (first + then) before now
rose-both first then before between now once again = omega (arith, once, again)

pub rose-none : (count : ℕ) → RoseBy 0 count count
rose-none count = omega arith

-- one worker more, whose sessions go by steps
numbered-next : (workers n : ℕ) (works others : List Work) → AreOf workers 0 n works → AreOf workers n (suc n) others →
    ((number : ℕ) → GoBySteps workers (1 + number) (sessions_in (works_of workers number works))) → GoBySteps workers (1 + n) (sessions_in others) →
    (number : ℕ) → GoBySteps workers (1 + number) (sessions_in (works_of workers number (works ++ others)))
numbered-next workers n works others of_first of_next numbered also number = placed (cases_lt number n)
  where
    so : (all : List Work) → works_of workers number (works ++ others) ≡ all → GoBySteps workers (1 + number) (sessions_in all) → GoBySteps workers (1 + number) (sessions_in (works_of workers number (works ++ others)))
    so all is go = subst (λ list. GoBySteps workers (1 + number) (sessions_in list)) (sym is) go

    behind : (n < number) ⊎ (number ≤ n) → n ≤ number → GoBySteps workers (1 + number) (sessions_in (works_of workers number (works ++ others)))
    behind (inl later) from = so [] (works-behind workers number n works others of_first of_next later) tt
    behind (inr here) from =
        let same : n ≡ number = omega (arith, here, from) in
        subst (λ m. GoBySteps workers (1 + m) (sessions_in (works_of workers m (works ++ others)))) same
        (subst (λ list. GoBySteps workers (1 + n) (sessions_in list)) (sym (works-last workers n works others of_first of_next)) also)

    placed : (number < n) ⊎ (n ≤ number) → GoBySteps workers (1 + number) (sessions_in (works_of workers number (works ++ others)))
    placed (inl before) = so (works_of workers number works) (works-first workers number n works others of_next before) (numbered number)
    placed (inr from) = behind (cases_lt n number) from

module _ (terms : Terms) where
  pub together-first : (own seen : List Entry) (served : List Served) (given : List ℕ) (hosted : Hosted) (ticked : ℕ) → deeds own ≡ [] →
      Together terms 0 0 [] own seen served served given given hosted hosted ticked ticked no_flags false
  together-first own seen served given hosted ticked none = record {
    part = part-nothing terms 0 0 own served given none;
    handed = rose-none hosted.handed;
    numbered = λ number. tt;
    whole = λ all accepted sound. refl;
    flagged = tt;
    host_count = refl;
    clock_count = λ sound. refl;
    cuts = λ sound. omega arith;
    broken = λ is. absurd (let no : false ≡ true = is in cc);
  }

  pub together-next : (n shares share : ℕ) (works others : List Work) (own own' part seen seen' seen'' : List Entry) (served served' back served'' : List Served) (given given' gave given'' : List ℕ)
      (hosted hosted' hosted'' : Hosted) (ticked ticked' ticked'' handed faults misses : ℕ) (flags more : Flags) (unrun ran : Bool) →
      Together terms n shares works own seen served served' given given' hosted hosted' ticked ticked' flags unrun →
      Left ran terms n share others part seen' [] back [] gave handed faults misses more →
      Joined own part own' → IsLonger seen seen' seen'' → (terms.hosting → served'' ≡ served' ++ back) → (terms.clocking → given'' ≡ given' ++ gave) →
      Joins hosted'.faults faults hosted''.faults → RoseBy handed hosted'.handed hosted''.handed → Joins ticked' misses ticked'' → min (ticked' + misses) (2 ^ 64 - 1) ≤ ticked'' →
      Together terms (suc n) (shares + share) (works ++ others) own' seen'' served served'' given given'' hosted hosted'' ticked ticked'' (both_flags flags more) (unrun || not ran)
  together-next n shares share works others own own' part seen seen' seen'' served served' back served'' given given' gave given'' hosted hosted' hosted'' ticked ticked' ticked'' handed faults misses
      flags more unrun ran together left joined longer hosts clocks host_joins host_rose clock_joins clock_sum = record {
        part = part-next terms n works others own part own' served served' back served'' given given' gave given'' together.part left.part joined hosts clocks;
        handed =
            let sum : length (served_in works) + handed ≡ length (served_in (works ++ others)) =
            omega (arith, ap length (served_in-append works others), length-append (served_in works) (served_in others), left.each) in
            subst (λ more. RoseBy more hosted.handed hosted''.handed) sum
            (rose-both (length (served_in works)) handed hosted.handed hosted'.handed hosted''.handed together.handed host_rose);
        numbered = numbered-next terms.workers n works others together.part.of_them left.part.of_them together.numbered left.numbered;
        whole = λ all accepted sound.
            let runs = or_parts unrun (not ran) all in
            let accepts = or_parts flags.host more.host accepted in
            let sounds = or_parts flags.disk more.disk sound in
            let first = together.whole runs.0 accepts.0 sounds.0 in
            let then = left.whole (ran-is ran runs.1) accepts.1 sounds.1 in
            let sum : length (served_in (works ++ others)) ≡ length (served_in works) + length (served_in others) =
            ap length (served_in-append works others) ∙ length-append (served_in works) (served_in others) in
            omega (arith, sum, first, then, left.each);
        flagged = each-append (IsFlagged (both_flags flags more)) works others
            (flagged-more flags (both_flags flags more) (or-first flags.disk more.disk) (or-first flags.clock more.clock) (or-first flags.memory more.memory) works together.flagged)
            (flagged-more more (both_flags flags more) (or-second flags.disk more.disk) (or-second flags.clock more.clock) (or-second flags.memory more.memory) others left.flagged);
        host_count = rose-then flags.host more.host hosted.faults hosted'.faults hosted''.faults faults together.host_count left.hosted host_joins;
        clock_count = λ sound. let both = or_parts flags.disk more.disk sound in
            rose-then flags.clock more.clock ticked ticked' ticked'' misses (together.clock_count both.0) (left.ticked both.1) clock_joins;
        cuts = λ sound. let both = or_parts flags.disk more.disk sound in
            let first = together.cuts both.0 in
            let then = left.cuts both.1 in
            let all : clock_cuts (works ++ others) ≡ clock_cuts works + clock_cuts others = clock_cuts-append works others in
            omega (arith, first, then, all, clock_sum);
        broken = either-broken flags.disk more.disk seen seen' seen'' together.broken left.broken longer;
      }
    where
      ran-is : (ran : Bool) → not ran ≡ false → ran ≡ true
      ran-is true is = refl
      ran-is false is = absurd (let no : true ≡ false = is in cc)
