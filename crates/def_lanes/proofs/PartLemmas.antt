-- Parts: nothing yet, one work more, and two joined.
use Rattle.std.proofs.Common.{◌≡◌, ℕ, suc, ◌<◌, ◌≤◌, List, [], ◌∷◌, ◌++◌, ap, sym, ◌∙◌, arith, append_assoc}
use Rattle.std.specs.List.{filter}
use Rattle.std.proofs.lemmas.List.{append-nil}
use Rattle.def_history.specs.declared.entry.Entry.{Entry}
use Rattle.def_history.specs.History.{deeds}
use Rattle.boss_outside_server.specs.Hosts.{Served}
use Rattle.def_lanes.specs.Lanes.{in_lane}
use Rattle.def_lanes.specs.Parts.{is_untimed, AreTimed, Joined, Added, Terms, Part}
use Rattle.def_lanes.specs.Works.{Work, course_of, lane_of_work, moments_in, owner, IsAbsent, served_by, served_in}
use Rattle.def_lanes.proofs.Agreements.{agreed-both, agreed-nothing, agreed-one, none-in}
use Rattle.def_lanes.proofs.Choices.{all-deeds, joined-deeds}
use Rattle.def_lanes.proofs.InTurn.{turn-more, turn-both}
use Rattle.def_lanes.proofs.Moments.{timed-front, timed-behind}
use Rattle.def_lanes.proofs.Owners.{strange-turned, strange-owners, of-wider, of-append, moments_in-append, served_in-append}

pub part-nothing : (terms : Terms) (first end : ℕ) (own : List Entry) (served : List Served) (given : List ℕ) → deeds own ≡ [] →
    Part terms first end [] own served served given given
part-nothing terms first end own served given none = record {
  agreed = agreed-nothing terms.plant terms.says own none;
  of_them = tt;
  in_turn = tt;
  came_back = λ told. sym (append-nil served);
  gave = λ told. sym (append-nil given);
}

-- a join keeps moments
pub timed-joined : (gains more : List ℕ) (old other new : List Entry) → Joined old other new → AreTimed gains old → AreTimed more other → AreTimed (gains ++ more) new
timed-joined gains more old other new join first then =
    join.kept (is_untimed (gains ++ more)) (timed-behind gains more other then) ∙ timed-front gains more old first

pub more_behind : {X : Type 0} (all old mid first then : List X) → mid ≡ old ++ first → all ≡ mid ++ then → all ≡ old ++ (first ++ then)
more_behind all old mid first then a b = b ∙ ap (λ front. front ++ then) a ∙ append_assoc old first then

pub part-more : (terms : Terms) (first end : ℕ) (works : List Work) (work : Work) (own own' : List Entry) (served served' served'' : List Served) (given given' given'' : List ℕ) →
    Part terms first end works own served served' given given' → Added terms.plant (lane_of_work work) (terms.says work) terms.clocking (course_of work).moments own own' given' given'' →
    first ≤ owner terms.workers work → owner terms.workers work < end → IsAbsent (lane_of_work work) works → (terms.hosting → served'' ≡ served' ++ served_by work) →
    Part terms first end (works ++ work ∷ []) own' served served'' given given''
part-more terms first end works work own own' served served' served'' given given' given'' part added above below absent back =
    let join : Joined own added.more own' = joined-deeds own added.more own' added.grew in
    record {
      agreed = agreed-both terms.plant terms.says own added.more own' works (work ∷ []) part.agreed
          (agreed-one terms.plant terms.says work added.more (all-deeds own added.more own' added.grew) added.of_lane added.agrees) join
          (strange-turned (work ∷ []) works (absent, tt));
      of_them = of-append terms.workers first end works (work ∷ []) part.of_them ((above, below), tt);
      in_turn = turn-more terms.plant terms.workers own added.more own' added.grew join works work part.agreed.none (λ lane differ. ap (filter (in_lane terms.plant lane)) (all-deeds own added.more own' added.grew) ∙ none-in terms.plant (lane_of_work work) lane differ added.more added.of_lane) absent part.in_turn;
      came_back = λ told. more_behind served'' served served' (served_in works) (served_in (work ∷ [])) (part.came_back told) (back told ∙ ap (λ list. served' ++ list) (sym (append-nil (served_by work))))
          ∙ ap (λ list. served ++ list) (sym (served_in-append works (work ∷ [])));
      gave = λ told. more_behind given'' given given' (moments_in works) (moments_in (work ∷ [])) (part.gave told) (added.gave told ∙ ap (λ list. given' ++ list) (sym (append-nil (course_of work).moments)))
          ∙ ap (λ list. given ++ list) (sym (moments_in-append works (work ∷ [])));
    }

-- the workers up to the middle, and then those up to the end
pub part-both : (terms : Terms) (first middle end : ℕ) (xs ys : List Work) (old other new : List Entry) (served served' back now : List Served) (given given' gave stands : List ℕ) →
    first ≤ middle → middle ≤ end →
    Part terms first middle xs old served served' given given' → Part terms middle end ys other [] back [] gave → Joined old other new →
    (terms.hosting → now ≡ served' ++ back) → (terms.clocking → stands ≡ given' ++ gave) → Part terms first end (xs ++ ys) new served now given stands
part-both terms first middle end xs ys old other new served served' back now given given' gave stands low high part next join hosts clocks = record {
  agreed = agreed-both terms.plant terms.says old other new xs ys part.agreed next.agreed join (strange-owners terms.workers first middle end xs ys part.of_them next.of_them);
  of_them = of-append terms.workers first end xs ys (of-wider terms.workers first middle first end (omega arith) high xs part.of_them)
      (of-wider terms.workers middle end first end low (omega arith) ys next.of_them);
  in_turn = turn-both terms.plant terms.workers first middle end old other new join xs ys part.of_them next.of_them part.agreed.none next.agreed.none
      (strange-owners terms.workers first middle end xs ys part.of_them next.of_them) (strange-turned xs ys (strange-owners terms.workers first middle end xs ys part.of_them next.of_them)) part.in_turn next.in_turn;
  came_back = λ told. more_behind now served served' (served_in xs) (served_in ys) (part.came_back told) (hosts told ∙ ap (λ list. served' ++ list) (next.came_back told))
      ∙ ap (λ list. served ++ list) (sym (served_in-append xs ys));
  gave = λ told. more_behind stands given given' (moments_in xs) (moments_in ys) (part.gave told) (clocks told ∙ ap (λ list. given' ++ list) (next.gave told))
      ∙ ap (λ list. given ++ list) (sym (moments_in-append xs ys));
}

-- the next worker
pub part-next : (terms : Terms) (number : ℕ) (xs ys : List Work) (old other new : List Entry) (served served' back now : List Served) (given given' gave stands : List ℕ) →
    Part terms 0 number xs old served served' given given' → Part terms number (suc number) ys other [] back [] gave → Joined old other new →
    (terms.hosting → now ≡ served' ++ back) → (terms.clocking → stands ≡ given' ++ gave) → Part terms 0 (suc number) (xs ++ ys) new served now given stands
part-next terms number xs ys old other new served served' back now given given' gave stands part next join hosts clocks =
    part-both terms 0 number (suc number) xs ys old other new served served' back now given given' gave stands (omega arith) (omega arith) part next join hosts clocks
