-- What was done at moments that a clock gave.
use Rattle.std.proofs.Common.{◌≡◌, ℕ, true, false, not, List, [], ◌∷◌, ◌++◌, refl, ap, ◌∙◌, arith}
use Rattle.std.specs.List.{filter}
use Rattle.std.proofs.lemmas.Bool.Decides.{nat_tests}
use Rattle.boss_model.specs.declared.answer.Answer.{Answer}
use Rattle.boss_model.specs.declared.command.Command.{Command}
use Rattle.boss_model.specs.Lists.{member}
use Rattle.boss_model.proofs.Members.{member-append}
use Rattle.def_history.specs.declared.entry.Entry.{Entry}
use Rattle.def_history.specs.declared.entry.Entry.TheVariants.{Did, Broke}
use Rattle.def_history.specs.History.{deeds}
use Rattle.def_lanes.specs.Lanes.{only}
use Rattle.def_lanes.specs.Parts.{is_untimed, AreTimed}
use Rattle.def_lanes.proofs.Choices.{deeds-deeds, fewer, only-append}

untimed-front : (given more : List ℕ) (entry : Entry) → is_untimed given entry ≡ false → is_untimed (given ++ more) entry ≡ false
untimed-front given more (Did session command moment answer) timed = grind (arith, member-append moment given more)
untimed-front given more (Broke session commands others) timed = refl

untimed-behind : (given more : List ℕ) (entry : Entry) → is_untimed more entry ≡ false → is_untimed (given ++ more) entry ≡ false
untimed-behind given more (Did session command moment answer) timed = grind (arith, member-append moment given more)
untimed-behind given more (Broke session commands others) timed = refl

pub timed-front : (given more : List ℕ) (entries : List Entry) → AreTimed given entries → AreTimed (given ++ more) entries
timed-front given more entries timed = fewer (is_untimed given) (is_untimed (given ++ more)) (untimed-front given more) (deeds entries) timed

pub timed-behind : (given more : List ℕ) (entries : List Entry) → AreTimed more entries → AreTimed (given ++ more) entries
timed-behind given more entries timed = fewer (is_untimed more) (is_untimed (given ++ more)) (untimed-behind given more) (deeds entries) timed

pub both-timed : (given : List ℕ) (xs ys : List Entry) → AreTimed given xs → AreTimed given ys → AreTimed given (xs ++ ys)
both-timed given xs ys first then = only-append (is_untimed given) xs ys ∙ ap (λ front. front ++ only (is_untimed given) ys) first ∙ then

pub one-timed : (given : List ℕ) (session moment : ℕ) (asked : Command) (answer : Answer) → member moment given ≡ true → AreTimed given (Did session asked moment answer ∷ [])
one-timed given session moment asked answer there =
    ap (λ b. filter (λ entry. b) (Did session asked moment answer ∷ [])) (ap not there)

-- a moment more, and what was done at it
pub timed-next : (session moment : ℕ) (asked : Command) (answer : Answer) (given : List ℕ) (entries : List Entry) → AreTimed given entries →
    AreTimed (moment ∷ given) (Did session asked moment answer ∷ entries)
timed-next session moment asked answer given entries timed =
    both-timed (moment ∷ given) (Did session asked moment answer ∷ []) entries
    (timed-front (moment ∷ []) given (Did session asked moment answer ∷ []) (one-timed (moment ∷ []) session moment asked answer (grind (arith, nat_tests))))
    (timed-behind (moment ∷ []) given entries timed)

pub timed-deeds : (given : List ℕ) (entries : List Entry) → AreTimed given entries → AreTimed given (deeds entries)
timed-deeds given entries timed = ap (filter (is_untimed given)) (deeds-deeds entries) ∙ timed
