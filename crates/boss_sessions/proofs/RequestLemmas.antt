-- A line that is a request, and the footing behind it.
use Rattle.std.proofs.Common.{◌≡◌, ℕ, Bool, true, false, List, [], ◌∷◌, ◌++◌, Option, Some, None, refl, ap, sym, ◌∙◌, subst}
use Rattle.std.specs.List.{AllByRecursion}
use Rattle.boss_model.specs.declared.command.Command.{Command}
use Rattle.boss_model.specs.declared.state.Actuator.{Actuator}
use Rattle.boss_model.specs.Sound.{IsAllowed}
use Rattle.def_history.specs.History.{MayCall}
use Rattle.def_connection.specs.Speech.{Reading, asks, forbids, Footing, Manner, known_by}
use Rattle.boss_sessions.specs.declared.heard.Heard.{Heard}
use Rattle.boss_sessions.specs.declared.heard.Heard.TheVariants.{Requests, Refused, Unread, Watch, Untimed, WrongKey, Limit, Finish, TooLong, ReadFault}
use Rattle.boss_sessions.specs.Requests.{after_heard, footing, known_behind, Holds, Hears}
use Rattle.boss_sessions.specs.Speaking.{is_other_by, owned_by}

-- ---- what is held

-- a command that is not another's is read as it is, and one that is is forbidden
pub owned-asks : (own : Option (List ℕ)) (asked : Command) → is_other_by own asked ≡ false → owned_by own (asks asked) ≡ asks asked
owned-asks None asked is = refl
owned-asks (Some name) asked is = rw is refl

pub owned-forbids : (own : Option (List ℕ)) (asked : Command) → is_other_by own asked ≡ true → owned_by own (asks asked) ≡ forbids
owned-forbids None asked is = absurd (let no : false ≡ true = is in cc)
owned-forbids (Some name) asked is = rw is refl

module _ (ticks : Type 0) (command : Command) (calls calls' : List (Command × ℕ)) (given given' : List ℕ) where
  pub holds-hears : (reading : Reading) (later : Bool) (heard : Heard) → reading ≡ asks command → Holds ticks command calls calls' given given' heard →
      Hears reading ticks later calls calls' given given' heard
  holds-hears reading later Requests is holds = (command, is, holds)
  holds-hears reading later (Refused why) is holds = absurd holds
  holds-hears reading later Unread is holds = holds
  holds-hears reading later (Watch name from) is holds = absurd holds
  holds-hears reading later Untimed is holds = (command, is, holds)
  holds-hears reading later WrongKey is holds = absurd holds
  holds-hears reading later Limit is holds = absurd holds
  holds-hears reading later Finish is holds = absurd holds
  holds-hears reading later TooLong is holds = absurd holds
  holds-hears reading later ReadFault is holds = absurd holds

all-last : {X : Type 0} (P : X → Type 0) (xs : List X) (x : X) → AllByRecursion P xs → P x → AllByRecursion P (xs ++ x ∷ [])
all-last P [] x all here = (here, tt)
all-last P (y ∷ ys) x all here = (all.0, all-last P ys x all.1 here)

module _ (ticks : Type 0) (plant : List Actuator) (command : Command) (calls calls' : List (Command × ℕ)) (given given' : List ℕ) where
  pub holds-may : (heard : Heard) → IsAllowed plant command → AllByRecursion (MayCall plant) calls → Holds ticks command calls calls' given given' heard → AllByRecursion (MayCall plant) calls'
  holds-may Requests allowed all holds = subst (AllByRecursion (MayCall plant)) (sym holds.2) (all-last (MayCall plant) calls (command, holds.0) all (allowed, holds.1))
  holds-may (Refused why) allowed all holds = absurd holds
  holds-may Unread allowed all holds = subst (AllByRecursion (MayCall plant)) (sym holds.0) all
  holds-may (Watch name from) allowed all holds = absurd holds
  holds-may Untimed allowed all holds = subst (AllByRecursion (MayCall plant)) (sym holds.0) all
  holds-may WrongKey allowed all holds = absurd holds
  holds-may Limit allowed all holds = absurd holds
  holds-may Finish allowed all holds = absurd holds
  holds-may TooLong allowed all holds = absurd holds
  holds-may ReadFault allowed all holds = absurd holds

-- ---- the footing behind it

module _ (manner : Manner) (at : Footing) (line : List ℕ) where
  -- nothing more is known
  pub stands-still : (heard : Heard) → known_by at.known (manner.shows line) ≡ at.known → footing true at.known ≡ after_heard manner at line heard
  stands-still Unread is = refl
  stands-still Requests is = ap (footing true) (sym is)
  stands-still (Refused why) is = ap (footing true) (sym is)
  stands-still (Watch name from) is = ap (footing true) (sym is)
  stands-still Untimed is = ap (footing true) (sym is)
  stands-still WrongKey is = ap (footing true) (sym is)
  stands-still Limit is = ap (footing true) (sym is)
  stands-still Finish is = ap (footing true) (sym is)
  stands-still TooLong is = ap (footing true) (sym is)
  stands-still ReadFault is = ap (footing true) (sym is)

  -- a name became known
  pub stands-known : (heard : Heard) (name : List ℕ) → at.known ≡ None → manner.shows line ≡ Some name → footing true (known_behind heard name) ≡ after_heard manner at line heard
  stands-known Unread name none shows = ap (footing true) (sym none)
  stands-known Requests name none shows = ap (footing true) (sym (λ i. known_by (none i) (shows i)))
  stands-known (Refused why) name none shows = ap (footing true) (sym (λ i. known_by (none i) (shows i)))
  stands-known (Watch known from) name none shows = ap (footing true) (sym (λ i. known_by (none i) (shows i)))
  stands-known Untimed name none shows = ap (footing true) (sym (λ i. known_by (none i) (shows i)))
  stands-known WrongKey name none shows = ap (footing true) (sym (λ i. known_by (none i) (shows i)))
  stands-known Limit name none shows = ap (footing true) (sym (λ i. known_by (none i) (shows i)))
  stands-known Finish name none shows = ap (footing true) (sym (λ i. known_by (none i) (shows i)))
  stands-known TooLong name none shows = ap (footing true) (sym (λ i. known_by (none i) (shows i)))
  stands-known ReadFault name none shows = ap (footing true) (sym (λ i. known_by (none i) (shows i)))

pub known-none : (known : Option (List ℕ)) → known_by known None ≡ known
known-none None = refl
known-none (Some name) = refl
