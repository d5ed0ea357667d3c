-- Exchanges put behind others.
use Rattle.std.proofs.Common.{◌≡◌, ℕ, Bool, true, false, ◌||◌, List, [], ◌∷◌, ◌++◌, Option, refl, ap, sym, ◌∙◌, append_assoc}
use Rattle.std.specs.List.{AllByRecursion}
use Rattle.def_connection.specs.Judging.{name_of, name_in, AreJudged}
use Rattle.def_connection.specs.Speech.{Gate, Footing, Manner, Speech, Exchange, unread, refused, called, after, after_lines, after_exchange, after_talk, AreRead, text_of, text_in, deeds_of, deeds_in, moments_of, moments_in, last_or, attaches, attached_in, is_end, EndsOnce}
use Rattle.def_connection.specs.Stopping.{last_is}

pub reads-append : (manner : Manner) (at : Footing) (xs ys : List Exchange) → AreRead manner at xs → AreRead manner (after_talk manner at xs) ys → AreRead manner at (xs ++ ys)
reads-append manner at [] ys first then = then
reads-append manner at (x ∷ xs) ys first then = (first.0, reads-append manner (after_exchange manner at x) xs ys first.1 then)

pub text-append : (speech : Speech) (xs ys : List Exchange) → text_in speech (xs ++ ys) ≡ text_in speech xs ++ text_in speech ys
text-append speech [] ys = refl
text-append speech (x ∷ xs) ys = ap (λ rest. text_of speech x ++ rest) (text-append speech xs ys) ∙ sym (append_assoc (text_of speech x) (text_in speech xs) (text_in speech ys))

pub deeds_in-append : (session : ℕ) (xs ys : List Exchange) → deeds_in session (xs ++ ys) ≡ deeds_in session xs ++ deeds_in session ys
deeds_in-append session [] ys = refl
deeds_in-append session (x ∷ xs) ys = ap (λ rest. deeds_of session x ++ rest) (deeds_in-append session xs ys) ∙ sym (append_assoc (deeds_of session x) (deeds_in session xs) (deeds_in session ys))

pub moments-append : (xs ys : List Exchange) → moments_in (xs ++ ys) ≡ moments_in xs ++ moments_in ys
moments-append [] ys = refl
moments-append (x ∷ xs) ys = ap (λ rest. moments_of x ++ rest) (moments-append xs ys) ∙ sym (append_assoc (moments_of x) (moments_in xs) (moments_in ys))

pub last-append : (moment : ℕ) (xs ys : List ℕ) → last_or moment (xs ++ ys) ≡ last_or (last_or moment xs) ys
last-append moment [] ys = refl
last-append moment (x ∷ xs) ys = last-append x xs ys

or-assoc : (a b c : Bool) → (a || (b || c)) ≡ ((a || b) || c)
or-assoc true b c = refl
or-assoc false b c = refl

pub attached-append : (xs ys : List Exchange) → attached_in (xs ++ ys) ≡ (attached_in xs || attached_in ys)
attached-append [] ys = refl
attached-append (x ∷ xs) ys = ap (λ rest. attaches x || rest) (attached-append xs ys) ∙ or-assoc (attaches x) (attached_in xs) (attached_in ys)

pub attached-then : (before : Bool) (xs ys : List Exchange) → ((before || attached_in xs) || attached_in ys) ≡ (before || attached_in (xs ++ ys))
attached-then before xs ys = sym (or-assoc before (attached_in xs) (attached_in ys)) ∙ ap (λ rest. before || rest) (sym (attached-append xs ys))

pub ends-append : (xs ys : List Exchange) → AllByRecursion (λ exchange. is_end exchange ≡ false) xs → EndsOnce ys → EndsOnce (xs ++ ys)
ends-append [] ys first then = then
ends-append (x ∷ xs) ys first then = ((λ is. absurd (let no : true ≡ false = sym is ∙ first.0 in cc)), ends-append xs ys first.1 then)

pub goes-ends : (xs : List Exchange) → AllByRecursion (λ exchange. is_end exchange ≡ false) xs → EndsOnce xs
goes-ends [] goes = tt
goes-ends (x ∷ xs) goes = ((λ is. absurd (let no : true ≡ false = sym is ∙ goes.0 in cc)), goes-ends xs goes.1)

pub name-append : (name : Option (List ℕ)) (xs ys : List Exchange) → name_in name (xs ++ ys) ≡ name_in (name_in name xs) ys
name-append name [] ys = refl
name-append name (x ∷ xs) ys = name-append (name_of name x) xs ys

pub judged-append : (gates : List Gate) (name : Option (List ℕ)) (xs ys : List Exchange) → AreJudged gates name xs → AreJudged gates (name_in name xs) ys → AreJudged gates name (xs ++ ys)
judged-append gates name [] ys first then = then
judged-append gates name (x ∷ xs) ys first then = (first.0, judged-append gates (name_of name x) xs ys first.1 then)

-- ---- on what footing others are read

pub after_talk-append : (manner : Manner) (at : Footing) (xs ys : List Exchange) → after_talk manner at (xs ++ ys) ≡ after_talk manner (after_talk manner at xs) ys
after_talk-append manner at [] ys = refl
after_talk-append manner at (x ∷ xs) ys = after_talk-append manner (after_exchange manner at x) xs ys

pub after_lines-append : (manner : Manner) (at : Footing) (xs ys : List (List ℕ)) → after_lines manner at (xs ++ ys) ≡ after_lines manner (after_lines manner at xs) ys
after_lines-append manner at [] ys = refl
after_lines-append manner at (x ∷ xs) ys = after_lines-append manner (after manner at x) xs ys

exchange-later : (manner : Manner) (at : Footing) (x : Exchange) → (after_exchange manner at x).later ≡ true
exchange-later manner at (unread line) = refl
exchange-later manner at (refused line why) = refl
exchange-later manner at (called line command moment reply) = refl

-- only the first line has none before it
pub lines-alone : (manner : Manner) (at : Footing) (xs : List (List ℕ)) → (after_lines manner at xs).later ≡ false → (xs ≡ []) × (at.later ≡ false)
lines-alone manner at [] is = (refl, is)
lines-alone manner at (x ∷ xs) is = absurd (let no : true ≡ false = (lines-alone manner (after manner at x) xs is).1 in cc)

pub talk-alone : (manner : Manner) (at : Footing) (xs : List Exchange) → (after_talk manner at xs).later ≡ false → (xs ≡ []) × (at.later ≡ false)
talk-alone manner at [] is = (refl, is)
talk-alone manner at (x ∷ xs) is = absurd (let no : true ≡ false = sym (exchange-later manner at x) ∙ (talk-alone manner (after_exchange manner at x) xs is).1 in cc)

-- ---- the last

pub last_is-append : {X : Type 0} (test : X → Bool) (before : Bool) (xs ys : List X) → last_is test before (xs ++ ys) ≡ last_is test (last_is test before xs) ys
last_is-append test before [] ys = refl
last_is-append test before (x ∷ xs) ys = last_is-append test (test x) xs ys

-- a last one that is such is, whatever came before
pub last_is-behind : {X : Type 0} (test : X → Bool) (before : Bool) (xs ys : List X) → last_is test false ys ≡ true → last_is test before (xs ++ ys) ≡ true
last_is-behind test before xs [] is = absurd (let no : false ≡ true = is in cc)
last_is-behind test before xs (y ∷ ys) is = last_is-append test before xs (y ∷ ys) ∙ is

pub last_is-none : {X : Type 0} (test : X → Bool) (xs : List X) → AllByRecursion (λ x. test x ≡ false) xs → last_is test false xs ≡ false
last_is-none test [] none = refl
last_is-none test (x ∷ xs) none = ap (λ b. last_is test b xs) none.0 ∙ last_is-none test xs none.1

-- behind such as are not, the last is that of the others
pub last_is-others : {X : Type 0} (test : X → Bool) (xs ys : List X) → AllByRecursion (λ x. test x ≡ false) xs → last_is test false (xs ++ ys) ≡ last_is test false ys
last_is-others test xs ys none = last_is-append test false xs ys ∙ ap (λ b. last_is test b ys) (last_is-none test xs none)
