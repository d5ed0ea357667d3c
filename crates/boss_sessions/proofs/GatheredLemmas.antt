-- Requests that are gathered line by line.
use Rattle.std.proofs.Common.{◌≡◌, ℕ, ◌≤◌, false, not, List, [], ◌∷◌, ◌++◌, map, refl, ap, sym, ◌∙◌, subst, append_assoc, append-nil, arith}
use Rattle.std.proofs.lemmas.List.{map-append}
use Rattle.std.proofs.lemmas.List.Elements.{filter-append}
use Rattle.boss_model.specs.declared.command.Command.{Command}
use Rattle.boss_model.specs.Lines.{is_blank}
use Rattle.def_connection.proofs.Lasting.{after_lines-append}
use Rattle.def_connection.specs.Batches.{AreAsked}
use Rattle.def_connection.specs.Losing.{spoken_of}
use Rattle.def_connection.specs.Speech.{Footing, Manner, after, after_lines}
use Rattle.boss_sessions.specs.declared.heard.Heard.{Heard}
use Rattle.boss_sessions.specs.declared.heard.Heard.TheVariants.{Requests, Refused, Unread, Watch, Untimed, WrongKey, Limit, Finish, TooLong, ReadFault}
use Rattle.boss_sessions.specs.Gathered.{IsBehind, Gathered, GoesOn}
use Rattle.boss_sessions.specs.Places.{Place, Advances, IsAtStop}
use Rattle.boss_sessions.specs.Requests.{after_heard, Hears}
use Rattle.boss_sessions.proofs.PlaceLemmas.{advances-then, spoken-line}

pub asked-append : (manner : Manner) (at : Footing) (lines others : List (List ℕ)) (calls more : List (Command × ℕ)) → AreAsked manner at lines calls →
    AreAsked manner (after_lines manner at lines) others more → AreAsked manner at (lines ++ others) (calls ++ more)
asked-append manner at [] others [] more first then = then
asked-append manner at [] others (call ∷ calls) more first then = absurd first
asked-append manner at (line ∷ lines) others [] more first then = absurd first
asked-append manner at (line ∷ lines) others (call ∷ calls) more first then = (first.0, asked-append manner (after manner at line) lines others calls more first.1 then)

module _ (manner : Manner) (heeds ticks : Type 0) where
  -- nothing was heard but blank lines
  pub gathered-silent : (at at' : Footing) (calls calls' : List (Command × ℕ)) (given given' : List ℕ) (old new : Place) (all : List (List ℕ)) (heard : Heard) →
      calls' ≡ calls → (ticks → given' ≡ given) → [] ≡ spoken_of all → Advances heeds all old new → IsBehind manner at at' [] heard →
      Gathered manner heeds ticks at at' calls calls' given given' old new heard
  gathered-silent at at' calls calls' given given' old new all heard kept gave silent advances behind = record {
    waiting = [];
    more = [];
    behind = [];
    asked = tt;
    held = kept ∙ sym (append-nil calls);
    behind_is = behind;
    gave = λ told. gave told ∙ sym (append-nil given);
    all = all;
    spoken = silent;
    advances = advances;
  }

  -- a line of which nothing is held
  gathered-behind : (at at' : Footing) (calls calls' : List (Command × ℕ)) (given given' : List ℕ) (old new : Place) (line : List ℕ) (heard : Heard) →
      calls' ≡ calls → (ticks → given' ≡ given) → line ∷ [] ≡ spoken_of (line ∷ []) → Advances heeds (line ∷ []) old new → IsBehind manner at at' (line ∷ []) heard →
      Gathered manner heeds ticks at at' calls calls' given given' old new heard
  gathered-behind at at' calls calls' given given' old new line heard kept gave spoken advances behind = record {
    waiting = [];
    more = [];
    behind = line ∷ [];
    asked = tt;
    held = kept ∙ sym (append-nil calls);
    behind_is = behind;
    gave = λ told. gave told ∙ sym (append-nil given);
    all = line ∷ [];
    spoken = spoken;
    advances = advances;
  }

  pub gathered-line : (at at' : Footing) (calls calls' : List (Command × ℕ)) (given given' : List ℕ) (old new : Place) (line : List ℕ) (heard : Heard) →
      at' ≡ after_heard manner at line heard → is_blank line ≡ false → Advances heeds (line ∷ []) old new → Hears (manner.reading at line) ticks at.later calls calls' given given' heard →
      Gathered manner heeds ticks at at' calls calls' given given' old new heard
  gathered-line at at' calls calls' given given' old new line Requests is shows advances hears = record {
    waiting = line ∷ [];
    more = (hears.0, hears.2.0) ∷ [];
    behind = [];
    asked = (hears.1, tt);
    held = hears.2.2;
    behind_is = (refl, is);
    gave = hears.2.3;
    all = line ∷ [];
    spoken = sym (spoken-line line shows);
    advances = advances;
  }
  gathered-line at at' calls calls' given given' old new line (Refused why) is shows advances hears =
      gathered-behind at at' calls calls' given given' old new line (Refused why) hears.1.0 hears.1.1 (sym (spoken-line line shows)) advances (line, refl, hears.0, is)
  gathered-line at at' calls calls' given given' old new line Unread is shows advances hears =
      gathered-behind at at' calls calls' given given' old new line Unread hears.0 hears.1 (sym (spoken-line line shows)) advances (line, refl, is)
  gathered-line at at' calls calls' given given' old new line (Watch name from) is shows advances hears =
      gathered-behind at at' calls calls' given given' old new line (Watch name from) hears.3.0 hears.3.1 (sym (spoken-line line shows)) advances (line, refl, hears.0, hears.1, hears.2)
  gathered-line at at' calls calls' given given' old new line Untimed is shows advances hears =
      gathered-behind at at' calls calls' given given' old new line Untimed hears.2.0 hears.2.1 (sym (spoken-line line shows)) advances (line, refl, (hears.0, hears.1))
  gathered-line at at' calls calls' given given' old new line WrongKey is shows advances hears =
      gathered-behind at at' calls calls' given given' old new line WrongKey hears.1.0 hears.1.1 (sym (spoken-line line shows)) advances (line, refl, hears.0)
  gathered-line at at' calls calls' given given' old new line Limit is shows advances hears = absurd hears
  gathered-line at at' calls calls' given given' old new line Finish is shows advances hears = absurd hears
  gathered-line at at' calls calls' given given' old new line TooLong is shows advances hears = absurd hears
  gathered-line at at' calls calls' given given' old new line ReadFault is shows advances hears = absurd hears

  -- more is gathered behind requests
  pub gathered-then : (l l' l'' : Footing) (c c' c'' : List (Command × ℕ)) (g g' g'' : List ℕ) (a b d : Place) (heard : Heard) →
      Gathered manner heeds ticks l l' c c' g g' a b Requests → Gathered manner heeds ticks l' l'' c' c'' g' g'' b d heard → Gathered manner heeds ticks l l'' c c'' g g'' a d heard
  gathered-then l l' l'' c c' c'' g g' g'' a b d heard one other =
      let none : one.behind ≡ [] = one.behind_is.0 in
      let first : one.waiting ≡ spoken_of one.all = sym (append-nil one.waiting) ∙ ap (λ rest. one.waiting ++ rest) (sym none) ∙ one.spoken in
      let mid : l' ≡ after_lines manner l one.waiting = one.behind_is.1 in
      let now : after_lines manner l' other.waiting ≡ after_lines manner l (one.waiting ++ other.waiting) =
      ap (λ t. after_lines manner t other.waiting) mid ∙ sym (after_lines-append manner l one.waiting other.waiting) in
      let both : one.waiting ++ (other.waiting ++ other.behind) ≡ (one.waiting ++ other.waiting) ++ other.behind = sym (append_assoc one.waiting other.waiting other.behind) in
      record {
        waiting = one.waiting ++ other.waiting;
        more = one.more ++ other.more;
        behind = other.behind;
        asked = asked-append manner l one.waiting other.waiting one.more other.more one.asked (subst (λ t. AreAsked manner t other.waiting other.more) mid other.asked);
        held = other.held ∙ ap (λ front. front ++ other.more) one.held ∙ append_assoc c one.more other.more;
        behind_is = subst (λ t. IsBehind manner t l'' other.behind heard) now other.behind_is;
        gave = λ told. other.gave told ∙ ap (λ front. front ++ map (λ call. call.1) other.more) (one.gave told)
            ∙ append_assoc g (map (λ call. call.1) one.more) (map (λ call. call.1) other.more) ∙ ap (λ rest. g ++ rest) (sym (map-append (λ call. call.1) one.more other.more));
        all = one.all ++ other.all;
        spoken = sym both ∙ ap (λ rest. one.waiting ++ rest) other.spoken ∙ ap (λ front. front ++ spoken_of other.all) first ∙ sym (filter-append (λ line. not (is_blank line)) one.all other.all);
        advances = advances-then heeds a b d one.all other.all one.advances other.advances;
      }

  -- ---- by what was heard

  pub stop-behind : (at at' : Footing) (place : Place) (heard : Heard) → IsAtStop heeds place heard → IsBehind manner at at' [] heard
  stop-behind at at' place Requests stop = absurd stop
  stop-behind at at' place (Refused why) stop = absurd stop
  stop-behind at at' place Unread stop = absurd stop
  stop-behind at at' place (Watch name from) stop = absurd stop
  stop-behind at at' place Untimed stop = absurd stop
  stop-behind at at' place WrongKey stop = absurd stop
  stop-behind at at' place Limit stop = refl
  stop-behind at at' place Finish stop = refl
  stop-behind at at' place TooLong stop = refl
  stop-behind at at' place ReadFault stop = refl

-- fewer than at a place on the way are fewer than at the beginning
pub on-then : (first before now : ℕ) (heard : Heard) → before ≤ first → GoesOn before now heard → GoesOn first now heard
on-then first before now Requests fewer less = omega (arith, fewer, less)
on-then first before now (Refused why) fewer less = omega (arith, fewer, less)
on-then first before now Unread fewer less = omega (arith, fewer, less)
on-then first before now (Watch name from) fewer less = tt
on-then first before now Untimed fewer less = tt
on-then first before now WrongKey fewer less = tt
on-then first before now Limit fewer less = tt
on-then first before now Finish fewer less = tt
on-then first before now TooLong fewer less = tt
on-then first before now ReadFault fewer less = tt
