-- Reads of a source, and what was told when each was made.
use Rattle.std.proofs.Common.{◌≡◌, ℕ, ◌+◌, ◌≤◌, Bool, true, List, [], ◌∷◌, ◌++◌, length, Option, Some, None, refl, ap, ap₂, sym, ◌∙◌, subst, append_assoc, append-nil, arith}
use Rattle.std.specs.Prelude.{IfSome}
use Rattle.std.proofs.lemmas.List.{length-append}
use Rattle.boss_lines.specs.declared.reader.Next.{Next}
use Rattle.boss_lines.specs.Lines.{IsReadFor}
use Rattle.boss_lines.proofs.TakenLemmas.{Taken}
use Rattle.boss_model.specs.Catalogue.{Catalogue, actuators}
use Rattle.boss_model.specs.Lines.{whole_lines}
use Rattle.boss_model.specs.State.{State}
use Rattle.boss_outside.specs.declared.source.ReadAt.{ReadAt}
use Rattle.boss_outside.specs.Notes.{IsShown, NotesEach}
use Rattle.boss_outside.proofs.Noting.{notes-map, notes-nothing, notes-same, notes-then}
use Rattle.boss_shared.specs.declared.keeper.Keeper as keeper
use Rattle.def_history.specs.declared.entry.Entry.{Entry}
use Rattle.def_history.specs.History.{events}
use Rattle.def_wire.specs.Script.{Run}
use Rattle.boss_scripts.specs.InTime.{AreInTime, AreInTimeFrom, IsInTime}
use Rattle.boss_scripts.specs.Keepers.{Breaks, BreaksInTime, IsAt, Kept, Through, ThroughInTime}
use Rattle.boss_scripts.specs.Outside.{Trace}
use Rattle.boss_scripts.specs.Runs.{after, at, Did, IsLeft, left_before, line_taken, lines_taken, served, stop, Under}
use Rattle.boss_scripts.specs.Scripts.{script_with}
use Rattle.boss_scripts.proofs.Going.{breaks-then, through-then}
use Rattle.boss_scripts.proofs.Keeping.{is-after}
use Rattle.boss_scripts.proofs.LineLemmas.{breaks-next, through-before, through-one-more}
use Rattle.boss_scripts.proofs.RunLemmas.{after-append, broke-then, broke-under, did-same, did-then, did-under, left-append, left-between}
use Rattle.boss_scripts.proofs.ScriptLemmas.{begun, is-left, left_behind, script-is}

-- ---- a source that was shown what was taken

-- what it was shown is what was taken
shown-count : (bytes : List ℕ) (told count : ℕ) (r r' : Option (List ReadAt)) → IsShown r told count → NotesEach (IsReadFor bytes told) r r' → NotesEach (IsReadFor bytes count) r r'
shown-count bytes told count r None shown reads = tt
shown-count bytes told count r (Some now) shown reads =
    let is : told ≡ count = subst (λ x. IsShown x told count) reads.2 shown in
    subst (λ n. NotesEach (IsReadFor bytes n) r (Some now)) is reads

-- a source that reads is shown what was shown before
pub shown-still : (told told' count : ℕ) (P : ReadAt → Type 0) (r r' : Option (List ReadAt)) → told' ≡ told → IsShown r told count → NotesEach P r r' → IsShown r' told' count
shown-still told told' count P r None same shown reads = tt
shown-still told told' count P r (Some now) same shown reads = same ∙ subst (λ x. IsShown x told count) reads.2 shown

-- ---- the same run

in-time-same : (over over' : List (List ℕ) → Run) (bytes : List ℕ) (begun : ℕ) → ((all : List (List ℕ)) → over' all ≡ over all) → (r r' : Option (List ReadAt)) →
    AreInTime over bytes begun r r' → AreInTime over' bytes begun r r'
in-time-same over over' bytes begun same r r' reads =
    notes-map (IsInTime over bytes begun) (IsInTime over' bytes begun)
    (λ read is. record {
      come = is.come;
      rest = is.rest;
      split = is.split;
      left = is.left;
      told = subst (λ run. begun + length run.text ≤ read.told) (sym (same (whole_lines is.come))) is.told;
    })
    r r' reads

module _ (catalogue : Catalogue) (bytes : List ℕ) (taken : ℕ) (start : Under) where
  -- no read was made
  pub none-read : (entries : List Entry) (results : List Bool) (r : Option (List ReadAt)) → AreInTimeFrom catalogue start entries results bytes taken r r
  none-read entries results r later text earlier before left begun ends same =
      notes-nothing (IsInTime (λ all. lines_taken catalogue all (at start text earlier before (results ++ later) (left_before entries left))) bytes begun) r

  -- reads behind others
  pub reads-then : (entries : List Entry) (results : List Bool) (r r' r'' : Option (List ReadAt)) →
      AreInTimeFrom catalogue start entries results bytes taken r r' → AreInTimeFrom catalogue start entries results bytes taken r' r'' → AreInTimeFrom catalogue start entries results bytes taken r r''
  reads-then entries results r r' r'' one two later text earlier before left begun ends same =
      notes-then (IsInTime (λ all. lines_taken catalogue all (at start text earlier before (results ++ later) (left_before entries left))) bytes begun) r r' r''
      (one later text earlier before left begun ends same) (two later text earlier before left begun ends same)

  -- they are in time whatever is done behind them
  pub still-in-time : (first second : List Entry) (results results' : List Bool) (r r' : Option (List ReadAt)) → ((after (actuators catalogue) first start).stopped ≡ true → second ≡ []) →
      AreInTimeFrom catalogue start first results bytes taken r r' → AreInTimeFrom catalogue start (first ++ second) (results ++ results') bytes taken r r'
  still-in-time first second results results' r r' still one later text earlier before left begun ends same =
      in-time-same (λ all. lines_taken catalogue all (at start text earlier before (results ++ (results' ++ later)) (left_before first (left_before second left))))
      (λ all. lines_taken catalogue all (at start text earlier before ((results ++ results') ++ later) (left_before (first ++ second) left))) bytes begun
      (λ all. ap₂ (λ rs n. lines_taken catalogue all (at start text earlier before rs n)) (append_assoc results results' later) (left-append first second left)) r r'
      (one (results' ++ later) text earlier before (left_before second left) begun (left-between (actuators catalogue) first second start left still ends) same)

  -- reads behind lines that were taken; once the source has told its end none is made
  module _ (given : List (List ℕ)) {entries : List Entry} {old mid : Trace} (did : Did (actuators catalogue) (lines_taken catalogue given) stop start entries old mid) (is : taken ≡ length old.taken) where
    pub reads-behind : (P : Next → Type 0) (rest : List ℕ) (stopped : Option Next) (told : ℕ) (r r' : Option (List ReadAt)) → Taken bytes given rest stopped →
        ((answer : Next) → P answer → r' ≡ r) → IfSome stopped P → IsShown r told (length mid.taken) → NotesEach (IsReadFor rest told) r r' →
        AreInTimeFrom catalogue start entries did.results bytes taken r r'
    reads-behind P rest (Some answer) told r r' front unread stays shown reads later text earlier before left begun ends same =
        notes-same (IsInTime (λ all. lines_taken catalogue all (at start text earlier before (did.results ++ later) (left_before entries left))) bytes begun) r r' (unread answer stays)
    reads-behind P rest None told r r' front unread stays shown reads later text earlier before left begun ends same =
        let over : List (List ℕ) → Run = λ all. lines_taken catalogue all (at start text earlier before (did.results ++ later) (left_before entries left)) in
        let says : (over given).text ≡ text ++ did.told = ap (λ run. run.text) (did.leads later text earlier before left ends) in
        let count : begun + length (over given).text ≡ length mid.taken =
        omega (arith, ap length says, length-append text did.told, ap length did.text, length-append old.taken did.told, same, is) in
        notes-map (IsReadFor rest (length mid.taken)) (IsInTime over bytes begun)
        (λ read was.
        let whole : whole_lines (front.front ++ was.come) ≡ given =
        (front.going refl was.come).1 ∙ ap (λ ls. given ++ ls) was.waiting ∙ append-nil given in
        record {
          come = front.front ++ was.come;
          rest = was.rest;
          split = front.split ∙ ap (λ xs. front.front ++ xs) was.split ∙ sym (append_assoc front.front was.come was.rest);
          left = was.left;
          told = subst (λ all. begun + length (over all).text ≤ read.told) (sym whole) (omega (arith, count, was.shown));
        })
        r r' (shown-count rest told (length mid.taken) r r' shown reads)

-- ---- lines one after another

module _ {V : Type 0} (v : keeper.Ghosts V) (catalogue : Catalogue) (bytes : List ℕ) (given : List (List ℕ)) {k k' : V} {entries : List Entry} {old mid : Trace} (r r' : Option (List ReadAt))
    (same : v.plant k ≡ actuators catalogue) (kept : Kept v k k' entries) (first : ThroughInTime v catalogue bytes r r' (lines_taken catalogue given) stop k entries old mid) where
  abbrev without-reads : Through v (actuators catalogue) (lines_taken catalogue given) stop k entries old mid
  without-reads start is = (first start is).0

  -- reads behind them
  pub through-reads : (P : Next → Type 0) (rest : List ℕ) (stopped : Option Next) (told : ℕ) (r'' : Option (List ReadAt)) → Taken bytes given rest stopped →
      ((answer : Next) → P answer → r'' ≡ r') → IfSome stopped P → IsShown r' told (length mid.taken) → NotesEach (IsReadFor rest told) r' r'' →
      ThroughInTime v catalogue bytes r r'' (lines_taken catalogue given) stop k entries old mid
  through-reads P rest stopped told r'' front unread stays shown reads start is =
      let one = first start is in (
        one.0,
        reads-then catalogue bytes (length old.taken) start entries one.0.results r r' r'' one.1
            (reads-behind catalogue bytes (length old.taken) start given one.0 refl P rest stopped told r' r'' front unread stays shown reads),
      )

  -- more lines are to come
  pub in-time-before : (more : List (List ℕ)) → ThroughInTime v catalogue bytes r r' (lines_taken catalogue (given ++ more)) (lines_taken catalogue more) k entries old mid
  unfolding through-before did-same did-under
  in-time-before more start is = (through-before v catalogue given same kept without-reads more start is, (first start is).1)

  module _ (line : List ℕ) {k'' : V} {last : List Entry} (behind : Kept v k' k'' last) where
    ends-there : (start : Under) → IsAt v k start → (after (actuators catalogue) entries start).stopped ≡ true → last ≡ []
    ends-there start is on = behind.none ((is-after v k k' entries kept (actuators catalogue) start same is).stopped ∙ on)

    -- one line more
    pub one-more-in-time : {new : Trace} → Through v (actuators catalogue) (line_taken catalogue line) stop k' last mid new →
        ThroughInTime v catalogue bytes r r' (lines_taken catalogue (given ++ line ∷ [])) stop k (entries ++ last) old new
    unfolding through-one-more through-then through-before did-then did-same did-under
    one-more-in-time second start is =
        let one = first start is in
        let there = is-after v k k' entries kept (actuators catalogue) start same is in (
          through-one-more v catalogue given same kept without-reads line behind second start is,
          still-in-time catalogue bytes (length old.taken) start entries last one.0.results (second (after (actuators catalogue) entries start) there).results r r' (ends-there start is) one.1,
        )

    -- the next line broke off
    pub next-in-time : {new : Trace} (more : List (List ℕ)) → Breaks v (actuators catalogue) (line_taken catalogue line) k' last mid new →
        BreaksInTime v catalogue bytes r r' (lines_taken catalogue (given ++ line ∷ more)) k (entries ++ last) old new
    unfolding breaks-next breaks-then through-before broke-then broke-under did-same did-under
    next-in-time more broke start is =
        let one = first start is in
        let there = is-after v k k' entries kept (actuators catalogue) start same is in (
          breaks-next v catalogue given same kept without-reads line behind more broke start is,
          still-in-time catalogue bytes (length old.taken) start entries last one.0.results (broke (after (actuators catalogue) entries start) there).results r r' (ends-there start is) one.1,
        )

-- ---- the whole script

-- the lines stand behind the wants of the beginning
pub whole-in-time : (catalogue : Catalogue) (s : State) (bytes : List ℕ) {first : List Entry} {old mid : Trace} (opening : Did (actuators catalogue) (served catalogue 0) stop (begun s) first old mid)
    (second : List Entry) (results : List Bool) (r r' : Option (List ReadAt)) → ((after (actuators catalogue) first (begun s)).stopped ≡ true → second ≡ []) →
    AreInTimeFrom catalogue (after (actuators catalogue) first (begun s)) second results bytes (length mid.taken) r r' →
    AreInTime (λ all. script_with catalogue s all (first ++ second) (opening.results ++ results)) bytes (length old.taken) r r'
whole-in-time catalogue s bytes {first} {old} {mid} opening second results r r' still reads =
    let plant = actuators catalogue in
    let entries = first ++ second in
    let left = left_behind entries in
    let behind = after plant first (begun s) in
    let ends : IsLeft (after plant entries (begun s)) left = is-left catalogue s entries in
    let opened : served catalogue 0 (at (begun s) [] [] [] ((opening.results ++ results) ++ []) (left_before entries left))
    ≡ at behind opening.told opening.calls (events plant first s) (results ++ []) (left_before second left) =
    ap₂ (λ rs n. served catalogue 0 (at (begun s) [] [] [] rs n)) (append_assoc opening.results results []) (left-append first second left)
    ∙ opening.leads (results ++ []) [] [] [] (left_before second left) (left-between plant first second (begun s) left still ends) in
    in-time-same (λ all. lines_taken catalogue all (at behind opening.told opening.calls (events plant first s) (results ++ []) (left_before second left)))
    (λ all. script_with catalogue s all entries (opening.results ++ results)) bytes (length old.taken)
    (λ all. script-is catalogue s entries all (opening.results ++ results) ∙ ap (lines_taken catalogue all) opened) r r'
    (reads [] opening.told opening.calls (events plant first s) left (length old.taken)
    (λ on. ends (ap (λ u. u.stopped) (after-append plant first second (begun s)) ∙ on))
    (omega (arith, ap length opening.text, length-append old.taken opening.told)))
