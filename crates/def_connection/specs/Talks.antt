-- Source: own.
-- The talk on one connection: as long as it goes on, where it stops, and as a whole.
use Rattle.std.specs.Prelude.{◌≡◌, ℕ, ◌<◌, Bool, true, false, ◌||◌, List, [], ◌++◌, map, Option, Some, None}
use Rattle.std.specs.List.{AllByRecursion}
use Rattle.boss_model.specs.declared.answer.Answer.{Answer}
use Rattle.boss_model.specs.declared.command.Command.{Command}
use Rattle.def_history.specs.declared.entry.Entry.{Entry}
use Rattle.def_history.specs.History.{deeds}
use Rattle.boss_outside.specs.Counts.{Rose}
use Rattle.boss_outside.specs.Notes.{AllRead}
use Rattle.boss_outside.specs.Streams.{TakesFront}
use Rattle.boss_outside_server.specs.Hosts.{Served}
use Rattle.def_lanes.specs.Works.{Course, Cut, not_cut, by_disk, by_clock, by_memory}
use Rattle.def_connection.specs.Answered.{IsAnswered}
use Rattle.def_connection.specs.Judging.{AreJudged, name_in}
use Rattle.def_connection.specs.Losing.{spoken_of, Lost}
use Rattle.def_connection.specs.Speech.{Footing, beginning, Speech, Exchange, line_in, after_talk, AreRead, text_in, deeds_in, moments_in, last_or, attached_in, parting_of, is_end}
use Rattle.def_connection.specs.Stopping.{Stop, finish, read_fault, write_fault, clock_fault, long_line, long_untold, wrong_key, wrong_untold, limit, disk, nothing, is_disk, end_text, Leaves, moments_with}

-- a sink took a front of the text, and all of it unless its count of faults rose
pub record Told (old new : List ℕ) (before now : ℕ) (text : List ℕ) : Type 0 where
  pub front : TakesFront old new text
  pub whole : ¬ Rose before now → new ≡ old ++ text

-- where a talk stands: the pass's own entries; the bytes that the sink took, and the count of its faults; the moments that the
-- clock gave; whether an attach was accepted, and the last moment; and the name of the process that the session has
pub record Standing : Type 0 where
  pub own : List Entry
  pub taken : List ℕ
  pub faults : ℕ
  pub given : List ℕ
  pub attached : Bool
  pub last : ℕ
  pub name : Option (List ℕ)

-- the session has no process
abbrev pub standing : List Entry → List ℕ → ℕ → List ℕ → Bool → ℕ → Standing
standing own taken faults given attached last = record { own = own; taken = taken; faults = faults; given = given; attached = attached; last = last; name = None }

module _ (speech : Speech) (session : ℕ) (tells ticks : Type 0) where
  -- these lines were heard, each has its reply, and the talk goes on, on the footing that they leave
  pub record Goes (at at' : Footing) (heard : List (List ℕ)) (old new : Standing) : Type 0 where
    pub talk : List Exchange
    pub lines : heard ≡ map line_in talk
    pub reads : AreRead speech.manner at talk
    pub leaves : at' ≡ after_talk speech.manner at talk
    pub goes_on : AllByRecursion (λ exchange. is_end exchange ≡ false) talk
    pub grew : deeds new.own ≡ deeds old.own ++ deeds_in session talk
    pub told : tells → new.taken ≡ old.taken ++ text_in speech talk
    pub calm : new.faults ≡ old.faults
    pub gave : ticks → new.given ≡ old.given ++ moments_in talk
    pub attached : new.attached ≡ (old.attached || attached_in talk)
    pub last : new.last ≡ last_or old.last (moments_in talk)
    pub judged : AreJudged speech.denies old.name talk
    pub name : new.name ≡ name_in old.name talk

  -- these lines were heard, and the talk stops; the moments are those of the requests that were called, and then of those that were not
  pub record Stops (at : Footing) (heard : List (List ℕ)) (stop : Stop) (old new : Standing) : Type 0 where
    pub talk : List Exchange
    pub uncalled : List (Command × ℕ)
    pub leaves : Leaves speech at heard stop (Rose old.faults new.faults) talk uncalled
    pub grew : deeds new.own ≡ deeds old.own ++ deeds_in session talk
    pub told : tells → Told old.taken new.taken old.faults new.faults (text_in speech talk ++ end_text speech stop)
    pub gave : ticks → new.given ≡ old.given ++ moments_with talk uncalled
    pub attached : new.attached ≡ (old.attached || attached_in talk)
    pub last : new.last ≡ last_or old.last (moments_with talk uncalled)
    pub judged : AreJudged speech.denies old.name talk

-- an attach was accepted, and the last call was not answered
abbrev pub is_unparted : Bool → Option Answer → Bool
is_unparted attached None = attached
is_unparted attached (Some given) = false

-- a whole talk, by its entries and moments: one entry for each command that was answered, and at the end, where an attach was
-- accepted, that its process is lost, unless the disk has failed, which is then broken. A submit was denied exactly where a gate
-- denies it
pub record Exchanged (speech : Speech) (session : ℕ) (tells : Type 0) (heard : List (List ℕ)) (stop : Stop) (broken : Bool) (old new : List ℕ) (before now : ℕ) (entries : List Entry) (moments : List ℕ) : Type 0 where
  pub talk : List Exchange
  pub uncalled : List (Command × ℕ)
  pub parting : Option Answer
  pub leaves : Leaves speech beginning heard stop (Rose before now) talk uncalled
  pub all_moments : moments ≡ moments_with talk uncalled
  pub all_entries : entries ≡ deeds_in session talk ++ parting_of session (last_or 0 moments) parting
  pub unattached : attached_in talk ≡ false → parting ≡ None
  pub broken_is : broken ≡ (is_disk stop || is_unparted (attached_in talk) parting)
  pub told : tells → Told old new before now (text_in speech talk ++ end_text speech stop)
  pub judged : AreJudged speech.denies None talk

-- the same in a pass and of a clock
pub record Talked (speech : Speech) (session : ℕ) (tells ticks : Type 0) (heard : List (List ℕ)) (stop : Stop) (broken : Bool) (old new : Standing) : Type 0 where
  pub more : List Entry
  pub moments : List ℕ
  pub grew : deeds new.own ≡ deeds old.own ++ more
  pub gave : ticks → new.given ≡ old.given ++ moments
  pub exchanged : Exchanged speech session tells heard stop broken old.taken new.taken old.faults new.faults more moments

-- nothing is left in the input and each line has its reply; or a line was too long, or forbidden; or as many lines came as are taken
abbrev pub is_whole : Stop → Bool
is_whole finish = true
is_whole long_line = true
is_whole wrong_key = true
is_whole limit = true
is_whole other = false

-- what cut it off: a disk that failed goes before a clock that did; and there was no memory to begin
abbrev pub cut_for : Bool → Stop → Cut
cut_for true stop = by_disk
cut_for false clock_fault = by_clock
cut_for false nothing = by_memory
cut_for false other = not_cut

-- how many of its reads and of its writes failed, unless the disk has
abbrev pub ReadsAt : Stop → ℕ → Type 0
ReadsAt read_fault faults = 0 < faults
ReadsAt write_fault faults = Unit {0}
ReadsAt long_untold faults = Unit {0}
ReadsAt wrong_untold faults = Unit {0}
ReadsAt disk faults = Unit {0}
ReadsAt other faults = faults ≡ 0

abbrev pub WritesAt : Stop → ℕ → Type 0
WritesAt write_fault faults = 0 < faults
WritesAt long_untold faults = 0 < faults
WritesAt wrong_untold faults = 0 < faults
WritesAt clock_fault faults = Unit {0}
WritesAt disk faults = Unit {0}
WritesAt other faults = faults ≡ 0

-- how a connection ended, by the lines that were taken of its input and why the talk on it stopped: it was cut off where the disk or the
-- clock failed or there was no memory to begin; else, where no read or write of it failed, it is whole. Where the disk has not failed,
-- reads and writes of it failed as the stop says
pub record IsEnded (served : Served) (taken : List (List ℕ)) (stop : Stop) (broken : Bool) (cut : Cut) : Type 0 where
  pub lost : Lost served.held served.left taken stop
  pub cut_is : cut ≡ cut_for broken stop
  pub whole : cut ≡ not_cut → served.read_faults ≡ 0 → served.write_faults ≡ 0 → is_whole stop ≡ true
  pub reads : broken ≡ false → ReadsAt stop served.read_faults
  pub writes : broken ≡ false → WritesAt stop served.write_faults

-- an ended connection agrees with these entries: they and the bytes that its output took are a whole talk over the lines that were taken
-- of its input, and this was read only when all that had come whole was answered
pub record IsTalkOf (speech : Speech) (tells : Type 0) (served : Served) (course : Course) (entries : List Entry) : Type 0 where
  pub taken : List (List ℕ)
  pub stop : Stop
  pub broken : Bool
  pub ended : IsEnded served taken stop broken course.cut
  pub exchanged : Exchanged speech served.session tells (spoken_of taken) stop broken [] served.taken 0 served.write_faults entries course.moments
  pub answered : tells → AllRead (IsAnswered speech served.held 0 exchanged.talk) served.reads
