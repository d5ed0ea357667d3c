-- The lines of feeds, computed from the definitions alone.
use Rattle.std.proofs.Common.{◌≡◌, ℕ, zero, suc, List, [], ◌∷◌, ◌++◌, length, map, refl}
use Rattle.std.specs.Fmt.{digits}
use Rattle.std.specs.Prelude.{codes}
use Rattle.hex.specs.Hex.{encode_with}
use Rattle.boss_model.specs.declared.command.Policy.TheVariants.{Abort}
use Rattle.boss_model.specs.declared.event.Act.TheVariants as act
use Rattle.boss_model.specs.declared.event.Event.{Event}
use Rattle.boss_model.specs.State.{first_persistent}
use Rattle.def_bytes.specs.Fields.{number_text}
use Rattle.def_bytes.proofs.StateRows.{write, one_lease}
use Rattle.def_feed.specs.Items.{StateLine, PartLine, EventLine, item_text}
use Rattle.def_feed.specs.Feeds.{pieces, feed_lines, feed_text}

-- ---- each kind of line

state_line : item_text (StateLine 1822 65536) ≡ codes "state 1822 65536"
unfolding digits
state_line = refl

part_line : item_text (PartLine (0 ∷ 10 ∷ 255 ∷ [])) ≡ codes "part 000aff"
unfolding encode_with
part_line = refl

event_line : item_text (EventLine 0 (1 ∷ [])) ≡ codes "event 0 01"
unfolding digits encode_with
event_line = refl

-- ---- a journal with two events, and none before them

abbrev pub enrolled : Event
enrolled = record { moment = 0; act = act.Enrol (codes "a") }

abbrev pub submitted : Event
submitted = record { moment = 1000; act = act.Submit 0 Abort (write ∷ []) 0 }

abbrev pub first_line : List ℕ
first_line = codes "event 1 0100000000000000000161"

abbrev pub second_line : List ℕ
second_line = codes "event 2 0200000000000003e80000000100000000000000000000afc8080000ea6000"

from_the_first : feed_lines 0 first_persistent 0 (enrolled ∷ submitted ∷ []) ≡ first_line ∷ second_line ∷ []
unfolding digits encode_with number_text
from_the_first = refl

after_one : feed_lines 1 first_persistent 0 (enrolled ∷ submitted ∷ []) ≡ second_line ∷ []
unfolding digits encode_with number_text
after_one = refl

after_both : feed_lines 2 first_persistent 0 (enrolled ∷ submitted ∷ []) ≡ []
after_both = refl

each_line_ends : feed_text 0 first_persistent 0 (enrolled ∷ submitted ∷ []) ≡ first_line ++ 10 ∷ second_line ++ 10 ∷ []
unfolding digits encode_with number_text
each_line_ends = refl

of_a_new_pair : feed_text 0 first_persistent 0 [] ≡ []
of_a_new_pair = refl

-- ---- a journal with a kept state, after two events, and one event more

abbrev pub ticked : Event
ticked = record { moment = 61000; act = act.Tick }

abbrev pub state_line_2 : List ℕ
state_line_2 = codes "state 2 96"

abbrev pub state_part : List ℕ
state_part =
    codes "part 00000000000003e80000000000000002" ++
    codes "000101610000000000000000000000" ++
    codes "00000001000000000000000100000001000000000800" ++
    codes "0000" ++
    codes "0000000100000000000000010000" ++ codes "0000000008000000000000afc8000000000000ee480000" ++
    codes "00000000"

abbrev pub third_line : List ℕ
third_line = codes "event 3 06000000000000ee48"

with_the_state : feed_lines 1 one_lease 2 (ticked ∷ []) ≡ state_line_2 ∷ state_part ∷ third_line ∷ []
unfolding digits encode_with number_text
with_the_state = refl

-- who has the state already is told the event alone
without_the_state : feed_lines 2 one_lease 2 (ticked ∷ []) ≡ third_line ∷ []
unfolding digits encode_with number_text
without_the_state = refl

nothing_more : feed_lines 3 one_lease 2 (ticked ∷ []) ≡ []
nothing_more = refl

-- ---- a state that takes several parts

abbrev pub zeros : ℕ → List ℕ
zeros zero = []
zeros (suc n) = 0 ∷ zeros n

three_parts : map length (pieces 32769 (zeros 32769)) ≡ 16384 ∷ 16384 ∷ 1 ∷ []
three_parts = refl

no_part_too_many : map length (pieces 32768 (zeros 32768)) ≡ 16384 ∷ 16384 ∷ []
no_part_too_many = refl
