-- Source: RFC 8259 (JSON); what a line asks own.
-- What a line asks, or why it is refused.
use Rattle.std.specs.Prelude.{ℕ, ◌+◌, pos, if◌then◌else◌, List, [], ◌∷◌, codes, bytes_eq, Option, Some, None, option_map}
use Rattle.std.specs.Option.{option_map_or}
use Rattle.std.specs.Str.{is_utf8}
use Rattle.serde_json.specs.Data.{Data}
use Rattle.serde_json.specs.Find.{as_str, get}
use Rattle.serde_json.specs.Read.{read}
use Rattle.boss_model.specs.declared.answer.Refusal.{Refusal}
use Rattle.boss_model.specs.declared.answer.Refusal.TheVariants.{Malformed, UnknownOp, UnknownPoint}
use Rattle.boss_model.specs.declared.command.Command.TheVariants as command
use Rattle.boss_model.specs.declared.command.Policy.TheVariants.{Abort}
use Rattle.boss_model.specs.declared.command.Setting.{Setting}
use Rattle.boss_model.specs.declared.command.Step.{Step as Played}
use Rattle.boss_model.specs.declared.spot.Key.{Key}
use Rattle.boss_model.specs.declared.spot.Key.TheVariants as key
use Rattle.boss_model.specs.declared.spot.Spot.{Spot}
use Rattle.boss_model.specs.declared.spot.Spot.TheVariants.{Line, Named, Write, Step, Half}
use Rattle.def_wire.specs.declared.form.Form.{Form}
use Rattle.def_wire.specs.declared.form.Form.TheVariants.{Script, FirstLine, LaterLine}
use Rattle.def_wire.specs.declared.form.Op.{Op}
use Rattle.def_wire.specs.declared.form.Op.TheVariants as op
use Rattle.def_wire.specs.declared.request.Ask.{Ask}
use Rattle.def_wire.specs.declared.request.Ask.TheVariants as ask
use Rattle.def_wire.specs.declared.request.Request.{Request}
use Rattle.boss_model.specs.Catalogue.{Catalogue, place_of}
use Rattle.boss_model.specs.Limits.{most_told, last_moment, last_number, last_session}
use Rattle.def_wire.specs.Spots.{key_text}
use Rattle.def_wire.specs.Keys.{list, under, under_or, whole, number_from, number_within, name, short_list, seq, policy, Write as Spelled}

-- what a line, or a part of it, asks, or what is wrong with it
pub data Parsed (A : Type 0) : Type 0 where
  asks : A → Parsed A
  wrong : Refusal → Parsed A

-- one part after another, until one is wrong
infixl 10 ◌>>=◌
abbrev pub ◌>>=◌ : {A B : Type 0} → Parsed A → (A → Parsed B) → Parsed B
(asks x) >>= rest = rest x
(wrong why) >>= rest = wrong why

-- what is missing, of another kind or out of its bounds makes the line malformed, and this is the key at fault
abbrev pub formed : {A : Type 0} → Spot → Option A → Parsed A
formed spot None = wrong (Malformed (Some spot))
formed spot (Some x) = asks x

-- a key that has to be there, and one that may be missing, of the line itself
abbrev pub needs : {A : Type 0} → Key → (Data → Option A) → Data → Parsed A
needs key read d = formed (Line key) (under (key_text key) read d)

abbrev pub may_have : {A : Type 0} → Key → (Data → Option A) → A → Data → Parsed A
may_have key read default d = formed (Line key) (under_or (key_text key) read default d)

-- the same of a write, the one at this place among the writes, from 0
abbrev pub write_needs : {A : Type 0} → ℕ → Key → (Data → Option A) → Data → Parsed A
write_needs index key read d = formed (Write index key) (under (key_text key) read d)

abbrev pub write_may_have : {A : Type 0} → ℕ → Key → (Data → Option A) → A → Data → Parsed A
write_may_have index key read default d = formed (Write index key) (under_or (key_text key) read default d)

-- ---- points

abbrev pub known : ℕ → Option ℕ → Parsed ℕ
known index None = wrong (UnknownPoint index)
known index (Some point) = asks point

-- the point of this name, which stands at this place among the names of the request, from 0
abbrev pub point_at : Catalogue → ℕ → List ℕ → Parsed ℕ
point_at catalogue index name = known index (place_of catalogue name)

-- each of the items, with its place, or what is wrong with the first that has something wrong
abbrev pub each_from : {A B : Type 0} → (ℕ → A → Parsed B) → ℕ → List A → Parsed (List B)
each_from read place [] = asks []
each_from read place (x ∷ xs) = do
  y ← read place x
  ys ← each_from read (place + 1) xs
  asks (y ∷ ys)

-- the text at this place among the names
abbrev pub text_at : ℕ → Data → Parsed (List ℕ)
text_at place d = formed (Named place) (as_str d)

-- the points that texts name: first each has to be a text, and then each a point
abbrev pub points_of : Catalogue → List Data → Parsed (List ℕ)
points_of catalogue items = do
  names ← each_from text_at 0 items
  each_from (point_at catalogue) 0 names

-- the point that a line is about
abbrev pub point_of : Catalogue → Data → Parsed ℕ
point_of catalogue d = do
  name ← needs key.Point as_str d
  point_at catalogue 0 name

-- the write, once its point is found
abbrev pub setting_at : Catalogue → ℕ → Spelled → Parsed Setting
setting_at catalogue index write = do
  point ← point_at catalogue index write.point
  asks (record { point = point; value = write.value; priority = write.priority; lease = write.lease; revert = write.revert })

-- a step of the reversion of this write
abbrev pub step_halves : ℕ → ℕ → List Data → Parsed Played
step_halves index place (value ∷ hold ∷ []) = do
  value ← formed (Half index place 0) (whole value)
  hold ← formed (Half index place 1) (whole hold)
  asks (record { value = value; hold = hold })
step_halves index place other = wrong (Malformed (Some (Step index place)))

abbrev pub step_at : ℕ → ℕ → Data → Parsed Played
step_at index place d = do
  items ← formed (Step index place) (list d)
  step_halves index place items

-- the reversion of this write: an array of steps, or none
abbrev pub steps_of : ℕ → Data → Parsed (List Played)
steps_of index d = do
  items ← formed (Write index key.Revert) (list d)
  each_from (step_at index) 0 items

abbrev pub revert_of : ℕ → Data → Parsed (List Played)
revert_of index d = option_map_or (steps_of index) (get (key_text key.Revert) d) (asks [])

-- the write at this place among the writes, from 0
abbrev pub write_at : ℕ → Data → Parsed Spelled
write_at index d = do
  point ← write_needs index key.Point as_str d
  value ← write_needs index key.Value whole d
  priority ← write_may_have index key.Priority whole (pos 16) d
  lease ← write_needs index key.Lease whole d
  revert ← revert_of index d
  asks (record { point = point; value = value; priority = priority; lease = lease; revert = revert })

-- the writes of a submit: first each has to be one, and then each of a point
abbrev pub settings_of : Catalogue → List Data → Parsed (List Setting)
settings_of catalogue items = do
  writes ← each_from write_at 0 items
  each_from (setting_at catalogue) 0 writes

-- ---- what is asked

abbrev pub attach_of : Data → Parsed Ask
attach_of d = do
  name ← needs key.Process name d
  asks (ask.Command (command.Attach name))

abbrev pub submit_of : Catalogue → Data → Parsed Ask
submit_of catalogue d = do
  items ← needs key.Writes short_list d
  policy ← may_have key.Policy policy Abort d
  seq ← may_have key.Seq seq 0 d
  settings ← settings_of catalogue items
  asks (ask.Command (command.Submit settings policy seq))

abbrev pub renew_of : Catalogue → Data → Parsed Ask
renew_of catalogue d = do
  txn ← needs key.Txn (number_from 0) d
  length ← needs key.Length whole d
  items ← may_have key.Points short_list [] d
  seq ← may_have key.Seq seq 0 d
  points ← points_of catalogue items
  asks (ask.Command (command.Renew txn length points seq))

abbrev pub cancel_of : Data → Parsed Ask
cancel_of d = do
  txn ← needs key.Txn (number_from 0) d
  seq ← may_have key.Seq seq 0 d
  asks (ask.Command (command.Cancel txn seq))

abbrev pub read_of : Catalogue → Data → Parsed Ask
read_of catalogue d = do
  point ← point_of catalogue d
  asks (ask.Command (command.Read point))

abbrev pub array_of : Catalogue → Data → Parsed Ask
array_of catalogue d = do
  point ← point_of catalogue d
  asks (ask.Command (command.Array point))

abbrev pub status_of : Data → Parsed Ask
status_of d = do
  txn ← needs key.Txn (number_from 0) d
  asks (ask.Command (command.Status txn))

abbrev pub notices_of : Data → Parsed Ask
notices_of d = do
  name ← may_have key.Process (λ p. option_map Some (name p)) None d
  from ← may_have key.From (number_from 1) 1 d
  most ← may_have key.Max (number_within 1 most_told) 16 d
  asks (ask.Command (command.Notices name from most))

-- a page of the catalogue's points
abbrev pub page_of : Data → Parsed Ask
page_of d = do
  from ← may_have key.From (number_within 0 last_number) 0 d
  most ← may_have key.Max (number_within 1 most_told) most_told d
  asks (ask.Command (command.Points from most))

abbrev pub watch_of : Data → Parsed Ask
watch_of d = do
  name ← needs key.Process name d
  from ← may_have key.From (number_from 1) 1 d
  asks (ask.Watch name from)

abbrev pub ask_of : Catalogue → Op → Data → Parsed Ask
ask_of catalogue op.Attach d = attach_of d
ask_of catalogue op.Submit d = submit_of catalogue d
ask_of catalogue op.Renew d = renew_of catalogue d
ask_of catalogue op.Cancel d = cancel_of d
ask_of catalogue op.Read d = read_of catalogue d
ask_of catalogue op.Array d = array_of catalogue d
ask_of catalogue op.Status d = status_of d
ask_of catalogue op.Notices d = notices_of d
ask_of catalogue op.Points d = page_of d
ask_of catalogue op.Version d = asks (ask.Command command.Version)
ask_of catalogue op.Gone d = asks (ask.Command command.Gone)
ask_of catalogue op.Tick d = asks (ask.Command command.Tick)
ask_of catalogue op.Watch d = watch_of d

-- ---- lines

-- what a text under `op` asks for in a line of each form
abbrev pub common_op : List ℕ → Option Op
common_op text =
    if bytes_eq text (codes "attach") then Some op.Attach else
    (if bytes_eq text (codes "submit") then Some op.Submit else
    (if bytes_eq text (codes "renew") then Some op.Renew else
    (if bytes_eq text (codes "cancel") then Some op.Cancel else
    (if bytes_eq text (codes "read") then Some op.Read else
    (if bytes_eq text (codes "array") then Some op.Array else
    (if bytes_eq text (codes "status") then Some op.Status else
    (if bytes_eq text (codes "notices") then Some op.Notices else
    (if bytes_eq text (codes "points") then Some op.Points else
    (if bytes_eq text (codes "version") then Some op.Version else None)))))))))

-- what it asks for in a line of this form
abbrev pub op_named : Form → List ℕ → Option Op
op_named Script text =
    if bytes_eq text (codes "gone") then Some op.Gone else
    (if bytes_eq text (codes "tick") then Some op.Tick else common_op text)
op_named FirstLine text = if bytes_eq text (codes "watch") then Some op.Watch else common_op text
op_named LaterLine text = common_op text

abbrev pub known_op : Option Op → Parsed Op
known_op None = wrong UnknownOp
known_op (Some op) = asks op

-- The session that the line is of, and the moment at which it asks. A line of a connection says neither, and 0 stands for
-- them until the connection's own are put in their places.
abbrev pub session_of : Form → Data → Option ℕ
session_of Script d = under_or (codes "on") (number_within 1 last_session) 1 d
session_of FirstLine d = Some 0
session_of LaterLine d = Some 0

abbrev pub moment_of : Form → Data → Option ℕ
moment_of Script d = under_or (codes "at") (number_within 0 last_moment) 0 d
moment_of FirstLine d = Some 0
moment_of LaterLine d = Some 0

-- what a value asks, as a line of this form
abbrev pub request_of : Catalogue → Form → Data → Parsed Request
request_of catalogue form d = do
  text ← needs key.Op as_str d
  op ← known_op (op_named form text)
  on ← formed (Line key.On) (session_of form d)
  at ← formed (Line key.At) (moment_of form d)
  ask ← ask_of catalogue op d
  asks (record { on = on; at = at; ask = ask })

-- a line that writes no JSON value has no key
abbrev pub read_in : Option Data → Parsed Data
read_in None = wrong (Malformed None)
read_in (Some d) = asks d

-- the JSON value that a line writes
abbrev pub value_in : List ℕ → Option Data
value_in line = if is_utf8 line then read line else None

-- what a line asks
unfoldable pub parsed : Catalogue → Form → List ℕ → Parsed Request
parsed catalogue form line = do
  d ← read_in (value_in line)
  request_of catalogue form d
