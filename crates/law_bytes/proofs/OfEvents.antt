-- Events are spelled by bytes.
use Rattle.std.proofs.Common.{◌≡◌, ℕ, ◌==◌, Bool, true, false, cond, List, [], ◌∷◌}
use Rattle.std.specs.Int.{w16, w32, w64}
use Rattle.std.specs.List.{AllByRecursion}
use Rattle.boss_model.specs.declared.event.Act.{Act}
use Rattle.boss_model.specs.declared.event.Act.TheVariants as act
use Rattle.boss_model.specs.declared.event.Event.{Event}
use Rattle.boss_model.specs.Limits.{longest_name, most_steps, most_writes}
use Rattle.boss_model.specs.Names.{is_name}
use Rattle.def_bytes.specs.Exact.{IsBytes}
use Rattle.def_bytes.specs.Fields.{Field, number, byte, only, counted}
use Rattle.def_bytes.specs.Parts.{nothing, within, bits_of, signed64, unsigned, natural, moment, name, policy_number, policy_of, policy, step_parts, step_of, step, steps}
use Rattle.def_bytes.specs.Events.{setting_parts, setting_of, setting, writes, points, submission, renewal, is_number, owned, numbered, act_fits, act_text, events, event}
use Rattle.def_bytes.specs.Batches.{batch_text}
use Rattle.def_bytes.proofs.Spelling.{left_true, right_true}
use Rattle.law_bytes.proofs.Texts.{IsOfBytes, no-bytes, joined, numbers, one-byte, pair, tested, whole, list, kinds}

-- ---- what events and states share

pub nothing-at-all : IsOfBytes nothing
nothing-at-all = record { bytes = λ x fits. no-bytes }

pub some-byte : (least greatest : ℕ) → IsOfBytes (within least greatest)
some-byte least greatest = tested _ _ (tested _ byte one-byte)

pub signed : IsOfBytes signed64
signed = whole bits_of _ (number w64) (numbers w64)

pub not-negative : (f : Field ℕ) → IsOfBytes f → IsOfBytes (natural f)
not-negative f a = whole unsigned _ f a

pub moments : IsOfBytes moment
moments = tested _ (number w64) (numbers w64)

pub names : IsOfBytes name
names = tested is_name (counted byte longest_name byte) (list byte longest_name byte one-byte one-byte)

pub policies : IsOfBytes policy
policies = whole policy_number policy_of (within 0 1) (some-byte 0 1)

pub reversions : IsOfBytes steps
reversions = list byte most_steps step one-byte (whole step_parts step_of _ (pair signed64 (natural (number w32)) signed (not-negative (number w32) (numbers w32))))

-- ---- acts

settings : IsOfBytes setting
settings = whole setting_parts setting_of _
    (pair (number w32) _ (numbers w32) (pair signed64 _ signed (pair (natural byte) _ (not-negative byte one-byte) (pair (natural (number w32)) steps (not-negative (number w32) (numbers w32)) reversions))))

submissions : IsOfBytes submission
submissions = pair policy writes policies (list (within 1 most_writes) most_writes setting (some-byte 1 most_writes) settings)

renewals : IsOfBytes renewal
renewals = pair (number w64) _ (numbers w64) (pair (natural (number w32)) points (not-negative (number w32) (numbers w32)) (list byte most_writes (number w32) one-byte (numbers w32)))

-- an act of a process, with a number of its own or without one
by-owner : {X : Type 0} (f : Field X) → IsOfBytes f → (owner seq : ℕ) (x : X) (none : Bool) →
    cond none ((owned f).fits (owner, x)) ((numbered f).fits (owner, (seq, x))) ≡ true → IsBytes (cond none ((owned f).text (owner, x)) ((numbered f).text (owner, (seq, x))))
by-owner f of owner seq x true fits = (pair (number w16) f (numbers w16) of).bytes (owner, x) fits
by-owner f of owner seq x false fits =
    (pair (number w16) _ (numbers w16) (pair (only is_number (number w64)) f (tested is_number (number w64) (numbers w64)) of)).bytes (owner, (seq, x)) fits

act-bytes : (a : Act) → act_fits a ≡ true → IsBytes (act_text a)
act-bytes (act.Enrol bytes) fits = names.bytes bytes fits
act-bytes (act.Submit owner on_fault settings seq) fits = by-owner submission submissions owner seq (on_fault, settings) (seq == 0) fits
act-bytes (act.Renew owner txn longer named seq) fits = by-owner renewal renewals owner seq (txn, (longer, named)) (seq == 0) fits
act-bytes (act.Cancel owner txn seq) fits = by-owner (number w64) (numbers w64) owner seq txn (seq == 0) fits
act-bytes (act.Gone owner) fits = (numbers w16).bytes owner fits
act-bytes act.Tick fits = no-bytes
act-bytes (act.Fault point) fits = (numbers w32).bytes point fits

-- ---- events

pub an-event : IsOfBytes event
an-event = kinds events (λ e fits. joined (moment.text e.moment) (act_text e.act)
    (moments.bytes e.moment (left_true (moment.fits e.moment) (act_fits e.act) fits)) (act-bytes e.act (right_true (moment.fits e.moment) (act_fits e.act) fits)))

pub a-batch : (es : List Event) → AllByRecursion (λ e. event.fits e ≡ true) es → IsBytes (batch_text es)
a-batch [] fit = no-bytes
a-batch (e ∷ es) fit = joined (event.text e) (batch_text es) (an-event.bytes e fit.0) (a-batch es fit.1)
