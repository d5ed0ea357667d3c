-- What a process that fits is made of.
use Rattle.std.proofs.Common.{◌≡◌, ℕ, Bool, true, false, cond, ◌&&◌, List, [], ◌++◌, length, map, Option, Some, None, refl, sym, ap, ◌∙◌, append_assoc}
use Rattle.std.specs.Option.{option_map_or}
use Rattle.std.specs.Int.{w16, w32, w64}
use Rattle.def_bytes.specs.Fields.{number, number_text, tagged}
use Rattle.boss_model.specs.State.{Process, Persistent}
use Rattle.boss_model.specs.declared.notice.What.{What}
use Rattle.boss_model.specs.declared.kept.KeptReply.{KeptReply}
use Rattle.def_bytes.specs.Parts.{listed, name}
use Rattle.def_bytes.specs.States.{lease, pending, process, sent, state, replies, told_of, transaction, is_numbered_from, first_of_last}
use Rattle.def_bytes.proofs.Spelling.{left_true, right_true}
use Rattle.boss_snapshot.specs.Writes.{state_text}

abbrev fits_by : Process → Bool → Bool
fits_by p numbered = option_map_or (λ (x : List ℕ × ((ℕ × List (ℕ × (ℕ × What))) × Option KeptReply)). name.fits x.0 && (sent.fits x.1.0 && (tagged replies).fits x.1.1))
    (cond numbered (Some (p.name, ((p.count, map told_of p.kept), p.reply))) None) false

sent_by : (p : Process) (numbered : Bool) → fits_by p numbered ≡ true → sent.fits (p.count, map told_of p.kept) ≡ true
sent_by p true fits =
    left_true (sent.fits (p.count, map told_of p.kept)) ((tagged replies).fits p.reply)
    (right_true (name.fits p.name) (sent.fits (p.count, map told_of p.kept) && (tagged replies).fits p.reply) fits)
sent_by p false fits = absurd cc

pub sent_fits : (p : Process) → (process 2).fits p ≡ true → sent.fits (p.count, map told_of p.kept) ≡ true
sent_fits p fits = sent_by p (is_numbered_from (first_of_last p.count (length p.kept)) p.kept) fits

text_by : (p : Process) (numbered : Bool) → fits_by p numbered ≡ true
    → option_map_or (λ (x : List ℕ × ((ℕ × List (ℕ × (ℕ × What))) × Option KeptReply)). name.text x.0 ++ (sent.text x.1.0 ++ (tagged replies).text x.1.1))
    (cond numbered (Some (p.name, ((p.count, map told_of p.kept), p.reply))) None) []
    ≡ name.text p.name ++ (sent.text (p.count, map told_of p.kept) ++ (tagged replies).text p.reply)
text_by p true fits = refl
text_by p false fits = absurd cc

pub process_text : (p : Process) → (process 2).fits p ≡ true
    → (process 2).text p ≡ name.text p.name ++ (sent.text (p.count, map told_of p.kept) ++ (tagged replies).text p.reply)
process_text p fits = text_by p (is_numbered_from (first_of_last p.count (length p.kept)) p.kept) fits

-- what all of these tests are, each is
pub record AllPass (c d e f g : Bool) : Type 0 where
  pub third : c ≡ true
  pub fourth : d ≡ true
  pub fifth : e ≡ true
  pub sixth : f ≡ true
  pub seventh : g ≡ true

pub all_pass : (a b c d e f g : Bool) → (a && (b && (c && (d && (e && (f && g)))))) ≡ true → AllPass c d e f g
all_pass a b c d e f g all =
    let one = right_true a (b && (c && (d && (e && (f && g))))) all in
    let two = right_true b (c && (d && (e && (f && g)))) one in
    let three = right_true c (d && (e && (f && g))) two in
    let four = right_true d (e && (f && g)) three in
    let five = right_true e (f && g) four in
    record {
      third = left_true c (d && (e && (f && g))) two;
      fourth = left_true d (e && (f && g)) three;
      fifth = left_true e (f && g) four;
      sixth = left_true f g five;
      seventh = right_true f g five;
    }

pub parts_pass : (d : Persistent) → (state 2).fits d ≡ true → AllPass ((listed w16 (process 2)).fits d.processes) ((listed w32 transaction).fits d.txns)
    ((listed w16 (number w64)).fits d.done) ((listed w32 lease).fits d.leases) ((listed w32 pending).fits d.pending)
parts_pass d fits =
    all_pass ((number w64).fits d.now) ((number w64).fits d.next) ((listed w16 (process 2)).fits d.processes) ((listed w32 transaction).fits d.txns)
    ((listed w16 (number w64)).fits d.done) ((listed w32 lease).fits d.leases) ((listed w32 pending).fits d.pending) fits

-- the first parts and the last are the whole
pub halves : (old mid new a b c d e all : List ℕ) → mid ≡ old ++ (a ++ (b ++ (c ++ d))) → new ≡ mid ++ e → all ≡ a ++ (b ++ (c ++ (d ++ e))) → new ≡ old ++ all
halves old mid new a b c d e all first second whole =
    second ∙ ap (λ l. l ++ e) first ∙ append_assoc old (a ++ (b ++ (c ++ d))) e
    ∙ ap (λ l. old ++ l)
    (append_assoc a (b ++ (c ++ d)) e ∙ ap (λ l. a ++ l) (append_assoc b (c ++ d) e ∙ ap (λ l. b ++ l) (append_assoc c d e)) ∙ sym whole)

pub state_is : (d : Persistent) → state_text d ≡ number_text w64 d.now ++ (number_text w64 d.next ++ ((listed w16 (process 2)).text d.processes
    ++ ((listed w32 transaction).text d.txns ++ ((listed w16 (number w64)).text d.done ++ ((listed w32 lease).text d.leases ++ (listed w32 pending).text d.pending)))))
unfolding state_text
state_is d = refl

pub state_halves : (d : Persistent) (old mid new : List ℕ) → mid ≡ old ++ (number_text w64 d.now ++ (number_text w64 d.next
    ++ ((listed w16 (process 2)).text d.processes ++ (listed w32 transaction).text d.txns)))
    → new ≡ mid ++ ((listed w16 (number w64)).text d.done ++ ((listed w32 lease).text d.leases ++ (listed w32 pending).text d.pending)) → new ≡ old ++ state_text d
state_halves d old mid new first second =
    halves old mid new (number_text w64 d.now) (number_text w64 d.next) ((listed w16 (process 2)).text d.processes) ((listed w32 transaction).text d.txns)
    ((listed w16 (number w64)).text d.done ++ ((listed w32 lease).text d.leases ++ (listed w32 pending).text d.pending)) (state_text d) first second (state_is d)
