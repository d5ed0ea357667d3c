use Rattle.std.proofs.Common.{◌≡◌, ◌∙◌, ℕ, List, length, map, ap, sym, subst, arith}
use Rattle.std.proofs.lemmas.List.{length-map}
use Rattle.boss_model.specs.declared.kept.Kept.{Kept}
use Rattle.boss_model.specs.Seen.{seen, seen_process}
use Rattle.boss_model.specs.Sound.{IsProcess}
use Rattle.boss_model.specs.State.{Persistent, Process}
use Rattle.law_time.proofs.Filters.{each-unmapped}
use Rattle.law_time.proofs.Orders.{each-map}
use Rattle.boss_stages.specs.Stages.{Stages}
use Rattle.boss_booking.specs.Books.{StandsFor}
use Rattle.boss_holdings.specs.Held.{Held}
use Rattle.boss_persistent.specs.Processes.{IsSomeProcess}
use Rattle.boss_persistent.proofs.lasting.Lasting.put_back.Goals as goal

pub records_put_back-requires-clause-sound : goal.records_put_back-requires-clause-sound
records_put_back-requires-clause-sound c = (c.requires.sound.0, c.requires.sound.1 ∙ sym (ap (λ h. h.points) c.in_ok-holdings.ensures), c.requires.sound.2)

pub records_put_back-requires-clause-pending : goal.records_put_back-requires-clause-pending
records_put_back-requires-clause-pending c = ap (λ h. h.pending) c.in_ok-holdings.ensures

pub processes_put_back-requires-clause-few : goal.processes_put_back-requires-clause-few
processes_put_back-requires-clause-few c =
    let all = length-map c.args.kept.now.processes seen_process in
    let same : length c.slice.result.now ≡ length c.args.kept.now.processes = ap length c.slice.ensures in
    omega (arith, c.requires.sound.2.few_processes, all, same)

pub processes_put_back-requires-clause-sound : goal.processes_put_back-requires-clause-sound
processes_put_back-requires-clause-sound c =
    let d = seen c.args.kept.now in
    let plant = c.requires.sound.0 in
    rw c.slice.ensures (each-unmapped IsSomeProcess seen_process c.args.kept.now.processes
    (each-map (IsProcess plant d.now) IsSomeProcess (λ process is. (plant, d.now, is)) d.processes c.requires.sound.2.processes))

abbrev rebuilt : ℕ → Held → Stages → List Process → Persistent
rebuilt next h s ps = record { now = h.now; next = next; leases = h.leases; pending = h.pending; txns = map (λ kept. kept.transaction) s.kept; done = s.done; processes = ps }

-- what was put back is what was kept
same : (k : Kept) (next : ℕ) (h : Held) (s : Stages) (ps : List Process) → next ≡ k.next → h.now ≡ k.now → h.leases ≡ k.leases → h.pending ≡ k.pending → StandsFor s (seen k) → ps ≡ map seen_process k.processes →
    rebuilt next h s ps ≡ seen k
same k next h s ps number now leases pending stands processes =
    λ i. record { now = now i; next = number i; leases = leases i; pending = pending i; txns = stands.txns i; done = stands.done i; processes = processes i }

pub returns-clause-persistent : goal.returns-clause-persistent
returns-clause-persistent c =
    let h = c.in_ok-holdings.ensures in
    ap (λ (held : Held). rebuilt c.number.result held c.in_ok-stages.stages c.in_ok-processes_put_back.field-0) c.holdings.view_is
    ∙ same c.args.kept.now c.number.result c.in_ok-holdings.holdings c.in_ok-stages.stages c.in_ok-processes_put_back.field-0 c.number.ensures (ap (λ h. h.now) h) (ap (λ h. h.leases) h) (ap (λ h. h.pending) h)
    c.in_ok-stages.ensures.stands (c.in_ok-processes_put_back.ensures ∙ ap (map seen_process) c.slice.ensures)

pub returns-clause-kept : goal.returns-clause-kept
returns-clause-kept c =
    let h = c.in_ok-holdings.ensures in
    record {
      stands = subst (StandsFor c.in_ok-stages.stages) (sym (ap (λ (held : Held). rebuilt c.number.result held c.in_ok-stages.stages c.in_ok-processes_put_back.field-0) c.holdings.view_is
          ∙ same c.args.kept.now c.number.result c.in_ok-holdings.holdings c.in_ok-stages.stages c.in_ok-processes_put_back.field-0 c.number.ensures (ap (λ h. h.now) h) (ap (λ h. h.leases) h)
          (ap (λ h. h.pending) h) c.in_ok-stages.ensures.stands (c.in_ok-processes_put_back.ensures ∙ ap (map seen_process) c.slice.ensures))) c.in_ok-stages.ensures.stands;
      slots = omega (arith, c.in_ok-with_capacity.ensures.exact);
      records = omega (arith, c.in_ok-stages.ensures.room, ap (λ (held : Held). held.points) c.holdings.view_is);
    }

pub returns-clause-points : goal.returns-clause-points
returns-clause-points c = ap (λ h. h.points) (c.holdings.view_is ∙ c.in_ok-holdings.ensures)
