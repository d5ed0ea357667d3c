use Rattle.std.proofs.Common.{ℕ, ◌+◌, ◌∷◌, ◌∙◌, ap, List, length, take, replicate, length-take, arith}
use Rattle.std.proofs.lemmas.List.{length-replicate}
use Rattle.boss_journal.proofs.Frames.{gated_room}
use Rattle.boss_journal.proofs.frame.put_in_room.Goals as goal

pub returns-clause-puts : goal.returns-clause-puts
returns-clause-puts g c told =
    let zero : ℕ = 0 in
    let all : List ℕ = replicate g.row.ROOM 0 in
    c.put_gated.ensures.puts told c.args.bytes.now c.requires.within
    (gated_room (take (length c.args.bytes.now + 6) all) c.frame.new.into
    (omega (arith, length-take (length c.args.bytes.now + 6) all, length-replicate g.row.ROOM zero, c.requires.room)) ∙ ap (λ l. 1 ∷ l) c.frame.ensures)
