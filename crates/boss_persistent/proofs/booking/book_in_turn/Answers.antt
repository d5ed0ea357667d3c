use Rattle.std.proofs.Common.{◌≡◌, ◌+◌, ◌<◌, length, fold, drop, ◌∷◌, ap, sym, ◌∙◌, subst, arith}
use Rattle.std.proofs.lemmas.List.{drop_more}
use Rattle.std.specs.List.{AllByRecursion}
use Rattle.boss_booking.specs.Books.{Books, Telling, booked}
use Rattle.boss_booking.specs.Gathered.{CanBook}
use Rattle.boss_persistent.proofs.booking.book_in_turn.Goals as goal

pub loop-telling-preserved : goal.loop-telling-preserved
loop-telling-preserved c =
    let told = c.args.told.now in
    let i = c.loop-telling.telling-index in
    let telling = c.telling-item.result in
    let before : Books = record { stages = c.loop-telling.stages; processes = c.loop-telling.processes } in
    let within : i < length told = omega arith in
    let rest : drop i told ≡ telling ∷ drop (i + 1) told = drop_more told i telling within ∙ ap (λ first. first ∷ drop (i + 1) told) (sym c.telling-item.is) in
    let owners = subst (AllByRecursion (λ (t : Telling). t.happening.owner < length c.loop-telling.processes)) rest c.loop-telling.invariant.owners in
    record {
      can = subst (λ books. CanBook books (drop (i + 1) told)) (sym c.book.ensures.books) (subst (CanBook before) rest c.loop-telling.invariant.can).1;
      owners = rw c.book.ensures.processes owners.1;
      books = ap (λ books. fold booked books (drop (i + 1) told)) c.book.ensures.books ∙ (sym (ap (fold booked before) rest) ∙ c.loop-telling.invariant.books);
    }
