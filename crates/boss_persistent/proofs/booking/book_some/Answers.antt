use Rattle.std.proofs.Common.{length, ap, sym, ◌∙◌, subst}
use Rattle.std.specs.List.{AllByRecursion, fold}
use Rattle.law_time.proofs.Orders.{each-in_order}
use Rattle.boss_booking.specs.Bookable.{IsInformed}
use Rattle.boss_booking.specs.Books.{booked}
use Rattle.boss_booking.specs.Gathered.{CanBook, told_rank}
use Rattle.boss_persistent.proofs.booking.book_some.Goals as goal

pub put_in_order-requires : goal.put_in_order-requires
put_in_order-requires c = c.requires.apart

pub book_in_turn-requires-clause-can : goal.book_in_turn-requires-clause-can
book_in_turn-requires-clause-can c = subst (CanBook (record { stages = c.args.stages.now; processes = c.args.processes.now }))
    (sym (c.deref.ensures.value ∙ c.put_in_order.ensures.order)) c.requires.there

pub book_in_turn-requires-clause-informed : goal.book_in_turn-requires-clause-informed
book_in_turn-requires-clause-informed c = subst (AllByRecursion (IsInformed (length c.args.processes.now)))
    (sym (c.deref.ensures.value ∙ c.put_in_order.ensures.order))
    (each-in_order (IsInformed (length c.args.processes.now)) told_rank c.args.told.now.items c.requires.informed)

pub returns-clause-books : goal.returns-clause-books
returns-clause-books c = c.book_in_turn.ensures
    ∙ ap (fold booked (record { stages = c.args.stages.now; processes = c.args.processes.now })) (c.deref.ensures.value ∙ c.put_in_order.ensures.order)
