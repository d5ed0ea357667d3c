-- What was gathered comes to the same in another order.
use Rattle.std.proofs.Common.{◌≡◌, List, length, sym, subst}
use Rattle.std.specs.List.{AllByRecursion, fold}
use Rattle.std.specs.List.Sorted.{IsPermutation}
use Rattle.boss_model.specs.Order.{in_order}
use Rattle.boss_model.specs.State.{Persistent, Process}
use Rattle.boss_stages.specs.Stages.{Stages}
use Rattle.law_time.proofs.Orders.{each-in_order, each-map, each-unordered}
use Rattle.boss_booking.specs.Bookable.{ComesTo, IsInformed}
use Rattle.boss_booking.specs.Books.{Telling, booked}
use Rattle.boss_booking.specs.Gathered.{AreBooksOf, CanBook, told_rank}
use Rattle.law_due.specs.Telling.{AreApart}
use Rattle.law_due.proofs.Ordering.{in_order-permutation}

module _ (xs ys : List Telling) (apart : AreApart told_rank xs) (moved : IsPermutation xs ys) where
  same-order : in_order told_rank ys ≡ in_order told_rank xs
  same-order = in_order-permutation told_rank xs apart ys moved

  each-moved : (P : Telling → Type 0) → AllByRecursion P xs → AllByRecursion P ys
  each-moved P all = each-unordered P told_rank ys (subst (AllByRecursion P) (sym same-order) (each-in_order P told_rank xs all))

  apart-moved : AreApart told_rank ys
  apart-moved = each-moved (λ one. AllByRecursion (λ other. told_rank one ≡ told_rank other → one ≡ other) ys)
      (each-map (λ one. AllByRecursion (λ other. told_rank one ≡ told_rank other → one ≡ other) xs)
      (λ one. AllByRecursion (λ other. told_rank one ≡ told_rank other → one ≡ other) ys)
      (λ one. each-moved (λ other. told_rank one ≡ told_rank other → one ≡ other)) xs apart)

pub comes-moved : (after : Persistent) (stages : Stages) (processes : List Process) (xs ys : List Telling) →
    ComesTo after stages processes xs → IsPermutation xs ys → ComesTo after stages processes ys
comes-moved after stages processes xs ys is moved =
    let apart = is.bookable.apart in
    let order = sym (same-order xs ys apart moved) in
    record {
      bookable = record {
        apart = apart-moved xs ys apart moved;
        there = subst (CanBook (record { stages = stages; processes = processes })) order is.bookable.there;
        informed = each-moved xs ys apart moved (IsInformed (length processes)) is.bookable.informed;
      };
      books = subst (λ es. AreBooksOf (fold booked (record { stages = stages; processes = processes }) es) after) order is.books;
    }
