use Rattle.std.proofs.Common.{length-set}
use Rattle.boss_marks.proofs.Links.{IsLine-pushed, IsLine-last_known, IsLine-walk, IsLine-walked, linked_items, seen}
use Rattle.boss_marks.proofs.line.Line.push.Goals as goal

pub link-requires : goal.link-requires
link-requires c = rw c.deref_mut.ensures.value (IsLine-last_known c.self.invariant)

pub invariant_of-self : goal.invariant_of-self
invariant_of-self c =
    let room = rw (← c.self.view_is, ← c.point.view_is) at c.requires.known in
    let outside = rw (← c.self.view_is, ← c.point.view_is) at c.requires.outside in
    let after = linked_items c.self.inside.after _ _ _ _ c.deref_mut.ensures.value c.deref_mut.ensures.len c.link.ensures.links in
    rw (after, c.link.ensures.start, ← c.point.view_is) (IsLine-walked (IsLine-pushed c.self.invariant c.point.inside.0 room outside))

pub returns : goal.returns
returns c =
    let room = rw (← c.self.view_is, ← c.point.view_is) at c.requires.known in
    let outside = rw (← c.self.view_is, ← c.point.view_is) at c.requires.outside in
    let after = linked_items c.self.inside.after _ _ _ _ c.deref_mut.ensures.value c.deref_mut.ensures.len c.link.ensures.links in
    rw (← c.self.view_is, after, c.link.ensures.start, ← c.point.view_is)
    (seen _ _ _ _ (length-set _ _ _) (IsLine-walk (IsLine-pushed c.self.invariant c.point.inside.0 room outside)))
