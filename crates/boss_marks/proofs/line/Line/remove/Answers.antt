use Rattle.std.proofs.Common.{length-set}
use Rattle.boss_marks.proofs.Links.{first_step_known, second_step_known, IsLine-left, IsLine-walk, IsLine-walked, linked_items, seen}
use Rattle.boss_marks.proofs.line.Line.remove.Goals as goal

pub link-requires : goal.link-requires
link-requires c =
    let inside = rw (← c.self.view_is, ← c.point.view_is) at c.requires in
    rw c.deref_mut.ensures.value (first_step_known c.self.invariant c.point.inside.0 inside _ c.index.ensures)

pub link-requires-2 : goal.link-requires-2
link-requires-2 c =
    let inside = rw (← c.self.view_is, ← c.point.view_is) at c.requires in
    let after = linked_items c.self.inside.after _ _ _ _ c.deref_mut.ensures.value c.deref_mut.ensures.len c.link.ensures.links in
    rw c.deref_mut-2.ensures.value (second_step_known c.self.invariant c.point.inside.0 inside _ _ _ _ c.index.ensures c.index-after.ensures after c.index-2.ensures)

pub invariant_of-self : goal.invariant_of-self
invariant_of-self c =
    let inside = rw (← c.self.view_is, ← c.point.view_is) at c.requires in
    let after = linked_items c.self.inside.after _ _ _ _ c.deref_mut.ensures.value c.deref_mut.ensures.len c.link.ensures.links in
    let before = linked_items c.self.inside.before _ _ _ _ c.deref_mut-2.ensures.value c.deref_mut-2.ensures.len c.link-2.ensures.links in
    IsLine-walked (IsLine-left c.self.invariant c.point.inside.0 inside _ _ _ _ _ _ _ _ c.index.ensures c.index-after.ensures
    after c.link.ensures.start c.index-2.ensures c.index-before.ensures before c.link-2.ensures.start)

pub returns : goal.returns
returns c =
    let inside = rw (← c.self.view_is, ← c.point.view_is) at c.requires in
    let after = linked_items c.self.inside.after _ _ _ _ c.deref_mut.ensures.value c.deref_mut.ensures.len c.link.ensures.links in
    let before = linked_items c.self.inside.before _ _ _ _ c.deref_mut-2.ensures.value c.deref_mut-2.ensures.len c.link-2.ensures.links in
    let left = IsLine-left c.self.invariant c.point.inside.0 inside _ _ _ _ _ _ _ _ c.index.ensures c.index-after.ensures
    after c.link.ensures.start c.index-2.ensures c.index-before.ensures before c.link-2.ensures.start in
    rw (← c.self.view_is, ← c.point.view_is) (seen _ _ _ _ (length-set _ _ _) (IsLine-walk left))
