-- Source: own.
use Rattle.boss_outside_server.specs.declared.one_of.OneOf.{OneOf}
use Rattle.boss_outside_server.specs.declared.one_of.OneOf.TheVariants.{First, Second}

module _ {A B : Type 0} where
  -- the task is ready, as one of its own kind
  abbrev pub ReadyOf : (A → Type 0) → (B → Type 0) → OneOf A B → Type 0
  ReadyOf first second (First task) = first task
  ReadyOf first second (Second task) = second task

  -- what became of the task, which is still one of its own kind
  abbrev pub BecameOf : (A → A → Type 0) → (B → B → Type 0) → OneOf A B → OneOf A B → Type 0
  BecameOf first second (First old) (First new) = first old new
  BecameOf first second (First _) (Second _) = ⊥
  BecameOf first second (Second _) (First _) = ⊥
  BecameOf first second (Second old) (Second new) = second old new
