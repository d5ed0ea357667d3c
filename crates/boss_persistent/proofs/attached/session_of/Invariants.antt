use Rattle.std.proofs.Common.{◌≡◌, ◌==◌, false, take}
use Rattle.std.specs.List.{list_any}
use Rattle.boss_persistent.proofs.attached.session_of.Given as goal

-- none of the attachments so far is of this process
abbrev pub invariant-loop-attachment : goal.invariant-loop-attachment
invariant-loop-attachment l = list_any (λ attachment. attachment.process == l.process) (take l.attachment-index l.attached) ≡ false
