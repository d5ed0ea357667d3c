use Rattle.std.proofs.Common.{◌≡◌, ◌==◌, false, take}
use Rattle.std.specs.List.{list_any}
use Rattle.boss_persistent.proofs.attached.process_of.Given as goal

-- none of the attachments so far is of this session
abbrev pub invariant-loop-attachment : goal.invariant-loop-attachment
invariant-loop-attachment l = list_any (λ attachment. attachment.session == l.session) (take l.attachment-index l.attached) ≡ false
