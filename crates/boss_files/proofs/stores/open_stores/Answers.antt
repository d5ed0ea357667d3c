use Rattle.std.proofs.Common.{sym, ◌∙◌}
use Rattle.boss_files.proofs.Held.{kept-closed, kept-opened}
use Rattle.boss_files.proofs.stores.open_stores.Goals as goal

pub returns-in_err-first-clause-keeps : goal.returns-in_err-first-clause-keeps
returns-in_err-first-clause-keeps g c tells =
    kept-opened (g.F.Files.holds c.args.files.now) (g.F.Files.holds c.disk.new.self) c.args.journal.now c.disk.result (c.disk.ensures.there tells) (c.disk.ensures.stays tells)

pub returns-in-Ok-clause-keeps : goal.returns-in-Ok-clause-keeps
returns-in-Ok-clause-keeps g c tells file =
    kept-opened (g.F.Files.holds c.disk.new.self) (g.F.Files.holds c.disk-2.new.self) c.args.second.now c.disk-2.result (c.disk-2.ensures.there tells) (c.disk-2.ensures.stays tells) file
    ∙ kept-opened (g.F.Files.holds c.args.files.now) (g.F.Files.holds c.disk.new.self) c.args.journal.now c.disk.result (c.disk.ensures.there tells) (c.disk.ensures.stays tells) file

pub returns-in-Err-clause-keeps : goal.returns-in-Err-clause-keeps
returns-in-Err-clause-keeps g c tells file =
    let first = kept-opened (g.F.Files.holds c.args.files.now) (g.F.Files.holds c.disk.new.self) c.args.journal.now c.disk.result (c.disk.ensures.there tells) (c.disk.ensures.stays tells) in
    let second = kept-opened (g.F.Files.holds c.disk.new.self) (g.F.Files.holds c.disk-2.new.self) c.args.second.now c.disk-2.result (c.disk-2.ensures.there tells) (c.disk-2.ensures.stays tells) in
    kept-closed (g.F.Files.holds c.disk-2.new.self) (g.F.Files.holds c.close.new.self) c.args.journal.now (g.F.Store.Disk.reads c.in_ok-first.first) (c.close.ensures.bytes tells)
    (c.in_ok-first.ensures.bytes tells ∙ sym (first c.args.journal.now) ∙ sym (second c.args.journal.now)) (c.close.ensures.stays tells) file
    ∙ second file ∙ first file
