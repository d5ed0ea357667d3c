use Rattle.std.proofs.Common.{◌≡◌, ◌<◌, length, sym, ap, ◌∙◌, arith}
use Rattle.std.proofs.lemmas.List.{get_or_read}
use Rattle.boss_persistent.specs.declared.processes.Entry.{Entry}
use Rattle.boss_persistent.proofs.Side.{blank, length-processes_of, name-there}
use Rattle.boss_persistent.proofs.processes.Processes.name.Goals as goal

pub index-requires : goal.index-requires
index-requires c =
    let all : length c.args.self.now ≡ length c.self.inside.entries.items = rw (← c.self.view_is) (length-processes_of c.self.inside.entries.items c.self.inside.rings c.self.invariant.0) in
    let place : c.process.inside.0 ≡ c.args.process = c.process.view_is in
    omega arith

pub returns : goal.returns
returns c =
    let all : length c.args.self.now ≡ length c.self.inside.entries.items = rw (← c.self.view_is) (length-processes_of c.self.inside.entries.items c.self.inside.rings c.self.invariant.0) in
    let place : c.process.inside.0 ≡ c.args.process = c.process.view_is in
    let inside : c.process.inside.0 < length c.self.inside.entries.items = omega arith in
    let there = name-there c.self.inside.entries.items c.self.inside.rings c.process.inside.0 c.self.invariant.0 inside in
    c.copied.ensures ∙ (ap (λ (entry : Entry). entry.name) (get_or_read c.self.inside.entries.items c.process.inside.0 c.index.result.now inside c.index.ensures blank) ∙ rw (← c.self.view_is, ← place) (sym there))
