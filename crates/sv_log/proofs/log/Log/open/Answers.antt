-- What is proved by hand of `open`.
use Rattle.std.proofs.Common.{ap, string_bytes}
use Rattle.sv_log.specs.Pictures.{Picture, seen}
use Rattle.sv_log.specs.Chains.{HasLog}
use Rattle.sv_log.specs.Readings.{read_state, LastBecomes}
use Rattle.sv_log.proofs.Moments.{then_only, weaker_only}
use Rattle.sv_log.proofs.Opened.{last_holds, opened_log, opened_newest, opened_world, opened_all}
use Rattle.sv_log.proofs.log.Log.open.Goals as goal

pub returns-in-Err-open_last-clause-any_moment_err : goal.returns-in-Err-open_last-clause-any_moment_err
returns-in-Err-open_last-clause-any_moment_err g c = λ h.
    let m = c.in-Err-open_last.ensures.honest_err h in
    let disk = g.F.Folder.disk in
    let world = c.args.world.now in
    let r = c.args.reading in
    let p = seen (disk c.prepare.new.folder) in
    let name = string_bytes c.in-Ok.name in
    then_only (disk c.args.folder) (disk c.prepare.new.folder) (disk c.in-Err-open_last.error.1) (HasLog world (read_state r) r.text.items) (c.prepare.ensures.any_moment m)
    (weaker_only (disk c.prepare.new.folder) (disk c.in-Err-open_last.error.1) (LastBecomes r.last p name) (HasLog world (read_state r) r.text.items)
    (λ d w. last_holds world p d r name (c.in-Ok.ensures.ready m) w) (c.in-Err-open_last.ensures.any_moment_err h))

pub returns-clause-any_moment : goal.returns-clause-any_moment
returns-clause-any_moment g c = λ h.
    let m = c.in-Ok-open_last.ensures.honest h in
    let disk = g.F.Folder.disk in
    let world = c.args.world.now in
    let r = c.args.reading in
    let p = seen (disk c.prepare.new.folder) in
    let name = string_bytes c.in-Ok.name in
    then_only (disk c.args.folder) (disk c.prepare.new.folder) (disk c.in-Ok-open_last.segment.folder) (HasLog world (read_state r) r.text.items) (c.prepare.ensures.any_moment m)
    (weaker_only (disk c.prepare.new.folder) (disk c.in-Ok-open_last.segment.folder) (LastBecomes r.last p name) (HasLog world (read_state r) r.text.items)
    (λ d w. last_holds world p d r name (c.in-Ok.ensures.ready m) w) (c.in-Ok-open_last.ensures.any_moment h))

pub returns-clause-open : goal.returns-clause-open
returns-clause-open g c = λ h.
    let m = c.in-Ok-open_last.ensures.honest h in
    let p = seen (g.F.Folder.disk c.prepare.new.folder) in
    (opened_log g.F.Folder.disk c.args.alloc c.args.world.now p c.args.reading c.in-Ok-open_last.segment (string_bytes c.in-Ok.name) (ap string_bytes c.in-Ok-open_last.ensures.name)
    (c.in-Ok-open_last.ensures.open h) (c.in-Ok-open_last.ensures.text h) (c.in-Ok-open_last.ensures.synced h) (c.in-Ok-open_last.ensures.others h)
    c.unwrap_or.result c.unwrap_or.ensures (c.in-Ok.ensures.ready m)).0

pub returns-clause-newest : goal.returns-clause-newest
returns-clause-newest g c = λ h.
    let m = c.in-Ok-open_last.ensures.honest h in
    let p = seen (g.F.Folder.disk c.prepare.new.folder) in
    opened_newest g.F.Folder.disk c.args.alloc c.args.world.now p c.args.reading c.in-Ok-open_last.segment (string_bytes c.in-Ok.name) (ap string_bytes c.in-Ok-open_last.ensures.name)
    (c.in-Ok-open_last.ensures.open h) (c.in-Ok-open_last.ensures.text h) (c.in-Ok-open_last.ensures.synced h) (c.in-Ok-open_last.ensures.others h)
    c.unwrap_or.result (c.in-Ok.ensures.ready m)

pub returns-clause-text : goal.returns-clause-text
returns-clause-text g c = λ h.
    let m = c.in-Ok-open_last.ensures.honest h in
    let p = seen (g.F.Folder.disk c.prepare.new.folder) in
    (opened_log g.F.Folder.disk c.args.alloc c.args.world.now p c.args.reading c.in-Ok-open_last.segment (string_bytes c.in-Ok.name) (ap string_bytes c.in-Ok-open_last.ensures.name)
    (c.in-Ok-open_last.ensures.open h) (c.in-Ok-open_last.ensures.text h) (c.in-Ok-open_last.ensures.synced h) (c.in-Ok-open_last.ensures.others h)
    c.unwrap_or.result c.unwrap_or.ensures (c.in-Ok.ensures.ready m)).1

pub returns-clause-synced : goal.returns-clause-synced
returns-clause-synced g c = λ h.
    let m = c.in-Ok-open_last.ensures.honest h in
    let p = seen (g.F.Folder.disk c.prepare.new.folder) in
    opened_all g.F.Folder.disk c.args.alloc c.args.world.now p c.args.reading c.in-Ok-open_last.segment (string_bytes c.in-Ok.name) (ap string_bytes c.in-Ok-open_last.ensures.name)
    (c.in-Ok-open_last.ensures.open h) (c.in-Ok-open_last.ensures.text h) (c.in-Ok-open_last.ensures.synced h) (c.in-Ok-open_last.ensures.others h)
    c.unwrap_or.result
    (opened_log g.F.Folder.disk c.args.alloc c.args.world.now p c.args.reading c.in-Ok-open_last.segment (string_bytes c.in-Ok.name) (ap string_bytes c.in-Ok-open_last.ensures.name)
    (c.in-Ok-open_last.ensures.open h) (c.in-Ok-open_last.ensures.text h) (c.in-Ok-open_last.ensures.synced h) (c.in-Ok-open_last.ensures.others h)
    c.unwrap_or.result c.unwrap_or.ensures (c.in-Ok.ensures.ready m)).1

pub returns-clause-world : goal.returns-clause-world
returns-clause-world g c = λ h.
    let m = c.in-Ok-open_last.ensures.honest h in
    let p = seen (g.F.Folder.disk c.prepare.new.folder) in
    opened_world g.F.Folder.disk c.args.alloc c.args.world.now p c.args.reading c.in-Ok-open_last.segment (string_bytes c.in-Ok.name) (ap string_bytes c.in-Ok-open_last.ensures.name)
    (c.in-Ok-open_last.ensures.open h) (c.in-Ok-open_last.ensures.text h) (c.in-Ok-open_last.ensures.synced h) (c.in-Ok-open_last.ensures.others h) (c.in-Ok.ensures.ready m)
