-- What is proved by hand of `read_named`.
use Rattle.std.proofs.Common.{◌≡◌, ◌∙◌, ℕ, ◌+◌, Some, None, map, string_bytes, sym, subst}
use Rattle.sv_log.specs.Pictures.{Disk, seen}
use Rattle.sv_log.specs.Names.{world_name}
use Rattle.sv_log.specs.declared.reading.LogRefusal.{LogRefusal}
use Rattle.sv_log.specs.Chains.{IsNewest}
use Rattle.sv_log.specs.Readings.{HasWorld}
use Rattle.sv_log.specs.Refusals.{IsWhy, HasNoLog, HasNoChain}
use Rattle.sv_log.proofs.Walked.{no_segments, reads_fresh, just_why, map_why}
use Rattle.sv_log.proofs.Refused.{err_by, world_missing, no_chain_no_log}
use Rattle.sv_log.proofs.reading.read_named.Goals as goal

pub returns-in_err-newest-clause-refused : goal.returns-in_err-newest-clause-refused
returns-in_err-newest-clause-refused g c = λ h.
    let world = c.args.world.now in
    let p = seen (g.F.Folder.disk c.args.folder.now) in
    let e = c.in_err-newest.field-0.0 in
    err_by (λ (r : LogRefusal). IsWhy (HasNoLog world p) r.cause) c.from_residual-in_err-newest.result e c.from_residual-in_err-newest.ensures.1
    (subst (λ (d : Disk). IsWhy (HasNoLog world (seen d)) e.cause) c.check_world.ensures.same (c.in_err-newest.ensures.refused h world))

pub returns-then-has_nothing-clause-reads : goal.returns-then-has_nothing-clause-reads
returns-then-has_nothing-clause-reads g c = λ h.
    let m = c.newest_state.ensures.honest h in
    let start = c.check_world.ensures.honest m in
    let p = seen (g.F.Folder.disk c.args.folder.now) in
    let names = map string_bytes c.args.names.now in
    let nothing = c.if-has_nothing.ensures in
    let newest : IsNewest p 0 =
    subst (IsNewest p) nothing.0 (subst (λ (d : Disk). IsNewest (seen d) c.in_ok-newest.newest.state) c.check_world.ensures.same (c.in_ok-newest.ensures.newest h)) in
    reads_fresh c.args.world.now p c.nothing_read.result c.in_ok-has_world.has_world c.nothing_read.ensures (c.requires.named start) newest
    (no_segments p names (c.requires.listed start) nothing.1) (c.in_ok-has_world.ensures.world m)

pub returns-then-not-has_world-clause-refused : goal.returns-then-not-has_world-clause-refused
returns-then-not-has_world-clause-refused g c = λ h.
    let m = c.newest_state.ensures.honest h in
    let start = c.check_world.ensures.honest m in
    let world = c.args.world.now in
    let p = seen (g.F.Folder.disk c.args.folder.now) in
    let s = c.in_ok-newest.newest.state in
    let newest : IsNewest p s = subst (λ (d : Disk). IsNewest (seen d) s) c.check_world.ensures.same (c.in_ok-newest.ensures.newest h) in
    let none : p world_name ≡ None = subst (HasWorld (p world_name) world) c.if-not-has_world.true (c.in_ok-has_world.ensures.world m) in
    just_why c.refuse.result.cause
    (world_missing p (map string_bytes c.args.names.now) (c.requires.listed start) world s newest c.if-has_nothing.ensures none)

pub returns-in_err-walk-clause-refused : goal.returns-in_err-walk-clause-refused
returns-in_err-walk-clause-refused g c = λ h.
    let k = c.read_segments.ensures.honest h in
    let m = c.newest_state.ensures.honest k in
    let start = c.check_world.ensures.honest m in
    let world = c.args.world.now in
    let p = seen (g.F.Folder.disk c.args.folder.now) in
    let s = c.in_ok-newest.newest.state in
    let e = c.in_err-walk.field-0.0 in
    let same = c.newest_state.ensures.same ∙ c.check_world.ensures.same in
    let newest : IsNewest p s = subst (λ (d : Disk). IsNewest (seen d) s) c.check_world.ensures.same (c.in_ok-newest.ensures.newest k) in
    let why : IsWhy (HasNoChain p (s + 1)) e.cause = subst (λ (d : Disk). IsWhy (HasNoChain (seen d) (s + 1)) e.cause) same (c.in_err-walk.ensures.refused h) in
    err_by (λ (r : LogRefusal). IsWhy (HasNoLog world p) r.cause) c.from_residual-in_err-walk.result e c.from_residual-in_err-walk.ensures.1
    (map_why e.cause (λ (no : HasNoChain p (s + 1)). no_chain_no_log p (map string_bytes c.args.names.now) (c.requires.listed start) world s newest c.if-has_nothing.ensures no) why)
