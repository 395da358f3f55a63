-- What is proved by hand of `read_log`.
use Rattle.std.proofs.Common.{◌≡◌, ◌∙◌, ℕ, List, String, IfErr, map, string_bytes, sym, subst}
use Rattle.std.specs.declared.alloc.Global.{Global}
use Rattle.sv_log.specs.Pictures.{Disk, seen}
use Rattle.sv_log.specs.Reads.{Lists}
use Rattle.sv_log.specs.Chains.{IsWellNamed}
use Rattle.sv_log.specs.Refusals.{IsWhy, HasNoLog}
use Rattle.sv_log.specs.declared.reading.LogRefusal.{LogRefusal}
use Rattle.sv_log.proofs.Walked.{well_named, just_why}
use Rattle.sv_log.proofs.Refused.{wrong_name}
use Rattle.sv_log.proofs.reading.read_log.Goals as goal

pub returns-in-Some-clause-refused : goal.returns-in-Some-clause-refused
returns-in-Some-clause-refused g c = λ h.
    let p = seen (g.F.Folder.disk c.args.folder.now) in
    let lists : Lists p (map string_bytes c.deref.result.now) = subst (λ (ns : List (String Global)). Lists p (map string_bytes ns)) (sym c.deref.ensures.value) (c.in-Ok.ensures.listed h) in
    just_why c.refuse.result.cause
    (wrong_name p (map string_bytes c.deref.result.now) lists c.in-Some.wrong.now c.in-Some.ensures.0 c.in-Some.ensures.1 c.args.world.now)

pub read_named-requires-clause-named : goal.read_named-requires-clause-named
read_named-requires-clause-named g c = λ h.
    let p = seen (g.F.Folder.disk c.args.folder.now) in
    let lists : Lists p (map string_bytes c.deref.result.now) = subst (λ (ns : List (String Global)). Lists p (map string_bytes ns)) (sym c.deref.ensures.value) (c.in-Ok.ensures.listed h) in
    subst (λ (d : Disk). IsWellNamed (seen d)) (sym c.names.ensures.same) (well_named p (map string_bytes c.deref.result.now) lists c.in_default.ensures)

pub returns-clause-refused : goal.returns-clause-refused
returns-clause-refused g c = λ h.
    subst (λ (d : Disk). IfErr c.read_named.result (λ (r : LogRefusal). IsWhy (HasNoLog c.args.world.now (seen d)) r.cause)) c.names.ensures.same (c.read_named.ensures.refused h)
