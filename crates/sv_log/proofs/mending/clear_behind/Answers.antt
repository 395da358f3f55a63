-- What is proved by hand of `clear_behind`.
use Rattle.std.proofs.Common.{◌≡◌, ◌∙◌, ◌-◌, true, ℕ, List, length, sym, subst}
use Rattle.std.proofs.lemmas.List.{length-replicate}
use Rattle.sv_log.specs.Pictures.{seen, noted, Write, Sync, Makes, FileHasRoom}
use Rattle.sv_log.proofs.Mended.{calm_tells, clear_only, clear_sync_only, clear_room, clear_stands, clear_rest, clear_others, on_made}
use Rattle.sv_log.proofs.mending.clear_behind.Goals as goal

pub write_at-requires : goal.write_at-requires
write_at-requires g c = record {
  within = λ h.
      let room = clear_room (g.F.Folder.disk c.args.folder.now) c.args.name.now c.args.bytes.now c.args.end (c.requires.rest h) (c.requires.file h) c.requires.text c.requires.within in
      subst (λ (w : List ℕ). FileHasRoom (seen (g.F.Folder.disk c.args.folder.now)) c.args.name.now c.args.end (length w)) (sym (c.as_slice.ensures.value ∙ c.in_ok-zeros.ensures.zeros))
      (subst (λ (k : ℕ). FileHasRoom (seen (g.F.Folder.disk c.args.folder.now)) c.args.name.now c.args.end k) (sym (length-replicate {A = ℕ} (length c.args.bytes.now - c.args.end) 0)) room);
}

pub returns-in_err-zeros-clause-any_moment : goal.returns-in_err-zeros-clause-any_moment
returns-in_err-zeros-clause-any_moment g c = λ h.
    calm_tells (g.F.Folder.disk c.args.folder.now) c.args.name.now c.args.bytes.now c.args.end (c.requires.rest h) (c.requires.file h) c.requires.text c.requires.within

pub returns-in_err-write_at-clause-any_moment : goal.returns-in_err-write_at-clause-any_moment
returns-in_err-write_at-clause-any_moment g c = λ h.
    let m = c.write_at.ensures.honest h in
    clear_only (g.F.Folder.disk c.args.folder.now) c.args.name.now c.args.bytes.now c.args.end (c.requires.rest m) (c.requires.file m) c.requires.text c.requires.within _ c.write_at.result
    (subst (λ (w : List ℕ). Makes (Write c.args.name.now c.args.end w) (g.F.Folder.disk c.args.folder.now) (g.F.Folder.disk c.write_at.new.self) c.write_at.result)
    (c.as_slice.ensures.value ∙ c.in_ok-zeros.ensures.zeros) (c.write_at.ensures.made h))

pub returns-clause-any_moment : goal.returns-clause-any_moment
returns-clause-any_moment g c = λ h.
    let w = c.sync.ensures.honest h in
    let m = c.write_at.ensures.honest w in
    clear_sync_only (g.F.Folder.disk c.args.folder.now) c.args.name.now c.args.bytes.now c.args.end (c.requires.rest m) (c.requires.file m) c.requires.text c.requires.within
    (g.F.Folder.disk c.write_at.new.self) _ c.sync.result
    (subst (λ (z : List ℕ). g.F.Folder.disk c.write_at.new.self ≡ noted (Write c.args.name.now c.args.end z, true) (g.F.Folder.disk c.args.folder.now))
    (c.as_slice.ensures.value ∙ c.in_ok-zeros.ensures.zeros) (c.in_ok-write_at.ensures.made w)) (c.sync.ensures.made h)

pub returns-clause-stands : goal.returns-clause-stands
returns-clause-stands g c = λ h.
    let w = c.sync.ensures.honest h in
    let m = c.write_at.ensures.honest w in
    on_made (Sync c.args.name.now) (g.F.Folder.disk c.write_at.new.self) (g.F.Folder.disk c.sync.new.self) c.sync.result (c.sync.ensures.made h)
    (clear_stands (g.F.Folder.disk c.args.folder.now) c.args.name.now c.args.bytes.now c.args.end (c.requires.rest m) (c.requires.file m) c.requires.text c.requires.within
    (g.F.Folder.disk c.write_at.new.self) (g.F.Folder.disk c.sync.new.self)
    (subst (λ (z : List ℕ). g.F.Folder.disk c.write_at.new.self ≡ noted (Write c.args.name.now c.args.end z, true) (g.F.Folder.disk c.args.folder.now))
    (c.as_slice.ensures.value ∙ c.in_ok-zeros.ensures.zeros) (c.in_ok-write_at.ensures.made w)))

pub returns-clause-rest : goal.returns-clause-rest
returns-clause-rest g c = λ h.
    let w = c.sync.ensures.honest h in
    let m = c.write_at.ensures.honest w in
    on_made (Sync c.args.name.now) (g.F.Folder.disk c.write_at.new.self) (g.F.Folder.disk c.sync.new.self) c.sync.result (c.sync.ensures.made h)
    (clear_rest (g.F.Folder.disk c.args.folder.now) c.args.name.now c.args.bytes.now c.args.end (c.requires.rest m) (c.requires.file m) c.requires.text c.requires.within
    (g.F.Folder.disk c.write_at.new.self) (g.F.Folder.disk c.sync.new.self)
    (subst (λ (z : List ℕ). g.F.Folder.disk c.write_at.new.self ≡ noted (Write c.args.name.now c.args.end z, true) (g.F.Folder.disk c.args.folder.now))
    (c.as_slice.ensures.value ∙ c.in_ok-zeros.ensures.zeros) (c.in_ok-write_at.ensures.made w)))

pub returns-clause-others : goal.returns-clause-others
returns-clause-others g c = λ h.
    let w = c.sync.ensures.honest h in
    let m = c.write_at.ensures.honest w in
    on_made (Sync c.args.name.now) (g.F.Folder.disk c.write_at.new.self) (g.F.Folder.disk c.sync.new.self) c.sync.result (c.sync.ensures.made h)
    (clear_others (g.F.Folder.disk c.args.folder.now) c.args.name.now c.args.bytes.now c.args.end (c.requires.rest m) (c.requires.file m) c.requires.text c.requires.within
    (g.F.Folder.disk c.write_at.new.self) (g.F.Folder.disk c.sync.new.self)
    (subst (λ (z : List ℕ). g.F.Folder.disk c.write_at.new.self ≡ noted (Write c.args.name.now c.args.end z, true) (g.F.Folder.disk c.args.folder.now))
    (c.as_slice.ensures.value ∙ c.in_ok-zeros.ensures.zeros) (c.in_ok-write_at.ensures.made w)))
