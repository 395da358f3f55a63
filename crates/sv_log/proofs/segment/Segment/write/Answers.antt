-- What is proved by hand of `write`.
use Rattle.std.proofs.Common.{◌+◌, length, refl}
use Rattle.sv_log.proofs.Runs.{room_to_write, write_only, write_open, write_text, write_synced, write_others}
use Rattle.sv_log.proofs.segment.Segment.write.Goals as goal

pub write_at-requires : goal.write_at-requires
write_at-requires g c = record {
  within = λ h. room_to_write g.F.Folder.disk c.args.self.now (c.requires.open h) c.as_str.result.now c.as_str.ensures.value c.args.lines.now c.requires.room;
}

pub returns-in_err-write_at-clause-any_moment : goal.returns-in_err-write_at-clause-any_moment
returns-in_err-write_at-clause-any_moment g c = λ h. write_only g.F.Folder.disk c.args.self.now (c.requires.open (c.write_at.ensures.honest h)) c.as_str.result.now c.as_str.ensures.value c.args.lines.now _ c.write_at.result c.requires.room (c.write_at.ensures.made h)

pub returns-clause-any_moment : goal.returns-clause-any_moment
returns-clause-any_moment g c = λ h. write_only g.F.Folder.disk c.args.self.now (c.requires.open (c.write_at.ensures.honest h)) c.as_str.result.now c.as_str.ensures.value c.args.lines.now _ c.write_at.result c.requires.room (c.write_at.ensures.made h)

pub returns-clause-open : goal.returns-clause-open
returns-clause-open g c = λ h. write_open g.F.Folder.disk c.args.self.now (c.requires.open (c.write_at.ensures.honest h)) c.write_at.new.self (c.args.self.now.length + length c.args.lines.now) c.args.lines.now c.requires.lines c.requires.room c.as_str.result.now c.as_str.ensures.value (c.in_ok-write_at.ensures.made h) refl

pub returns-clause-text : goal.returns-clause-text
returns-clause-text g c = λ h. write_text g.F.Folder.disk c.args.self.now (c.requires.open (c.write_at.ensures.honest h)) c.write_at.new.self (c.args.self.now.length + length c.args.lines.now) c.args.lines.now c.requires.lines c.requires.room c.as_str.result.now c.as_str.ensures.value (c.in_ok-write_at.ensures.made h) refl

pub returns-clause-synced : goal.returns-clause-synced
returns-clause-synced g c = λ h. write_synced g.F.Folder.disk c.args.self.now (c.requires.open (c.write_at.ensures.honest h)) c.write_at.new.self (c.args.self.now.length + length c.args.lines.now) c.args.lines.now c.requires.lines c.requires.room c.as_str.result.now c.as_str.ensures.value (c.in_ok-write_at.ensures.made h) refl

pub returns-clause-others : goal.returns-clause-others
returns-clause-others g c = λ h. write_others g.F.Folder.disk c.args.self.now (c.requires.open (c.write_at.ensures.honest h)) c.write_at.new.self (c.args.self.now.length + length c.args.lines.now) c.args.lines.now c.requires.lines c.requires.room c.as_str.result.now c.as_str.ensures.value (c.in_ok-write_at.ensures.made h) refl
