-- What is proved by hand of `make_room`.
use Rattle.std.proofs.Common.{arith}
use Rattle.sv_log.proofs.Runs.{room_to_grow, grow_only, grow_sync_only, grow_stands, grow_others, all_open, all_text, all_synced_front, calm_only}
use Rattle.sv_log.proofs.segment.Segment.make_room.Goals as goal

pub grow-requires : goal.grow-requires
grow-requires g c = record {
  there = λ h. room_to_grow g.F.Folder.disk c.args.self.now (c.requires.open h) c.as_str-name.result.now c.as_str-name.ensures.value;
}

pub returns-in_default-clause-any_moment : goal.returns-in_default-clause-any_moment
returns-in_default-clause-any_moment g c = λ h. calm_only g.F.Folder.disk c.args.self.now (c.requires.open h)

pub returns-in_err-grow-clause-any_moment : goal.returns-in_err-grow-clause-any_moment
returns-in_err-grow-clause-any_moment g c = λ h.
    grow_only g.F.Folder.disk c.args.self.now (c.requires.open (c.grow.ensures.honest h)) c.as_str-name.result.now c.as_str-name.ensures.value _ _ c.grow.result (c.grow.ensures.made h)

pub returns-in_err-sync-clause-any_moment : goal.returns-in_err-sync-clause-any_moment
returns-in_err-sync-clause-any_moment g c = λ h.
    grow_sync_only g.F.Folder.disk c.args.self.now (c.requires.open (c.grow.ensures.honest (c.sync.ensures.honest h))) c.as_str-name.result.now c.as_str-name.ensures.value _ (g.F.Folder.disk c.grow.new.self) _ c.sync.result (c.in_ok-grow.ensures.made (c.sync.ensures.honest h)) (c.sync.ensures.made h)

pub returns-clause-any_moment : goal.returns-clause-any_moment
returns-clause-any_moment g c = λ h.
    grow_sync_only g.F.Folder.disk c.args.self.now (c.requires.open (c.grow.ensures.honest (c.sync.ensures.honest h))) c.as_str-name.result.now c.as_str-name.ensures.value _ (g.F.Folder.disk c.grow.new.self) _ c.sync.result (c.in_ok-grow.ensures.made (c.sync.ensures.honest h)) (c.sync.ensures.made h)

pub returns-clause-open : goal.returns-clause-open
returns-clause-open g c = λ h.
    let is_open = c.requires.open (c.grow.ensures.honest (c.sync.ensures.honest h)) in
    all_open g.F.Folder.disk c.args.self.now is_open c.sync.new.self c.in-Some.size _
    (grow_stands g.F.Folder.disk c.args.self.now is_open c.sync.new.self c.as_str-name.result.now c.as_str-name.ensures.value (g.F.Folder.disk c.grow.new.self) _ (c.in_ok-grow.ensures.made (c.sync.ensures.honest h)) (c.in_ok-sync.ensures.made h))
    (omega (arith, c.in-Some.ensures, is_open.within))

pub returns-clause-text : goal.returns-clause-text
returns-clause-text g c = λ h.
    let is_open = c.requires.open (c.grow.ensures.honest (c.sync.ensures.honest h)) in
    all_text g.F.Folder.disk c.args.self.now is_open c.sync.new.self c.in-Some.size _
    (grow_stands g.F.Folder.disk c.args.self.now is_open c.sync.new.self c.as_str-name.result.now c.as_str-name.ensures.value (g.F.Folder.disk c.grow.new.self) _ (c.in_ok-grow.ensures.made (c.sync.ensures.honest h)) (c.in_ok-sync.ensures.made h))
    (omega (arith, c.in-Some.ensures, is_open.within))

pub returns-clause-synced : goal.returns-clause-synced
returns-clause-synced g c = λ h.
    let is_open = c.requires.open (c.grow.ensures.honest (c.sync.ensures.honest h)) in
    all_synced_front g.F.Folder.disk c.args.self.now is_open c.sync.new.self c.in-Some.size _
    (grow_stands g.F.Folder.disk c.args.self.now is_open c.sync.new.self c.as_str-name.result.now c.as_str-name.ensures.value (g.F.Folder.disk c.grow.new.self) _ (c.in_ok-grow.ensures.made (c.sync.ensures.honest h)) (c.in_ok-sync.ensures.made h))
    (omega (arith, c.in-Some.ensures, is_open.within))

pub returns-clause-others : goal.returns-clause-others
returns-clause-others g c = λ h.
    grow_others g.F.Folder.disk c.args.self.now (c.requires.open (c.grow.ensures.honest (c.sync.ensures.honest h))) c.sync.new.self c.as_str-name.result.now c.as_str-name.ensures.value (g.F.Folder.disk c.grow.new.self) _ (c.in_ok-grow.ensures.made (c.sync.ensures.honest h)) (c.in_ok-sync.ensures.made h)
