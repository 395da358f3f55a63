-- The session that a client is in, or joins next.
use Rattle.std.proofs.Common.{◌≡◌, ◌+◌, ◌-◌, ◌≤◌, sym, ap, ◌∙◌, arith}
use Rattle.sv_client.specs.Traces.{joins}
use Rattle.sv_client.proofs.Shifts.{up_joins}
use Rattle.sv_replay.specs.Machine.{player_of}
use Rattle.sv_replay.proofs.Events.{up_must}
use Rattle.sv_replay.proofs.Places.{place_between, place_within, few_places}
use Rattle.sv_replay.proofs.playing.Playing.session.Goals as goal

pub overflow_add-begun : goal.overflow_add-begun
overflow_add-begun c =
    let p = c.args.self.now in
    let count : joins (player_of p).events ≡ c.sessions.result = up_joins p.first p.client.events ∙ sym c.sessions.ensures in
    let few : p.first + joins (player_of p).events ≤ 64 = few_places (player_of p) c.requires.fit in
    omega arith

pub overflow_sub-result : goal.overflow_sub-result
overflow_sub-result c =
    let p = c.args.self.now in
    let count : joins (player_of p).events ≡ c.sessions.result = up_joins p.first p.client.events ∙ sym c.sessions.ensures in
    let some : 1 ≤ joins (player_of p).events = c.requires.fit.begun (up_must p.first p.client.events ∙ sym c.requires.flags.between ∙ c.if-self.false) in
    omega arith

pub returns-then-self : goal.returns-then-self
returns-then-self c =
    let p = c.args.self.now in
    let count : joins (player_of p).events ≡ c.sessions.result = up_joins p.first p.client.events ∙ sym c.sessions.ensures in
    ap (λ n. p.first + n) (sym count) ∙ sym (place_between (player_of p) (up_must p.first p.client.events ∙ sym c.requires.flags.between ∙ c.if-self.true))

pub returns-else-self : goal.returns-else-self
returns-else-self c =
    let p = c.args.self.now in
    let count : joins (player_of p).events ≡ c.sessions.result = up_joins p.first p.client.events ∙ sym c.sessions.ensures in
    ap (λ n. (p.first + n) - 1) (sym count) ∙ sym (place_within (player_of p) (up_must p.first p.client.events ∙ sym c.requires.flags.between ∙ c.if-self.false))
