-- What is proved by hand of `Player::play`.
use Rattle.std.proofs.Common.{ℕ, get_or, None, Some, sym, ap, subst, ◌∙◌, arith}
use Rattle.std.proofs.lemmas.Option.{slice_get-get_or}
use Rattle.sv_client.specs.Taking.{Identity}
use Rattle.sv_player.specs.Ends.{IsPlayedNext}
use Rattle.sv_player.proofs.Stepping.{begins, plays_on, has_played, fresh_next, not_over, still_fits}
use Rattle.sv_player.proofs.playing.Player.play.Goals as goal

pub loop-place-init : goal.loop-place-init
loop-place-init g c = begins g.E.End.told g.E.End.faults g.E.End.calm c.args.self.now c.args.ends.now c.requires.going c.requires.new c.requires.fresh

pub play_next-requires : goal.play_next-requires
play_next-requires g c =
    let inv = c.loop-place.invariant in
    let now = c.loop-place.ends in
    let k = c.loop-place.place in
    let x = c.index-ends-place.result in
    record {
      watch = still_fits (λ w. w.now.shape) c.args.watch c.requires.watch (ap (λ (w : Identity). w.shape) (sym inv.who));
      watched = inv.watched ∙ c.requires.watched;
      going = inv.going;
      needed = inv.needed;
      few = omega (arith, inv.joined, c.requires.few);
      fresh = fresh_next g.E.End.told g.E.End.faults g.E.End.calm c.args.self.now c.loop-place.self c.args.ends.now now k (get_or now k x) inv (slice_get-get_or now k x (omega arith)) c.requires.fresh;
    }

pub loop-place-preserved : goal.loop-place-preserved
loop-place-preserved g c =
    let inv = c.loop-place.invariant in
    let now = c.loop-place.ends in
    let k = c.loop-place.place in
    let x = c.index-ends-place.result in
    let p = c.loop-place.self in
    let q = c.play_next.new.self in
    let y = c.play_next.new.end in
    let next = subst (λ (n : ℕ). IsPlayedNext None n p q (g.E.End.told y)) inv.joined c.in_default.ensures.next in
    plays_on g.E.End.told g.E.End.faults g.E.End.calm c.args.self.now p q c.args.ends.now now k (get_or now k x) y inv (slice_get-get_or now k x (omega arith)) c.play_next.ensures.end c.play_next.ensures.calm
    next.0 c.in_default.ensures.cause

pub returns-in-Some : goal.returns-in-Some
returns-in-Some g c =
    let inv = c.loop-place.invariant in
    let now = c.loop-place.ends in
    let k = c.loop-place.place in
    let x = c.index-ends-place.result in
    let p = c.loop-place.self in
    let q = c.play_next.new.self in
    let y = c.play_next.new.end in
    let next = subst (λ (n : ℕ). IsPlayedNext (Some c.in-Some.cause) n p q (g.E.End.told y)) inv.joined c.in-Some.ensures.next in
    has_played g.E.End.told g.E.End.faults g.E.End.calm c.args.self.now p q c.args.ends.now now k (get_or now k x) y inv (slice_get-get_or now k x (omega arith)) c.play_next.ensures.end c.play_next.ensures.calm
    c.in-Some.cause next c.in-Some.ensures.cause

pub unreachable-requires : goal.unreachable-requires
unreachable-requires g c =
    let more = not_over g.E.End.told g.E.End.faults g.E.End.calm c.args.self.now c.loop-place.self c.args.ends.now c.loop-place.ends c.loop-place.place c.loop-place.invariant c.requires.count in
    absurd (omega arith)
