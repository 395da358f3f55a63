-- What is proved by hand of `take`.
use Rattle.std.proofs.Common.{◌<◌, ℕ, List, ◌++◌, length, sym, ap, subst, ◌∙◌}
use Rattle.sv_link.specs.Sides.{other, side_of, unread}
use Rattle.sv_exchange.proofs.Messages.{Spells}
use Rattle.sv_exchange.proofs.Lanes.{lane_same, waits_same, taken, none_waits, never_malformed, never_too_long}
use Rattle.sv_exchange.proofs.carrying.take.Goals as goal

pub returns-in-Whole : goal.returns-in-Whole
returns-in-Whole g c =
    let s : Spells g.M.Message.is_message g.M.Message.spelled g.M.Message.read_at = record { back = c.is_read_back.ensures.back; fits = c.is_read_back.ensures.short } in
    let i = c.read_link.new.self in
    let b = side_of c.read_link.new.link (other c.args.side) in
    let lane = lane_same _ _ _ s _ i _ b c.read_link.ensures.same c.read_link.ensures.link.within c.requires.lane in
    let reads = c.in-Whole.ensures.reads in
    let t = taken _ _ _ s i c.next.new.self b reads.payload c.in-Whole.message lane reads.first reads.is c.in-Whole.ensures.takes in
    record {
      lane = t.lane;
      link = c.read_link.ensures.link;
      taken = sym (waits_same _ _ _ s _ i _ b c.read_link.ensures.same) ∙ t.waits;
      message = t.message;
      err = tt;
    }

pub returns-in-NotYet : goal.returns-in-NotYet
returns-in-NotYet g c =
    let s : Spells g.M.Message.is_message g.M.Message.spelled g.M.Message.read_at = record { back = c.is_read_back.ensures.back; fits = c.is_read_back.ensures.short } in
    let i = c.read_link.new.self in
    let j = c.next.new.self in
    let b = side_of c.read_link.new.link (other c.args.side) in
    let lane = lane_same _ _ _ s _ i _ b c.read_link.ensures.same c.read_link.ensures.link.within c.requires.lane in
    let same = ap (λ (l : List ℕ). l ++ unread b) c.in-NotYet.ensures.takes ∙ c.read_link.ensures.same in
    let short = subst (λ (l : List ℕ). length l < 65540) c.in-NotYet.ensures.takes c.in-NotYet.ensures.room in
    let none = none_waits _ _ _ s i b lane c.in-NotYet.ensures.reads.0 short c.read_link.ensures.filled in
    record {
      lane = lane_same _ _ _ s _ j _ b same c.read_link.ensures.link.within c.requires.lane;
      link = c.read_link.ensures.link;
      taken = (sym (waits_same _ _ _ s _ i _ b c.read_link.ensures.same) ∙ none, waits_same _ _ _ s _ j _ b same);
      message = tt;
      err = tt;
    }

pub returns-in-Memory : goal.returns-in-Memory
returns-in-Memory g c =
    let s : Spells g.M.Message.is_message g.M.Message.spelled g.M.Message.read_at = record { back = c.is_read_back.ensures.back; fits = c.is_read_back.ensures.short } in
    let j = c.next.new.self in
    let b = side_of c.read_link.new.link (other c.args.side) in
    let same = ap (λ (l : List ℕ). l ++ unread b) c.in-Memory.ensures.takes ∙ c.read_link.ensures.same in
    record {
      lane = lane_same _ _ _ s _ j _ b same c.read_link.ensures.link.within c.requires.lane;
      link = c.read_link.ensures.link;
      taken = tt;
      message = tt;
      err = waits_same _ _ _ s _ j _ b same;
    }

pub unreachable-requires : goal.unreachable-requires
unreachable-requires g c =
    let s : Spells g.M.Message.is_message g.M.Message.spelled g.M.Message.read_at = record { back = c.is_read_back.ensures.back; fits = c.is_read_back.ensures.short } in
    let i = c.read_link.new.self in
    let b = side_of c.read_link.new.link (other c.args.side) in
    let lane = lane_same _ _ _ s _ i _ b c.read_link.ensures.same c.read_link.ensures.link.within c.requires.lane in
    let reads = c.in-Malformed.ensures.reads in
    never_malformed _ _ _ s i b reads.payload _ lane reads.first reads.is

pub unreachable-requires-in-TooLong : goal.unreachable-requires-in-TooLong
unreachable-requires-in-TooLong g c =
    let s : Spells g.M.Message.is_message g.M.Message.spelled g.M.Message.read_at = record { back = c.is_read_back.ensures.back; fits = c.is_read_back.ensures.short } in
    let i = c.read_link.new.self in
    let b = side_of c.read_link.new.link (other c.args.side) in
    let lane = lane_same _ _ _ s _ i _ b c.read_link.ensures.same c.read_link.ensures.link.within c.requires.lane in
    never_too_long _ _ _ s i b _ lane c.in-TooLong.ensures.reads
