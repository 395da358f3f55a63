-- What is proved by hand of `play_client`.
use Rattle.std.proofs.Common.{◌≡◌, ◌++◌, Bool, length, take, drop, sym, ap, ◌∙◌}
use Rattle.sv_client.proofs.Backwards.{written_back}
use Rattle.sv_player.specs.Played.{lines_told}
use Rattle.sv_player.proofs.Reported.{played_over, closed_over, trace_is, followed, ends_done, lines_are, cause_is, exact_is}
use Rattle.sv_player.proofs.play.play_client.Goals as goal

pub returns : goal.returns
returns g c =
    let told = g.E.End.told in
    let faults = g.E.End.faults in
    let calm = g.E.End.calm in
    let n = c.args.role.ends.len in
    let items = c.args.role.ends.items in
    let mid = c.start-cause.new.ends in
    let new = c.close_all.new.ends in
    let size : n ≡ length items = sym c.deref_mut.ensures.len ∙ ap length c.deref_mut.ensures.value in
    let long : length mid ≡ length items = c.start-cause.ensures.ends.count ∙ ap length c.deref_mut.ensures.value in
    let first_back : take n (mid ++ drop (length mid) items) ≡ mid = written_back n mid items long size in
    let first_is : c.deref_mut-2.result.now ≡ mid = c.deref_mut-2.ensures.value ∙ first_back in
    let over = take n (mid ++ drop (length mid) items) in
    let last_back : take n (new ++ drop (length new) over) ≡ new =
    written_back n new over (c.close_all.ensures.count ∙ ap length c.deref_mut-2.ensures.value) (size ∙ sym long ∙ ap length (sym first_back)) in
    let played = played_over told faults calm _ _ _ _ _ _ c.deref_mut.ensures.value c.start-cause.ensures in
    let closed = closed_over told faults calm _ _ _ _ first_is (sym last_back) c.close_all.ensures in
    let trace = c.into_trace.ensures.trace in
    let proper = c.into_trace.ensures.proper in
    record {
      trace = trace_is told faults calm _ _ _ _ _ _ _ played closed trace proper;
      follows = followed told faults calm _ _ _ _ _ _ _ played closed trace proper;
      ends = ends_done told faults calm _ _ _ _ _ _ _ played closed trace proper;
      lines = λ ne. lines_are told faults calm _ _ _ _ _ _ _ played closed trace proper ne ∙ ap (λ (w : Bool). lines_told w c.into_trace.result) c.is_some.ensures;
      cause = cause_is told faults calm _ _ _ _ _ _ _ played closed trace proper;
      exact = exact_is told faults calm _ _ _ _ _ _ _ played closed trace proper;
    }
