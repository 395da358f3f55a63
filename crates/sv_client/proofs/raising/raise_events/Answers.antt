-- What is proved by hand of `raise_events`.
use Rattle.std.proofs.Common.{ℕ, ◌++◌, List, map, take, drop, get_or, slice_set, sym, ap, ◌∙◌, add-one, arith}
use Rattle.sv_client.specs.declared.trace.Event.{Event}
use Rattle.sv_client.specs.Seen.{raised}
use Rattle.sv_client.proofs.Raised.{replaced, at_replaced}
use Rattle.sv_client.proofs.raising.raise_events.Goals as goal

pub loop-place-preserved : goal.loop-place-preserved
loop-place-preserved c =
    let f = raised c.args.first in
    let xs = c.args.events.now in
    let k = c.loop-place.place in
    let e = c.index-events-place.result in
    let so_far = map f (take k xs) ++ drop k xs in
    let value = c.raise_event.ensures ∙ ap f (ap (λ (ys : List Event). get_or ys k e) c.loop-place.invariant ∙ at_replaced f k xs e (omega arith)) in
    ap (λ (ys : List Event). slice_set ys k c.raise_event.new.event) c.loop-place.invariant ∙ ap (slice_set so_far k) value ∙ replaced f k xs e (omega arith)
    ∙ ap (λ (n : ℕ). map f (take n xs) ++ drop n xs) (sym (add-one k))
