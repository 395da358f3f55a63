-- What the check leaves to prove of `place_of`.
use Rattle.std.proofs.Common.{◌≡◌, ◌<◌, ◌+◌, drop, get_or, insert, length, subst, arith}
use Rattle.std.proofs.lemmas.List.{drop_more, take_more}
use Rattle.sv_witness.specs.Disputes.{with_dispute}
use Rattle.sv_witness.proofs.Inserted.{enters-next, enters-none, enters-here, enters-last}
use Rattle.sv_witness.proofs.disputes.place_of.Goals as goal

pub loop-place-preserved : goal.loop-place-preserved
loop-place-preserved c =
    let ds = c.args.disputes.now in
    let d = c.args.dispute.now in
    let n = c.loop-place.place in
    let low : n < length ds = omega arith in
    let below : (get_or ds n d).pos < d.pos = omega (arith, c.pos_at-pos.ensures d) in
    enters-next d (get_or ds n d) ds n low (drop_more ds n d low) (take_more ds n d low) below c.loop-place.invariant

pub returns-then-pos-dispute : goal.returns-then-pos-dispute
returns-then-pos-dispute c =
    let ds = c.args.disputes.now in
    let d = c.args.dispute.now in
    let n = c.loop-place.place in
    let low : n < length ds = omega arith in
    let at : (get_or ds n d).pos ≡ d.pos = omega (arith, c.pos_at-pos.ensures d) in
    enters-none d (get_or ds n d) ds (drop (n + 1) ds) n (drop_more ds n d low) at c.loop-place.invariant

pub returns-then-pos-dispute-2 : goal.returns-then-pos-dispute-2
returns-then-pos-dispute-2 c =
    let ds = c.args.disputes.now in
    let d = c.args.dispute.now in
    let n = c.loop-place.place in
    let low : n < length ds = omega arith in
    let above : d.pos < (get_or ds n d).pos = omega (arith, c.pos_at-pos.ensures d) in
    (omega arith, enters-here d (get_or ds n d) ds (drop (n + 1) ds) n (drop_more ds n d low) above c.loop-place.invariant)

pub returns : goal.returns
returns c =
    let ds = c.args.disputes.now in
    let d = c.args.dispute.now in
    let n = c.loop-place.place in
    let done : n ≡ length ds = omega arith in
    (omega arith, subst (λ m. insert ds m d ≡ with_dispute d ds) done (enters-last d ds n (omega arith) c.loop-place.invariant))
