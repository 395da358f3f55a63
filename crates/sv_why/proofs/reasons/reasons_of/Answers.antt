-- What is proved by hand of `reasons_of`.
use Rattle.std.proofs.Common.{◌≡◌, ℕ, Bool, List, [], ◌++◌, reverse, ap, ap₂, sym, ◌∙◌, arith, append-nil}
use Rattle.sv_journal.specs.History.{actions_of}
use Rattle.sv_why.specs.Walks.{is_wanted, walk}
use Rattle.sv_why.proofs.Wanting.{walk-first}
use Rattle.sv_why.proofs.reasons.reasons_of.Goals as goal

pub loop-at-init : goal.loop-at-init
loop-at-init c =
    let A = actions_of (reverse c.args.journal.now.entries) in
    record {
      high = omega arith;
      count = c.in_ok-wanted.ensures.count;
      walked =
          ap (λ (found : List ℕ). walk A c.args.pos (is_wanted c.in_ok-wanted.wanted) ++ reverse found) c.new-found.ensures.items
          ∙ append-nil (walk A c.args.pos (is_wanted c.in_ok-wanted.wanted))
          ∙ walk-first A c.args.object.0 c.args.pos (is_wanted c.in_ok-wanted.wanted) c.in_ok-wanted.ensures.marked;
    }

pub loop-at-preserved : goal.loop-at-preserved
loop-at-preserved c = record {
  high = (let high = c.loop-at.invariant.high in omega arith);
  count = c.look_at.ensures.count;
  walked = c.in_ok-look_at.ensures.walked ∙ c.loop-at.invariant.walked;
}

pub returns : goal.returns
returns c =
    let A = actions_of (reverse c.args.journal.now.entries) in
    let done = c.loop-at-test.false in
    let here : c.loop-at.at ≡ 0 = omega arith in
    c.from_vec.ensures ∙ c.reverse.ensures.items
    ∙ sym (ap (λ (n : ℕ). walk A n (is_wanted c.loop-at.wanted) ++ reverse c.loop-at.found.items) here)
    ∙ c.loop-at.invariant.walked
