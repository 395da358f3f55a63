-- What the walk found so far, and what it will find from here down, are the reasons.
use Rattle.std.proofs.Common.{◌≡◌, ◌≤◌, ◌++◌, length, reverse}
use Rattle.sv_journal.specs.History.{actions_of}
use Rattle.sv_why.specs.Reasons.{reasons_of}
use Rattle.sv_why.specs.Walks.{is_wanted, walk}
use Rattle.sv_why.proofs.reasons.reasons_of.Given as goal

abbrev pub invariant-loop-at : goal.invariant-loop-at
invariant-loop-at l = record {
  high : l.at ≤ l.fn.pos;
  count : length l.wanted ≡ 65536;
  walked : walk (actions_of (reverse l.journal.entries)) l.at (is_wanted l.wanted) ++ reverse l.found.items
      ≡ reasons_of (actions_of (reverse l.journal.entries)) l.fn.object.0 l.fn.pos;
}

abbrev pub decreases-loop-at : goal.decreases-loop-at
decreases-loop-at l = l.at
