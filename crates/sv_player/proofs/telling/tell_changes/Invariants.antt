-- The loop invariant of `tell_changes`.
use Rattle.std.proofs.Common.{◌≡◌, ◌++◌, take, map}
use Rattle.sv_watch.specs.Told.{change_line}
use Rattle.sv_player.specs.Seen.{changes_since, seen_of}
use Rattle.sv_player.specs.declared.telling.Seen.{Seen}
use Rattle.sv_player.proofs.Mapped.{mapped_to}
use Rattle.sv_player.proofs.telling.tell_changes.Given as goal

abbrev pub invariant-loop-one : goal.invariant-loop-one
invariant-loop-one g l = record {
  seen : l.seen ≡ mapped_to (λ (s : Seen). seen_of l.client.events s.object) l.one-index l.initial.seen;
  told : l.lines.items ≡ l.initial.lines.items ++ map change_line (changes_since l.client l.event (take l.one-index l.initial.seen));
}
