-- One entry more.
use Rattle.std.proofs.Common.{◌≡◌, ℕ, List, [], ◌∷◌, ◌++◌, length, refl, arith}
use Rattle.sv_wire.specs.declared.message.Request.{Request}
use Rattle.sv_journal.specs.declared.entry.Entry.{Entry}
use Rattle.sv_journal.specs.declared.entry.Logged.{Logged}
use Rattle.sv_journal.specs.History.{entry_of}
use Rattle.sv_living.specs.WorldPast.{entries_of}

pub entries-more : (asked : List (ℕ × Request)) (replied : List (ℕ × Logged)) (a : ℕ × Request) (b : ℕ × Logged) (h : List Entry) → length asked ≡ length replied
    → entries_of (asked ++ a ∷ []) (replied ++ b ∷ []) h ≡ entry_of a.0 a.1 b.1 ∷ entries_of asked replied h
entries-more [] [] a b h same = refl
entries-more [] (y ∷ replied) a b h same = absurd (omega (arith, same))
entries-more (x ∷ asked) [] a b h same = absurd (omega (arith, same))
entries-more (x ∷ asked) (y ∷ replied) a b h same = entries-more asked replied a b (entry_of x.0 x.1 y.1 ∷ h) (omega (arith, same))
