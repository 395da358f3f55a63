-- The new Submits that were dropped, counted from the first entry on.
use Rattle.std.proofs.Common.{◌≡◌, ◌+◌, Bool, true, false, List, [], ◌∷◌, ◌++◌, reverse, refl, sym, ap, ◌∙◌, arith}
use Rattle.std.proofs.lemmas.List.{append-nil}
use Rattle.sv_journal.specs.declared.entry.Entry.{Entry}
use Rattle.sv_report.specs.Drops.{drops, dropped_count, drops_after}
use Rattle.sv_report.proofs.Lines.{first_back}

dropped_onto : (es h : List Entry) → dropped_count (reverse es ++ h) ≡ dropped_count h + drops_after h es
dropped_onto [] h = let plain : dropped_count h + 0 ≡ dropped_count h = omega arith in sym plain
dropped_onto (e ∷ es) h = ap dropped_count (first_back e es h) ∙ dropped_onto es (e ∷ h) ∙ go (drops h e) refl
  where
    go : (b : Bool) → drops h e ≡ b → dropped_count (e ∷ h) + drops_after (e ∷ h) es ≡ dropped_count h + drops_after h (e ∷ es)
    go true q = rw q (omega arith)
    go false q = rw q (omega arith)

pub dropped_is : (es : List Entry) → drops_after [] es ≡ dropped_count (reverse es)
dropped_is es =
    let plain : 0 + drops_after [] es ≡ drops_after [] es = omega arith in
    sym (ap dropped_count (sym (append-nil (reverse es))) ∙ dropped_onto es [] ∙ plain)
