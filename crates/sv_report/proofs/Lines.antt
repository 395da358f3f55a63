-- Texts that grow line by line.
use Rattle.std.proofs.Common.{◌≡◌, ℕ, List, [], ◌∷◌, ◌++◌, reverse, append_assoc, sym, ap, ◌∙◌}
use Rattle.std.proofs.lemmas.List.{append-nil, reverse-append}
use Rattle.sv_journal.specs.declared.entry.Entry.{Entry}
use Rattle.sv_client.specs.declared.trace.Event.{Event}
use Rattle.sv_report.specs.Report.{event_lines, event_text}
use Rattle.sv_report.specs.Again.{lines_after}

-- The text so far and the lines left are the whole, also after one more line.
pub one_more : (out new line left rest whole : List ℕ) → new ≡ out ++ line → left ≡ line ++ rest → out ++ left ≡ whole → new ++ rest ≡ whole
one_more out new line left rest whole e f w = ap (λ z. z ++ rest) e ∙ append_assoc out line rest ∙ sym (ap (λ z. out ++ z) f) ∙ w

-- The first element of a list is the last one of its reverse.
pub first_back : {X : Type 0} (x : X) (xs ys : List X) → reverse (x ∷ xs) ++ ys ≡ reverse xs ++ x ∷ ys
first_back x xs ys = ap (λ zs. zs ++ ys) (reverse-append (x ∷ []) xs) ∙ append_assoc (reverse xs) (x ∷ []) ys

regroup : (a x n rest : List ℕ) → ((a ++ x) ++ n) ++ rest ≡ a ++ ((x ++ n) ++ rest)
regroup a x n rest = simp append_assoc

lines_onto : (entries : List Entry) (es t : List Event) → event_lines entries (reverse es ++ t) ≡ event_lines entries t ++ lines_after entries t es
lines_onto entries [] t = sym (append-nil (event_lines entries t))
lines_onto entries (e ∷ es) t = ap (event_lines entries) (first_back e es t) ∙ lines_onto entries es (e ∷ t)
    ∙ regroup (event_lines entries t) (event_text entries t e) (10 ∷ []) (lines_after entries (e ∷ t) es)

-- The lines of a trace, told from its first event on.
pub lines_are : (entries : List Entry) (es : List Event) → event_lines entries (reverse es) ≡ lines_after entries [] es
lines_are entries es = ap (event_lines entries) (sym (append-nil (reverse es))) ∙ lines_onto entries es []
