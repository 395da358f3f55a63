-- Where a client stands that does a trace again.
use Rattle.std.proofs.Common.{◌≡◌, ℕ, ◌+◌, ◌<◌, List, [], ◌∷◌, ◌++◌, length, get_or, drop, reverse, append_assoc, sym, ap, subst, ◌∙◌}
use Rattle.std.proofs.lemmas.List.{append-nil, at_drop_more}
use Rattle.sv_journal.specs.declared.entry.Entry.{Entry}
use Rattle.sv_client.specs.declared.trace.Event.{Event}
use Rattle.sv_client.specs.Taking.{Identity}
use Rattle.sv_client.specs.Proper.{AreProper, MayFollow}
use Rattle.sv_report.specs.Report.{event_text}
use Rattle.sv_report.specs.Again.{MayComeAfter, IsPlace, again, all_raised, place_after, number_from, text_of, lines_after}
use Rattle.sv_report.proofs.Lines.{first_back, one_more}
use Rattle.sv_report.proofs.Doing.{same_event, same_text}
use Rattle.sv_report.proofs.Seeking.{next_place, first_place}

-- The client did the events t, the events es are left, and the entries of its session are sought from the place on.
pub record Stands (entries : List Entry) (first : ℕ) (who : Identity) (t : List Event) (place : ℕ) (es : List Event) : Type 0 where
  pub before : AreProper who first t
  pub after : MayComeAfter who first t es
  pub where_next : IsPlace entries t place

come_after : (who : Identity) (first : ℕ) (es t : List Event) → AreProper who first (reverse es ++ t) → AreProper who first t × MayComeAfter who first t es
come_after who first [] t p = (p, tt)
come_after who first (e ∷ es) t p =
    let h = come_after who first es (e ∷ t) (subst (AreProper who first) (first_back e es t) p) in (h.0.1, (h.0.0, h.1))

pub begins : (entries : List Entry) (first : ℕ) (who : Identity) (es : List Event) → AreProper who first (reverse es) → Stands entries first who [] 0 es
begins entries first who es p =
    let h = come_after who first es [] (subst (AreProper who first) (sym (append-nil (reverse es))) p) in
    record { before = tt; after = h.1; where_next = first_place entries }

-- The next one of the events that are left.
pub left_more : {X : Type 0} (xs : List X) (i : ℕ) (x : X) → i < length xs → x ≡ get_or xs i x → drop i xs ≡ x ∷ drop (i + 1) xs
left_more xs i x l e = at_drop_more (λ ys. ys) xs i x l ∙ sym (ap (λ y. y ∷ drop (i + 1) xs) e)

pub stands_at : (entries : List Entry) (first : ℕ) (who : Identity) (t es : List Event) (place i : ℕ) (e : Event) → i < length es → e ≡ get_or es i e
    → Stands entries first who t place (drop i es) → Stands entries first who t place (e ∷ drop (i + 1) es)
stands_at entries first who t es place i e l is h = subst (λ xs. Stands entries first who t place xs) (left_more es i e l is) h

-- After the next event.
pub done_on : (first : ℕ) (who : Identity) (t u : List Event) (e : Event) → MayFollow who first (all_raised first t) e → u ≡ again t e ∷ t → all_raised first u ≡ e ∷ all_raised first t
done_on first who t u e m is = ap (all_raised first) is ∙ ap (λ f. f ∷ all_raised first t) (same_event first who t e m)

pub goes_on : (entries : List Entry) (first : ℕ) (who : Identity) (t u es : List Event) (place : ℕ) (e : Event) → Stands entries first who (all_raised first t) place (e ∷ es)
    → u ≡ again t e ∷ t → Stands entries first who (all_raised first u) (place_after entries place e) es
goes_on entries first who t u es place e h is = subst (λ xs. Stands entries first who xs (place_after entries place e) es)
    (sym (done_on first who t u e h.after.0 is))
    (record {
      before = (h.after.0, h.before);
      after = h.after.1;
      where_next = next_place who first entries (all_raised first t) e place h.before h.after.0 h.where_next;
    })

-- Its line is that of the trace.
line_is : (out new text line : List ℕ) → text ≡ line → new ≡ (out ++ text) ++ 10 ∷ [] → new ≡ out ++ (line ++ 10 ∷ [])
line_is out new text line e n = n ∙ append_assoc out text (10 ∷ []) ∙ ap (λ z. out ++ (z ++ 10 ∷ [])) e

pub told_on : (entries : List Entry) (first : ℕ) (who : Identity) (t u es : List Event) (place number i : ℕ) (e : Event) (out new whole : List ℕ)
    → i < length es → e ≡ get_or es i e → Stands entries first who (all_raised first t) place (drop i es)
    → number ≡ number_from entries place e → u ≡ again t e ∷ t → new ≡ (out ++ text_of number t e) ++ 10 ∷ []
    → out ++ lines_after entries (all_raised first t) (drop i es) ≡ whole
    → new ++ lines_after entries (all_raised first u) (drop (i + 1) es) ≡ whole
told_on entries first who t u es place number i e out new whole l is h k d n w =
    let here = stands_at entries first who (all_raised first t) es place i e l is h in
    let line = event_text entries (all_raised first t) e ++ 10 ∷ [] in
    let text = ap (λ (m : ℕ). text_of m t e) k ∙ same_text first entries place who t e here.after.0 here.where_next in
    ap (λ (xs : List Event). new ++ lines_after entries xs (drop (i + 1) es)) (done_on first who t u e here.after.0 d)
    ∙ one_more out new line (lines_after entries (all_raised first t) (drop i es)) (lines_after entries (e ∷ all_raised first t) (drop (i + 1) es)) whole
    (line_is out new (text_of number t e) (event_text entries (all_raised first t) e) text n)
    (ap (λ (xs : List Event). lines_after entries (all_raised first t) xs) (left_more es i e l is)) w
