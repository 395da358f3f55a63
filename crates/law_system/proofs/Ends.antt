-- How many Ends a session had.
use Rattle.std.proofs.Common.{◌≡◌, ℕ, suc, true, false, ◌&&◌, ◌==◌, inl, inr, List, [], ◌∷◌, refl, sym, ap, ◌∙◌, eqb-true, true≢false}
use Rattle.std.proofs.lemmas.Bool.{cond-true, cond-false, cases_Bool, and_parts, or_cases, or_parts}
use Rattle.sv_journal.specs.declared.entry.Entry.{Entry}
use Rattle.sv_journal.specs.Sessions.{is_end, is_ended}
use Rattle.law_system.specs.Fits.{IsEndLast}
use Rattle.law_system.specs.Records.{ends_in}

pub none-ended : (h : List Entry) (s : ℕ) → is_ended h s ≡ false → ends_in h s ≡ 0
none-ended [] s e = refl
none-ended (d ∷ h) s e =
    let now = cond-false (d.session == s && is_end d.request) (suc (ends_in h s)) (ends_in h s) (or_parts (d.session == s && is_end d.request) (is_ended h s) e).0 in
    now ∙ none-ended h s (or_parts (d.session == s && is_end d.request) (is_ended h s) e).1

-- A session that had its End had one.
pub one-end : (h : List Entry) (s : ℕ) → IsEndLast h s → is_ended h s ≡ true → ends_in h s ≡ 1
one-end [] s l e = cc
one-end (d ∷ h) s l e =
    let later = one-end h s l.1 in
    elim (cases_Bool (d.session == s && is_end d.request)) [
      | inl x ↦
          (let p = and_parts (d.session == s) (is_end d.request) x in
          cond-true (d.session == s && is_end d.request) (suc (ends_in h s)) (ends_in h s) x ∙ ap suc (none-ended h s (l.0 (eqb-true d.session s p.0))))
      | inr x ↦
          cond-false (d.session == s && is_end d.request) (suc (ends_in h s)) (ends_in h s) x
          ∙ later (elim (or_cases (d.session == s && is_end d.request) (is_ended h s) e) [ inl y ↦ absurd (true≢false (sym y ∙ x)) | inr y ↦ y ])
    ]
