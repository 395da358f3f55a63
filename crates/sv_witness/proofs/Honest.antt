-- Each report that counts is of a noted Done of a session that was joined as the report's client.
use Rattle.std.proofs.Common.{◌≡◌, ℕ, Bool, true, false, ◌&&◌, ◌⊎◌, inl, inr, List, [], ◌∷◌, ℤ, Option, Some, None, refl, sym, ap, subst, nat_lt}
use Rattle.std.specs.Prelude.{if◌then◌else◌}
use Rattle.std.specs.List.{list_any}
use Rattle.std.proofs.lemmas.Bool.{ltb-true}
use Rattle.std.proofs.lemmas.Option.{none-some}
use Rattle.sv_journal.specs.declared.entry.Entry.{Entry}
use Rattle.sv_journal.specs.History.{is_noted, client_of, reports, commit_of}
use Rattle.law_system.proofs.Histories.{IsEarlier, same, after}
use Rattle.sv_witness.specs.declared.report.Report.{Report}
use Rattle.sv_witness.specs.Reports.{is_by, with_first_report, counted_in, reports_of, agreed_history}
use Rattle.sv_witness.specs.Agreement.{IsAmong, here, there}
use Rattle.sv_witness.specs.Honesty.{IsEntryOf, last, earlier, IsReported}

abbrev Values : Type 0
Values = Option (List (List ℤ))

pub among-cases : (r x : Report) (rs all : List Report) → IsAmong r all → all ≡ x ∷ rs → (r ≡ x) ⊎ IsAmong r rs
among-cases r x rs whole (here {rs = ys}) is = inl (let e : r ≡ x = cc in e)
among-cases r x rs whole (there {x = y} {rs = ys} m) is = inr (let e : ys ≡ rs = cc in subst (IsAmong r) e m)

among-none : (r : Report) (all : List Report) → IsAmong r all → all ≡ [] → ⊥
among-none r whole (here {rs = ys}) is = cc
among-none r whole (there {x = y} {rs = ys} m) is = cc

report-is : (client : Option ℕ) (v : Values) (rs : List Report) (r : Report) → IsAmong r (with_first_report client v rs) →
    IsAmong r rs ⊎ ((client ≡ Some r.client.0) × (v ≡ Some r.values))
report-is None v rs r m = inl m
report-is (Some k) None rs r m = inl m
report-is (Some k) (Some vs) rs r m = go (list_any (is_by k) rs) m
  where
    go : (b : Bool) → IsAmong r (if b then rs else record { client = record { 0 = k }; values = vs } ∷ rs) →
        IsAmong r rs ⊎ ((Some k ≡ Some r.client.0) × (Some vs ≡ Some r.values))
    go true m = inl m
    go false m = elim (among-cases r (record { client = record { 0 = k }; values = vs }) rs (record { client = record { 0 = k }; values = vs } ∷ rs) m refl) [
      | inl e ↦ inr (ap (λ (q : Report). Some q.client.0) (sym e), ap (λ (q : Report). Some q.values) (sym e))
      | inr old ↦ inl old
    ]

counted-parts : (noted above : Bool) (v : Values) (vs : List (List ℤ)) → (if noted && above then v else None) ≡ Some vs →
    (noted ≡ true) × ((above ≡ true) × (v ≡ Some vs))
counted-parts true true v vs e = (refl, (refl, e))
counted-parts true false v vs e = absurd (none-some vs e)
counted-parts false above v vs e = absurd (none-some vs e)

reported-later : (e : Entry) (h : List Entry) (p : ℕ) (r : Report) → IsReported h p r → IsReported (e ∷ h) p r
reported-later e h p r b = record {
  entry = b.entry;
  before = b.before;
  within = earlier e b.within;
  client = b.client;
  noted = b.noted;
  above = b.above;
  given = b.given;
}

pub report-reported : (h : List Entry) (p : ℕ) (r : Report) → IsAmong r (reports_of h p) → IsReported h p r
report-reported [] p r m = absurd (among-none r [] m refl)
report-reported (e ∷ h) p r m =
    elim (report-is (client_of h e.session) (counted_in (commit_of (agreed_history h)) p e) (reports_of h p) r m) [
      | inl old ↦ reported-later e h p r (report-reported h p r old)
      | inr new ↦
          (let parts = counted-parts (is_noted e.reply) (nat_lt (commit_of (agreed_history h)) p) (reports p e.request) r.values new.1 in
          record {
            entry = e;
            before = h;
            within = last;
            client = new.0;
            noted = parts.0;
            above = ltb-true (commit_of (agreed_history h)) p parts.1.0;
            given = parts.1.1;
          })
    ]

-- In the words of law_system: the entry with those before it is an earlier part of the history.
pub entry-earlier : (e : Entry) (before h : List Entry) → IsEntryOf e before h → IsEarlier (e ∷ before) h
entry-earlier e before whole last = same
entry-earlier e before whole (earlier {h} d b) = after d (entry-earlier e before h b)
