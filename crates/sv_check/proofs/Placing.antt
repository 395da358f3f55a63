-- The next entry of a session, sought from a place on.
use Rattle.std.proofs.Common.{◌≡◌, ℕ, zero, suc, ◌+◌, ◌<◌, ◌≤◌, true, false, eqb, List, [], ◌∷◌, length, drop, reverse, get_or, Option, Some, None, refl, sym, ap, subst, ◌∙◌, arith}
use Rattle.std.specs.Prelude.{IfSome}
use Rattle.std.proofs.lemmas.Bool.{eqb-true}
use Rattle.sv_journal.specs.declared.entry.Entry.{Entry}
use Rattle.sv_journal.specs.History.{accepted}
use Rattle.sv_journal.specs.Sessions.{is_end}
use Rattle.law_system.specs.Fits.{replies_in}
use Rattle.sv_replay.proofs.Machines.{read_at}
use Rattle.sv_report.specs.Report.{entry_number}
use Rattle.sv_report.specs.Again.{behind_next}
use Rattle.sv_report.proofs.Standing.{left_more}
use Rattle.sv_check.specs.Acting.{replies_before, next_entry, IsNextPlace, NoNextPlace}
use Rattle.sv_check.proofs.Settling.{turned_more}

-- No entry of the session stands from one place on up to another.
pub record IsSought (entries : List Entry) (from s place : ℕ) : Type 0 where
  pub between : replies_before entries place s ≡ replies_before entries from s
  pub next : next_entry (drop place entries) s ≡ next_entry (drop from entries) s
  pub number : entry_number (drop place entries) s 0 (place + 1) ≡ entry_number (drop from entries) s 0 (from + 1)
  pub behind : behind_next (drop place entries) s place ≡ behind_next (drop from entries) s from

pub sought_first : (entries : List Entry) (from s : ℕ) → IsSought entries from s from
sought_first entries from s = record { between = refl; next = refl; number = refl; behind = refl }

-- An entry of another session gives none of its replies.
same_before : (entries : List Entry) (i s : ℕ) (e : Entry) → i < length entries → e ≡ get_or entries i e → eqb e.session s ≡ false →
    replies_before entries (i + 1) s ≡ replies_before entries i s
same_before entries i s e l is other =
    ap (λ (h : List Entry). replies_in (accepted (reverse entries)) h s) (turned_more entries i e l is) ∙ rw other refl

module _ (entries : List Entry) (from s i : ℕ) (e : Entry) (l : i < length entries) (is : e ≡ get_or entries i e) (g : IsSought entries from s i) where
  here : drop i entries ≡ e ∷ drop (i + 1) entries
  here = left_more entries i e l is

  pub sought_on : eqb e.session s ≡ false → IsSought entries from s (i + 1)
  sought_on other = record {
    between = same_before entries i s e l is other ∙ g.between;
    next = sym (ap (λ (es : List Entry). next_entry es s) here ∙ rw other refl) ∙ g.next;
    number = sym (ap (λ (es : List Entry). entry_number es s 0 (i + 1)) here ∙ rw other refl) ∙ g.number;
    behind = sym (ap (λ (es : List Entry). behind_next es s i) here ∙ rw other refl) ∙ g.behind;
  }

  next_is : eqb e.session s ≡ true → next_entry (drop from entries) s ≡ Some e
  next_is same = sym g.next ∙ ap (λ (es : List Entry). next_entry es s) here ∙ rw same refl

  pub sought_place : eqb e.session s ≡ true → is_end e.request ≡ false → IsNextPlace entries from s i
  sought_place same goes_on = record {
    entry = e;
    found = read_at entries i e l is;
    session = eqb-true e.session s same;
    asks = goes_on;
    between = g.between;
    number = sym g.number ∙ ap (λ (es : List Entry). entry_number es s 0 (i + 1)) here ∙ rw same refl;
    behind = sym g.behind ∙ ap (λ (es : List Entry). behind_next es s i) here ∙ rw same refl;
  }

  pub sought_end : eqb e.session s ≡ true → is_end e.request ≡ true → NoNextPlace entries from s
  sought_end same end = subst (λ (o : Option Entry). IfSome o (λ (d : Entry). is_end d.request ≡ true)) (sym (next_is same)) end

dropped_all : {X : Type 0} (xs : List X) (i : ℕ) → length xs ≤ i → drop i xs ≡ []
dropped_all [] zero l = refl
dropped_all [] (suc i) l = refl
dropped_all (x ∷ xs) zero l = absurd (omega (arith, l))
dropped_all (x ∷ xs) (suc i) l = dropped_all xs i (omega (arith, l))

pub sought_all : (entries : List Entry) (from s i : ℕ) → length entries ≤ i → IsSought entries from s i → NoNextPlace entries from s
sought_all entries from s i l g =
    let none : next_entry (drop from entries) s ≡ None = sym g.next ∙ ap (λ (es : List Entry). next_entry es s) (dropped_all entries i l) in
    subst (λ (o : Option Entry). IfSome o (λ (d : Entry). is_end d.request ≡ true)) (sym none) tt
